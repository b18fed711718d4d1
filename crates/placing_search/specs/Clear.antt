-- What a search looks for, on the one list of records that it is lent.
use Rattle.std.specs.Prelude.{Bool, List, [], ◌∷◌, ℕ, ℤ, ◌≤ℤ◌}
use Rattle.theory_intervals.specs.Records.{Rec, rec}
use Rattle.grid_coordinates.specs.declared.Lines.{Lines}
use Rattle.grid_coordinates.specs.Line.{lines, lowest, highest}
use Rattle.theory_walk.specs.Axis.{col, laid}
use Rattle.theory_walk.specs.OnList.{free_in}

-- no record on one of the tracks overlaps the lines along them. A list does not know which axis its tracks are of: `clear_on` of proofs/ says the same
-- of either
abbrev pub clear : List (Rec ℤ) → Lines → Lines → Bool
clear rs tracks along = free_in col rs (laid col tracks along)

-- from the first line of the limited grid to the last
abbrev pub whole_grid : Lines
whole_grid = lines lowest highest

-- every record lies between the lines g and e
pub data Inside : List (Rec ℤ) → ℤ → ℤ → Type 0 where
  none : {g e : ℤ} → Inside [] g e
  more : {g e t a b : ℤ} {s : ℕ} {rs : List (Rec ℤ)} → g ≤ℤ a → b ≤ℤ e → Inside rs g e → Inside (rec t a b s ∷ rs) g e
