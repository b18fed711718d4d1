-- The list calls of document 01 that look for free tracks: collision jump and occupied-track jump.
use Rattle.std.specs.Prelude.{Bool, cond, ◌&&◌, List, [], ◌∷◌, ℤ, pos, ◌+ℤ◌, Option, Some, None}
use Rattle.std.specs.Option.{option_or}
use Rattle.std.specs.Int.Signed.{lt_z}
use Rattle.theory_intervals.specs.Records.{Rec, rec}
use Rattle.theory_intervals.specs.OverInt.{span}
use Rattle.theory_intervals.specs.Lists.{on_track}

-- ---- "Collision jump: none if free, else the largest, over the crossed tracks, of the end of the last overlapping record."

-- a record from c to d overlaps the lines a..b
abbrev pub overlaps : ℤ → ℤ → ℤ → ℤ → Bool
overlaps a b c d = lt_z c b && lt_z a d

-- "the end of the last overlapping record", of the records of one track
abbrev pub extent_of : List (Rec ℤ) → ℤ → ℤ → Option ℤ
extent_of [] a b = None
extent_of (rec t c d s ∷ rs) a b = option_or (extent_of rs a b) (cond (overlaps a b c d) (Some d) None)

-- "the largest"
abbrev pub larger : Option ℤ → Option ℤ → Option ℤ
larger None j = j
larger (Some e) None = Some e
larger (Some e) (Some f) = Some (cond (lt_z e f) f e)

-- "over the crossed tracks": from the last to the first
abbrev pub over : (ℤ → Option ℤ → Option ℤ) → List ℤ → Option ℤ
over f [] = None
over f (t ∷ ts) = f t (over f ts)

-- of the area over the tracks t₁..t₂ and the lines a..b
abbrev pub collision_jump : List (Rec ℤ) → ℤ → ℤ → ℤ → ℤ → Option ℤ
collision_jump rs t₁ t₂ a b = over (λ t j. larger (extent_of (on_track t rs) a b) j) (span t₁ t₂)

-- ---- "Occupied-track jump: one past the last non-empty track in a span, or none."

-- one past the track t, if there are records on it
abbrev pub past_track : List (Rec ℤ) → ℤ → Option ℤ
past_track [] t = None
past_track (r ∷ rs) t = Some (t +ℤ pos 1)

abbrev pub occupied_jump : List (Rec ℤ) → ℤ → ℤ → Option ℤ
occupied_jump rs t₁ t₂ = over (λ t j. option_or j (past_track (on_track t rs) t)) (span t₁ t₂)
