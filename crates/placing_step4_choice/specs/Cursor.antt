-- Step 4's cursor, and what step 4 settles for an item, by the cursor, the counts and the records of one list: no board appears in these words. What
-- one item of step 4 leaves of the lists and the counts is said with a board, as for the other steps, and the cursor beside it.
use Rattle.std.specs.Prelude.{Bool, cond, List, ℕ, ℤ, pos, ◌+ℤ◌}
use Rattle.std.specs.Int.Signed.{lt_z}
use Rattle.theory_signed.specs.Parts.{eq_z}
use Rattle.theory_intervals.specs.Records.{Rec}
use Rattle.grid_coordinates.specs.declared.Lines.{Lines}
use Rattle.grid_track_counts.specs.declared.TrackCounts.{TrackCounts}
use Rattle.grid_track_counts.specs.Counts.{grid_start, grid_end}
use Rattle.theory_walk.specs.Axis.{from}
use Rattle.theory_walk.specs.Search.{first_line, first_pair, places_to, Place, at}
use Rattle.theory_walk.specs.Walk.{overwide}
use Rattle.theory_walk.specs.declared.Placement.{Placement}
use Rattle.theory_walk.specs.declared.Placement.TheVariants.{Fixed, Spanned}
use Rattle.placing_search.specs.Clear.{clear}
use Rattle.placing_search.specs.declared.Pair.{Pair}

-- the program's pair of lines as a place of the walk
abbrev pub place_of : Pair → Place
place_of q = at q.primary q.secondary

-- how many tracks a spanned placement takes
abbrev pub span_of : Placement → ℕ
span_of (Fixed l) = 0
span_of (Spanned n) = n

-- ---- "Fixed primary"

-- "dense starts at the secondary grid start as it stands at that moment; sparse at the cursor's secondary line, plus 1 if the item's primary start is
-- below the cursor's primary line": by the cursor, the secondary counts and the item's primary start
abbrev pub start_on : Bool → Pair → TrackCounts → ℤ → ℤ
start_on dense q c a = cond dense (grid_start c) (cond (lt_z a q.primary) (q.secondary +ℤ pos 1) q.secondary)

-- "First free secondary line upward", over the item's primary lines p
abbrev pub line_on : Bool → Pair → TrackCounts → Lines → ℕ → List (Rec ℤ) → ℤ
line_on dense q c p m rs = first_line (λ y. clear rs p (from y m)) (start_on dense q c p.start)

-- ---- "Neither fixed", by the cursor and the primary counts

-- "on the cursor's secondary line if the cursor's primary line is the current grid start" g, "else one line further"
abbrev pub untested_line : Pair → ℤ → ℤ
untested_line q g = cond (eq_z q.primary g) q.secondary (q.secondary +ℤ pos 1)

-- "First free pair."
abbrev pub found_on : Pair → TrackCounts → ℕ → ℕ → List (Rec ℤ) → Place
found_on q c n m rs = first_pair (places_to (grid_end c) n) (grid_start c) (λ y x. clear rs (from x m) (from y n)) q.primary q.secondary

abbrev pub pair_on : Pair → TrackCounts → ℕ → ℕ → List (Rec ℤ) → Place
pair_on q c n m rs = cond (overwide n c) (at (grid_start c) (untested_line q (grid_start c))) (found_on q c n m rs)
