-- The same words on the lists of numbers that a run works on: free on a list of records, and the answers written so far. The functions' contracts
-- speak these; that they say what the walk says is proved (`free_in_is`, `written_is` in proofs/).
use Rattle.std.specs.Prelude.{Bool, true, not, ◌&&◌, List, [], ◌∷◌, ◌*◌, ℤ}
use Rattle.std.proofs.lemmas.List.Edits.{sets}
use Rattle.std.specs.Int.Signed.{lt_z}
use Rattle.theory_intervals.specs.Records.{Rec, rec, between}
use Rattle.grid_coordinates.specs.Line.{lines}
use Rattle.theory_walk.specs.Axis.{Axis, other, on, meets, Extent}
use Rattle.theory_walk.specs.Walk.{Tile}
use Rattle.theory_walk.specs.Request.{answer_numbers, numbers}

-- the record is on one of the area's tracks and overlaps it there; x is the axis of the list's tracks
abbrev pub hit : Axis → Rec ℤ → Extent → Bool
hit x (rec u c z s) a = between lt_z (on x a).start (on x a).end u && meets (lines c z) (on (other x) a)

-- "no cell of the area has a state": no record of the list is in the way
unfoldable pub free_in : Axis → List (Rec ℤ) → Extent → Bool
free_in x [] a = true
free_in x (q ∷ rs) a = not (hit x q a) && free_in x rs a

-- the answer buffer, where each tile's item has written its answer at its own place, newest last
unfoldable pub written : List Tile → List ℤ → List ℤ
written [] old = old
written (t ∷ ts) old = sets (written ts old) (answer_numbers * t.index) (numbers t)
