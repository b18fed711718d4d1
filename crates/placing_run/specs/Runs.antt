-- What a whole run leaves, for a request that has passed the checks: by the walk from an empty board. "clears both lists and places".
use Rattle.std.specs.Prelude.{◌≡◌, Bool, List, [], ℕ, ℤ, pos, length, replicate, Result, Ok, Err}
use Rattle.theory_intervals.specs.OverInt.{flat}
use Rattle.grid_track_counts.specs.declared.TrackCounts.{TrackCounts}
use Rattle.theory_walk.specs.Axis.{other, on, laid}
use Rattle.theory_walk.specs.Search.{at}
use Rattle.theory_walk.specs.Walk.{Board, Run, going, stopped, records_on, walk}
use Rattle.theory_walk.specs.OnList.{written}
use Rattle.refusals.specs.declared.Refusal.{Refusal}
use Rattle.refusals.specs.Numbers.{numbered}
use Rattle.placing_request.specs.Items.{axis_of, queued}
use Rattle.placing_laying.specs.declared.Matrix.{Matrix}
use Rattle.placing_laying.specs.Ready.{setting_for}

-- "no tiles, the request's counts"
abbrev pub empty_board : Bool → TrackCounts → TrackCounts → Board
empty_board columns p s = record { tiles = []; counts = laid (axis_of columns) p s; cursor = at (pos 0) (pos 0) }

-- the run: primary and secondary counts, and the lists' lengths
abbrev pub run_for : Bool → Bool → List ℤ → TrackCounts → TrackCounts → ℕ → ℕ → Run
run_for columns dense items p s pl sl = walk (setting_for columns dense (laid (axis_of columns) pl sl)) (λ c. c) (queued items) (empty_board columns p s)

-- `old` is what the answer places of all items held, and no place more. It is answered: the final counts, the answers written there, and the lists that painting the tiles makes; or a list is too short: "with that item's
-- index, and then the answer places of all items and both lists are zero"
abbrev pub LeftBy : Bool → List ℤ → ℕ → ℕ → Run → Result Matrix Refusal → List ℤ → List ℤ → List ℤ → Type 0
LeftBy columns old pl sl (going b) r answers primary secondary =
    (m : Matrix)
    × ((r ≡ Ok m)
    × ((m.primary ≡ on (axis_of columns) b.counts)
    × ((m.secondary ≡ on (other (axis_of columns)) b.counts)
    × ((answers ≡ written b.tiles old)
    × ((primary ≡ flat pl (records_on (axis_of columns) b.tiles)) × (secondary ≡ flat sl (records_on (other (axis_of columns)) b.tiles)))))))
LeftBy columns old pl sl (stopped n i) r answers primary secondary =
    (r ≡ Err (numbered n i))
    × ((answers ≡ replicate (length old) (pos 0))
    × ((primary ≡ replicate pl (pos 0)) × (secondary ≡ replicate sl (pos 0))))

abbrev pub AfterRun : Bool → Bool → List ℤ → TrackCounts → TrackCounts → List ℤ → ℕ → ℕ → Result Matrix Refusal → List ℤ → List ℤ → List ℤ → Type 0
AfterRun columns dense items p s old pl sl r answers primary secondary = LeftBy columns old pl sl (run_for columns dense items p s pl sl) r answers primary secondary
