use Prim.Native.Nat.{◌-◌, ◌<◌}
use lib.Signed.{◌≤ℤ◌}
use Rattle.list_rules.specs.Inner.{track_no}
use Rattle.list_tracks.proofs.track_back.Given as goal

abbrev pub invariant-loop-k : goal.invariant-loop-k
invariant-loop-k l = (l.k < l.to) × (track_no l.list (l.to - 1) ≤ℤ track_no l.list l.k)

abbrev pub decreases-loop-k : goal.decreases-loop-k
decreases-loop-k l = l.k
