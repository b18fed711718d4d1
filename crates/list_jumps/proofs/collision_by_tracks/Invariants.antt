use Prim.Native.Nat.{◌≤◌}
use Rattle.list_rules.specs.Inner.{Crosses}
use Rattle.list_jumps.proofs.Crossed.{SoFar}
use Rattle.list_jumps.proofs.collision_by_tracks.Given as goal

abbrev pub invariant-loop-k : goal.invariant-loop-k
invariant-loop-k l = (l.first ≤ l.k) × ((x : Crosses l.list l.first l.past) → SoFar l.list x.used x.low x.high l.start l.end l.k l.best)

abbrev pub decreases-loop-k : goal.decreases-loop-k
decreases-loop-k l = l.k
