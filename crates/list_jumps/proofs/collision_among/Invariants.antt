use Prim.Native.Nat.{◌≤◌}
use Rattle.list_jumps.proofs.Among.{Best}
use Rattle.list_jumps.proofs.collision_among.Given as goal

abbrev pub invariant-loop-k : goal.invariant-loop-k
invariant-loop-k l = (l.k ≤ l.past) × Best l.list l.start l.end l.first l.k l.best
