use Prim.Native.Nat.{◌/◌}
use lib.ListN.{length}
use Rattle.list_rules.specs.Inner.{Bounded}
use Rattle.list_jumps.proofs.starting_before.Given as goal

abbrev pub invariant-loop-k : goal.invariant-loop-k
invariant-loop-k l = Bounded l.part (length l.part / 4) l.end l.lo l.k
