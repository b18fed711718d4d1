use Rattle.list_rules.specs.Inner.{Front}
use Rattle.list_rules.proofs.front.Given as goal

abbrev pub invariant-loop-i : goal.invariant-loop-i
invariant-loop-i l = Front l.list l.i
