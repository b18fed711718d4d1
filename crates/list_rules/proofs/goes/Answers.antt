-- A record behind another goes where it may follow that one.
use native.Mathlib.Omega.{arith}
use Rattle.list_rules.proofs.Turns.{goes_behind}
use Rattle.list_rules.proofs.goes.Goals as goal

pub returns-else-i-eq0 : goal.returns-else-i-eq0
returns-else-i-eq0 c = goes_behind _ _ c.follows.result (omega arith) c.if-good.ensures c.follows.ensures
