-- Each record passed goes, and the front reaches as far as they do.
use native.Mathlib.Omega.{arith}
use Rattle.list_rules.proofs.Turns.{front_none, front_more}
use Rattle.list_rules.proofs.front.Goals as goal

pub loop-i-init : goal.loop-i-init
loop-i-init c = front_none _

pub loop-i-preserved : goal.loop-i-preserved
loop-i-preserved c = front_more c.loop-i.invariant (omega arith) c.if-not-goes.ensures
