use Rattle.placing_step4.proofs.Step4.{Going}
use Rattle.placing_step4.proofs.place_remaining_items.Given as goal

abbrev pub invariant-loop-i : goal.invariant-loop-i
invariant-loop-i l = Going l.run.columns l.run.dense l.run.items.numbers.now l.initial.matrix l.initial.answers l.initial.primary l.initial.secondary l.once l.i l.matrix l.cursor l.answers l.primary l.secondary
