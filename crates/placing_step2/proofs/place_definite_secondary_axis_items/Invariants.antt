use Rattle.placing_step2.proofs.Step2.{Turn}
use Rattle.placing_step2.proofs.place_definite_secondary_axis_items.Given as goal

abbrev pub invariant-loop-i : goal.invariant-loop-i
invariant-loop-i l =
    Turn l.run.columns l.run.dense l.run.items.numbers.now l.i l.initial.matrix l.initial.answers l.initial.primary l.initial.secondary l.matrix l.answers l.primary l.secondary
