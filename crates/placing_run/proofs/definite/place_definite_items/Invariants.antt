use Rattle.placing_run.proofs.Step1.{Going}
use Rattle.placing_run.proofs.definite.place_definite_items.Given as goal

abbrev pub invariant-loop-i : goal.invariant-loop-i
invariant-loop-i l =
    Going l.run.columns l.run.items.numbers.now l.initial.matrix l.initial.answers l.initial.primary l.initial.secondary l.i l.matrix l.answers l.primary l.secondary
