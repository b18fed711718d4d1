use mathlib.Core.Path.{◌≡◌}
use Rattle.theory_walk.specs.Walk.{largest_or}
use Rattle.placing_step2.specs.Ends.{ends_before}
use Rattle.placing_step2.proofs.Onward.{beside}
use Rattle.placing_step2.proofs.furthest_end.Given as goal

abbrev pub invariant-loop-j : goal.invariant-loop-j
invariant-loop-j l =
    largest_or l.none (ends_before l.run.columns l.run.items.numbers.now l.answers l.start l.i) ≡ beside l.furthest l.none (ends_before l.run.columns l.run.items.numbers.now l.answers l.start l.j)
