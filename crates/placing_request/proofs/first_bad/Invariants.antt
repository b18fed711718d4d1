use mathlib.Core.Path.{◌≡◌}
use lib.ListN.{drop}
use Rattle.theory_walk.specs.Request.{halves, bad_from}
use Rattle.placing_request.proofs.first_bad.Given as goal

abbrev pub invariant-loop-i : goal.invariant-loop-i
invariant-loop-i l = bad_from 0 (halves l.items) ≡ bad_from l.i (drop l.i (halves l.items))
