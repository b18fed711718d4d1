use mathlib.Core.Path.{◌≡◌}
use lib.IntN.{pos}
use lib.Signed.{◌≤ℤ◌}
use Rattle.theory_signed.specs.Parts.{gap}
use Rattle.list_rules.specs.Held.{held}
use Rattle.theory_walk.specs.Search.{first_line}
use Rattle.placing_search.proofs.Turns.{clear_stripe}
use Rattle.placing_search.proofs.first_free_stripe.Given as goal

abbrev pub invariant-loop-after : goal.invariant-loop-after
invariant-loop-after l = (l.start ≤ℤ l.track)
    × (l.track ≤ℤ pos 20000)
    × (first_line (clear_stripe (held l.records) l.span) l.start ≡ first_line (clear_stripe (held l.records) l.span) l.track)

abbrev pub decreases-loop-after : goal.decreases-loop-after
decreases-loop-after l = gap l.track (pos 10000)
