use mathlib.Core.Path.{◌≡◌}
use lib.IntN.{pos}
use lib.Signed.{◌≤ℤ◌}
use Rattle.theory_signed.specs.Parts.{gap}
use Rattle.list_rules.specs.Held.{held}
use Rattle.theory_walk.specs.Search.{first_line}
use Rattle.placing_search.proofs.Turns.{clear_line}
use Rattle.placing_search.proofs.first_free_line.Given as goal

abbrev pub invariant-loop-next : goal.invariant-loop-next
invariant-loop-next l = (l.start ≤ℤ l.line)
    × (l.line ≤ℤ pos 20000)
    × (first_line (clear_line (held l.records) l.fn.tracks l.span) l.start ≡ first_line (clear_line (held l.records) l.fn.tracks l.span) l.line)

abbrev pub decreases-loop-next : goal.decreases-loop-next
decreases-loop-next l = gap l.line (pos 10000)
