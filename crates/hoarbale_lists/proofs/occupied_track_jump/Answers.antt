-- `occupied_track_jump` meets its contract.
use borrow.Author.Rules.{rules}
use mathlib.Core.Path.{sym, ◌∙◌}
use Rattle.theory_intervals.proofs.Lists.{holds_decode}
use Rattle.hoarbale_lists.specs.Lists.{occupied_answer}
use Rattle.hoarbale_lists.proofs.Checking.{checked_holds}
use Rattle.hoarbale_lists.proofs.occupied_track_jump.Goals as goal

pub invariant_of-occupied_track_jump : goal.invariant_of-occupied_track_jump
invariant_of-occupied_track_jump c = record { holds = checked_holds _ _ (sym c.checked_list.ensures ∙ c.in_ok-used.was) }

pub returns : goal.returns
unfolding occupied_answer
returns c = let p = sym c.checked_list.ensures ∙ c.in_ok-used.was in let d = holds_decode (checked_holds _ _ p) in rw (p, d) (search rules)
