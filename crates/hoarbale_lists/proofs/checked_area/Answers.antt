-- `checked_area` meets its contract.
use borrow.Author.Rules.{rules}
use mathlib.Core.Path.{◌≡◌, refl, sym, ◌∙◌}
use mir.Facts.{to_z-of_z}
use Rattle.theory_intervals.specs.Lists.{good_area}
use Rattle.list_areas.specs.Areas.{area_of}
use Rattle.hoarbale_lists.proofs.States.{state_ok}
use Rattle.hoarbale_lists.proofs.checked_area.Goals.{Joined-start-geminus10000}
use Rattle.hoarbale_lists.proofs.checked_area.Goals as goal

told : (c : Joined-start-geminus10000) → c.if-start-geminus10000.good ≡ good_area (area_of c.args.track_start c.args.track_end c.args.start c.args.end c.args.state)
told c = rw (state_ok c.args.state) (search rules)

pub returns-then-not-good-clause-refused : goal.returns-then-not-good-clause-refused
returns-then-not-good-clause-refused c = (refl, sym (told c.before) ∙ c.if-not-good.true)

pub returns-clause-taken : goal.returns-clause-taken
returns-clause-taken c =
    let f = c.ranges in
    (rw (to_z-of_z f.track_start, to_z-of_z f.track_end, to_z-of_z f.start, to_z-of_z f.end, to_z-of_z f.state), sym (told c.before.before) ∙ c.if-not-good.false)
