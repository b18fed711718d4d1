-- `paint` meets its contract.
use borrow.Author.Rules.{rules}
use mathlib.Core.Path.{◌≡◌, sym, ap, ◌∙◌}
use mir.Facts.{to_z-of_z}
use Rattle.theory_intervals.specs.Lists.{good_area}
use Rattle.list_areas.specs.Areas.{area_of}
use Rattle.list_areas.specs.Meant.{meant}
use Rattle.hoarbale_lists.specs.Lists.{paint_answer, paint_left}
use Rattle.hoarbale_lists.proofs.Checking.{checked_holds}
use Rattle.hoarbale_lists.proofs.Painting.{told, told_by, inner_answer}
use Rattle.hoarbale_lists.proofs.paint.Goals.{After-ok_or}
use Rattle.hoarbale_lists.proofs.paint.Goals as goal

pub paint-painted-requires : goal.paint-painted-requires
paint-painted-requires c = checked_holds c.args.list.now c.in_ok-used_before.used_before (search rules)

-- past all but the last check
answered : (c : After-ok_or) → let a = c.args in let x = area_of a.track_start a.track_end a.start a.end a.state in
    (told c.ok_or.result ≡ paint_answer a.list.now x) × (c.paint-painted.new.list ≡ paint_left a.list.now x)
answered c =
    let f = c.ranges in
    let t = c.in_ok-area.ensures.taken in
    let a = c.args in
    let e = c.paint-painted.ensures in
    let i = inner_answer a.list.now c.paint-painted.new.list (meant c.in_ok-area.area) c.in_ok-used_before.used_before c.paint-painted.result (search rules) (ap good_area t.0 ∙ t.1) e.painted e.refused in
    let s = told_by c.paint-painted.result (told c.ok_or.result) (λ n q. search rules) (λ q. search rules) in
    rw (← s, t.0, to_z-of_z f.track_start, to_z-of_z f.track_end, to_z-of_z f.start, to_z-of_z f.end, to_z-of_z f.state) at i

pub returns-in_err-ok_or : goal.returns-in_err-ok_or
returns-in_err-ok_or c =
    let q = answered c.before.before.before in
    record { value = search rules; list_after = q.1 }

pub returns : goal.returns
returns c =
    let q = answered c.before.before in
    record { value = sym (ap told c.in_ok-ok_or.was) ∙ q.0; list_after = q.1 }
