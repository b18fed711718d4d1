-- `paint_track` meets its contract: one record is what the records that are reached become, or all is left to `paint_cut`.
use mathlib.Core.Path.{◌≡◌, refl, subst}
use Prim.Native.Nat.{ℕ, ◌+◌, ◌-◌, ◌*◌, ◌≤◌}
use native.Mathlib.Omega.{arith}
use lib.ListN.{length, drop}
use lib.Seq.{paste}
use mir.Syntax.{w16}
use mir.Val.{of_z}
use mir.Facts.{to_z-of_z}
use Rattle.theory_signed.proofs.Laws.{fit16}
use Rattle.list_areas.proofs.Meant.{good_of}
use Rattle.list_moves.proofs.Parts.{paste_self}
use Rattle.list_pieces.specs.Reach.{before_late, after_early, OnTrack, Reaches}
use Rattle.list_pieces.specs.Passes.{InPlace}
use Rattle.list_sweeps.proofs.Moves.{s_apart}
use Rattle.list_in_place.proofs.InPlace.{apart_on, stored_one, one_reaches, grown_is, placed}
use Rattle.list_in_place.proofs.paint_track.Goals.{In-Some}
use Rattle.list_in_place.proofs.paint_track.Goals as goal

-- the records that are reached become one
module _ (c : In-Some) where
  abbrev past : ℕ
  past = c.before_late-past.result

  abbrev first : ℕ
  first = c.after_early-first.result

  past_is : let x = c.args in past ≡ before_late x.list.now x.t x.area.stroke.end (of_z w16 x.area.stroke.state) x.count.before
  past_is = rw (to_z-of_z c.ranges.t) at c.before_late-past.ensures.value

  first_is : let x = c.args in first ≡ after_early x.list.now x.t x.area.stroke.start (of_z w16 x.area.stroke.state) past
  first_is = rw (to_z-of_z c.ranges.t) at c.after_early-first.ensures.value

  on : OnTrack c.args.list.now first past c.args.t
  on = let x = c.args in apart_on x.list.now x.count.before x.t x.area.stroke.start x.area.stroke.end (of_z w16 x.area.stroke.state) past_is first_is (s_apart c.requires.gapped.0 (good_of x.area) c.requires.late)

  one : let x = c.args in Reaches x.list.now x.count.before x.t x.area.stroke.start x.area.stroke.end (of_z w16 x.area.stroke.state) first past 1 (stored_one x.t c.in-Some.start c.in-Some.end x.area.stroke.state)
  one =
      one_reaches c.ranges.t (fit16 c.args.area.stroke.state (omega arith)) (fit16 c.in-Some.start (omega arith)) (fit16 c.in-Some.end (omega arith)) c.after_early-first.ensures.within
      c.before_late-past.ensures.within past_is first_is (c.in-Some.ensures c.args.t on)

pub returns-then-first-past : goal.returns-then-first-past
returns-then-first-past c =
    let k = (goal.at.returns-then-first-past c).In-Some in
    let x = c.args in
    let l = x.list.now in
    let u = x.count.used in
    let good = good_of x.area in
    let q = one k in
    let e : first k + 1 + (u - past k) ≡ u = omega (arith, c.if-first-past.true, q.high, c.requires.gapped.0.high) in
    let at : 4 * past k ≡ 4 * (first k + 1) = omega (arith, c.if-first-past.true) in
    let fits : 4 * (first k + 1 + (u - past k)) ≤ length l = omega (arith, e, c.requires.used_in_bounds) in
    let y = c.put_in.ensures in
    let here = paste_self l (4 * past k) (4 * past k) (4 * u - 4 * past k) refl in
    subst (λ (m : ℕ). InPlace x.area.stroke.start x.area.stroke.end x.area.stroke.state x.t l x.count.before u c.put_in.new.list (first k) m) e
    (placed c.requires.gapped.0 c.requires.gapped.1 good c.requires.late q fits _ _ at here _ y _
    (grown_is c.requires.gapped.0 c.requires.gapped.1 good c.requires.late q fits _ _ at here _ y (omega (arith, e))))

pub returns-then-first-past-2 : goal.returns-then-first-past-2
returns-then-first-past-2 c =
    let k = (goal.at.returns-then-first-past-2 c).In-Some in
    let x = c.args in
    let l = x.list.now in
    let u = x.count.used in
    let good = good_of x.area in
    let q = one k in
    let none : first k ≡ past k = c.if-first-past-2.true in
    let e : first k + 1 + (u - past k) ≡ u + 1 = omega (arith, none, q.high, c.requires.gapped.0.high) in
    let at : 4 * first k + 4 ≡ 4 * (first k + 1) = omega arith in
    let fits : 4 * (first k + 1 + (u - past k)) ≤ length l = omega (arith, e, c.requires.used_in_bounds) in
    let up = subst (λ (m : ℕ). c.move_up.new.list ≡ paste l (4 * first k + 4) (drop (4 * m) l) (4 * u - 4 * m)) none c.move_up.ensures in
    let y = c.put_in-then-first-past-2.ensures in
    subst (λ (m : ℕ). InPlace x.area.stroke.start x.area.stroke.end x.area.stroke.state x.t l x.count.before u c.put_in-then-first-past-2.new.list (first k) m) e
    (placed c.requires.gapped.0 c.requires.gapped.1 good c.requires.late q fits _ _ at up _ y _
    (grown_is c.requires.gapped.0 c.requires.gapped.1 good c.requires.late q fits _ _ at up _ y (omega (arith, e))))
