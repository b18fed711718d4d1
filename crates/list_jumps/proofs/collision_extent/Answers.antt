-- Records that start at the end or behind it don't count, and the last of the others decides.
use mathlib.Core.Path.{◌≡◌, sym, ap, ◌∙◌}
use Prim.Native.Nat.{ℕ, suc, ◌-◌, ◌/◌}
use native.Mathlib.Omega.{arith}
use lib.ListN.{length}
use mir.Syntax.{w16}
use mir.Val.{to_z, of_z}
use mir.Facts.{to_z-of_z}
use Rattle.theory_signed.proofs.Laws.{signed, g_lt_true}
use Rattle.theory_intervals.specs.Lists.{recs}
use Rattle.list_jumps.specs.Calls.{extent_of}
use Rattle.list_rules.specs.Inner.{start_no, end_no, Starting}
use Rattle.list_jumps.proofs.Maximum.{if_some}
use Rattle.list_jumps.proofs.LastOverlap.{extent_step, late_off, settled}
use Rattle.list_jumps.proofs.collision_extent.Goals.{After-starting_before-k}
use Rattle.list_jumps.proofs.collision_extent.Goals as goal

-- how many start before the end, and that the others don't count
split : (c : After-starting_before-k) → Starting c.args.part.now (length c.args.part.now / 4) c.args.end c.starting_before-k.result
split c = rw (to_z-of_z c.ranges.end) at c.starting_before-k.ensures

front : (c : After-starting_before-k) → extent_of (recs (length c.args.part.now / 4) c.args.part.now) c.args.start c.args.end ≡ extent_of (recs c.starting_before-k.result c.args.part.now) c.args.start c.args.end
front c = late_off c.args.part.now c.args.start c.args.end c.starting_before-k.result (length c.args.part.now / 4) (split c).within (split c).above

pub returns-then-k-eq0 : goal.returns-then-k-eq0
returns-then-k-eq0 c =
    let a = c.before in
    sym (front a ∙ ap (λ (m : ℕ). extent_of (recs m a.args.part.now) a.args.start a.args.end) c.if-k-eq0.true)

pub returns : goal.returns
returns c =
    let a = c.before.before.before in
    let z = a.args in
    let l = z.part.now in
    let k = a.starting_before-k.result in
    let j : ℕ = k - 1 in
    let some : k ≡ suc j = omega (arith, c.if-k-eq0.false) in
    let e : to_z w16 (of_z w16 c.number-ends.result) ≡ end_no l j = omega signed in
    let b = (split a).below j (omega (arith, some)) in
    c.then_some.ensures
    ∙ if_some _ _ _
    (λ h. rw (e, front a, extent_step l z.start z.end k j some, g_lt_true (start_no l j) z.end (omega signed), g_lt_true z.start (end_no l j) (omega signed)))
    (λ h. sym (front a ∙ settled a.requires z.start z.end k j some (omega (arith, some, (split a).within)) (omega signed)))
