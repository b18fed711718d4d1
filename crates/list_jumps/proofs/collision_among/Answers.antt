-- The best of the records that were looked at.
use mathlib.Core.Path.{◌≡◌, sym, ◌∙◌, subst}
use Prim.Native.Nat.{ℕ, ◌+◌}
use native.Mathlib.Omega.{arith}
use mir.Syntax.{w16}
use mir.Val.{to_z, of_z}
use mir.Facts.{to_z-of_z}
use Rattle.theory_signed.proofs.Laws.{signed}
use Rattle.theory_intervals.proofs.Lists.{holds_room}
use Rattle.list_jumps.proofs.Maximum.{if_some}
use Rattle.list_jumps.proofs.Among.{Best, best_same, best_max, jump_found_lem, jump_missed}
use Rattle.list_jumps.proofs.collision_among.Goals.{then-number-end, else-number-end}
use Rattle.list_jumps.proofs.collision_among.Goals as goal

pub overflow_mul-k : goal.overflow_mul-k
overflow_mul-k c = omega (arith, holds_room c.requires.holds)

pub overflow_add-k : goal.overflow_add-k
overflow_add-k c = omega (arith, holds_room c.requires.holds)

pub number-requires : goal.number-requires
number-requires c = omega (arith, holds_room c.requires.holds)

pub overflow_mul-k-then-number-end : goal.overflow_mul-k-then-number-end
overflow_mul-k-then-number-end c = omega (arith, holds_room c.requires.holds)

pub overflow_add-k-then-number-end : goal.overflow_add-k-then-number-end
overflow_add-k-then-number-end c = omega (arith, holds_room c.requires.holds)

pub number-requires-then-number-end : goal.number-requires-then-number-end
number-requires-then-number-end c = omega (arith, holds_room c.requires.holds)

pub loop-k-preserved : goal.loop-k-preserved
loop-k-preserved c =
    let v = c.loop-k.invariant.1 in
    let k = c.loop-k.k + 1 in
    elim c.if-number-end.branch [
      | then-number-end w ↦
          let d = to_z w16 (of_z w16 w.number-then-number-end.result) in
          let m : to_z w16 c.if-number-end.best-bits ≡ w.max-best.result = w.best-is ∙ to_z-of_z {w = w16} (record { sfits = w.max-best.type_inv }) in
          (omega arith, best_max v k d (to_z w16 c.if-number-end.best-bits) (omega arith) (omega arith) (omega signed) (omega signed) (m ∙ w.max-best.ensures.value))
      | else-number-end w ↦
          let same = best_same v k (omega arith) (λ z. absurd (omega signed)) in
          (omega arith, subst (Best c.args.list.now (to_z w16 (of_z w16 c.args.start)) (to_z w16 (of_z w16 c.args.end)) c.args.first k) (sym w.best-is) same)
    ]

pub returns : goal.returns
returns c x =
    let e : c.loop-k.k ≡ c.args.past = omega arith in
    let b = subst (λ (m : ℕ). Best c.args.list.now (to_z w16 (of_z w16 c.args.start)) (to_z w16 (of_z w16 c.args.end)) c.args.first m (to_z w16 c.loop-k.best-bits)) e c.loop-k.invariant.1 in
    c.then_some.ensures
    ∙ if_some _ _ _ (λ h. rw (to_z-of_z c.ranges.start, to_z-of_z c.ranges.end) at (jump_found_lem x b (omega signed))) (λ h. rw (to_z-of_z c.ranges.start, to_z-of_z c.ranges.end) at (jump_missed x b (omega signed)))
