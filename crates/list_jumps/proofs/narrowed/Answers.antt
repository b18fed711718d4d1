-- `jumps::narrowed`: what is below lo starts before the line, what is from hi on does not. Assumes nothing.
use Prim.Native.Nat.{ℕ, ◌+◌, ◌-◌, ◌/◌}
use native.Mathlib.Omega.{arith}
use mir.Facts.{to_z-of_z}
use Rattle.theory_signed.proofs.Laws.{signed}
use Rattle.list_tracks.proofs.Sorted.{go_up, go_down, bounded}
use Rattle.list_jumps.proofs.LastOverlap.{starts_rise}
use Rattle.list_jumps.proofs.narrowed.Goals.{At-loop-hi}
use Rattle.list_jumps.proofs.narrowed.Goals as goal

pub loop-hi-init : goal.loop-hi-init
loop-hi-init c = record { order = omega arith; left = omega arith; below = λ k a. absurd (omega arith); above = λ k a b. absurd (omega arith) }

pub overflow_sub-hi : goal.overflow_sub-hi
overflow_sub-hi c = c.loop-hi.invariant.order

pub overflow_sub-mid : goal.overflow_sub-mid
overflow_sub-mid c = omega arith

pub overflow_add-mid : goal.overflow_add-mid
overflow_add-mid c = let v = c.loop-hi.invariant in omega (arith, v.left)

pub overflow_mul-mid : goal.overflow_mul-mid
overflow_mul-mid c = let v = c.loop-hi.invariant in omega (arith, v.left)

pub overflow_add-mid-in-loop-hi : goal.overflow_add-mid-in-loop-hi
overflow_add-mid-in-loop-hi c = let v = c.loop-hi.invariant in omega (arith, v.left)

pub number-begins-requires : goal.number-begins-requires
number-begins-requires c = let v = c.loop-hi.invariant in omega (arith, v.left)

pub overflow_add-lo : goal.overflow_add-lo
overflow_add-lo c = omega arith

pub loop-hi-smaller-then-begins-end : goal.loop-hi-smaller-then-begins-end
loop-hi-smaller-then-begins-end c = omega arith

abbrev mid : At-loop-hi → ℕ
mid q = q.loop-hi.lo + (q.loop-hi.hi - q.loop-hi.lo) / 2

pub loop-hi-preserved-then-begins-end : goal.loop-hi-preserved-then-begins-end
loop-hi-preserved-then-begins-end c =
    let q = c.before.before.before in
    go_up (starts_rise q.requires) q.loop-hi.invariant (mid q) (omega arith) (omega signed)

pub loop-hi-smaller : goal.loop-hi-smaller
loop-hi-smaller c = omega arith

pub loop-hi-preserved : goal.loop-hi-preserved
loop-hi-preserved c =
    let q = c.before.before.before in
    go_down (starts_rise q.requires) q.loop-hi.invariant (mid q) (omega arith) (omega arith) (omega signed)

pub returns : goal.returns
returns c =
    let q = c.before in
    rw (to_z-of_z q.ranges.end) at (bounded q.args.part.now q.loop-hi.invariant)
