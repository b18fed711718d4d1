-- `tracks::lower_ahead`: what is before k is below x. Assumes nothing.
use mathlib.Core.Path.{◌≡◌, subst}
use Prim.Native.Nat.{ℕ}
use native.Mathlib.Omega.{arith}
use mir.Facts.{to_z-of_z}
use Rattle.theory_signed.proofs.Laws.{signed}
use Rattle.theory_intervals.proofs.Lists.{holds_room}
use Rattle.list_rules.proofs.ByIndex.{holds_front}
use Rattle.list_rules.specs.Inner.{Split}
use Rattle.list_tracks.proofs.Sorted.{sorted, go_up, go_down, found}
use Rattle.list_tracks.proofs.lower_ahead.Goals as goal

pub loop-k-init : goal.loop-k-init
loop-k-init c = (omega arith, rw (to_z-of_z c.ranges.x) (record { order = c.requires.from_le_used; left = omega arith; below = c.requires.by_index; above = λ k a b. absurd (omega arith) }))

pub overflow_mul-k : goal.overflow_mul-k
overflow_mul-k c = omega (arith, holds_room c.args.records.holds)

pub number-track-requires : goal.number-track-requires
number-track-requires c = omega (arith, holds_room c.args.records.holds)

pub overflow_cast-track : goal.overflow_cast-track
overflow_cast-track c = omega signed

pub returns-then-x-track : goal.returns-then-x-track
returns-then-x-track c =
    let q = c.before.before.before in
    (q.loop-k.invariant.0, rw (to_z-of_z q.ranges.x) at (found q.args.records.list.now (go_down (sorted (holds_front q.args.records.holds)) q.loop-k.invariant.1 q.loop-k.k (omega arith) (omega arith) (omega (signed, overflow_cast-track c.before))) (omega arith)))

pub loop-k-preserved : goal.loop-k-preserved
loop-k-preserved c =
    let q = c.before.before.before in
    (omega arith, go_up (sorted (holds_front q.args.records.holds)) q.loop-k.invariant.1 q.loop-k.k (omega arith) (omega (signed, overflow_cast-track c.before)))

pub returns : goal.returns
returns c =
    let q = c.before in
    let a = q.args in
    let e : q.loop-k.k ≡ a.records.used = omega arith in
    let s = found a.records.list.now q.loop-k.invariant.1 (omega arith) in
    (omega arith, subst (λ (r : ℕ). Split a.records.list.now a.records.used a.x r) e (rw (to_z-of_z q.ranges.x) at s))
