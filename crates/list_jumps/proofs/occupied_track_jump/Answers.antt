-- The last record below the end of the span decides.
use Rattle.std.specs.Prelude.{Some}
use mathlib.Core.Path.{◌≡◌, sym, ap, ◌∙◌}
use Prim.Native.Nat.{◌-◌}
use native.Mathlib.Omega.{arith}
use lib.IntN.{pos, ◌+ℤ◌}
use mir.Syntax.{w16}
use mir.Val.{SFits, to_z, of_z}
use Rattle.theory_signed.proofs.Laws.{signed}
use Rattle.theory_intervals.proofs.Lists.{holds_room}
use Rattle.list_rules.specs.Inner.{track_no, Split}
use Rattle.list_rules.proofs.ByIndex.{holds_front}
use Rattle.list_tracks.proofs.Sorted.{sorted, split_as, widened}
use Rattle.list_jumps.proofs.Maximum.{if_some}
use Rattle.list_jumps.proofs.Crossed.{occupied_none, occupied_some}
use Rattle.list_jumps.proofs.occupied_track_jump.Goals.{After-lower-k}
use Rattle.list_jumps.proofs.occupied_track_jump.Goals as goal

split : (c : After-lower-k) → Split c.args.records.list.now c.args.records.used c.args.track_end c.lower-k.result
split c = split_as (widened c.ranges.track_end) c.lower-k.ensures.1

pub returns-then-k-eq0 : goal.returns-then-k-eq0
returns-then-k-eq0 c =
    let z = c.args in
    sym (occupied_none (holds_front z.records.holds) z.track_start z.track_end c.lower-k.result (split c.before) (λ i h. absurd (omega arith)))

pub overflow_mul-k : goal.overflow_mul-k
overflow_mul-k c = omega (arith, holds_room c.args.records.holds)

pub number-track-requires : goal.number-track-requires
number-track-requires c = omega (arith, holds_room c.args.records.holds)

pub returns : goal.returns
returns c =
    let a = c.before.before.before.before in
    let z = a.args in
    let l = z.records.list.now in
    let f = holds_front z.records.holds in
    let k = a.lower-k.result in
    let fits : SFits w16 (to_z w16 (of_z w16 c.number-track.result) +ℤ pos 1) = let g = (f.each (k - 1) (omega (arith, c.if-k-eq0))).good in omega signed in
    let e : to_z w16 (of_z w16 (to_z w16 (of_z w16 c.number-track.result) +ℤ pos 1)) ≡ track_no l (k - 1) +ℤ pos 1 = omega (signed, fits) in
    c.then_some.ensures
    ∙ if_some _ _ _
    (λ h. ap Some e ∙ sym (occupied_some f z.track_start z.track_end k (k - 1) (split a) (omega (arith, c.if-k-eq0)) (omega signed)))
    (λ h. sym (occupied_none f z.track_start z.track_end k (split a) (λ i q. let y = sorted f i (k - 1) (omega arith) (omega arith) in omega signed)))
