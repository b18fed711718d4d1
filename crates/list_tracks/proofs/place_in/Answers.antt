-- `tracks::place_in`: two halving searches. Assumes nothing.
use mathlib.Core.Path.{◌≡◌}
use native.Mathlib.Omega.{arith}
use lib.IntN.{pos, ◌+ℤ◌}
use mir.Syntax.{w16, w32}
use mir.Val.{to_z, of_z}
use Rattle.theory_signed.proofs.Laws.{signed, rng}
use Rattle.list_rules.specs.Inner.{Split}
use Rattle.theory_intervals.proofs.Lists.{holds_room}
use Rattle.list_tracks.proofs.Sorted.{split_as}
use Rattle.list_tracks.proofs.Standing.{part_at, stands_empty, stands_some}
use Rattle.list_tracks.proofs.place_in.Goals.{After-lower-a, After-lower-b}
use Rattle.list_tracks.proofs.place_in.Goals as goal

pub overflow_cast-x : goal.overflow_cast-x
overflow_cast-x c = omega signed

pub lower-a-requires : goal.lower-a-requires
lower-a-requires c = record {
  from_le_used = omega arith;
  by_index = λ k h. absurd (omega arith);
}

pub overflow_add-x : goal.overflow_add-x
overflow_add-x c = omega (signed, rng c.ranges.track, overflow_cast-x c.before)

pub lower-b-requires : goal.lower-b-requires
lower-b-requires c = record {
  from_le_used = c.lower-a.ensures.1.within;
  by_index = λ k h. let b = c.lower-a.ensures.1.below k h in omega (signed, overflow_cast-x c.before, overflow_add-x c);
}

-- where the track's records begin and end
begins : (a : After-lower-a) → Split a.args.records.list.now a.args.records.used a.args.track a.lower-a.result
begins a =
    let s = a.before in
    let e : to_z w32 (of_z w32 (to_z w16 (of_z w16 s.args.track))) ≡ s.args.track = omega (signed, overflow_cast-x s) in
    split_as e a.lower-a.ensures.1

ends : (b : After-lower-b) → Split b.args.records.list.now b.args.records.used (b.args.track +ℤ pos 1) b.lower-b.result
ends b =
    let s = b.before.before in
    let e : to_z w32 (of_z w32 (to_z w32 (of_z w32 (to_z w16 (of_z w16 s.args.track))) +ℤ pos 1)) ≡ s.args.track +ℤ pos 1 = omega (signed, overflow_cast-x s, overflow_add-x b.before) in
    split_as e b.lower-b.ensures.1

pub returns-then-a-b : goal.returns-then-a-b
returns-then-a-b c =
    let b = c.before in
    let h = b.args.records.holds in
    record {
      stands = stands_empty h (begins b.before) (ends b) c.if-a-b.true;
      part = part_at h (begins b.before) (ends b) b.lower-b.ensures.0;
    }

pub overflow_mul-result : goal.overflow_mul-result
overflow_mul-result c = omega (arith, holds_room c.args.records.holds)

pub overflow_mul-result-2 : goal.overflow_mul-result-2
overflow_mul-result-2 c = omega (arith, holds_room c.args.records.holds)

pub overflow_mul-result-3 : goal.overflow_mul-result-3
overflow_mul-result-3 c = omega (arith, holds_room c.args.records.holds)

pub returns : goal.returns
returns c =
    let b = c.before in
    let h = b.args.records.holds in
    record {
      stands = stands_some h (begins b.before) (ends b) (omega (arith, b.lower-b.ensures.0, c.if-a-b));
      part = part_at h (begins b.before) (ends b) b.lower-b.ensures.0;
    }
