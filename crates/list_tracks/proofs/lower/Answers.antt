-- `tracks::lower`: where the last record is below x all are, and else the records are halved. Assumes nothing.
use Prim.Native.Nat.{◌-◌}
use native.Mathlib.Omega.{arith}
use lib.Signed.{◌<ℤ◌}
use mir.Facts.{to_z-of_z}
use Rattle.theory_signed.proofs.Laws.{signed}
use Rattle.theory_intervals.proofs.Lists.{holds_room}
use Rattle.list_rules.proofs.ByIndex.{holds_front}
use Rattle.list_rules.specs.Inner.{track_no}
use Rattle.list_tracks.proofs.Sorted.{sorted, split_as}
use Rattle.list_tracks.proofs.lower.Goals as goal

pub overflow_mul-used : goal.overflow_mul-used
overflow_mul-used c = omega (arith, holds_room c.args.records.holds)

pub number-last-requires : goal.number-last-requires
number-last-requires c = omega (arith, holds_room c.args.records.holds)

pub overflow_cast-last : goal.overflow_cast-last
overflow_cast-last c = omega signed

pub returns-then-last-x : goal.returns-then-last-x
returns-then-last-x c =
    let n = c.before in
    let s = n.before.before in
    let a = s.args in
    let last : track_no a.records.list.now (a.records.used - 1) <ℤ a.x = omega (signed, overflow_cast-last n, n.number-last.ensures.value) in (
      s.requires.from_le_used,
      record {
        within = omega arith;
        below = λ k h. let o = sorted (holds_front a.records.holds) k (a.records.used - 1) (omega arith) (omega arith) in omega signed;
        above = λ k h m. absurd (omega arith);
      },
    )

pub halved-requires : goal.halved-requires
halved-requires c = let s = c.before in record {
  from_le_used = s.requires.from_le_used;
  by_index = rw (to_z-of_z s.ranges.x) s.requires.by_index;
}

pub returns : goal.returns
returns c = let s = c.before.before in (c.halved.ensures.0, split_as (to_z-of_z s.ranges.x) c.halved.ensures.1)
