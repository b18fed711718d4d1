-- `jumps::collision_by_tracks`: the jump over the tracks that were looked at, from behind. Assumes nothing.
use Rattle.std.specs.Prelude.{Option, ℤ}
use mathlib.Core.Path.{ap, ◌∙◌}
use mathlib.Core.List.{List}
use native.Mathlib.Omega.{arith}
use lib.IntN.{ℤ}
use mir.Syntax.{w16}
use mir.Val.{to_z, of_z}
use mir.Facts.{to_z-of_z}
use Rattle.theory_intervals.specs.Lists.{recs}
use Rattle.list_jumps.specs.Calls.{larger, collision_jump}
use Rattle.list_rules.specs.Inner.{Front, Crosses}
use Rattle.list_rules.proofs.ByIndex.{holds_front}
use Rattle.list_jumps.proofs.LastOverlap.{part_ascends}
use Rattle.list_jumps.proofs.Crossed.{in_order, SoFar, start_far, next_before, next_front, next_part, next_at, next_less, next_far, all_far}
use Rattle.list_jumps.proofs.collision_by_tracks.Goals.{In-loop-k, Start}
use Rattle.list_jumps.proofs.collision_by_tracks.Goals as goal

pub loop-k-init : goal.loop-k-init
loop-k-init c =
    (in_order c.requires, λ x. start_far c.args.list.now x.used x.low x.high (to_z w16 (of_z w16 c.args.start)) (to_z w16 (of_z w16 c.args.end)) c.args.past x.order x.ends)

-- in a turn, of the crossed tracks that the call is given
module _ (c : In-loop-k) where
  abbrev z : Start
  z = c.before.before

  abbrev l : List ℤ
  l = z.args.list.now

  abbrev x : Crosses l z.args.first z.args.past
  x = z.requires

  f : Front l x.used
  f = holds_front x.holds

  v : SoFar l x.used x.low x.high (to_z w16 (of_z w16 z.args.start)) (to_z w16 (of_z w16 z.args.end)) c.loop-k.k c.loop-k.best
  v = c.loop-k.invariant.1 x

pub last_track-part-requires : goal.last_track-part-requires
last_track-part-requires c =
    let h = c.loop-k-test.true in
    record {
      front = next_front (f c) (v c) (x c).begins h;
      from_lt_to = h;
      by_index = next_before (f c) (v c) (x c).begins h;
    }

pub collision_extent-requires : goal.collision_extent-requires
collision_extent-requires c =
    let q = c.before in
    part_ascends (f q) (next_part (f q) (v q) (x q).begins q.loop-k-test.true c.last_track-part.ensures)

pub overflow_sub-k : goal.overflow_sub-k
overflow_sub-k c =
    let q = (goal.at.overflow_sub-k c).In-loop-k in
    omega (arith, next_at (f q) (v q) (x q).begins q.loop-k-test.true c.last_track-part.ensures)

pub loop-k-smaller : goal.loop-k-smaller
loop-k-smaller c =
    let q = (goal.at.loop-k-smaller c).In-loop-k in
    let w = c.last_track-part.ensures in
    omega (arith, next_at (f q) (v q) (x q).begins q.loop-k-test.true w, next_less (f q) (v q) (x q).begins q.loop-k-test.true w)

pub loop-k-preserved : goal.loop-k-preserved
loop-k-preserved c =
    let q = (goal.at.loop-k-preserved c).In-loop-k in
    let w = c.last_track-part.ensures in
    let e = c.larger-best.ensures ∙ ap (λ (e : Option ℤ). larger e q.loop-k.best) c.collision_extent.ensures in (
      omega (arith, next_at (f q) (v q) (x q).begins q.loop-k-test.true w, w.low),
      λ y. next_far (holds_front y.holds) (q.loop-k.invariant.1 y) y.begins q.loop-k-test.true y.holds w e,
    )

pub returns : goal.returns
returns c =
    let q = c.before in
    let a = q.before in
    λ y. all_far (q.loop-k.invariant.1 y) y.begins (omega arith)
    ∙ (λ i. collision_jump (recs y.used a.args.list.now) y.low y.high (to_z-of_z a.ranges.start i) (to_z-of_z a.ranges.end i))
