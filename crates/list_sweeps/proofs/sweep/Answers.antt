-- `sweep` meets its contract. The tracks from `t` on are swept already (`SInv`).
use mathlib.Core.Path.{◌≡◌}
use native.Mathlib.Omega.{arith}
use lib.IntN.{pos, ◌-ℤ◌}
use lib.Signed.{lt_z}
use mathlib.Core.Bool.{true}
use mir.Syntax.{w16}
use mir.Val.{to_z}
use mir.Facts.{to_z-of_z}
use Rattle.theory_signed.proofs.Laws.{fit16}
use Rattle.list_areas.proofs.Meant.{tracks_of}
use Rattle.list_pieces.proofs.Bits.{ζ}
use Rattle.list_sweeps.proofs.Before.{track_before}
use Rattle.list_sweeps.proofs.Sweeping.{Lifted, lifted, s_start, s_late, s_room, s_next}
use Rattle.list_sweeps.proofs.Swept.{s_done, s_tail}
use Rattle.list_sweeps.proofs.sweep.Goals.{After-move_up, In-loop-t}
use Rattle.list_sweeps.proofs.sweep.Goals as goal

-- the list at the loop's start
start : (c : After-move_up) → let x = c.args in Lifted x.list.now x.used x.behind x.top x.area.track_end c.move_up.new.list
start c = lifted c.requires.ready c.requires.tail _ c.move_up.ensures

pub loop-t-init : goal.loop-t-init
loop-t-init c =
    let x = c.args in
    let y = x.area in
    rw (to_z-of_z (fit16 y.track_end (omega arith))) (s_start x.all y.track_start y.stroke.start y.stroke.end y.stroke.state (start (goal.at.loop-t-init c).After-move_up) c.requires.roomy (tracks_of y))

module _ (c : In-loop-t) where
  more : lt_z c.args.area.track_start (to_z w16 c.loop-t.t-bits) ≡ true
  more = rw (to_z-of_z (fit16 c.args.area.track_start (omega arith))) at c.loop-t-test.true

  prior : ζ (to_z w16 c.loop-t.t-bits -ℤ pos 1) ≡ to_z w16 c.loop-t.t-bits -ℤ pos 1
  prior = let y = c.args.area in track_before _ _ _ (fit16 y.track_start (omega arith)) (fit16 y.track_end (omega arith)) more c.loop-t.invariant.high

pub step-gap-requires-clause-late : goal.step-gap-requires-clause-late
step-gap-requires-clause-late c = let k = (goal.at.step-gap-requires-clause-late c).In-loop-t in s_late c.loop-t.invariant _ (prior k) (more k)

pub step-gap-requires-clause-top_len_bound : goal.step-gap-requires-clause-top_len_bound
step-gap-requires-clause-top_len_bound c = let k = (goal.at.step-gap-requires-clause-top_len_bound c).In-loop-t in s_room c.loop-t.invariant _ (prior k) (more k)

pub loop-t-preserved : goal.loop-t-preserved
loop-t-preserved c = let k = (goal.at.loop-t-preserved c).In-loop-t in s_next c.loop-t.invariant _ (prior k) (more k) _ _ _ c.step-gap.ensures

pub returns-clause-swept : goal.returns-clause-swept
returns-clause-swept c =
    let over = rw (to_z-of_z (fit16 c.args.area.track_start (omega arith))) at c.loop-t-test.false in
    s_done (start (goal.at.returns-clause-swept c).After-move_up) c.loop-t.invariant over _ c.move_down.ensures _ c.wipe.ensures

pub returns-clause-tail_2 : goal.returns-clause-tail_2
returns-clause-tail_2 c =
    let over = rw (to_z-of_z (fit16 c.args.area.track_start (omega arith))) at c.loop-t-test.false in
    s_tail (start (goal.at.returns-clause-tail_2 c).After-move_up) c.loop-t.invariant over _ c.move_down.ensures _ c.wipe.ensures
