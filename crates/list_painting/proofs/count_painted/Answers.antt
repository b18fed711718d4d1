-- `count_painted` meets its contract. What the tracks from `track` on replace, and by what, is counted already (`CInv`).
use mathlib.Core.Path.{◌≡◌}
use mathlib.Core.Bool.{true}
use native.Mathlib.Omega.{arith}
use lib.IntN.{pos, ◌-ℤ◌}
use lib.Signed.{lt_z}
use mir.Syntax.{w16}
use mir.Val.{to_z}
use mir.Facts.{to_z-of_z}
use Rattle.theory_signed.proofs.Laws.{fit16}
use Rattle.theory_intervals.proofs.Lists.{holds_room}
use Rattle.list_areas.proofs.Meant.{tracks_of}
use Rattle.list_pieces.proofs.Bits.{ζ}
use Rattle.list_sweeps.proofs.Before.{track_before}
use Rattle.list_sweeps.proofs.Count.{c_start, c_apart, c_next, c_done}
use Rattle.list_painting.proofs.Whole.{asked, good, keep, total_is}
use Rattle.list_painting.proofs.count_painted.Goals.{In-loop-track}
use Rattle.list_painting.proofs.count_painted.Goals as goal

pub loop-track-init : goal.loop-track-init
loop-track-init c =
    let y = c.args.area in
    let q = asked y c.args.records.holds in
    let f = fit16 y.track_end (omega arith) in
    rw (to_z-of_z f) (c_start _ _ _ _ _ _ _ _ (fit16 y.track_start (omega arith)) f (holds_room q.holds) (keep q) (good q) (tracks_of y) (rw (to_z-of_z f) at c.records_behind.ensures))

module _ (c : In-loop-track) where
  more : lt_z c.args.area.track_start (to_z w16 c.loop-track.track-bits) ≡ true
  more = rw (to_z-of_z (fit16 c.args.area.track_start (omega arith))) at c.loop-track-test.true

  prior : ζ (to_z w16 c.loop-track.track-bits -ℤ pos 1) ≡ to_z w16 c.loop-track.track-bits -ℤ pos 1
  prior = let y = c.args.area in track_before _ _ _ (fit16 y.track_start (omega arith)) (fit16 y.track_end (omega arith)) more c.loop-track.invariant.high

pub cut_track-cut-requires-clause-apart : goal.cut_track-cut-requires-clause-apart
cut_track-cut-requires-clause-apart c = let k = (goal.at.cut_track-cut-requires-clause-apart c).In-loop-track in c_apart c.loop-track.invariant _ (prior k)

pub loop-track-preserved : goal.loop-track-preserved
loop-track-preserved c =
    let k = (goal.at.loop-track-preserved c).In-loop-track in
    rw c.count-more.ensures (c_next c.loop-track.invariant _ (prior k) c.cut_track-cut.ensures (more k))

pub returns : goal.returns
returns c =
    let y = c.args.area in
    total_is (asked y c.args.records.holds) _ (c_done c.loop-track.invariant (rw (to_z-of_z (fit16 y.track_start (omega arith))) at c.loop-track-test.false))
