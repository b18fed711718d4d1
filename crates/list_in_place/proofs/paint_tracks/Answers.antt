-- `paint_tracks` meets its contract. The tracks from `t` on are painted already (`TInv`).
use mathlib.Core.Path.{◌≡◌}
use mathlib.Core.Bool.{true}
use native.Mathlib.Omega.{arith}
use lib.IntN.{pos, ◌-ℤ◌}
use lib.Signed.{lt_z}
use mir.Syntax.{w16}
use mir.Val.{to_z}
use mir.Facts.{to_z-of_z}
use Rattle.theory_signed.proofs.Laws.{fit16}
use Rattle.list_areas.proofs.Meant.{good_of, tracks_of}
use Rattle.list_pieces.proofs.Bits.{ζ}
use Rattle.list_sweeps.proofs.Before.{track_before}
use Rattle.list_in_place.proofs.InPlace.{t_start, t_late, t_next, t_done}
use Rattle.list_in_place.proofs.paint_tracks.Goals.{In-loop-t}
use Rattle.list_in_place.proofs.paint_tracks.Goals as goal

pub loop-t-init : goal.loop-t-init
loop-t-init c =
    let y = c.args.area in
    rw (to_z-of_z (fit16 y.track_end (omega arith))) (t_start y.track_start y.stroke.start y.stroke.end y.stroke.state c.requires.ready (good_of y) (tracks_of y) c.requires.tail)

module _ (c : In-loop-t) where
  more : lt_z c.args.area.track_start (to_z w16 c.loop-t.t-bits) ≡ true
  more = rw (to_z-of_z (fit16 c.args.area.track_start (omega arith))) at c.loop-t-test.true

  prior : ζ (to_z w16 c.loop-t.t-bits -ℤ pos 1) ≡ to_z w16 c.loop-t.t-bits -ℤ pos 1
  prior = let y = c.args.area in track_before _ _ _ (fit16 y.track_start (omega arith)) (fit16 y.track_end (omega arith)) more c.loop-t.invariant.high

pub paint_track-count-requires-clause-late : goal.paint_track-count-requires-clause-late
paint_track-count-requires-clause-late c = let k = (goal.at.paint_track-count-requires-clause-late c).In-loop-t in t_late c.loop-t.invariant _ (prior k) (more k)

pub loop-t-preserved : goal.loop-t-preserved
loop-t-preserved c = let k = (goal.at.loop-t-preserved c).In-loop-t in t_next c.loop-t.invariant _ (prior k) (more k) _ _ _ c.paint_track-count.ensures

pub returns : goal.returns
returns c = t_done c.loop-t.invariant (rw (to_z-of_z (fit16 c.args.area.track_start (omega arith))) at c.loop-t-test.false)
