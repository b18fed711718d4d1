-- `tracks::track_or_none`. Assumes nothing.
use mathlib.Core.Path.{refl}
use native.Mathlib.Omega.{arith}
use mir.Facts.{to_z-of_z}
use Rattle.list_tracks.proofs.Standing.{stands_part}
use Rattle.list_tracks.proofs.track_or_none.Goals as goal

pub overflow_add-result : goal.overflow_add-result
overflow_add-result c = omega (arith, c.place_or_none-start.ensures.inside)

pub returns : goal.returns
returns c =
    let a = c.before in
    stands_part (rw (to_z-of_z a.ranges.track) at a.place_or_none-start.ensures) refl
