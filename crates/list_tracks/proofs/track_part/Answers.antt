-- `tracks::track_part`. Assumes nothing.
use mathlib.Core.Path.{refl, sym, subst}
use mathlib.Core.List.{List}
use native.Mathlib.Omega.{arith}
use lib.IntN.{ℤ}
use mir.Facts.{to_z-of_z}
use Rattle.list_rules.specs.Inner.{Part}
use Rattle.list_tracks.proofs.Standing.{stands_part}
use Rattle.list_tracks.proofs.track_part.Goals as goal

pub overflow_add-result : goal.overflow_add-result
overflow_add-result c = omega (arith, c.place_in-start.ensures.stands.inside)

pub returns : goal.returns
returns c =
    let a = c.before.before in
    let z = a.before in
    let e = stands_part (rw (to_z-of_z z.ranges.track) at a.place_in-start.ensures.stands) refl in
    record {
      result_value = e;
      part = subst (λ (r : List ℤ). Part z.args.records.list.now z.args.records.used z.args.track r) (sym e) (rw (to_z-of_z z.ranges.track) at a.place_in-start.ensures.part);
    }
