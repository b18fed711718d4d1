-- `tracks::place_or_none`. Assumes nothing.
use mathlib.Core.Path.{sym, ◌∙◌, subst}
use mathlib.Core.List.{List}
use lib.IntN.{ℤ}
use mir.Facts.{to_z-of_z}
use Rattle.list_tracks.specs.Tracks.{Stands}
use Rattle.list_tracks.proofs.Named.{records_holds, not_taken, part_none, part_some}
use Rattle.list_tracks.proofs.Standing.{stands_none}
use Rattle.list_tracks.proofs.place_or_none.Goals as goal

pub returns-then-not-length_is_good : goal.returns-then-not-length_is_good
returns-then-not-length_is_good c =
    let z = c.args in
    stands_none (not_taken z.list.now z.track (sym c.length_is_good.ensures ∙ c.if-not-length_is_good.true))

pub returns-in_default : goal.returns-in_default
returns-in_default c =
    let k = c.before in
    let z = k.before.before.before in
    stands_none (part_none z.args.list.now z.args.track (sym c.if-not-length_is_good.ensures) (sym k.kept.ensures ∙ c.in_default.is))

pub invariant_of-place_in : goal.invariant_of-place_in
invariant_of-place_in c =
    let k = c.before in
    record { holds = records_holds (sym k.kept.ensures ∙ c.in-Some.is) }

pub returns : goal.returns
returns c =
    let n = c.in-Some in
    let z = c.args in
    let r = c.place_in.result in
    subst (λ (p : List ℤ). Stands z.list.now z.track p r.start r.length)
    (part_some z.list.now z.track (sym c.if-not-length_is_good.ensures) n.used (sym c.kept.ensures ∙ n.is))
    (rw (to_z-of_z c.ranges.track) at c.place_in.ensures.stands)
