-- `tracks` meets its contract: the last track is above the first.
use mathlib.Core.Path.{◌≡◌, ◌∙◌}
use mathlib.Core.Bool.{true}
use lib.Dec.{T}
use lib.IntN.{ℤ, nat_abs, ◌-ℤ◌}
use lib.Signed.{lt_z, non_neg}
use mir.Facts.{to_z-of_z}
use Rattle.theory_signed.specs.Parts.{gap}
use Rattle.theory_signed.proofs.Laws.{signed, fit16, dif, nn_abs}
use Rattle.list_areas.proofs.Meant.{tracks_of}
use Rattle.list_areas.proofs.Area.tracks.Goals as goal

gap_is : (a b : ℤ) → lt_z a b ≡ true → nat_abs (b -ℤ a) ≡ gap a b
gap_is a b h =
    let d = dif b a in
    let n : T (non_neg (b -ℤ a)) = omega (signed, d) in
    omega (signed, d, nn_abs (b -ℤ a) n)

pub returns : goal.returns
returns c =
    let a = c.args.self in
    c.abs_diff.ensures
    ∙ rw (to_z-of_z (fit16 a.track_start c.struct_told-1.given.0.1), to_z-of_z (fit16 a.track_end c.struct_told-1.given.1.0.1))
    (gap_is a.track_start a.track_end (tracks_of a))
