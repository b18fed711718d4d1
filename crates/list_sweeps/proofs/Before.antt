-- The step of a loop that goes through tracks from the last to the first.
use mathlib.Core.Path.{◌≡◌}
use mathlib.Core.Bool.{true, false}
use lib.IntN.{ℤ, pos, ◌-ℤ◌}
use lib.Signed.{lt_z}
use mir.Syntax.{w16}
use mir.Val.{SFits}
use mir.Facts.{to_z-of_z}
use Rattle.theory_signed.proofs.Laws.{signed, rng}
use Rattle.list_pieces.proofs.Bits.{ζ}

-- the track before t is a line, where t is one of those behind t₁ up to t₂
pub track_before : (t₁ t₂ t : ℤ) → SFits w16 t₁ → SFits w16 t₂ → lt_z t₁ t ≡ true → lt_z t₂ t ≡ false → ζ (t -ℤ pos 1) ≡ t -ℤ pos 1
track_before t₁ t₂ t f g more high = let h : SFits w16 (t -ℤ pos 1) = omega (signed, more, high, rng f, rng g) in to_z-of_z h
