-- What it says of an area's numbers that the area can be painted.
use mathlib.Core.Path.{◌≡◌, refl, ap, ◌∙◌}
use mathlib.Core.Bool.{true}
use lib.IntN.{ℤ, pos, negsuc}
use lib.Signed.{lt_z}
use mir.Syntax.{w16}
use mir.Val.{of_z}
use Rattle.theory_intervals.specs.OverInt.{ok, fit}
use Rattle.theory_intervals.proofs.Line.{◌≺◌, no_both}
use Rattle.theory_intervals.proofs.Grid.{and₃}
use Rattle.theory_intervals.proofs.Tracks.{OK}
use Rattle.list_areas.specs.Areas.{state_of, area_of}

-- a good area along the track: start before end, and a state of a record
pub record Good (a b s : ℤ) : Type 0 where
  pub less : ◌≺◌ lt_z a b
  pub state : OK (of_z w16 s)

-- a state is its own bits
bits : (z : ℤ) → ok (state_of z) ≡ true → of_z w16 z ≡ state_of z
bits (pos n) h = refl
bits (negsuc n) h = no_both h refl

module _ (t₁ t₂ a b s : ℤ) (fits : fit (area_of t₁ t₂ a b s) ≡ true) where
  parts : (lt_z t₁ t₂ ≡ true) × (lt_z a b ≡ true) × (ok (state_of s) ≡ true)
  parts = and₃ (lt_z t₁ t₂) (lt_z a b) (ok (state_of s)) fits

  pub tracks : lt_z t₁ t₂ ≡ true
  tracks = parts.0

  pub state_bits : of_z w16 s ≡ state_of s
  state_bits = bits s parts.2

  pub good : Good a b s
  good = record { less = record { lt = parts.1 }; state = record { is = ap ok state_bits ∙ parts.2 } }
