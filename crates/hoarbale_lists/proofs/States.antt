-- Which numbers are states.
use borrow.Author.Rules.{rules}
use mathlib.Core.Path.{◌≡◌, refl}
use mathlib.Core.Bool.{◌&&◌}
use Prim.Native.Nat.{zero, suc}
use lib.IntN.{ℤ, pos, negsuc}
use lib.Signed.{le_z}
use Rattle.theory_intervals.specs.OverInt.{ok}
use Rattle.list_areas.specs.Areas.{state_of}

pub state_ok : (s : ℤ) → ok (state_of s) ≡ le_z (pos 1) s && le_z s (pos 2)
state_ok (pos zero) = refl
state_ok (pos (suc zero)) = refl
state_ok (pos (suc (suc zero))) = refl
state_ok (pos (suc (suc (suc n)))) = search rules
state_ok (negsuc n) = refl
