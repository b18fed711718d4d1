-- What `omega signed` proves, each as a theorem.
use mathlib.Core.Path.{◌≡◌, refl}
use mathlib.Core.Bool.{true, false}
use Prim.Native.Nat.{ℕ}
use lib.IntN.{ℤ, pos, negsuc, neg_ℤ, ◌+ℤ◌, ◌-ℤ◌, ◌*ℤ◌}
use lib.Signed.{lt_z, le_z, ◌≤ℤ◌, ◌<ℤ◌}
use mir.Syntax.{w16, w32}
use mir.Val.{SFits, to_z, of_z}
use Rattle.theory_signed.specs.Parts.{up, eq_z}
use Rattle.theory_signed.proofs.Laws.{signed, rng, dif, apart, of_ne}

literal : neg_ℤ (pos 10000) ≡ negsuc 9999
literal = refl

chain : (x y : ℤ) → x ≤ℤ y → y <ℤ pos 5 → x ≤ℤ pos 4
chain x y h k = omega signed

tests : (x y : ℤ) → lt_z x y ≡ false → le_z x y ≡ true → x ≡ y
tests x y h k = omega signed

not_zero : (z : ℤ) → (z ≡ pos 0 → ⊥) → pos 0 ≤ℤ z → pos 1 ≤ℤ z
not_zero z n h = omega (signed, of_ne z (pos 0) n)

is_not : (x y : ℤ) → x <ℤ y → x ≡ y → ⊥
is_not x y h = omega signed

same_test : (x y : ℤ) → x ≤ℤ y → y ≤ℤ x → eq_z x y ≡ true
same_test x y h k = omega signed

fits_sum : (x y : ℤ) → negsuc 9999 ≤ℤ x → x ≤ℤ pos 10000 → negsuc 9999 ≤ℤ y → y ≤ℤ pos 10000 → SFits w16 (x +ℤ y)
fits_sum x y a b c d = omega signed

wider : (x : ℤ) → SFits w16 x → SFits w32 (x -ℤ pos 7)
wider x f = omega (signed, rng f)

read_back : (x : ℤ) → SFits w16 x → to_z w16 (of_z w16 x) ≡ x
read_back x f = omega signed

regroup : (x y z : ℤ) → z ≡ x +ℤ y → z -ℤ y ≡ x
regroup x y z e = omega (signed, dif z y)

order_sum : (x y : ℤ) → (x +ℤ pos 3) ≤ℤ y → x <ℤ (y -ℤ pos 2)
order_sum x y h = omega signed

twice : (x y : ℤ) → y ≡ x *ℤ pos 2 → pos 0 ≤ℤ x → x ≤ℤ y
twice x y e h = omega signed

natural : (x : ℤ) (n : ℕ) → x ≡ pos n → up x ≡ n
natural x n e = omega (signed, apart x)

other_test : (x y : ℤ) → x <ℤ y → eq_z x y ≡ false
other_test x y h = omega signed

three : (x y z r : ℤ) → r ≡ x -ℤ y +ℤ z → x ≡ r +ℤ y -ℤ z
three x y z r e = omega signed
