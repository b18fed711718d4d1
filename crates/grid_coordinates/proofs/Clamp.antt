-- Clamping, read by `omega`: one linear equation.
use mathlib.Core.Path.{◌≡◌, sym}
use mathlib.Core.Bool.{cond}
use Prim.Native.Nat.{◌+◌, ◌-◌, min}
use native.Mathlib.Omega.{arith}
use lib.IntN.{ℤ, pos}
use lib.Signed.{lt_z, ◌≤ℤ◌}
use Rattle.std.specs.Int.{int_max, int_min}
use Rattle.std.specs.Ordering.{int_eq, is_eq}
use Rattle.std.proofs.Common.{Less, Greater, Equal}
use Rattle.std.proofs.lemmas.Int.{ints}
use Rattle.theory_signed.specs.Parts.{up, dn, eq_z}
use Rattle.theory_signed.proofs.Laws.{signed, by_test, lt_yes, lt_no, eq_yes, eq_no}
use Rattle.grid_coordinates.specs.Line.{clamp_to, lowest, highest}

-- r's distance from lo is that of z, 0 where z is below lo, and at most that of hi
abbrev pub Clamped : ℤ → ℤ → ℤ → ℤ → Type 0
Clamped lo hi z r = up r + dn lo ≡ dn r + up lo + min (up z + dn lo - (dn z + up lo)) (up hi + dn lo - (dn hi + up lo))

pub clamp_is : (lo hi z : ℤ) → lo ≤ℤ hi → Clamped lo hi z (clamp_to lo hi z)
unfolding clamp_to
clamp_is lo hi z h =
    by_test (lt_z z lo) (λ b. Clamped lo hi z (cond b lo (cond (lt_z hi z) hi z))) (λ e. omega signed)
    (λ e. by_test (lt_z hi z) (λ b. Clamped lo hi z (cond b hi z)) (λ f. omega signed) (λ f. omega signed))

pub grid_line : (z : ℤ) → Clamped lowest highest z (clamp_to lowest highest z)
grid_line z = clamp_is lowest highest z (omega signed)

pub start_line : (z : ℤ) → Clamped lowest (pos 9999) z (clamp_to lowest (pos 9999) z)
start_line z = clamp_is lowest (pos 9999) z (omega signed)

-- what the library's `clamp` gives
pub clamped_by : (lo hi z : ℤ) → lo ≤ℤ hi → int_max lo (int_min z hi) ≡ clamp_to lo hi z
unfolding clamp_to
clamped_by lo hi z h = grind (arith, ints)

-- and its `==`
pub equal_by : (a b : ℤ) → int_eq a b ≡ eq_z a b
equal_by a b =
    by_test (lt_z a b) (λ t. is_eq (cond t Less (cond (lt_z b a) Greater Equal)) ≡ eq_z a b) (λ e. sym (eq_no a b (let h = lt_yes a b e in omega arith)))
    (λ e. by_test (lt_z b a) (λ t. is_eq (cond t Greater Equal) ≡ eq_z a b) (λ f. sym (eq_no a b (let h = lt_yes b a f in omega arith)))
    (λ f. sym (eq_yes a b (let h = lt_no a b e in let k = lt_no b a f in omega arith))))
