-- Linear arithmetic over ℤ by `omega`. A number z of ℤ is the difference `up z - dn z` of two naturals, so each linear fact over ℤ is a linear fact
-- over ℕ, with no range to be known. `omega signed` reads the facts and turns the goals:
--     up, dn        z where z is positive, and -z where it is negative; 0 elsewhere. At `pos n` and `negsuc n` they compute
--     lt_yes ..     what a test of the code tells. of-..     a fact of a contract. g-..     a goal
--     back          of `SFits w z`: what the machine reads back from z's bits is z. sum_back, dif_back, mul_back: of the fact that an operation asks, its result
-- `omega` applies the first rule of the list that fits a fact, and no other: so `sum_back` stands before `back`, `of_eq_sum` before `of_eq`. A rule's
-- premise and its result are one statement each, so a range, two bounds, is one bound of a `max`.
-- Listed where they are wanted: rng (a range), apart (exact values), sum, dif, neg, times (of numbers in a contract), fit16, fit32 (a call's `.ok`, a
-- `.given`), same, differ (`==`, `!=`), of_ne. Assumes nothing.
use mathlib.Core.Path.{◌≡◌, refl, sym, ap, ◌∙◌, subst}
use mathlib.Core.Logic.{◌≢◌}
use mathlib.Core.Bool.{Bool, true, false, cond, ◌&&◌}
use Prim.Native.Nat.{ℕ, zero, suc, ◌+◌, ◌-◌, ◌*◌, ◌^◌, ◌≤◌, ◌<◌, min, max}
use native.Mathlib.Omega.{arith}
use native.Mathlib.Nat.{lt_of_lt_of_le}
use lib.Pow.{pow_pos, pow_mono}
use lib.Dec.{T, ltb}
use lib.IntN.{ℤ, pos, negsuc, ◌+ℤ◌, ◌-ℤ◌, ◌*ℤ◌, neg_ℤ, nat_abs, sub_ℕ}
use lib.Signed.{mag, lt_z, le_z, non_neg, ◌≤ℤ◌, ◌<ℤ◌}
use borrow.Author.Tests.{ltb-true, ltb-false, leb-true, leb-false, lt-ltb, le-ltb, le-leb, lt-leb}
use mir.Syntax.{Width, w8, w16, w32, w64, w128}
use mir.Val.{SFits, Fits, to_z, of_z, sel, bits, hbits}
use mir.ValLaws as L
use Rattle.theory_signed.specs.Parts.{up, dn, eq_z}

-- ---- a test, or an order, in hand
pub lt_yes : (a b : ℤ) → lt_z a b ≡ true → up a + dn b < up b + dn a
lt_yes (pos a) (pos b) e = let h = ltb-true a b e in omega arith
lt_yes (pos a) (negsuc b) e = absurd (subst T (sym e) tt)
lt_yes (negsuc a) (pos b) e = omega arith
lt_yes (negsuc a) (negsuc b) e = let h = ltb-true b a e in omega arith

pub lt_no : (a b : ℤ) → lt_z a b ≡ false → up b + dn a ≤ up a + dn b
lt_no (pos a) (pos b) e = let h = ltb-false a b e in omega arith
lt_no (pos a) (negsuc b) e = omega arith
lt_no (negsuc a) (pos b) e = absurd (subst T e tt)
lt_no (negsuc a) (negsuc b) e = let h = ltb-false b a e in omega arith

pub le_yes : (a b : ℤ) → le_z a b ≡ true → up a + dn b ≤ up b + dn a
le_yes (pos a) (pos b) e = let h = leb-true a b e in omega arith
le_yes (pos a) (negsuc b) e = absurd (subst T (sym e) tt)
le_yes (negsuc a) (pos b) e = omega arith
le_yes (negsuc a) (negsuc b) e = let h = leb-true b a e in omega arith

pub le_no : (a b : ℤ) → le_z a b ≡ false → up b + dn a < up a + dn b
le_no (pos a) (pos b) e = let h = leb-false a b e in omega arith
le_no (pos a) (negsuc b) e = omega arith
le_no (negsuc a) (pos b) e = absurd (subst T e tt)
le_no (negsuc a) (negsuc b) e = let h = leb-false b a e in omega arith

is_true : (t : Bool) → T t → t ≡ true
is_true true h = refl
is_true false h = absurd h

pub of_lt : (a b : ℤ) → a <ℤ b → up a + dn b < up b + dn a
of_lt a b h = lt_yes a b (is_true (lt_z a b) h.lt)

pub of_le : (a b : ℤ) → a ≤ℤ b → up a + dn b ≤ up b + dn a
of_le a b h = le_yes a b (is_true (le_z a b) h.le)

pub of_eq : (a b : ℤ) → a ≡ b → up a + dn b ≡ up b + dn a
of_eq a b e = let u = ap up e in let d = ap dn e in omega arith

-- by cases on a test, for a definition that goes by one
pub by_test : (b : Bool) (P : Bool → Type 0) → (b ≡ true → P true) → (b ≡ false → P false) → P b
by_test true P f g = f refl
by_test false P f g = g refl

-- ---- an order, or an equation, to be shown
pub g_eq : (a b : ℤ) → up a + dn b ≡ up b + dn a → a ≡ b
g_eq (pos a) (pos b) h = ap pos (omega arith)
g_eq (pos a) (negsuc b) h = let z : ⊥ = omega arith in absurd z
g_eq (negsuc a) (pos b) h = let z : ⊥ = omega arith in absurd z
g_eq (negsuc a) (negsuc b) h = ap negsuc (omega arith)

-- unequal. No rule, since its last argument is a function: listed with its arguments
pub of_ne : (a b : ℤ) → (a ≡ b → ⊥) → up a + dn b ≢ up b + dn a
of_ne a b n h = n (g_eq a b h)

pub g_lt_true : (a b : ℤ) → up a + dn b < up b + dn a → lt_z a b ≡ true
g_lt_true (pos a) (pos b) h = lt-ltb a b (omega arith)
g_lt_true (pos a) (negsuc b) h = let z : ⊥ = omega arith in absurd z
g_lt_true (negsuc a) (pos b) h = refl
g_lt_true (negsuc a) (negsuc b) h = lt-ltb b a (omega arith)

pub g_lt_false : (a b : ℤ) → up b + dn a ≤ up a + dn b → lt_z a b ≡ false
g_lt_false (pos a) (pos b) h = le-ltb a b (omega arith)
g_lt_false (pos a) (negsuc b) h = refl
g_lt_false (negsuc a) (pos b) h = let z : ⊥ = omega arith in absurd z
g_lt_false (negsuc a) (negsuc b) h = le-ltb b a (omega arith)

pub g_le_true : (a b : ℤ) → up a + dn b ≤ up b + dn a → le_z a b ≡ true
g_le_true (pos a) (pos b) h = le-leb a b (omega arith)
g_le_true (pos a) (negsuc b) h = let z : ⊥ = omega arith in absurd z
g_le_true (negsuc a) (pos b) h = refl
g_le_true (negsuc a) (negsuc b) h = le-leb b a (omega arith)

pub g_le_false : (a b : ℤ) → up b + dn a < up a + dn b → le_z a b ≡ false
g_le_false (pos a) (pos b) h = lt-leb a b (omega arith)
g_le_false (pos a) (negsuc b) h = refl
g_le_false (negsuc a) (pos b) h = let z : ⊥ = omega arith in absurd z
g_le_false (negsuc a) (negsuc b) h = lt-leb b a (omega arith)

pub g_lt : (a b : ℤ) → up a + dn b < up b + dn a → a <ℤ b
g_lt a b h = record { lt = subst T (sym (g_lt_true a b h)) tt }

pub g_le : (a b : ℤ) → up a + dn b ≤ up b + dn a → a ≤ℤ b
g_le a b h = record { le = subst T (sym (g_le_true a b h)) tt }

pub eq_yes : (a b : ℤ) → up a + dn b ≡ up b + dn a → eq_z a b ≡ true
eq_yes a b h = rw (g_le_true a b (omega arith), g_le_true b a (omega arith))

pub eq_no : (a b : ℤ) → up a + dn b ≢ up b + dn a → eq_z a b ≡ false
eq_no a b n = by_test (le_z a b) (λ t. (t && le_z b a) ≡ false) (λ e. let h = le_yes a b e in g_le_false b a (omega arith)) (λ e. refl)

-- what the test tells
pub eq_of : (a b : ℤ) → eq_z a b ≡ true → a ≡ b
eq_of a b e = by_test (le_z a b) (λ t. t && le_z b a ≡ true → a ≡ b) (λ p q. let h = le_yes a b p in let k = le_yes b a q in g_eq a b (omega arith)) (λ p q. absurd (subst T (sym q) tt)) e

-- ---- ranges
pub fits_up : (w : Width) (z : ℤ) → SFits w z → up z < 2 ^ hbits w
fits_up w (pos n) f = f.sfits
fits_up w (negsuc n) f = let h = f.sfits in omega arith

pub fits_dn : (w : Width) (z : ℤ) → SFits w z → dn z ≤ 2 ^ hbits w
fits_dn w (pos n) f = omega arith
fits_dn w (negsuc n) f = f.sfits

pub g_fits : (w : Width) (z : ℤ) → max (suc (up z + up z)) (dn z + dn z) ≤ 2 ^ hbits w + (up z + dn z) → SFits w z
g_fits w (pos n) h = record { sfits = omega arith }
g_fits w (negsuc n) h = record { sfits = omega arith }

-- what the machine reads back
pub back : (w : Width) (z : ℤ) → SFits w z → up (to_z w (of_z w z)) + dn z ≡ up z + dn (to_z w (of_z w z))
back w z f = let e = of_eq _ _ (L.to_z-of_z w z f) in omega arith

-- ---- sums
sub_law : (a b : ℕ) → up (sub_ℕ a b) + b ≡ dn (sub_ℕ a b) + a
sub_law a b = by (ltb a b) (ltb-true a b) (ltb-false a b)
  where
    by : (c : Bool) → (c ≡ true → a < b) → (c ≡ false → b ≤ a) → up (cond c (negsuc (b - suc a)) (pos (a - b))) + b ≡ dn (cond c (negsuc (b - suc a)) (pos (a - b))) + a
    by true f g = let h = f refl in omega arith
    by false f g = let h = g refl in omega arith

pub sum : (a b : ℤ) → up (a +ℤ b) + (dn a + dn b) ≡ dn (a +ℤ b) + (up a + up b)
sum (pos a) (pos b) = omega arith
sum (pos a) (negsuc b) = omega (arith, sub_law a (suc b))
sum (negsuc a) (pos b) = omega (arith, sub_law b (suc a))
sum (negsuc a) (negsuc b) = omega arith

pub neg_up : (a : ℤ) → up (neg_ℤ a) ≡ dn a
neg_up (pos zero) = refl
neg_up (pos (suc n)) = refl
neg_up (negsuc n) = refl

pub neg_dn : (a : ℤ) → dn (neg_ℤ a) ≡ up a
neg_dn (pos zero) = refl
neg_dn (pos (suc n)) = refl
neg_dn (negsuc n) = refl

-- a number is not on both sides of 0: for what is exact, as `nat_abs`, and not a difference
pub apart : (z : ℤ) → min (up z) (dn z) ≡ 0
apart (pos n) = omega arith
apart (negsuc n) = omega arith

pub dif : (a b : ℤ) → up (a -ℤ b) + (dn a + up b) ≡ dn (a -ℤ b) + (up a + dn b)
dif a b = omega (arith, sum a (neg_ℤ b), neg_up b, neg_dn b)

-- the machine's sum and difference, read back, in terms of the operands: of the fact that the operation asks
pub sum_back : (w : Width) (a b : ℤ) → SFits w (a +ℤ b) → up (to_z w (of_z w (a +ℤ b))) + (dn a + dn b) ≡ dn (to_z w (of_z w (a +ℤ b))) + (up a + up b)
sum_back w a b f = omega (arith, back w (a +ℤ b) f, sum a b)

pub dif_back : (w : Width) (a b : ℤ) → SFits w (a -ℤ b) → up (to_z w (of_z w (a -ℤ b))) + (dn a + up b) ≡ dn (to_z w (of_z w (a -ℤ b))) + (up a + dn b)
dif_back w a b f = omega (arith, back w (a -ℤ b) f, dif a b)

pub record Neg (a : ℤ) : Type 0 where
  pub up_is : up (neg_ℤ a) ≡ dn a
  pub dn_is : dn (neg_ℤ a) ≡ up a

pub neg : (a : ℤ) → Neg a
neg a = record { up_is = neg_up a; dn_is = neg_dn a }

-- a multiple by a natural number
pub record Times (a : ℤ) (k : ℕ) : Type 0 where
  pub up_is : up (a *ℤ pos k) ≡ up a * k
  pub dn_is : dn (a *ℤ pos k) ≡ dn a * k

pub times : (a : ℤ) (k : ℕ) → Times a k
times (pos a) k = record { up_is = refl; dn_is = omega arith }
times (negsuc a) k = record { up_is = omega (arith, neg_up (pos (suc a * k))); dn_is = neg_dn (pos (suc a * k)) }

pub mul_back : (w : Width) (a : ℤ) (k : ℕ) → SFits w (a *ℤ pos k) → up (to_z w (of_z w (a *ℤ pos k))) + dn a * k ≡ dn (to_z w (of_z w (a *ℤ pos k))) + up a * k
mul_back w a k f = omega (arith, back w (a *ℤ pos k) f, times a k)

pub of_eq_mul : (r a : ℤ) (k : ℕ) → r ≡ a *ℤ pos k → up r + dn a * k ≡ dn r + up a * k
of_eq_mul r a k e = omega (arith, of_eq r (a *ℤ pos k) e, times a k)

pub g_eq_mul : (r a : ℤ) (k : ℕ) → up r + dn a * k ≡ dn r + up a * k → r ≡ a *ℤ pos k
g_eq_mul r a k h = g_eq r (a *ℤ pos k) (omega (arith, times a k))

pub g_fits_mul : (w : Width) (a : ℤ) (k : ℕ) → max (suc (up a * k + up a * k)) (dn a * k + dn a * k) ≤ 2 ^ hbits w + (up a * k + dn a * k) → SFits w (a *ℤ pos k)
g_fits_mul w a k h = g_fits w (a *ℤ pos k) (omega (arith, times a k))

-- an equation with a sum, a difference or a negation, as a callee's `ensures` or a `requires` gives it
pub of_eq_sum : (r a b : ℤ) → r ≡ a +ℤ b → up r + (dn a + dn b) ≡ dn r + (up a + up b)
of_eq_sum r a b e = omega (arith, of_eq r (a +ℤ b) e, sum a b)

pub of_eq_dif : (r a b : ℤ) → r ≡ a -ℤ b → up r + (dn a + up b) ≡ dn r + (up a + dn b)
of_eq_dif r a b e = omega (arith, of_eq r (a -ℤ b) e, dif a b)

pub of_eq_neg : (r a : ℤ) → r ≡ neg_ℤ a → up r + up a ≡ dn r + dn a
of_eq_neg r a e = omega (arith, of_eq r (neg_ℤ a) e, neg_up a, neg_dn a)

-- an order with a sum or a difference on one side, in hand and to be shown
pub of_le_sum_l : (a b x : ℤ) → (a +ℤ b) ≤ℤ x → (up a + up b) + dn x ≤ up x + (dn a + dn b)
of_le_sum_l a b x h = omega (arith, of_le (a +ℤ b) x h, sum a b)

pub g_le_sum_l : (a b x : ℤ) → (up a + up b) + dn x ≤ up x + (dn a + dn b) → (a +ℤ b) ≤ℤ x
g_le_sum_l a b x h = g_le (a +ℤ b) x (omega (arith, sum a b))

pub of_le_sum_r : (a b x : ℤ) → x ≤ℤ (a +ℤ b) → up x + (dn a + dn b) ≤ (up a + up b) + dn x
of_le_sum_r a b x h = omega (arith, of_le x (a +ℤ b) h, sum a b)

pub g_le_sum_r : (a b x : ℤ) → up x + (dn a + dn b) ≤ (up a + up b) + dn x → x ≤ℤ (a +ℤ b)
g_le_sum_r a b x h = g_le x (a +ℤ b) (omega (arith, sum a b))

pub of_le_dif_l : (a b x : ℤ) → (a -ℤ b) ≤ℤ x → (up a + dn b) + dn x ≤ up x + (dn a + up b)
of_le_dif_l a b x h = omega (arith, of_le (a -ℤ b) x h, dif a b)

pub g_le_dif_l : (a b x : ℤ) → (up a + dn b) + dn x ≤ up x + (dn a + up b) → (a -ℤ b) ≤ℤ x
g_le_dif_l a b x h = g_le (a -ℤ b) x (omega (arith, dif a b))

pub of_le_dif_r : (a b x : ℤ) → x ≤ℤ (a -ℤ b) → up x + (dn a + up b) ≤ (up a + dn b) + dn x
of_le_dif_r a b x h = omega (arith, of_le x (a -ℤ b) h, dif a b)

pub g_le_dif_r : (a b x : ℤ) → up x + (dn a + up b) ≤ (up a + dn b) + dn x → x ≤ℤ (a -ℤ b)
g_le_dif_r a b x h = g_le x (a -ℤ b) (omega (arith, dif a b))

pub of_lt_sum_l : (a b x : ℤ) → (a +ℤ b) <ℤ x → (up a + up b) + dn x < up x + (dn a + dn b)
of_lt_sum_l a b x h = omega (arith, of_lt (a +ℤ b) x h, sum a b)

pub g_lt_sum_l : (a b x : ℤ) → (up a + up b) + dn x < up x + (dn a + dn b) → (a +ℤ b) <ℤ x
g_lt_sum_l a b x h = g_lt (a +ℤ b) x (omega (arith, sum a b))

pub of_lt_sum_r : (a b x : ℤ) → x <ℤ (a +ℤ b) → up x + (dn a + dn b) < (up a + up b) + dn x
of_lt_sum_r a b x h = omega (arith, of_lt x (a +ℤ b) h, sum a b)

pub g_lt_sum_r : (a b x : ℤ) → up x + (dn a + dn b) < (up a + up b) + dn x → x <ℤ (a +ℤ b)
g_lt_sum_r a b x h = g_lt x (a +ℤ b) (omega (arith, sum a b))

pub of_lt_dif_l : (a b x : ℤ) → (a -ℤ b) <ℤ x → (up a + dn b) + dn x < up x + (dn a + up b)
of_lt_dif_l a b x h = omega (arith, of_lt (a -ℤ b) x h, dif a b)

pub g_lt_dif_l : (a b x : ℤ) → (up a + dn b) + dn x < up x + (dn a + up b) → (a -ℤ b) <ℤ x
g_lt_dif_l a b x h = g_lt (a -ℤ b) x (omega (arith, dif a b))

pub of_lt_dif_r : (a b x : ℤ) → x <ℤ (a -ℤ b) → up x + (dn a + up b) < (up a + dn b) + dn x
of_lt_dif_r a b x h = omega (arith, of_lt x (a -ℤ b) h, dif a b)

pub g_lt_dif_r : (a b x : ℤ) → up x + (dn a + up b) < (up a + dn b) + dn x → x <ℤ (a -ℤ b)
g_lt_dif_r a b x h = g_lt x (a -ℤ b) (omega (arith, dif a b))

-- a sum or a difference to be shown equal, or to fit
pub g_eq_sum : (r a b : ℤ) → up r + (dn a + dn b) ≡ dn r + (up a + up b) → r ≡ a +ℤ b
g_eq_sum r a b h = g_eq r (a +ℤ b) (omega (arith, sum a b))

pub g_eq_dif : (r a b : ℤ) → up r + (dn a + up b) ≡ dn r + (up a + dn b) → r ≡ a -ℤ b
g_eq_dif r a b h = g_eq r (a -ℤ b) (omega (arith, dif a b))

pub g_eq_neg : (r a : ℤ) → up r + up a ≡ dn r + dn a → r ≡ neg_ℤ a
g_eq_neg r a h = g_eq r (neg_ℤ a) (omega (arith, neg_up a, neg_dn a))

pub g_fits_sum : (w : Width) (a b : ℤ) → max (suc (up a + up b + (up a + up b))) (dn a + dn b + (dn a + dn b)) ≤ 2 ^ hbits w + (up a + up b + (dn a + dn b)) → SFits w (a +ℤ b)
g_fits_sum w a b h = g_fits w (a +ℤ b) (omega (arith, sum a b))

pub g_fits_dif : (w : Width) (a b : ℤ) → max (suc (up a + dn b + (up a + dn b))) (dn a + up b + (dn a + up b)) ≤ 2 ^ hbits w + (up a + dn b + (dn a + up b)) → SFits w (a -ℤ b)
g_fits_dif w a b h = g_fits w (a -ℤ b) (omega (arith, dif a b))

-- the same, of three numbers
pub of_eq_dd : (r a b c : ℤ) → r ≡ a -ℤ b -ℤ c → up r + (dn a + up b + up c) ≡ dn r + (up a + dn b + dn c)
of_eq_dd r a b c e = omega (arith, of_eq r (a -ℤ b -ℤ c) e, dif a b, dif (a -ℤ b) c)

pub g_eq_dd : (r a b c : ℤ) → up r + (dn a + up b + up c) ≡ dn r + (up a + dn b + dn c) → r ≡ a -ℤ b -ℤ c
g_eq_dd r a b c h = g_eq r (a -ℤ b -ℤ c) (omega (arith, dif a b, dif (a -ℤ b) c))

pub of_eq_ds : (r a b c : ℤ) → r ≡ a -ℤ b +ℤ c → up r + (dn a + up b + dn c) ≡ dn r + (up a + dn b + up c)
of_eq_ds r a b c e = omega (arith, of_eq r (a -ℤ b +ℤ c) e, dif a b, sum (a -ℤ b) c)

pub g_eq_ds : (r a b c : ℤ) → up r + (dn a + up b + dn c) ≡ dn r + (up a + dn b + up c) → r ≡ a -ℤ b +ℤ c
g_eq_ds r a b c h = g_eq r (a -ℤ b +ℤ c) (omega (arith, dif a b, sum (a -ℤ b) c))

pub of_eq_sd : (r a b c : ℤ) → r ≡ a +ℤ b -ℤ c → up r + (dn a + dn b + up c) ≡ dn r + (up a + up b + dn c)
of_eq_sd r a b c e = omega (arith, of_eq r (a +ℤ b -ℤ c) e, sum a b, dif (a +ℤ b) c)

pub g_eq_sd : (r a b c : ℤ) → up r + (dn a + dn b + up c) ≡ dn r + (up a + up b + dn c) → r ≡ a +ℤ b -ℤ c
g_eq_sd r a b c h = g_eq r (a +ℤ b -ℤ c) (omega (arith, sum a b, dif (a +ℤ b) c))

pub of_eq_ss : (r a b c : ℤ) → r ≡ a +ℤ b +ℤ c → up r + (dn a + dn b + dn c) ≡ dn r + (up a + up b + up c)
of_eq_ss r a b c e = omega (arith, of_eq r (a +ℤ b +ℤ c) e, sum a b, sum (a +ℤ b) c)

pub g_eq_ss : (r a b c : ℤ) → up r + (dn a + dn b + dn c) ≡ dn r + (up a + up b + up c) → r ≡ a +ℤ b +ℤ c
g_eq_ss r a b c h = g_eq r (a +ℤ b +ℤ c) (omega (arith, sum a b, sum (a +ℤ b) c))

-- ---- to unsigned
pub nn_abs : (z : ℤ) → T (non_neg z) → nat_abs z + dn z ≡ up z
nn_abs (pos n) t = omega arith
nn_abs (negsuc n) t = absurd t

pub g_nn : (z : ℤ) → dn z ≤ up z → T (non_neg z)
g_nn (pos n) h = tt
g_nn (negsuc n) h = let z : ⊥ = omega arith in absurd z

pub g_abs : (w : Width) (z : ℤ) → max (dn z + dn z + 2 ^ bits w) (suc (up z + up z)) ≤ 2 ^ bits w + (up z + dn z) → Fits w (nat_abs z)
g_abs w (pos n) h = record { fits = omega arith }
g_abs w (negsuc n) h = let z : ⊥ = omega arith in absurd z

-- ---- what is listed where it is wanted
-- the range of what fits
pub record Range (w : Width) (z : ℤ) : Type 0 where
  pub hi : up z < 2 ^ hbits w
  pub lo : dn z ≤ 2 ^ hbits w

pub rng : {w : Width} {z : ℤ} → SFits w z → Range w z
rng {w} {z} f = record { hi = fits_up w z f; lo = fits_dn w z f }

-- a call's `.ok`, and what is given of an element of a slice or a field of a struct, as the record that the rules read
pub fit16 : (z : ℤ) → mag z < 32768 → SFits w16 z
fit16 z h = record { sfits = h }

pub fit32 : (z : ℤ) → mag z < 2147483648 → SFits w32 z
fit32 z h = record { sfits = h }

-- `==` and `!=` of two signed numbers tell of their bits
pub same : {w : Width} {a b : ℤ} → SFits w a → SFits w b → of_z w a ≡ of_z w b → a ≡ b
same {w} {a} {b} f g e = sym (L.to_z-of_z w a f) ∙ (ap (to_z w) e ∙ L.to_z-of_z w b g)

pub differ : (w : Width) (a b : ℤ) → (of_z w a ≡ of_z w b → ⊥) → up a + dn b ≢ up b + dn a
differ w a b n e = n (ap (of_z w) (g_eq a b e))

-- what a narrower signed type's bits read as fits a wider one, whatever the bits
half : (w : Width) → hbits w ≤ bits w
half w8 = omega arith
half w16 = omega arith
half w32 = omega arith
half w64 = omega arith
half w128 = omega arith

sel_fits : (w w' : Width) (n : ℕ) (b : Bool) → (b ≡ true → n < 2 ^ bits w) → 2 ^ bits w ≤ 2 ^ hbits w' → 0 < 2 ^ bits w → SFits w' (sel b (pos n) (negsuc (2 ^ bits w - suc n)))
sel_fits w w' n true f h z = let k = f refl in record { sfits = omega arith }
sel_fits w w' n false f h z = record { sfits = omega arith }

pub wide : (w w' : Width) (n : ℕ) → bits w ≤ hbits w' → SFits w' (to_z w n)
wide w w' n h = sel_fits w w' n (ltb n (2 ^ hbits w)) (λ e. lt_of_lt_of_le (ltb-true n (2 ^ hbits w) e) (pow_mono (half w))) (pow_mono h) (pow_pos (bits w))

pub g_wide_16_32 : (n : ℕ) → 0 ≤ n → SFits w32 (to_z w16 n)
g_wide_16_32 n h = wide w16 w32 n (omega arith)

pub g_wide_16_64 : (n : ℕ) → 0 ≤ n → SFits w64 (to_z w16 n)
g_wide_16_64 n h = wide w16 w64 n (omega arith)

pub g_wide_32_64 : (n : ℕ) → 0 ≤ n → SFits w64 (to_z w32 n)
g_wide_32_64 n h = wide w32 w64 n (omega arith)

pub ruleset signed = (arith, lt_yes, lt_no, le_yes, le_no, of_le_dif_l, of_le_dif_r, of_lt_dif_l, of_lt_dif_r, of_le_sum_l, of_le_sum_r, of_lt_sum_l, of_lt_sum_r, of_lt, of_le, of_eq_dd, of_eq_ds, of_eq_sd, of_eq_ss, of_eq_dif, of_eq_sum, of_eq_neg, of_eq_mul, of_eq, eq_yes, eq_no, g_eq_dd, g_eq_ds, g_eq_sd, g_eq_ss, g_eq_dif, g_eq_sum, g_eq_neg, g_eq_mul, g_eq, g_lt_true, g_lt_false, g_le_true, g_le_false, g_le_dif_l, g_le_dif_r, g_lt_dif_l, g_lt_dif_r, g_le_sum_l, g_le_sum_r, g_lt_sum_l, g_lt_sum_r, g_lt, g_le, g_wide_16_32, g_wide_16_64, g_wide_32_64, g_fits_dif, g_fits_sum, g_fits_mul, g_fits, dif_back, sum_back, mul_back, back, nn_abs, g_nn, g_abs)
