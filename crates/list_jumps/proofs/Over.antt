-- What is done over the tracks of a span: those that change nothing may be left out.
use Rattle.std.specs.Prelude.{None, Option, ℤ}
use mathlib.Core.Path.{◌≡◌, refl, sym, ap, ◌∙◌}
use Prim.Native.Nat.{ℕ, zero, suc, ◌<◌, ◌≤◌}
use native.Mathlib.Omega.{arith}
use native.Mathlib.Decide.{dec_lt}
use lib.IntN.{ℤ, pos, ◌+ℤ◌}
use lib.Signed.{◌≤ℤ◌, ◌<ℤ◌}
use Rattle.theory_signed.proofs.Laws.{signed, sum}
use Rattle.theory_signed.specs.Parts.{gap}
use Rattle.theory_intervals.specs.OverInt.{span}
use Rattle.theory_intervals.proofs.Spans.{span_none, span_cons}
use Rattle.list_jumps.specs.Calls.{over}

module _ (f : ℤ → Option ℤ → Option ℤ) where
  -- tracks that change nothing may be left out in front
  skip_low : (n : ℕ) (a c b : ℤ) → gap a c ≤ n → a ≤ℤ c → ((t : ℤ) → a ≤ℤ t → t <ℤ c → (j : Option ℤ) → f t j ≡ j) → over f (span a b) ≡ over f (span c b)
  skip_low zero a c b m h k = let e : a ≡ c = omega signed in ap (λ (z : ℤ). over f (span z b)) e
  skip_low (suc n) a c b m h k = go (dec_lt 0 (gap a c)) (dec_lt 0 (gap a b)) (λ d e y x. skip_low n d c b (omega signed) (omega signed) x)
    where
      go : Dec (0 < gap a c) → Dec (0 < gap a b)
          → ((d : ℤ) → d ≡ a +ℤ pos 1 → 0 < gap a c → ((t : ℤ) → d ≤ℤ t → t <ℤ c → (j : Option ℤ) → f t j ≡ j) → over f (span d b) ≡ over f (span c b))
          → over f (span a b) ≡ over f (span c b)
      go (no x) y r = let e : a ≡ c = omega signed in ap (λ (z : ℤ). over f (span z b)) e
      go (yes x) (no y) r = ap (over f) (span_none a b (omega signed) ∙ sym (span_none c b (omega signed)))
      go (yes x) (yes y) r =
          ap (over f) (span_cons a (a +ℤ pos 1) b refl (omega signed)) ∙ k a (omega signed) (omega signed) (over f (span (a +ℤ pos 1) b))
          ∙ r (a +ℤ pos 1) refl x (λ t p q. k t (omega (signed, sum a (pos 1))) q)

  pub skip_front : (a c b : ℤ) → a ≤ℤ c → ((t : ℤ) → a ≤ℤ t → t <ℤ c → (j : Option ℤ) → f t j ≡ j) → over f (span a b) ≡ over f (span c b)
  skip_front a c b = skip_low (gap a c) a c b (omega arith)

  pub all_free : (a b : ℤ) → ((t : ℤ) → a ≤ℤ t → t <ℤ b → (j : Option ℤ) → f t j ≡ j) → over f (span a b) ≡ None
  all_free a b k = go (dec_lt 0 (gap a b))
    where
      go : Dec (0 < gap a b) → over f (span a b) ≡ None
      go (yes x) = skip_front a b b (omega signed) k ∙ ap (over f) (span_none b b (omega signed))
      go (no x) = ap (over f) (span_none a b (omega signed))

  -- and behind
  skip_high : (n : ℕ) (a c b : ℤ) → gap a c ≤ n → c ≤ℤ b → ((t : ℤ) → c ≤ℤ t → t <ℤ b → (j : Option ℤ) → f t j ≡ j) → over f (span a b) ≡ over f (span a c)
  skip_high zero a c b m h k = all_free a b (λ t p q. k t (omega signed) q) ∙ sym (ap (over f) (span_none a c (omega signed)))
  skip_high (suc n) a c b m h k = go (dec_lt 0 (gap a c)) (λ e. skip_high n (a +ℤ pos 1) c b e h k)
    where
      go : Dec (0 < gap a c) → (gap (a +ℤ pos 1) c ≤ n → over f (span (a +ℤ pos 1) b) ≡ over f (span (a +ℤ pos 1) c)) → over f (span a b) ≡ over f (span a c)
      go (no x) r = all_free a b (λ t p q. k t (omega signed) q) ∙ sym (ap (over f) (span_none a c (omega signed)))
      go (yes x) r =
          ap (over f) (span_cons a (a +ℤ pos 1) b refl (omega signed)) ∙ ap (f a) (r (omega (signed, sum a (pos 1)))) ∙ sym (ap (over f) (span_cons a (a +ℤ pos 1) c refl (omega signed)))

  pub skip_back : (a c b : ℤ) → c ≤ℤ b → ((t : ℤ) → c ≤ℤ t → t <ℤ b → (j : Option ℤ) → f t j ≡ j) → over f (span a b) ≡ over f (span a c)
  skip_back a c b = skip_high (gap a c) a c b (omega arith)
