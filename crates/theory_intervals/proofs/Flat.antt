-- Flat lists: that they say no more and no less than their records, and that those which keep the rules are equal exactly when all cells agree.
use mathlib.Core.Path.{◌≡◌, refl, sym, ap, ◌∙◌}
use mathlib.Core.Bool.{Bool, true, false, not, ◌&&◌}
use mathlib.Core.List.{List, [], ◌∷◌, ◌++◌}
use mathlib.Core.Logic.{◌↔◌}
use Prim.Native.Nat.{ℕ, zero, suc, ◌-◌, ◌*◌, ◌≤◌}
use native.Mathlib.Omega.{arith}
use lib.Dec.{eqb}
use lib.ListN.{length, replicate, length-append, length-replicate}
use borrow.Author.Tests.{eqb-true}
use Rattle.theory_intervals.specs.Records.{Rec, rec, cell_of, keeps, behind, follows}
use Rattle.theory_intervals.specs.Flat.{Digits, encode, flat, decode, zeros, is_flat}
use Rattle.theory_intervals.proofs.Line.{Linear, Test, yea, nay, test, no_both}
use Rattle.theory_intervals.proofs.Grid.{unique, and_l, and_r, and_i, and₃}

pub record DigitLaws (Z : Type 0) (D : Digits Z) : Type 0 where
  pub o_is : D.is_o D.o ≡ true
  pub is_o_lem : (z : Z) → D.is_o z ≡ true → z ≡ D.o
  pub st_o : (s : ℕ) → D.is_o (D.st s) ≡ eqb s 0
  pub of_st : (s : ℕ) → D.st_of (D.st s) ≡ s
  pub st_is : (s : ℕ) → D.is_st (D.st s) ≡ true
  pub st_of_lem : (z : Z) → D.is_st z ≡ true → D.st (D.st_of z) ≡ z

module _ {Z : Type 0} (D : Digits Z) where
  -- no state is 0
  abbrev pub live : List (Rec Z) → Bool
  live [] = true
  live (rec t a b s ∷ rs) = not (eqb s 0) && live rs

  module _ (A : DigitLaws Z D) where
    decode_zeros : (k : ℕ) → decode D (replicate k D.o) ≡ []
    decode_zeros zero = refl
    decode_zeros (suc zero) = refl
    decode_zeros (suc (suc zero)) = refl
    decode_zeros (suc (suc (suc zero))) = refl
    decode_zeros (suc (suc (suc (suc k)))) = rw A.o_is

    pub decode_encode : (rs : List (Rec Z)) (k : ℕ) → live rs ≡ true → decode D (encode D rs ++ replicate k D.o) ≡ rs
    decode_encode [] k h = decode_zeros k
    decode_encode (rec t a b s ∷ rs) k h = go (test (eqb s 0)) (decode_encode rs k (and_r (not (eqb s 0)) (live rs) h))
      where
        go : Test (eqb s 0) → decode D (encode D rs ++ replicate k D.o) ≡ rs → decode D (encode D (rec t a b s ∷ rs) ++ replicate k D.o) ≡ rec t a b s ∷ rs
        go (yea e) i = no_both (and_l (not (eqb s 0)) (live rs) h) (rw e)
        go (nay e) i = rw (A.st_o s ∙ e, A.of_st s, i)

    zeros_are : (zs : List Z) → zeros D zs ≡ true → zs ≡ replicate (length zs) D.o
    zeros_are [] h = refl
    zeros_are (z ∷ zs) h =
        let e = A.is_o_lem z (and_l (D.is_o z) (zeros D zs) h) in
        let i = zeros_are zs (and_r (D.is_o z) (zeros D zs) h) in
        cc

    -- a flat list is its records and zeros
    pub parts : (zs : List Z) → is_flat D zs ≡ true → (k : ℕ) × (zs ≡ encode D (decode D zs) ++ replicate k D.o)
    parts [] h = (0, refl)
    parts (t ∷ []) h = (1, zeros_are (t ∷ []) h)
    parts (t ∷ a ∷ []) h = (2, zeros_are (t ∷ a ∷ []) h)
    parts (t ∷ a ∷ b ∷ []) h = (3, zeros_are (t ∷ a ∷ b ∷ []) h)
    parts (t ∷ a ∷ b ∷ s ∷ zs) h = go (test (D.is_o s)) (λ i. parts zs i)
      where
        all : List Z
        all = t ∷ a ∷ b ∷ s ∷ zs

        go : Test (D.is_o s) → (is_flat D zs ≡ true → (k : ℕ) × (zs ≡ encode D (decode D zs) ++ replicate k D.o)) → (k : ℕ) × (all ≡ encode D (decode D all) ++ replicate k D.o)
        go (yea e) r = (length all, rw e (zeros_are all (rw e (rw e at h))))
        go (nay e) r =
            let i : D.is_st s && is_flat D zs ≡ true = rw e at h in
            let j = A.st_of_lem s (and_l (D.is_st s) (is_flat D zs) i) in
            let q = r (and_r (D.is_st s) (is_flat D zs) i) in
            (q.0, rw e (rw j (ap (λ (l : List Z). t ∷ a ∷ b ∷ s ∷ l) q.1)))

    -- two flat lists of one length are equal exactly when their records are
    pub flats : (zs ws : List Z) → is_flat D zs ≡ true → is_flat D ws ≡ true → length zs ≡ length ws → decode D zs ≡ decode D ws ↔ zs ≡ ws
    flats zs ws h k l = (
      (λ e.
          let (n, p) = parts zs h in
          let (m, q) = parts ws k in
          let i : encode D (decode D zs) ≡ encode D (decode D ws) = ap (encode D) e in
          let x = ap length p ∙ length-append (encode D (decode D zs)) (replicate n D.o) in
          let y = ap length q ∙ length-append (encode D (decode D ws)) (replicate m D.o) in
          let z : length (encode D (decode D zs)) ≡ length (encode D (decode D ws)) = ap length i in
          let j : n ≡ m = omega (arith, length-replicate n D.o, length-replicate m D.o) in
          p ∙ ap (λ (c : List Z). c ++ replicate n D.o) i ∙ ap (λ (c : ℕ). encode D (decode D ws) ++ replicate c D.o) j ∙ sym q),
      (λ e. ap (decode D) e),
    )

    pub length_encode : (rs : List (Rec Z)) → length (encode D rs) ≡ 4 * length rs
    length_encode [] = refl
    length_encode (rec t a b s ∷ rs) = omega (arith, length_encode rs)

    -- as long as asked for
    pub length_flat : (n : ℕ) (rs : List (Rec Z)) → 4 * length rs ≤ n → length (flat D n rs) ≡ n
    length_flat n rs h = simp (length-append, length-replicate) (omega (arith, length_encode rs))

    zeros_flat : (k : ℕ) → is_flat D (replicate k D.o) ≡ true
    zeros_flat zero = refl
    zeros_flat (suc zero) = rw A.o_is
    zeros_flat (suc (suc zero)) = rw A.o_is
    zeros_flat (suc (suc (suc zero))) = rw A.o_is
    zeros_flat (suc (suc (suc (suc k)))) = rw A.o_is (all_zeros k)
      where
        all_zeros : (k : ℕ) → zeros D (replicate k D.o) ≡ true
        all_zeros zero = refl
        all_zeros (suc k) = rw A.o_is (all_zeros k)

    -- flat lists of n numbers are equal exactly when the records are
    pub flat_iff : (n : ℕ) (xs ys : List (Rec Z)) → live xs ≡ true → live ys ≡ true → flat D n xs ≡ flat D n ys ↔ xs ≡ ys
    flat_iff n xs ys h k = (
      (λ e. sym (decode_encode xs (n - length (encode D xs)) h) ∙ ap (decode D) e ∙ decode_encode ys (n - length (encode D ys)) k),
      (λ e. ap (flat D n) e),
    )

    -- what `flat` makes is flat
    pub flat_is : (rs : List (Rec Z)) (k : ℕ) → live rs ≡ true → is_flat D (encode D rs ++ replicate k D.o) ≡ true
    flat_is [] k h = zeros_flat k
    flat_is (rec t a b s ∷ rs) k h = go (test (eqb s 0)) (flat_is rs k (and_r (not (eqb s 0)) (live rs) h))
      where
        go : Test (eqb s 0) → is_flat D (encode D rs ++ replicate k D.o) ≡ true → is_flat D (encode D (rec t a b s ∷ rs) ++ replicate k D.o) ≡ true
        go (yea e) i = no_both (and_l (not (eqb s 0)) (live rs) h) (rw e)
        go (nay e) i = rw (A.st_o s ∙ e, A.st_is s, i)

-- ---- lists that keep the rules

module _ {Z : Type 0} (ltb : Z → Z → Bool) (ok : ℕ → Bool) (ok-zero : ok 0 ≡ false) (D : Digits Z) where
  not_zero : (s : ℕ) → ok s ≡ true → not (eqb s 0) ≡ true
  not_zero s h = go (test (eqb s 0))
    where
      go : Test (eqb s 0) → not (eqb s 0) ≡ true
      go (yea e) = no_both h (rw (eqb-true s 0 e) ok-zero)
      go (nay e) = rw e

  behind_live : (t b : Z) (s : ℕ) (rs : List (Rec Z)) → behind ltb ok t b s rs ≡ true → live D rs ≡ true
  behind_live t b s [] h = refl
  behind_live t b s (rec u c d v ∷ rs) h =
      let q = follows ltb t b s u c v in
      let k = ltb c d && (ok v && behind ltb ok u d v rs) in
      let j = and₃ (ltb c d) (ok v) (behind ltb ok u d v rs) (and_r q k h) in
      and_i (not_zero v j.1) (behind_live u d v rs j.2)

  pub keeps_live : (rs : List (Rec Z)) → keeps ltb ok rs ≡ true → live D rs ≡ true
  keeps_live [] h = refl
  keeps_live (rec t a b s ∷ rs) h =
      let j = and₃ (ltb a b) (ok s) (behind ltb ok t b s rs) h in
      and_i (not_zero s j.1) (behind_live t b s rs j.2)

  -- flat lists of one length that keep the rules are equal exactly when all cells agree
  pub flat_canonical : (L : Linear Z ltb) (A : DigitLaws Z D) (zs ws : List Z) → is_flat D zs ≡ true → is_flat D ws ≡ true → length zs ≡ length ws
      → keeps ltb ok (decode D zs) ≡ true → keeps ltb ok (decode D ws) ≡ true
      → zs ≡ ws ↔ ((t p : Z) → cell_of ltb (decode D zs) t p ≡ cell_of ltb (decode D ws) t p)
  flat_canonical L A zs ws f g l h k = (
    (λ e t p. ap (λ (x : List Z). cell_of ltb (decode D x) t p) e),
    (λ c. (flats D A zs ws f g l).0 (unique ltb L ok ok-zero (decode D zs) (decode D ws) h k c)),
  )
