-- A list that keeps the rules is sorted by track, so the records of one track are a part of it.
use mathlib.Core.Path.{◌≡◌, refl, sym, ap, ◌∙◌, subst}
use mathlib.Core.Bool.{true, false}
use mathlib.Core.List.{List, [], ◌∷◌, ◌++◌, append-nil}
use Prim.Native.Nat.{ℕ, zero, suc, ◌+◌, ◌-◌, ◌*◌, ◌<◌, ◌≤◌}
use native.Mathlib.Omega.{arith}
use native.Mathlib.Decide.{ℕ_discrete}
use lib.ListN.{length, get_or, take, drop}
use lib.Seq.{drop-cons}
use lib.IntN.{ℤ, pos, nat_abs, ◌+ℤ◌}
use mir.Syntax.{w16, w32}
use mir.Val.{SFits, to_z, of_z}
use mir.Facts.{to_z-of_z}
use lib.Signed.{lt_z, non_neg, ◌≤ℤ◌, ◌<ℤ◌}
use Rattle.theory_signed.proofs.Laws.{signed, g_lt_true, g_lt_false}
use Rattle.theory_intervals.proofs.Line.{Test, yea, nay, test, no_both}
use Rattle.theory_intervals.specs.Records.{Rec, rec, same}
use Rattle.theory_intervals.specs.OverInt.{encode}
use Rattle.theory_intervals.specs.Flat.{rows}
use Rattle.theory_intervals.proofs.Index.{rows_ext}
use Rattle.theory_intervals.proofs.OverInt.{state_is}
use Rattle.theory_intervals.specs.Lists.{recs, on_track, Holds}
use Rattle.list_rules.specs.Inner.{track_no, start_no, end_no, state_no, may_follow, Front, Split, Bounded}
use Rattle.list_rules.proofs.ByIndex.{holds_both, nn_good}

-- ---- sorted

follow_track : (t b s u c v : ℤ) → may_follow t b s u c v ≡ true → t ≤ℤ u
follow_track t b s u c v h = go (test (lt_z u t))
  where
    go : Test (lt_z u t) → t ≤ℤ u
    go (nay e) = omega signed
    go (yea e) = no_both h (rw (g_lt_false t u (omega signed), e))

pub sorted : {l : List ℤ} {n : ℕ} → Front l n → (i j : ℕ) → i ≤ j → j < n → track_no l i ≤ℤ track_no l j
sorted f zero zero h k = omega signed
sorted f (suc i) zero h k = absurd (omega arith)
sorted {l} f i (suc j) h k = go (ℕ_discrete i (suc j)) (λ m. sorted f i j m (omega arith))
  where
    go : Dec (i ≡ suc j) → (i ≤ j → track_no l i ≤ℤ track_no l j) → track_no l i ≤ℤ track_no l (suc j)
    go (yes e) r = rw e (omega signed)
    go (no d) r =
        let x = r (omega arith) in
        let y = follow_track (track_no l j) (get_or l (4 * j + 2) (pos 0)) (get_or l (4 * j + 3) (pos 0)) (track_no l (suc j)) (get_or l (4 * suc j + 1) (pos 0)) (get_or l (4 * suc j + 3) (pos 0)) ((f.each (suc j) k).next j refl) in
        omega signed

-- ---- a halving search

pub record Halving (key : ℕ → ℤ) (n : ℕ) (x : ℤ) (lo hi : ℕ) : Type 0 where
  pub order : lo ≤ hi
  pub left : hi ≤ n
  pub below : (k : ℕ) → k < lo → key k <ℤ x
  pub above : (k : ℕ) → hi ≤ k → k < n → x ≤ℤ key k

module _ {key : ℕ → ℤ} {n : ℕ} {x : ℤ} {lo hi : ℕ} (rise : (i j : ℕ) → i ≤ j → j < n → key i ≤ℤ key j) (v : Halving key n x lo hi) where
  pub go_up : (m : ℕ) → m < hi → key m <ℤ x → Halving key n x (m + 1) hi
  go_up m h t = record {
    order = omega arith;
    left = v.left;
    below = λ k b. let s = rise k m (omega arith) (omega (arith, v.left)) in omega signed;
    above = v.above;
  }

  pub go_down : (m : ℕ) → lo ≤ m → m < hi → x ≤ℤ key m → Halving key n x lo m
  go_down m h h₂ t = record {
    order = omega arith;
    left = omega (arith, v.left);
    below = v.below;
    above = λ k a b. let s = rise m k a b in omega signed;
  }

pub found : (l : List ℤ) {n : ℕ} {x : ℤ} {lo hi : ℕ} → Halving (track_no l) n x lo hi → hi ≤ lo → Split l n x lo
found l v h = record { within = omega (arith, v.order, v.left); below = v.below; above = λ k a b. v.above k (omega arith) b }

pub bounded : (l : List ℤ) {n : ℕ} {x : ℤ} {lo hi : ℕ} → Halving (start_no l) n x lo hi → Bounded l n x lo hi
bounded l v = record { order = v.order; within = v.left; below = v.below; above = v.above }

-- ---- a place between two records

pub split_between : {l : List ℤ} {n : ℕ} {x : ℤ} → Front l n → (k : ℕ) → k < n → track_no l (k - 1) <ℤ x → x ≤ℤ track_no l k → Split l n x k
split_between f k h p q = record {
  within = omega arith;
  below = λ i b. let s = sorted f i (k - 1) (omega arith) (omega arith) in omega signed;
  above = λ i a b. let s = sorted f k i a b in omega signed;
}

-- the same place for the same track
pub split_as : {l : List ℤ} {n k : ℕ} {x y : ℤ} → x ≡ y → Split l n x k → Split l n y k
split_as {l} {n} {k} e s = subst (λ (x : ℤ). Split l n x k) e s

-- a track, widened by `as i32`, is itself
pub widened : {x : ℤ} → SFits w16 x → to_z w32 (of_z w32 (to_z w16 (of_z w16 x))) ≡ x
widened {x} f = let e = to_z-of_z f in let g : SFits w32 (to_z w16 (of_z w16 x)) = omega signed in to_z-of_z g ∙ e

-- ---- rows

zero_add₀ : (i : ℕ) → i ≡ 0 + i
zero_add₀ i = omega arith

pub rows_split : {Z : Type 0} (n m : ℕ) (t a b : ℕ → Z) (s : ℕ → ℕ) → rows (n + m) t a b s ≡ rows n t a b s ++ rows m (λ i. t (n + i)) (λ i. a (n + i)) (λ i. b (n + i)) (λ i. s (n + i))
rows_split zero m t a b s = (λ j. rows (sym (zero_add₀ m) j) t a b s) ∙ rows_ext m t a b (λ i. t (0 + i)) (λ i. a (0 + i)) (λ i. b (0 + i)) s (λ i. s (0 + i)) (λ i h. ap t (zero_add₀ i)) (λ i h. ap a (zero_add₀ i)) (λ i h. ap b (zero_add₀ i)) (λ i h. ap s (zero_add₀ i))
rows_split {Z} (suc n) m t a b s =
    let e : suc n + m ≡ suc (n + m) = omega arith in
    rw e (ap (λ (l : List (Rec Z)). rec (t 0) (a 0) (b 0) (s 0) ∷ l) (rows_split n m (λ i. t (suc i)) (λ i. a (suc i)) (λ i. b (suc i)) (λ i. s (suc i))
    ∙ ap (λ (l : List (Rec Z)). rows n (λ i. t (suc i)) (λ i. a (suc i)) (λ i. b (suc i)) (λ i. s (suc i)) ++ l)
    (let q : (i : ℕ) → suc (n + i) ≡ suc n + i = λ i. omega arith in
    rows_ext m (λ i. t (suc (n + i))) (λ i. a (suc (n + i))) (λ i. b (suc (n + i))) (λ i. t (suc n + i)) (λ i. a (suc n + i)) (λ i. b (suc n + i)) (λ i. s (suc (n + i))) (λ i. s (suc n + i))
    (λ i h. ap t (q i)) (λ i h. ap a (q i)) (λ i h. ap b (q i)) (λ i h. ap s (q i)))))

pub on_track_append : (t : ℤ) (xs ys : List (Rec ℤ)) → on_track t (xs ++ ys) ≡ on_track t xs ++ on_track t ys
on_track_append t [] ys = refl
on_track_append t (rec u a b s ∷ xs) ys = go (test (same lt_z t u)) (on_track_append t xs ys)
  where
    go : Test (same lt_z t u) → on_track t (xs ++ ys) ≡ on_track t xs ++ on_track t ys → on_track t (rec u a b s ∷ (xs ++ ys)) ≡ on_track t (rec u a b s ∷ xs) ++ on_track t ys
    go (yea e) h = rw (e, h)
    go (nay e) h = rw (e, h)

pub none_on : (x : ℤ) (n : ℕ) (t a b : ℕ → ℤ) (s : ℕ → ℕ) → ((i : ℕ) → i < n → same lt_z x (t i) ≡ false) → on_track x (rows n t a b s) ≡ []
none_on x zero t a b s h = refl
none_on x (suc n) t a b s h = rw (h 0 (omega arith)) (none_on x n (λ i. t (suc i)) (λ i. a (suc i)) (λ i. b (suc i)) (λ i. s (suc i)) (λ i k. h (suc i) (omega arith)))

all_on : (x : ℤ) (n : ℕ) (t a b : ℕ → ℤ) (s : ℕ → ℕ) → ((i : ℕ) → i < n → same lt_z x (t i) ≡ true) → on_track x (rows n t a b s) ≡ rows n t a b s
all_on x zero t a b s h = refl
all_on x (suc n) t a b s h =
    rw (h 0 (omega arith)) (ap (λ (l : List (Rec ℤ)). rec (t 0) (a 0) (b 0) (s 0) ∷ l) (all_on x n (λ i. t (suc i)) (λ i. a (suc i)) (λ i. b (suc i)) (λ i. s (suc i)) (λ i k. h (suc i) (omega arith))))

-- ---- the numbers of a part

enc_rows : (m k : ℕ) (l : List ℤ) → k + 4 * m ≤ length l → ((i : ℕ) → i < m → non_neg (get_or l (k + (4 * i + 3)) (pos 0)) ≡ true)
    → encode (rows m (λ i. get_or l (k + 4 * i) (pos 0)) (λ i. get_or l (k + (4 * i + 1)) (pos 0)) (λ i. get_or l (k + (4 * i + 2)) (pos 0)) (λ i. nat_abs (get_or l (k + (4 * i + 3)) (pos 0)))) ≡ take (4 * m) (drop k l)
enc_rows zero k l r h = refl
enc_rows (suc m) k l r h =
    let e : 4 * suc m ≡ suc (suc (suc (suc (4 * m)))) = omega arith in
    let g : (j : ℕ) → (i : ℕ) → k + 4 + (4 * i + j) ≡ k + (4 * suc i + j) = λ j i. omega arith in
    let g₀ : (i : ℕ) → k + 4 + 4 * i ≡ k + 4 * suc i = λ i. omega arith in
    let st : (i : ℕ) → i < m → non_neg (get_or l (k + 4 + (4 * i + 3)) (pos 0)) ≡ true = λ i q. ap (λ (x : ℕ). non_neg (get_or l x (pos 0))) (g 3 i) ∙ h (suc i) (omega arith) in
    let ih = enc_rows m (k + 4) l (omega arith) st in
    let same_rows = rows_ext m (λ i. get_or l (k + 4 * suc i) (pos 0)) (λ i. get_or l (k + (4 * suc i + 1)) (pos 0)) (λ i. get_or l (k + (4 * suc i + 2)) (pos 0))
    (λ i. get_or l (k + 4 + 4 * i) (pos 0)) (λ i. get_or l (k + 4 + (4 * i + 1)) (pos 0)) (λ i. get_or l (k + 4 + (4 * i + 2)) (pos 0))
    (λ i. nat_abs (get_or l (k + (4 * suc i + 3)) (pos 0))) (λ i. nat_abs (get_or l (k + 4 + (4 * i + 3)) (pos 0)))
    (λ i q. ap (λ (x : ℕ). get_or l x (pos 0)) (sym (g₀ i))) (λ i q. ap (λ (x : ℕ). get_or l x (pos 0)) (sym (g 1 i))) (λ i q. ap (λ (x : ℕ). get_or l x (pos 0)) (sym (g 2 i))) (λ i q. ap (λ (x : ℕ). nat_abs (get_or l x (pos 0))) (sym (g 3 i))) in
    let z = state_is (get_or l (k + 3) (pos 0)) (h 0 (omega arith)) in
    let k₀ : k + 0 ≡ k = omega arith in
    let four : drop k l ≡ get_or l (k + 0) (pos 0) ∷ get_or l (k + 1) (pos 0) ∷ get_or l (k + 2) (pos 0) ∷ get_or l (k + 3) (pos 0) ∷ drop (k + 4) l = drop_four l k (omega arith) in
    (λ i. get_or l (k + 0) (pos 0) ∷ get_or l (k + 1) (pos 0) ∷ get_or l (k + 2) (pos 0) ∷ z i ∷ (ap (encode) same_rows ∙ ih) i) ∙ sym (λ i. take (e i) (four i))
  where
    drop_four : (l : List ℤ) (k : ℕ) → k + 4 ≤ length l → drop k l ≡ get_or l (k + 0) (pos 0) ∷ get_or l (k + 1) (pos 0) ∷ get_or l (k + 2) (pos 0) ∷ get_or l (k + 3) (pos 0) ∷ drop (k + 4) l
    drop_four l k h =
        let e₀ : k + 0 ≡ k = omega arith in
        let e₁ : suc k ≡ k + 1 = omega arith in
        let e₂ : suc (k + 1) ≡ k + 2 = omega arith in
        let e₃ : suc (k + 2) ≡ k + 3 = omega arith in
        let e₄ : suc (k + 3) ≡ k + 4 = omega arith in
        let d₀ : drop k l ≡ get_or l (k + 0) (pos 0) ∷ drop (k + 1) l = drop-cons l k (pos 0) (omega arith) ∙ (λ i. get_or l (sym e₀ i) (pos 0) ∷ drop (e₁ i) l) in
        let d₁ : drop (k + 1) l ≡ get_or l (k + 1) (pos 0) ∷ drop (k + 2) l = drop-cons l (k + 1) (pos 0) (omega arith) ∙ (λ i. get_or l (k + 1) (pos 0) ∷ drop (e₂ i) l) in
        let d₂ : drop (k + 2) l ≡ get_or l (k + 2) (pos 0) ∷ drop (k + 3) l = drop-cons l (k + 2) (pos 0) (omega arith) ∙ (λ i. get_or l (k + 2) (pos 0) ∷ drop (e₃ i) l) in
        let d₃ : drop (k + 3) l ≡ get_or l (k + 3) (pos 0) ∷ drop (k + 4) l = drop-cons l (k + 3) (pos 0) (omega arith) ∙ (λ i. get_or l (k + 3) (pos 0) ∷ drop (e₄ i) l) in
        cc

-- ---- the records of one track

pub not_same : (x y : ℤ) → y <ℤ x → same lt_z x y ≡ false
not_same x y h = rw (g_lt_false x y (omega signed), g_lt_true y x (omega signed))

pub not_same₂ : (x y : ℤ) → x <ℤ y → same lt_z x y ≡ false
not_same₂ x y h = rw (g_lt_true x y (omega signed))

pub is_same : (x y : ℤ) → x ≤ℤ y → y ≤ℤ x → same lt_z x y ≡ true
is_same x y h k = rw (g_lt_false x y (omega signed), g_lt_false y x (omega signed))

pub cut_rows : (l : List ℤ) (n : ℕ) (t t₂ : ℤ) (p q : ℕ) → t₂ ≡ t +ℤ pos 1 → Split l n t p → Split l n t₂ q → p ≤ q
    → on_track t (recs n l) ≡ rows (q - p) (λ i. track_no l (p + i)) (λ i. start_no l (p + i)) (λ i. end_no l (p + i)) (λ i. nat_abs (state_no l (p + i)))
cut_rows l n t t₂ p q e u v o =
    let m : ℕ = q - p in
    let r : ℕ = n - q in
    let e₁ : n ≡ p + (m + r) = omega (arith, v.within) in
    let X = rows p (track_no l) (start_no l) (end_no l) (λ i. nat_abs (state_no l i)) in
    let Y = rows m (λ i. track_no l (p + i)) (λ i. start_no l (p + i)) (λ i. end_no l (p + i)) (λ i. nat_abs (state_no l (p + i))) in
    let W = rows r (λ i. track_no l (p + (m + i))) (λ i. start_no l (p + (m + i))) (λ i. end_no l (p + (m + i))) (λ i. nat_abs (state_no l (p + (m + i)))) in
    let sp : recs n l ≡ X ++ (Y ++ W) =
    ap (λ (k : ℕ). recs k l) e₁ ∙ rows_split p (m + r) (track_no l) (start_no l) (end_no l) (λ i. nat_abs (state_no l i))
    ∙ ap (λ (z : List (Rec ℤ)). X ++ z) (rows_split m r (λ i. track_no l (p + i)) (λ i. start_no l (p + i)) (λ i. end_no l (p + i)) (λ i. nat_abs (state_no l (p + i)))) in
    let x : on_track t X ≡ [] = none_on t p (track_no l) (start_no l) (end_no l) (λ i. nat_abs (state_no l i)) (λ i h. not_same t (track_no l i) (u.below i h)) in
    let y : on_track t Y ≡ Y = all_on t m (λ i. track_no l (p + i)) (λ i. start_no l (p + i)) (λ i. end_no l (p + i)) (λ i. nat_abs (state_no l (p + i)))
    (λ i h. is_same t (track_no l (p + i)) (u.above (p + i) (omega arith) (omega (arith, v.within))) (let b = v.below (p + i) (omega arith) in omega signed)) in
    let w : on_track t W ≡ [] = none_on t r (λ i. track_no l (p + (m + i))) (λ i. start_no l (p + (m + i))) (λ i. end_no l (p + (m + i))) (λ i. nat_abs (state_no l (p + (m + i))))
    (λ i h. not_same₂ t (track_no l (p + (m + i))) (let b = v.above (p + (m + i)) (omega arith) (omega (arith, v.within)) in omega signed)) in
    ap (on_track t) sp ∙ on_track_append t X (Y ++ W) ∙ (λ i. x i ++ (on_track_append t Y W ∙ (λ j. y j ++ w j)) i) ∙ append-nil Y

pub cut_is : (l : List ℤ) (n : ℕ) (t t₂ : ℤ) (p q : ℕ) → Holds l n → t₂ ≡ t +ℤ pos 1 → Split l n t p → Split l n t₂ q → p ≤ q
    → take (4 * q - 4 * p) (drop (4 * p) l) ≡ encode (on_track t (recs n l))
cut_is l n t t₂ p q h e u v o =
    let b = holds_both h in
    let m : ℕ = q - p in
    let g : (j : ℕ) → (i : ℕ) → 4 * (p + i) + j ≡ 4 * p + (4 * i + j) = λ j i. omega arith in
    let g₀ : (i : ℕ) → 4 * (p + i) ≡ 4 * p + 4 * i = λ i. omega arith in
    let c : 4 * q - 4 * p ≡ 4 * m = omega arith in
    let x = rows_ext m (λ i. track_no l (p + i)) (λ i. start_no l (p + i)) (λ i. end_no l (p + i)) (λ i. get_or l (4 * p + 4 * i) (pos 0)) (λ i. get_or l (4 * p + (4 * i + 1)) (pos 0)) (λ i. get_or l (4 * p + (4 * i + 2)) (pos 0))
    (λ i. nat_abs (state_no l (p + i))) (λ i. nat_abs (get_or l (4 * p + (4 * i + 3)) (pos 0)))
    (λ i k. ap (λ (z : ℕ). get_or l z (pos 0)) (g₀ i)) (λ i k. ap (λ (z : ℕ). get_or l z (pos 0)) (g 1 i)) (λ i k. ap (λ (z : ℕ). get_or l z (pos 0)) (g 2 i)) (λ i k. ap (λ (z : ℕ). nat_abs (get_or l z (pos 0))) (g 3 i)) in
    let y = enc_rows m (4 * p) l (omega (arith, b.front.room, v.within))
    (λ i k. ap (λ (z : ℕ). non_neg (get_or l z (pos 0))) (sym (g 3 i)) ∙ nn_good (state_no l (p + i)) (b.front.each (p + i) (omega (arith, v.within))).good.s_lo) in
    ap (λ (z : ℕ). take z (drop (4 * p) l)) c ∙ sym y ∙ ap (encode) (sym x ∙ sym (cut_rows l n t t₂ p q e u v o))
