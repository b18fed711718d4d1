-- The fours of a list: one by one, after a store, and as a layout.
use mathlib.Core.Path.{◌≡◌, refl, sym, ap, ◌∙◌}
use mathlib.Core.List.{List, [], ◌∷◌, ◌++◌, append_assoc}
use Prim.Native.Nat.{ℕ, zero, suc, ◌+◌, ◌-◌, ◌*◌, ◌≤◌, ◌<◌}
use lib.ListN.{length, take, drop, get_or, replicate, length-append, length-replicate, length-drop, replicate-append-replicate, take-append-drop}
use lib.Seq.{paste, get_or-drop, drop_at, length-take-le}
use native.Mathlib.Omega.{arith}
use lib.IntN.{ℤ, pos}
use Rattle.list_moves.specs.Fours.{Four, enc, padded, four_at, fours, Laid}
use Rattle.list_moves.proofs.Parts.{drop_four, get_or_paste_before, take_replicate}

pub length_enc : (xs : List Four) → length (enc xs) ≡ 4 * length xs
length_enc [] = refl
length_enc (x ∷ xs) = omega (arith, length_enc xs)

-- the next record of a list that is read from index `at` on
pub fours_more : (n : ℕ) (l : List ℤ) (at : ℕ) → at + 4 ≤ length l → fours (suc n) (drop at l) ≡ four_at l at ∷ fours n (drop (at + 4) l)
fours_more n l at h = rw (drop_four l at (pos 0) h)

pub length_fours : (n : ℕ) (l : List ℤ) → length (fours n l) ≡ n
length_fours zero l = refl
length_fours (suc n) l = ap suc (length_fours n (drop 4 l))

pub four_at_drop_add : (l : List ℤ) (k j : ℕ) → four_at (drop k l) j ≡ four_at l (k + j)
four_at_drop_add l k j =
    let e1 : k + (j + 1) ≡ k + j + 1 = omega arith in
    let e2 : k + (j + 2) ≡ k + j + 2 = omega arith in
    let e3 : k + (j + 3) ≡ k + j + 3 = omega arith in
    simp (get_or-drop, e1, e2, e3)

-- one more record at the end of a prefix
pub fours_snoc : (n : ℕ) (l : List ℤ) → fours (suc n) l ≡ fours n l ++ (four_at l (4 * n) ∷ [])
fours_snoc zero l = refl
fours_snoc (suc n) l =
    let e : 4 + 4 * n ≡ 4 * suc n = omega arith in
    ap (λ (t : List Four). four_at l 0 ∷ t)
    (fours_snoc n (drop 4 l) ∙ ap (λ (x : Four). fours n (drop 4 l) ++ (x ∷ [])) (four_at_drop_add l 4 (4 * n) ∙ ap (four_at l) e))

-- the first n records are those of any list with the same numbers there
pub fours_ext : (n : ℕ) (l m : List ℤ) → ((k : ℕ) → k < 4 * n → get_or l k (pos 0) ≡ get_or m k (pos 0)) → fours n l ≡ fours n m
fours_ext zero l m h = refl
fours_ext (suc n) l m h =
    let tail : fours n (drop 4 l) ≡ fours n (drop 4 m) =
    fours_ext n (drop 4 l) (drop 4 m) (λ k b. get_or-drop 4 l k (pos 0) ∙ h (4 + k) (omega arith) ∙ sym (get_or-drop 4 m k (pos 0))) in
    λ i. record { track = h 0 (omega arith) i; start = h 1 (omega arith) i; end = h 2 (omega arith) i; state = h 3 (omega arith) i } ∷ tail i

pub fours_paste : (n : ℕ) (d : List ℤ) (at : ℕ) (s : List ℤ) (k : ℕ) → at ≤ length d → 4 * n ≤ at → fours n (paste d at s k) ≡ fours n d
fours_paste n d at s k h b = fours_ext n (paste d at s k) d (λ j t. get_or_paste_before d at s k j (pos 0) h (omega arith))

pub length_padded : (xs : List Four) (n : ℕ) → 4 * length xs ≤ n → length (padded xs n) ≡ n
length_padded xs n h = rw (length-append, length-replicate) (omega (arith, length_enc xs))

-- n numbers are written, and the places behind them were wiped, up to where there were zeros
pub wiped : (d : List ℤ) (xs : List Four) (n u : ℕ) (x : List ℤ) → n ≤ u → u ≤ length d → enc xs ≡ take n d → drop u d ≡ replicate (length d - u) (pos 0)
    → x ≡ paste d n (replicate (u - n) (pos 0)) (u - n) → (n ≡ 4 * length xs) × (x ≡ padded xs (length d))
wiped d xs n u x h k e z p =
    let c : n ≡ 4 * length xs = sym (length-take-le n d (omega arith)) ∙ ap length (sym e) ∙ length_enc xs in
    let f : n + (u - n) ≡ u = omega arith in
    let g : u - n + (length d - u) ≡ length d - 4 * length xs = omega arith in
    let back : drop (n + (u - n)) d ≡ replicate (length d - u) (pos 0) = ap (λ (m : ℕ). drop m d) f ∙ z in (
      c,
      p ∙ (λ i. sym e i ++ take_replicate (u - n) (u - n) (pos 0) (omega arith) i ++ back i)
          ∙ append_assoc (enc xs) (replicate (u - n) (pos 0)) (replicate (length d - u) (pos 0))
          ∙ ap (λ (t : List ℤ). enc xs ++ t) (replicate-append-replicate (u - n) (length d - u) (pos 0) ∙ ap (λ (m : ℕ). replicate m (pos 0)) g),
    )

pub fours_enc : (xs : List Four) (t : List ℤ) → fours (length xs) (enc xs ++ t) ≡ xs
fours_enc [] t = refl
fours_enc (x ∷ xs) t = ap (λ (ys : List Four). x ∷ ys) (fours_enc xs t)

pub enc_fours : (n : ℕ) (l : List ℤ) → 4 * n ≤ length l → enc (fours n l) ≡ take (4 * n) l
enc_fours zero l h = refl
enc_fours (suc n) l h =
    let e : 4 * suc n ≡ suc (suc (suc (suc (4 * n)))) = omega arith in
    let k : 4 * n ≤ length (drop 4 l) = simp length-drop (omega arith) in
    let a : take (4 * suc n) l ≡ get_or l 0 (pos 0) ∷ get_or l 1 (pos 0) ∷ get_or l 2 (pos 0) ∷ get_or l 3 (pos 0) ∷ take (4 * n) (drop 4 l) =
    (λ i. take (e i) (drop_four l 0 (pos 0) (omega arith) i)) in
    ap (λ (t : List ℤ). get_or l 0 (pos 0) ∷ get_or l 1 (pos 0) ∷ get_or l 2 (pos 0) ∷ get_or l 3 (pos 0) ∷ t) (enc_fours n (drop 4 l) k) ∙ sym a

-- a list that is laid out is the layout of its records
pub laid_is : (l : List ℤ) (n : ℕ) → Laid l n → l ≡ padded (fours n l) (length l)
laid_is l n v =
    let c : n ≡ length (fours n l) = sym (length_fours n l) in
    sym (take-append-drop (4 * n) l) ∙ (λ i. sym (enc_fours n l v.fits) i ++ (v.zeros ∙ ap (λ (k : ℕ). replicate (length l - 4 * k) (pos 0)) c) i)

pub laid_padded : (xs : List Four) (n : ℕ) → 4 * length xs ≤ n → Laid (padded xs n) (length xs)
laid_padded xs n h =
    let e : length (padded xs n) ≡ n = length_padded xs n h in
    record { fits = omega arith; zeros = drop_at (enc xs) (replicate (n - 4 * length xs) (pos 0)) (4 * length xs) (length_enc xs) ∙ ap (λ (k : ℕ). replicate (k - 4 * length xs) (pos 0)) (sym e) }
