-- Laws of `take`, `drop`, `set` and `◌++◌` that editing a list in place asks for, beside `lib.ListN` and `lib.Seq`. Over any element type.
use mathlib.Core.Path.{◌≡◌, refl, sym, ap, ◌∙◌}
use mathlib.Core.List.{List, ◌∷◌, ◌++◌, append_assoc}
use Prim.Native.Nat.{ℕ, zero, suc, ◌+◌, ◌-◌, ◌^◌, ◌≤◌, ◌<◌}
use mathlib.Core.Logic.{◌⊎◌, inl, inr}
use mathlib.Core.Bool.{Bool, true, false}
use borrow.Author.Tests.{ltb-true, ltb-false}
use lib.Dec.{ltb}
use native.Mathlib.Nat.{sub-zero, zero-sub, suc-sub-suc, le_of_suc-le-suc, not-suc-le-zero}
use native.Mathlib.Omega.{arith}
use lib.ListN.{length, get_or, take, drop, replicate, get_or-append, take-append-drop}
use lib.IntN.{ℤ}
use lib.Signed.{mag}
use mir.Syntax.{w16}
use mir.Val.{to_z, of_z}
use mir.Facts.{to_z-of_z}
use lib.Seq.{drop-drop, drop-paste, drop-cons, drop_at, get_or-take, length-take-le, paste, take-add}

-- two numbers, by cases
pub lt_or_ge : (m n : ℕ) → (m < n) ⊎ (n ≤ m)
lt_or_ge m n = go (ltb m n) refl
  where
    go : (b : Bool) → ltb m n ≡ b → (m < n) ⊎ (n ≤ m)
    go true e = inl (ltb-true m n e)
    go false e = inr (ltb-false m n e)

module _ {ℓ} {A : Type ℓ} where
  -- ---- parts of `replicate`, and a part of the front
  pub drop_replicate : (k n : ℕ) (v : A) → drop k (replicate n v) ≡ replicate (n - k) v
  drop_replicate zero n v = rw sub-zero
  drop_replicate (suc k) zero v = rw zero-sub
  drop_replicate (suc k) (suc n) v = rw suc-sub-suc (drop_replicate k n v)

  pub take_replicate : (k n : ℕ) (v : A) → k ≤ n → take k (replicate n v) ≡ replicate k v
  take_replicate zero n v h = refl
  take_replicate (suc k) zero v h = absurd (not-suc-le-zero h)
  take_replicate (suc k) (suc n) v h = ap (λ (r : List A). v ∷ r) (take_replicate k n v (le_of_suc-le-suc h))

  -- ---- `paste d at s n` of `lib.Seq`: d, with the n elements from index at replaced by s's first n
  -- a load before what was pasted
  pub get_or_paste_before : (d : List A) (at : ℕ) (s : List A) (n k : ℕ) (z : A) → at ≤ length d → k < at → get_or (paste d at s n) k z ≡ get_or d k z
  get_or_paste_before d at s n k z h l =
      let e : length (take at d) ≡ at = length-take-le at d h in
      rw append_assoc (get_or-append (take at d) (take n s ++ drop (at + n) d) z k (omega arith) ∙ get_or-take at d k z l)

  pub drop_paste_at : (d : List A) (at : ℕ) (s : List A) (n : ℕ) → at ≤ length d → drop at (paste d at s n) ≡ take n s ++ drop (at + n) d
  drop_paste_at d at s n h = rw append_assoc (drop_at (take at d) (take n s ++ drop (at + n) d) at (length-take-le at d h))

  pub drop_paste_past : (d : List A) (at : ℕ) (s : List A) (n k : ℕ) → at ≤ length d → n ≤ length s → at + n ≤ k → drop k (paste d at s n) ≡ drop k d
  drop_paste_past d at s n k hd hs l =
      let e : k ≡ at + n + (k - (at + n)) = omega arith in
      rw e (sym (drop-drop (k - (at + n)) (at + n) (paste d at s n)) ∙ ap (drop (k - (at + n))) (drop-paste d at s n hd hs) ∙ drop-drop (k - (at + n)) (at + n) d)

  -- what is pasted where it was changes nothing
  pub paste_self : (l : List A) (from at m : ℕ) → at ≡ from → l ≡ paste l at (drop from l) m
  paste_self l from at m e =
      sym (take-append-drop (from + m) l) ∙ (λ i. take-add from m l i ++ drop (from + m) l) ∙ (λ i. take (sym e i) l ++ take m (drop from l) ++ drop (sym e i + m) l)

  -- the four elements at an index, and the rest
  pub drop_four : (l : List A) (at : ℕ) (z : A) → at + 4 ≤ length l
      → drop at l ≡ get_or l at z ∷ get_or l (at + 1) z ∷ get_or l (at + 2) z ∷ get_or l (at + 3) z ∷ drop (at + 4) l
  drop_four l at z h =
      let e1 : at + 1 ≡ suc at = omega arith in
      let e2 : at + 2 ≡ suc (suc at) = omega arith in
      let e3 : at + 3 ≡ suc (suc (suc at)) = omega arith in
      let e4 : at + 4 ≡ suc (suc (suc (suc at))) = omega arith in
      rw (e1, e2, e3, e4, drop-cons l at z (omega arith), drop-cons l (suc at) z (omega arith), drop-cons l (suc (suc at)) z (omega arith), drop-cons l (suc (suc (suc at))) z (omega arith))

-- a number that was read from a `&mut [i16]`, or a parameter, and is stored: it went through its bits
pub same16 : {z : ℤ} → mag z < 2 ^ 15 → to_z w16 (of_z w16 z) ≡ z
same16 h = to_z-of_z {w = w16} (record { sfits = h })
