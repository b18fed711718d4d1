-- Tests and lists: what the laws of the walk need of them.
use mathlib.Core.Path.{◌≡◌, refl, sym, ◌∙◌}
use mathlib.Core.Bool.{Bool, true, false, not, ◌&&◌, ◌||◌, true≢false}
use mathlib.Core.List.{List, [], ◌∷◌}
use mathlib.Core.Logic.{◌⊎◌, inl, inr}
use Rattle.theory_intervals.proofs.Grid.{and_l, and_r}

pub clash : {A : Type 0} {b : Bool} → b ≡ true → b ≡ false → A
clash e f = absurd (true≢false (sym e ∙ f))

pub and_true : (x y : Bool) → (x && y) ≡ true → (x ≡ true) × (y ≡ true)
and_true x y e = (and_l x y e, and_r x y e)

pub and_swap : (x y : Bool) → (x && y) ≡ (y && x)
and_swap true true = refl
and_swap true false = refl
and_swap false true = refl
and_swap false false = refl

pub and_drop : (x y : Bool) → y ≡ false → (x && y) ≡ false
and_drop true y e = e
and_drop false y e = refl

pub or_true : (x y : Bool) → (x || y) ≡ true → (x ≡ true) ⊎ (y ≡ true)
or_true true y e = inl refl
or_true false y e = inr e

pub or_false : (x y : Bool) → (x || y) ≡ false → (x ≡ false) × (y ≡ false)
or_false true y e = (e, absurd (true≢false e))
or_false false y e = (refl, e)

pub not-true : (x : Bool) → not x ≡ true → x ≡ false
not-true true e = sym e
not-true false e = refl

pub not-false : (x : Bool) → not x ≡ false → x ≡ true
not-false true e = refl
not-false false e = sym e

pub same_bool : (b c : Bool) → (b ≡ true → c ≡ true) → (c ≡ true → b ≡ true) → b ≡ c
same_bool true c f g = sym (f refl)
same_bool false true f g = g refl
same_bool false false f g = refl

-- each element has P
pub data Every {A : Type 0} (P : A → Type 0) : List A → Type 0 where
  nil : Every P []
  more : {x : A} {xs : List A} → P x → Every P xs → Every P (x ∷ xs)

-- x is one of the list
pub data Mem {A : Type 0} (x : A) : List A → Type 0 where
  top : {xs : List A} → Mem x (x ∷ xs)
  under : {y : A} {xs : List A} → Mem x xs → Mem x (y ∷ xs)

pub which : {A : Type 0} {x y : A} {xs : List A} → Mem x (y ∷ xs) → (x ≡ y) ⊎ Mem x xs
which top = inl refl
which (under m) = inr m
