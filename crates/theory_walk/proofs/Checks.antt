-- What a request that passes the checks 1 to 6 satisfies.
use Rattle.std.specs.Prelude.{Some, None, Option}
use mathlib.Core.Path.{◌≡◌, refl}
use mathlib.Core.Bool.{Bool, true, false, not, cond, ◌&&◌, ◌||◌}
use mathlib.Core.List.{List, [], ◌∷◌, map}
use mathlib.Core.Logic.{◌⊎◌, inl, inr}
use Prim.Native.Nat.{ℕ, zero, suc, ◌*◌, ◌/◌, ◌%◌, ◌≤◌}
use native.Mathlib.Omega.{arith}
use borrow.Author.Tests.{ltb-false, eqb-true}
use lib.Dec.{eqb, ltb}
use lib.IntN.{ℤ, pos, negsuc, nat_abs}
use lib.ListN.{length, get_or}
use lib.Signed.{lt_z, le_z}
use Rattle.theory_signed.specs.Parts.{eq_z}
use Rattle.theory_signed.proofs.Laws.{signed, eq_of}
use Rattle.grid_coordinates.specs.Line.{lines}
use Rattle.grid_track_counts.specs.Counts.{Sound, counts_good}
use Rattle.grid_track_counts.proofs.Promises.{good_sound}
use Rattle.theory_walk.specs.declared.Placement.TheVariants.{Fixed, Spanned}
use Rattle.theory_walk.specs.Axis.{Axis, col, row, other, Both, on}
use Rattle.theory_walk.specs.Search.{or_else}
use Rattle.theory_walk.specs.Walk.{Item, Queued}
use Rattle.theory_walk.specs.Request.{Request, Half, good_half, good_item, bad_from, halves, placing_of, item_of, length_good, item_count, Refusal, no, checked, queue}
use Rattle.theory_walk.proofs.Tests.{clash, and_true, or_true, or_false, not-false, Every, nil, more}
use Rattle.theory_walk.proofs.LinesLaws.{Each}
use Rattle.theory_walk.proofs.Range.{Good, lines_good, span_good, GoodItem}

pub record Passed (r : Request) : Type 0 where
  pub flow : r.flow ≤ 3
  pub sixes : length r.items % 6 ≡ 0
  pub few : item_count r ≤ 2000
  pub counts : Each Sound r.counts
  pub answers : 5 * item_count r ≤ r.answers
  pub column_length : length_good r.lists.columns ≡ true
  pub row_length : length_good r.lists.rows ≡ true
  pub items : Every (λ (x : Both Half). good_item x ≡ true) (halves r.items)

pass : (b : Bool) (x : Refusal) (o : Option Refusal) → cond b (Some x) o ≡ None → (b ≡ false) × (o ≡ None)
pass true x o e = absurd (let z : ◌≡◌ {A = ℕ} 0 1 = cc in let y : ⊥ = omega arith in y)
pass false x o e = (refl, e)

all_good : (i : ℕ) (xs : List (Both Half)) → or_else (bad_from i xs) (λ j. no 6 j) None ≡ None → Every (λ (x : Both Half). good_item x ≡ true) xs
unfolding bad_from
all_good i [] e = nil
all_good i (x ∷ xs) e = go (λ h. all_good (suc i) xs h) (good_item x) refl e
  where
    go : (or_else (bad_from (suc i) xs) (λ j. no 6 j) None ≡ None → Every (λ (y : Both Half). good_item y ≡ true) xs) → (b : Bool) → good_item x ≡ b → or_else (cond b (bad_from (suc i) xs) (Some i)) (λ j. no 6 j) None ≡ None → Every (λ (y : Both Half). good_item y ≡ true) (x ∷ xs)
    go rec true f h = more f (rec h)
    go rec false f h = absurd (let z : ◌≡◌ {A = ℕ} 0 1 = cc in let y : ⊥ = omega arith in y)

pub checked_none : (r : Request) → checked r ≡ None → Passed r
unfolding checked
checked_none r e =
    let n = item_count r in
    let a₁ = ltb 3 r.flow in
    let a₂ = not (eqb (length r.items % 6) 0) || ltb 2000 n in
    let g₃ = counts_good r.counts.columns && counts_good r.counts.rows in
    let a₄ = ltb r.answers (5 * n) in
    let g₅ = length_good r.lists.columns && length_good r.lists.rows in
    let o₆ = or_else (bad_from 0 (halves r.items)) (λ i. no 6 i) None in
    let o₅ = cond (not g₅) (no 5 0) o₆ in
    let o₄ = cond a₄ (no 4 0) o₅ in
    let o₃ = cond (not g₃) (no 3 0) o₄ in
    let o₂ = cond a₂ (no 2 0) o₃ in
    let p₁ = pass a₁ (record { number = 1; index = 0 }) o₂ e in
    let p₂ = pass a₂ (record { number = 2; index = 0 }) o₃ p₁.1 in
    let p₃ = pass (not g₃) (record { number = 3; index = 0 }) o₄ p₂.1 in
    let p₄ = pass a₄ (record { number = 4; index = 0 }) o₅ p₃.1 in
    let p₅ = pass (not g₅) (record { number = 5; index = 0 }) o₆ p₄.1 in
    let q₂ = or_false (not (eqb (length r.items % 6) 0)) (ltb 2000 n) p₂.0 in
    let q₃ = and_true (counts_good r.counts.columns) (counts_good r.counts.rows) (not-false g₃ p₃.0) in
    let q₅ = and_true (length_good r.lists.columns) (length_good r.lists.rows) (not-false g₅ p₅.0) in
    record {
      flow = ltb-false 3 r.flow p₁.0;
      sixes = eqb-true (length r.items % 6) 0 (not-false (eqb (length r.items % 6) 0) q₂.0);
      few = ltb-false 2000 n q₂.1;
      counts = record { columns = good_sound r.counts.columns q₃.0; rows = good_sound r.counts.rows q₃.1 };
      answers = ltb-false r.answers (5 * n) p₄.0;
      column_length = q₅.0;
      row_length = q₅.1;
      items = all_good 0 (halves r.items) p₅.1;
    }

-- ---- the items of the queue are good

good_span : (z : ℤ) → le_z (pos 1) z ≡ true → le_z z (pos 10000) ≡ true → Good (Spanned (nat_abs z))
good_span (pos n) f g = span_good {n = n} (omega signed) (omega signed)
good_span (negsuc n) f g = absurd (let z : ⊥ = omega signed in z)

pub good_half_lem : (h : Half) → good_half h ≡ true → Good (placing_of h)
unfolding good_half placing_of
good_half_lem h e = go (eq_z h.kind (pos 0)) refl (or_true x y e)
  where
    x₁ : Bool
    x₁ = le_z (negsuc 19999) h.a && (lt_z h.a h.b && le_z h.b (pos 20000))

    y₁ : Bool
    y₁ = le_z (pos 1) h.a && (le_z h.a (pos 10000) && eq_z h.b (pos 0))

    x : Bool
    x = eq_z h.kind (pos 0) && x₁

    y : Bool
    y = eq_z h.kind (pos 1) && y₁

    go : (b : Bool) → eq_z h.kind (pos 0) ≡ b → (x ≡ true) ⊎ (y ≡ true) → Good (cond b (Fixed (lines h.a h.b)) (Spanned (nat_abs h.a)))
    go true f (inl k) =
        let p = (and_true (eq_z h.kind (pos 0)) x₁ k).1 in
        let q = and_true (le_z (negsuc 19999) h.a) (lt_z h.a h.b && le_z h.b (pos 20000)) p in
        let s = and_true (lt_z h.a h.b) (le_z h.b (pos 20000)) q.1 in
        let q₀ = q.0 in
        let s₀ = s.0 in
        let s₁ = s.1 in
        lines_good {l = lines h.a h.b} (omega signed) (omega signed) (omega signed)
    go true f (inr k) =
        let i = eq_of h.kind (pos 0) f in
        let j = eq_of h.kind (pos 1) (and_true (eq_z h.kind (pos 1)) y₁ k).0 in
        absurd (let z : ⊥ = omega signed in z)
    go false f (inl k) = clash (and_true (eq_z h.kind (pos 0)) x₁ k).0 f
    go false f (inr k) =
        let p = (and_true (eq_z h.kind (pos 1)) y₁ k).1 in
        let q = and_true (le_z (pos 1) h.a) (le_z h.a (pos 10000) && eq_z h.b (pos 0)) p in
        good_span h.a q.0 (and_true (le_z h.a (pos 10000)) (eq_z h.b (pos 0)) q.1).0

pub record GoodBoth (x : Item) : Type 0 where
  pub columns : Good x.columns
  pub rows : Good x.rows

good_on : (a : Axis) (x : Item) → GoodBoth x → GoodItem (on a x) (on (other a) x)
good_on col x g = (g.columns, g.rows)
good_on row x g = (g.rows, g.columns)

pub good_items : {xs : List (Both Half)} → Every (λ (x : Both Half). good_item x ≡ true) xs → Every GoodBoth (map item_of xs)
unfolding item_of
good_items nil = nil
good_items (more {x = x} e es) =
    let h = and_true (good_half x.columns) (good_half x.rows) e in
    more (record { columns = good_half_lem x.columns h.0; rows = good_half_lem x.rows h.1 }) (good_items es)

every_get_or : {A : Type 0} {P : A → Type 0} {xs : List A} (i : ℕ) (d : A) → P d → Every P xs → P (get_or xs i d)
every_get_or i d p nil = p
every_get_or zero d p (more q qs) = q
every_get_or (suc i) d p (more q qs) = every_get_or i d p qs

pub good_queue : (a : Axis) (is : List ℕ) (xs : List Item) → Every GoodBoth xs → Every (λ (q : Queued). GoodItem (on a q.item) (on (other a) q.item)) (queue is xs)
unfolding queue
good_queue a [] xs g = nil
good_queue a (i ∷ is) xs g =
    let d : Item = record { columns = Spanned 1; rows = Spanned 1 } in
    let s : Good (Spanned 1) = span_good {n = 1} (omega arith) (omega arith) in
    more (good_on a (get_or xs i d) (every_get_or i d (record { columns = s; rows = s }) g)) (good_queue a is xs g)

-- ---- the halves are as many as the items

pub halves_length : (zs : List ℤ) → length (halves zs) ≡ length zs / 6
unfolding halves
halves_length [] = omega arith
halves_length (k ∷ []) = omega arith
halves_length (k ∷ a ∷ []) = omega arith
halves_length (k ∷ a ∷ b ∷ []) = omega arith
halves_length (k ∷ a ∷ b ∷ j ∷ []) = omega arith
halves_length (k ∷ a ∷ b ∷ j ∷ c ∷ []) = omega arith
halves_length (k ∷ a ∷ b ∷ j ∷ c ∷ d ∷ zs) = let h = halves_length zs in omega arith

-- ---- a refusal by the checks

low : (b : Bool) (y x : Refusal) (o : Option Refusal) → y.number ≤ 6 → (o ≡ Some x → x.number ≤ 6) → cond b (Some y) o ≡ Some x → x.number ≤ 6
low true y x o h f e = let z : y ≡ x = cc in rw (← z) h
low false y x o h f e = f e

low_last : (o : Option ℕ) (x : Refusal) → or_else o (λ i. no 6 i) None ≡ Some x → x.number ≤ 6
low_last None x e = absurd (let z : ◌≡◌ {A = ℕ} 0 1 = cc in let y : ⊥ = omega arith in y)
low_last (Some i) x e = let z : record { number = 6; index = i } ≡ x = cc in rw (← z) (omega arith)

-- its number is one of 1 to 6
pub checked_low : (r : Request) (x : Refusal) → checked r ≡ Some x → x.number ≤ 6
unfolding checked
checked_low r x e =
    let n = item_count r in
    let o₆ = or_else (bad_from 0 (halves r.items)) (λ i. no 6 i) None in
    let o₅ = cond (not (length_good r.lists.columns && length_good r.lists.rows)) (no 5 0) o₆ in
    let o₄ = cond (ltb r.answers (5 * n)) (no 4 0) o₅ in
    let o₃ = cond (not (counts_good r.counts.columns && counts_good r.counts.rows)) (no 3 0) o₄ in
    let o₂ = cond (not (eqb (length r.items % 6) 0) || ltb 2000 n) (no 2 0) o₃ in
    low (ltb 3 r.flow) (record { number = 1; index = 0 }) x o₂ (omega arith)
    (λ e₂. low (not (eqb (length r.items % 6) 0) || ltb 2000 n) (record { number = 2; index = 0 }) x o₃ (omega arith)
    (λ e₃. low (not (counts_good r.counts.columns && counts_good r.counts.rows)) (record { number = 3; index = 0 }) x o₄ (omega arith)
    (λ e₄. low (ltb r.answers (5 * n)) (record { number = 4; index = 0 }) x o₅ (omega arith)
    (λ e₅. low (not (length_good r.lists.columns && length_good r.lists.rows)) (record { number = 5; index = 0 }) x o₆ (omega arith)
    (λ e₆. low_last (bad_from 0 (halves r.items)) x e₆) e₅) e₄) e₃) e₂) e

-- "an item breaks its rules; the first such index": k counts the items before the list
pub data FirstBad : ℕ → List (Both Half) → ℕ → Type 0 where
  bad_here : {k : ℕ} {x : Both Half} {xs : List (Both Half)} → good_item x ≡ false → FirstBad k (x ∷ xs) k
  bad_later : {k i : ℕ} {x : Both Half} {xs : List (Both Half)} → good_item x ≡ true → FirstBad (suc k) xs i → FirstBad k (x ∷ xs) i

pub bad_first : (k : ℕ) (xs : List (Both Half)) (i : ℕ) → bad_from k xs ≡ Some i → FirstBad k xs i
unfolding bad_from
bad_first k [] i e = absurd (let z : ◌≡◌ {A = ℕ} 0 1 = cc in let y : ⊥ = omega arith in y)
bad_first k (x ∷ xs) i e = go (good_item x) refl e (λ h. bad_first (suc k) xs i h)
  where
    go : (b : Bool) → good_item x ≡ b → cond b (bad_from (suc k) xs) (Some k) ≡ Some i → (bad_from (suc k) xs ≡ Some i → FirstBad (suc k) xs i) → FirstBad k (x ∷ xs) i
    go true f h rest = bad_later f (rest h)
    go false f h rest = let z : k ≡ i = cc in rw (← z) (bad_here f)
