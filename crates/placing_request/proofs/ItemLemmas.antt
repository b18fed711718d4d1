-- An item by its index is that item of the request's list, and the checks say so of each.
use Rattle.std.specs.Prelude.{Some, None}
use mathlib.Core.Path.{◌≡◌, refl, sym, ap, ◌∙◌}
use mathlib.Core.Bool.{Bool, true, false, cond, ◌&&◌}
use mathlib.Core.List.{List, [], ◌∷◌, map}
use mathlib.Core.Logic.{◌⊎◌, inl, inr}
use Prim.Native.Nat.{ℕ, zero, suc, ◌+◌, ◌*◌, ◌/◌, ◌≤◌, ◌<◌}
use native.Mathlib.Omega.{arith}
use lib.IntN.{ℤ, pos, negsuc}
use lib.ListN.{length, get_or, drop, drop_of_length-le}
use lib.Seq.{drop-cons}
use lib.Signed.{lt_z, le_z, ◌≤ℤ◌}
use Rattle.theory_signed.specs.Parts.{eq_z}
use Rattle.theory_signed.proofs.Laws.{signed}
use Rattle.theory_walk.specs.declared.Placement.TheVariants.{Spanned}
use Rattle.theory_walk.specs.Axis.{Axis, col, row, Both, on}
use Rattle.theory_walk.specs.Walk.{Item}
use Rattle.theory_walk.specs.Request.{Half, half, halves, good_half, good_item, bad_from, item_of, up_to, queue}
use Rattle.theory_walk.proofs.Tests.{clash, and_true, or_true}
use Rattle.theory_walk.proofs.Range.{Good}
use Rattle.theory_walk.proofs.Checks.{good_half_lem, halves_length}
use Rattle.placing_request.specs.Items.{item_at, queued}

-- the items behind the first, counted afresh
item_next : (k a b j c d : ℤ) (zs : List ℤ) (i : ℕ) → item_at (k ∷ a ∷ b ∷ j ∷ c ∷ d ∷ zs) (suc i) ≡ item_at zs i
item_next k a b j c d zs i =
    let e : (m : ℕ) → 6 * suc i + m ≡ suc (suc (suc (suc (suc (suc (6 * i + m)))))) = λ m. omega arith in
    rw (e 0, e 1, e 2, e 3, e 4, e 5)

-- item i of the list of items
pub halves_at : (l : List ℤ) (i : ℕ) (x : Both Half) → i < length l / 6 → get_or (halves l) i x ≡ item_at l i
unfolding halves
halves_at [] i x h = absurd (let z : ⊥ = omega arith in z)
halves_at (k ∷ []) i x h = absurd (let z : ⊥ = omega arith in z)
halves_at (k ∷ a ∷ []) i x h = absurd (let z : ⊥ = omega arith in z)
halves_at (k ∷ a ∷ b ∷ []) i x h = absurd (let z : ⊥ = omega arith in z)
halves_at (k ∷ a ∷ b ∷ j ∷ []) i x h = absurd (let z : ⊥ = omega arith in z)
halves_at (k ∷ a ∷ b ∷ j ∷ c ∷ []) i x h = absurd (let z : ⊥ = omega arith in z)
halves_at (k ∷ a ∷ b ∷ j ∷ c ∷ d ∷ zs) zero x h = refl
halves_at (k ∷ a ∷ b ∷ j ∷ c ∷ d ∷ zs) (suc i) x h = halves_at zs i x (omega arith) ∙ sym (item_next k a b j c d zs i)

-- what is left of the items at item i
pub halves_drop : (l : List ℤ) (i : ℕ) → i < length l / 6 → drop i (halves l) ≡ item_at l i ∷ drop (i + 1) (halves l)
halves_drop l i h =
    let e : i + 1 ≡ suc i = omega arith in
    rw e
    (drop-cons (halves l) i (item_at l i) (omega (arith, halves_length l))
    ∙ ap (λ (x : Both Half). x ∷ drop (suc i) (halves l)) (halves_at l i (item_at l i) h))

-- ---- the check of the items

-- a good item is passed
pub bad_pass : (l : List ℤ) (i : ℕ) → i < length l / 6 → good_item (item_at l i) ≡ true → bad_from i (drop i (halves l)) ≡ bad_from (i + 1) (drop (i + 1) (halves l))
unfolding bad_from
bad_pass l i h g = let e : i + 1 ≡ suc i = omega arith in rw (halves_drop l i h, e, g)

-- one that is not is told
pub bad_here : (l : List ℤ) (i : ℕ) → i < length l / 6 → good_item (item_at l i) ≡ false → bad_from i (drop i (halves l)) ≡ Some i
unfolding bad_from
bad_here l i h e = rw (halves_drop l i h, e)

-- behind the last item there is none to tell
pub bad_none : (l : List ℤ) (i : ℕ) → length l / 6 ≤ i → bad_from i (drop i (halves l)) ≡ None
unfolding bad_from
bad_none l i h = rw (drop_of_length-le (halves l) {i = i} (omega (arith, halves_length l)))

good_from : (xs : List (Both Half)) (k i : ℕ) (x : Both Half) → bad_from k xs ≡ None → i < length xs → good_item (get_or xs i x) ≡ true
unfolding bad_from
good_from [] k i x e h = absurd (let z : ⊥ = omega arith in z)
good_from (y ∷ ys) k i x e h = go (λ g m n. good_from ys (suc k) m x g n) (good_item y) refl e i h
  where
    go : (bad_from (suc k) ys ≡ None → (m : ℕ) → m < length ys → good_item (get_or ys m x) ≡ true) → (b : Bool) → good_item y ≡ b → cond b (bad_from (suc k) ys) (Some k) ≡ None → (m : ℕ) → m < length (y ∷ ys) → good_item (get_or (y ∷ ys) m x) ≡ true
    go rest true f g zero n = f
    go rest true f g (suc m) n = rest g m (omega arith)
    go rest false f g m n = absurd (let z : ◌≡◌ {A = ℕ} 0 1 = cc in let w : ⊥ = omega arith in w)

-- items of which none is bad are good, each
pub good_at : (l : List ℤ) (i : ℕ) → bad_from 0 (halves l) ≡ None → i < length l / 6 → good_item (item_at l i) ≡ true
good_at l i e h = ap good_item (sym (halves_at l i (item_at l i) h)) ∙ good_from (halves l) 0 i (item_at l i) e (omega (arith, halves_length l))

-- and so are their placements
pub good_placement : (l : List ℤ) (i : ℕ) (x : Axis) → good_item (item_at l i) ≡ true → Good (on x (item_of (item_at l i)))
unfolding item_of
good_placement l i col e = good_half_lem (item_at l i).columns (and_true (good_half (item_at l i).columns) (good_half (item_at l i).rows) e).0
good_placement l i row e = good_half_lem (item_at l i).rows (and_true (good_half (item_at l i).columns) (good_half (item_at l i).rows) e).1

-- a good half that is not of kind 0 has a span
pub span_at : (k a b : ℤ) → good_half (half k a b) ≡ true → eq_z k (pos 0) ≡ false → (pos 1 ≤ℤ a) × (a ≤ℤ pos 10000)
unfolding good_half
span_at k a b e f = go (or_true x y e)
  where
    x₁ : Bool
    x₁ = le_z (negsuc 19999) a && (lt_z a b && le_z b (pos 20000))

    y₁ : Bool
    y₁ = le_z (pos 1) a && (le_z a (pos 10000) && eq_z b (pos 0))

    x : Bool
    x = eq_z k (pos 0) && x₁

    y : Bool
    y = eq_z k (pos 1) && y₁

    go : (x ≡ true) ⊎ (y ≡ true) → (pos 1 ≤ℤ a) × (a ≤ℤ pos 10000)
    go (inl h) = clash (and_true (eq_z k (pos 0)) x₁ h).0 f
    go (inr h) =
        let p = and_true (le_z (pos 1) a) (le_z a (pos 10000) && eq_z b (pos 0)) (and_true (eq_z k (pos 1)) y₁ h).1 in
        let q₀ = p.0 in
        let q₁ = (and_true (le_z a (pos 10000)) (eq_z b (pos 0)) p.1).0 in
        (omega signed, omega signed)

-- ---- the queue in document order

map_at : {A B : Type 0} (f : A → B) (xs : List A) (i : ℕ) (d : B) (e : A) → i < length xs → get_or (map f xs) i d ≡ f (get_or xs i e)
map_at f [] i d e h = absurd (let z : ⊥ = omega arith in z)
map_at f (x ∷ xs) zero d e h = refl
map_at f (x ∷ xs) (suc i) d e h = map_at f xs i d e (omega arith)

queue_from : (n s i : ℕ) (xs : List Item) → i < n → drop i (queue (up_to n s) xs) ≡ record { index = i + s; item = get_or xs (i + s) (record { columns = Spanned 1; rows = Spanned 1 }) } ∷ drop (suc i) (queue (up_to n s) xs)
unfolding queue up_to
queue_from zero s i xs h = absurd (let z : ⊥ = omega arith in z)
queue_from (suc n) s zero xs h = let e : zero + s ≡ s = omega arith in rw e
queue_from (suc n) s (suc i) xs h = let e : suc i + s ≡ i + suc s = omega arith in rw e (queue_from n (suc s) i xs (omega arith))

queue_length : (n s : ℕ) (xs : List Item) → length (queue (up_to n s) xs) ≡ n
unfolding queue up_to
queue_length zero s xs = refl
queue_length (suc n) s xs = ap suc (queue_length n (suc s) xs)

-- what is left of the queue at item i
pub queue_drop : (l : List ℤ) (i : ℕ) → i < length (halves l) → drop i (queued l) ≡ record { index = i; item = item_of (item_at l i) } ∷ drop (i + 1) (queued l)
queue_drop l i h =
    let e₀ : i + 0 ≡ i = omega arith in
    let e₁ : i + 1 ≡ suc i = omega arith in
    let q = queue_from (length (halves l)) 0 i (map item_of (halves l)) h in
    let g = map_at item_of (halves l) i (record { columns = Spanned 1; rows = Spanned 1 }) (item_at l i) h ∙ ap item_of (halves_at l i (item_at l i) (omega (arith, halves_length l))) in
    rw e₁ (q ∙ rw (e₀, g))

pub queue_end : (l : List ℤ) (i : ℕ) → length (halves l) ≤ i → drop i (queued l) ≡ []
queue_end l i h = drop_of_length-le (queued l) {i = i} (omega (arith, queue_length (length (halves l)) 0 (map item_of (halves l))))
