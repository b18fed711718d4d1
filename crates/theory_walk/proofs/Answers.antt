-- The answers, written item by item, are in the end the answers of all items.
use mathlib.Core.Path.{◌≡◌, refl, sym, ◌∙◌}
use mathlib.Core.Logic.{◌≢◌}
use mathlib.Core.Bool.{Bool, true, false, cond}
use mathlib.Core.List.{List, [], ◌∷◌, ◌++◌, append_assoc}
use Prim.Native.Nat.{ℕ, zero, suc, ◌+◌, ◌*◌, ◌≤◌, ◌<◌}
use native.Mathlib.Omega.{arith}
use borrow.Author.Tests.{eq-eqb, eqb-true, eqb-false, ltb-false}
use lib.Dec.{eqb, ltb}
use lib.IntN.{ℤ, pos}
use lib.ListN.{length, get_or, set, drop}
use lib.Seq.{sets, length-sets, drop-cons, drop-set-lt, get_or-set_same, get_or-set_other}
use Rattle.theory_walk.specs.Walk.{Tile, Board, Choice, tile_of, laid_on}
use Rattle.theory_walk.specs.Request.{numbers, answer_of, answers_of, up_to}
use Rattle.theory_walk.specs.OnList.{written}
use Rattle.theory_walk.proofs.Tests.{Every, nil, more}
use Rattle.theory_walk.proofs.Origins.{Before, last, earlier}
use Rattle.theory_walk.proofs.Placed.{Has, this, that}

-- one item more writes its five numbers
pub written_laid : (i : ℕ) (h : Choice) (t : Board) (old : List ℤ) → written (laid_on i h t).tiles old ≡ sets (written t.tiles old) (5 * i) (numbers (tile_of i h))
unfolding laid_on tile_of written
written_laid i h t old = refl

pub written_length : (ts : List Tile) (old : List ℤ) → length (written ts old) ≡ length old
unfolding written
written_length [] old = refl
written_length (t ∷ ts) old = length-sets (written ts old) (5 * t.index) (numbers t) ∙ written_length ts old

o : ℤ
o = pos 0

-- five numbers from i on
five_at : List ℤ → ℕ → List ℤ
five_at l i = get_or l i o ∷ get_or l (suc i) o ∷ get_or l (suc (suc i)) o ∷ get_or l (suc (suc (suc i))) o ∷ get_or l (suc (suc (suc (suc i)))) o ∷ []

below : (l : List ℤ) (i : ℕ) (vs : List ℤ) (k : ℕ) → k < i → get_or (sets l i vs) k o ≡ get_or l k o
below l i [] k h = refl
below l i (v ∷ vs) k h = below (set l i v) (suc i) vs k (omega arith) ∙ get_or-set_other l i k v o (omega arith)

above : (l : List ℤ) (i : ℕ) (vs : List ℤ) (k : ℕ) → i + length vs ≤ k → get_or (sets l i vs) k o ≡ get_or l k o
above l i [] k h = refl
above l i (v ∷ vs) k h = above (set l i v) (suc i) vs k (omega arith) ∙ get_or-set_other l i k v o (omega arith)

inside : (l : List ℤ) (i : ℕ) (vs : List ℤ) (j k : ℕ) → k ≡ i + j → j < length vs → i + length vs ≤ length l → get_or (sets l i vs) k o ≡ get_or vs j o
inside l i [] j k e h r = absurd (let z : ⊥ = omega arith in z)
inside l i (v ∷ vs) zero k e h r = below (set l i v) (suc i) vs k (omega arith) ∙ (let f : k ≡ i = omega arith in rw f (get_or-set_same l i v o (omega arith)))
inside l i (v ∷ vs) (suc j) k e h r = inside (set l i v) (suc i) vs j k (omega arith) (omega arith) (simp lib.ListN.length-set (omega arith))

five_same : (l : List ℤ) (i : ℕ) (t : Tile) → i + 5 ≤ length l → five_at (sets l i (numbers t)) i ≡ numbers t
unfolding five_at numbers
five_same l i t h =
    rw (
      inside l i (numbers t) 0 i (omega arith) (omega arith) h,
      inside l i (numbers t) 1 (suc i) (omega arith) (omega arith) h,
      inside l i (numbers t) 2 (suc (suc i)) (omega arith) (omega arith) h,
      inside l i (numbers t) 3 (suc (suc (suc i))) (omega arith) (omega arith) h,
      inside l i (numbers t) 4 (suc (suc (suc (suc i)))) (omega arith) (omega arith) h,
    )

get_or_other : (l : List ℤ) (i j : ℕ) (t : Tile) (k : ℕ) → i ≢ j → 5 * j ≤ k → k < 5 * j + 5 → get_or (sets l (5 * i) (numbers t)) k o ≡ get_or l k o
unfolding numbers
get_or_other l i j t k n a b = go (ltb i j) refl
  where
    go : (x : Bool) → ltb i j ≡ x → get_or (sets l (5 * i) (numbers t)) k o ≡ get_or l k o
    go true e = let h = borrow.Author.Tests.ltb-true i j e in above l (5 * i) (numbers t) k (omega arith)
    go false e = let h = ltb-false i j e in below l (5 * i) (numbers t) k (omega arith)

five_other : (l : List ℤ) (i j : ℕ) (t : Tile) → i ≢ j → five_at (sets l (5 * i) (numbers t)) (5 * j) ≡ five_at l (5 * j)
unfolding five_at
five_other l i j t n =
    rw (
      get_or_other l i j t (5 * j) n (omega arith) (omega arith),
      get_or_other l i j t (suc (5 * j)) n (omega arith) (omega arith),
      get_or_other l i j t (suc (suc (5 * j))) n (omega arith) (omega arith),
      get_or_other l i j t (suc (suc (suc (5 * j)))) n (omega arith) (omega arith),
      get_or_other l i j t (suc (suc (suc (suc (5 * j))))) n (omega arith) (omega arith),
    )

-- an item that has its tile has its answer
five_written : (i : ℕ) {ts : List Tile} (old : List ℤ) → Has i ts → 5 * i + 5 ≤ length old → five_at (written ts old) (5 * i) ≡ answer_of i ts
unfolding written answer_of numbers
five_written i {ts} old (this {t} {ts = us} e) h =
    rw (e, eq-eqb i i refl) (five_same (written us old) (5 * i) t (rw (written_length us old) h))
five_written i {ts} old (that {t} {ts = us} k) h = go (five_written i old k h) (eqb t.index i) refl
  where
    go : five_at (written us old) (5 * i) ≡ answer_of i us → (x : Bool) → eqb t.index i ≡ x → five_at (sets (written us old) (5 * t.index) (numbers t)) (5 * i) ≡ cond x (numbers t) (answer_of i us)
    go ih true e = rw (eqb-true t.index i e) (five_same (written us old) (5 * i) t (rw (written_length us old) h))
    go ih false e = five_other (written us old) t.index i t (eqb-false t.index i e) ∙ ih

cut : (l : List ℤ) (i : ℕ) → i + 5 ≤ length l → drop i l ≡ five_at l i ++ drop (suc (suc (suc (suc (suc i))))) l
unfolding five_at
cut l i h =
    rw (
      drop-cons l i o (omega arith),
      drop-cons l (suc i) o (omega arith),
      drop-cons l (suc (suc i)) o (omega arith),
      drop-cons l (suc (suc (suc i))) o (omega arith),
      drop-cons l (suc (suc (suc (suc i)))) o (omega arith),
    )

answers_cut : (n k : ℕ) (ts : List Tile) (old : List ℤ) → ((i : ℕ) → k ≤ i → i < k + n → Has i ts) → 5 * (k + n) ≤ length old
    → drop (5 * k) (written ts old) ≡ answers_of (up_to n k) ts ++ drop (5 * (k + n)) (written ts old)
unfolding up_to answers_of
answers_cut zero k ts old h r = let e : k + 0 ≡ k = omega arith in rw e
answers_cut (suc n) k ts old h r =
    let l = written ts old in
    let len : 5 * k + 5 ≤ length l = rw (written_length ts old) (omega arith) in
    let e : suc (suc (suc (suc (suc (5 * k))))) ≡ 5 * suc k = omega arith in
    let f : 5 * (suc k + n) ≡ 5 * (k + suc n) = omega arith in
    let ih = rw f at (answers_cut n (suc k) ts old (λ i a b. h i (omega arith) (omega arith)) (omega arith)) in
    cut l (5 * k) len ∙ rw (e, five_written k old (h k (omega arith) (omega arith)) (omega arith), ih) (sym (append_assoc (answer_of k ts) (answers_of (up_to n (suc k)) ts) (drop (5 * (k + suc n)) l)))

sets_drop : (m : ℕ) (l : List ℤ) (i : ℕ) (vs : List ℤ) → i + length vs ≤ m → drop m (sets l i vs) ≡ drop m l
sets_drop m l i [] h = refl
sets_drop m l i (v ∷ vs) h = sets_drop m (set l i v) (suc i) vs (omega arith) ∙ drop-set-lt m l i v (omega arith)

pub written_drop : (n : ℕ) {ts : List Tile} (old : List ℤ) → Every (λ (t : Tile). t.index < n) ts → drop (5 * n) (written ts old) ≡ drop (5 * n) old
unfolding written numbers
written_drop n old nil = refl
written_drop n old (more {x = t} {xs = ts} h hs) = sets_drop (5 * n) (written ts old) (5 * t.index) (numbers t) (omega arith) ∙ written_drop n old hs

-- WHAT IS WRITTEN IN THE END: the answers of all items, and behind them what was there
pub written_is : (n : ℕ) (ts : List Tile) (old : List ℤ) → ((i : ℕ) → i < n → Has i ts) → Every (λ (t : Tile). t.index < n) ts → 5 * n ≤ length old
    → written ts old ≡ answers_of (up_to n 0) ts ++ drop (5 * n) old
written_is n ts old h g r =
    let e : 0 + n ≡ n = omega arith in
    let c = rw e at (answers_cut n 0 ts old (λ i a b. h i (omega arith)) (omega arith)) in
    c ∙ rw (written_drop n old g)

-- ---- an item's answer is its tile's

pub record AnswerOf (i : ℕ) (us : List Tile) : Type 0 where
  pub tile : Tile
  pub earlier_tiles : List Tile
  pub laid : Before tile earlier_tiles us
  pub index : tile.index ≡ i
  pub is : answer_of i us ≡ numbers tile

pub answer_of_lem : (i : ℕ) {us : List Tile} → Has i us → AnswerOf i us
unfolding answer_of
answer_of_lem i (this {t} {ts} e) = record { tile = t; earlier_tiles = ts; laid = last; index = e; is = rw (eq-eqb t.index i e) }
answer_of_lem i (that {t} {ts} k) = go (eqb t.index i) refl (answer_of_lem i k)
  where
    go : (x : Bool) → eqb t.index i ≡ x → AnswerOf i ts → AnswerOf i (t ∷ ts)
    go true e a = record { tile = t; earlier_tiles = ts; laid = last; index = eqb-true t.index i e; is = rw e }
    go false e a = record { tile = a.tile; earlier_tiles = a.earlier_tiles; laid = earlier a.laid; index = a.index; is = rw e a.is }
