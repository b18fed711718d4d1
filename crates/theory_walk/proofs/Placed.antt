-- Every item is placed, once; the queue in document order.
use mathlib.Core.Path.{◌≡◌, refl, ap}
use mathlib.Core.Logic.{◌⊎◌, inl, inr}
use mathlib.Core.Bool.{Bool, true, false}
use mathlib.Core.List.{List, [], ◌∷◌}
use Prim.Native.Nat.{ℕ, zero, suc, ◌+◌, ◌≤◌, ◌<◌}
use native.Mathlib.Omega.{arith}
use borrow.Author.Tests.{eqb-true, eqb-false}
use lib.Dec.{eqb}
use lib.ListN.{length, get_or}
use Rattle.grid_track_counts.specs.declared.TrackCounts.{TrackCounts}
use Rattle.theory_walk.specs.declared.Placement.{Placement}
use Rattle.theory_walk.specs.declared.Placement.TheVariants.{Fixed, Spanned}
use Rattle.theory_walk.specs.Axis.{other, Both, on}
use Rattle.theory_walk.specs.Search.{Place}
use Rattle.theory_walk.specs.Walk.{Item, Queued, Tile, Board, Setting, Choice, Run, going, tile_of, laid_on, put, choose1, step1, choose2, step2, choose_line, choose_pair, step4, and_then, each, begin4, last4, walk, bit}
use Rattle.theory_walk.specs.Request.{up_to, queue}
use Rattle.theory_walk.specs.Rules.{mine1, mine2, mine4}
use Rattle.theory_walk.proofs.Tests.{Every, nil, more, clash, Mem, which}
use Rattle.theory_walk.proofs.WalkLaws.{put_going, stay, went, each_keeps, Move, stays, lays, move1, move2, move4, anyone}

-- ---- each item has its tile

pub data Has (i : ℕ) : List Tile → Type 0 where
  this : {t : Tile} {ts : List Tile} → t.index ≡ i → Has i (t ∷ ts)
  that : {t : Tile} {ts : List Tile} → Has i ts → Has i (t ∷ ts)

moved_has : (w : Setting) (i j : ℕ) (t b : Board) → Has i t.tiles → Move w j t b → Has i b.tiles
unfolding laid_on
moved_has w i j t b h (stays e) = rw (← e) h
moved_has w i j t b h (lays x st m e) = rw (← e) (that h)

laid_has : (w : Setting) (i : ℕ) (x : Choice) (t b : Board) → put w i x t ≡ going b → Has i b.tiles
unfolding laid_on tile_of
laid_has w i x t b e = rw (← (put_going w i x t b e)) (this refl)

-- a step that lays each item of a class gives each its tile
module _ (w : Setting) (f : ℕ → Placement → Placement → Board → Run) (C : Placement → Placement → Bool)
    (move : (i : ℕ) (p s : Placement) (t b : Board) → f i p s t ≡ going b → Move w i t b)
    (mine : (i : ℕ) (p s : Placement) (t b : Board) → C p s ≡ true → f i p s t ≡ going b → Has i b.tiles) where
  each_carries : (i : ℕ) (qs : List Queued) (t b : Board) → Has i t.tiles → each w f qs t ≡ going b → Has i b.tiles
  each_carries i qs t b h e = each_keeps w f (λ _ _ _. Unit {0}) (λ _ x. Has i x.tiles) (λ _ j p s x y _ k g. moved_has w i j x y k (move j p s x y g)) qs 0 t b (anyone qs) h e

  each_has : (qs : List Queued) (t b : Board) → each w f qs t ≡ going b → Every (λ (q : Queued). C (on w.axis q.item) (on (other w.axis) q.item) ≡ true → Has q.index b.tiles) qs
  unfolding each
  each_has [] t b e = nil
  each_has (q ∷ qs) t b e =
      let v = went (f q.index (on w.axis q.item) (on (other w.axis) q.item) t) (λ u. each w f qs u) b e in
      more (λ c. each_carries q.index qs v.middle b (mine q.index (on w.axis q.item) (on (other w.axis) q.item) t v.middle c v.first) v.second)
      (each_has qs v.middle b v.second)

module _ (w : Setting) where
  has1 : (i : ℕ) (p s : Placement) (t b : Board) → mine1 p s ≡ true → step1 w i p s t ≡ going b → Has i b.tiles
  unfolding step1
  has1 i (Fixed p) (Fixed s) t b c e = laid_has w i (choose1 w p s t) t b e
  has1 i (Fixed p) (Spanned m) t b c e = clash c refl
  has1 i (Spanned n) (Fixed s) t b c e = clash c refl
  has1 i (Spanned n) (Spanned m) t b c e = clash c refl

  has2 : (i : ℕ) (p s : Placement) (t b : Board) → mine2 p s ≡ true → step2 w i p s t ≡ going b → Has i b.tiles
  unfolding step2
  has2 i (Fixed p) (Fixed s) t b c e = clash c refl
  has2 i (Fixed p) (Spanned m) t b c e = clash c refl
  has2 i (Spanned n) (Fixed s) t b c e = laid_has w i (choose2 w n s t) t b e
  has2 i (Spanned n) (Spanned m) t b c e = clash c refl

  has4 : (once : Place) (i : ℕ) (p s : Placement) (t b : Board) → mine4 p s ≡ true → step4 w once i p s t ≡ going b → Has i b.tiles
  unfolding step4
  has4 once i (Fixed p) (Fixed s) t b c e = clash c refl
  has4 once i (Fixed p) (Spanned m) t b c e = laid_has w i (choose_line w once p m t) t b e
  has4 once i (Spanned n) (Fixed s) t b c e = clash c refl
  has4 once i (Spanned n) (Spanned m) t b c e = laid_has w i (choose_pair w once n m t) t b e

  one_of : {H : Type 0} (p s : Placement) → (mine1 p s ≡ true → H) → (mine2 p s ≡ true → H) → (mine4 p s ≡ true → H) → H
  one_of (Fixed p) (Fixed s) f g h = f refl
  one_of (Fixed p) (Spanned m) f g h = h refl
  one_of (Spanned n) (Fixed s) f g h = g refl
  one_of (Spanned n) (Spanned m) f g h = h refl

  three : {A B C D : Queued → Type 0} {qs : List Queued} → ((q : Queued) → A q → B q → C q → D q) → Every A qs → Every B qs → Every C qs → Every D qs
  three f nil nil nil = nil
  three f (more {x = q} a az) (more b bz) (more c cz) = more (f q a b c) (three f az bz cz)

  -- EVERY ITEM IS PLACED
  pub walk_has : (growth : Both TrackCounts → Both TrackCounts) (qs : List Queued) (t b : Board) → walk w growth qs t ≡ going b → Every (λ (q : Queued). Has q.index b.tiles) qs
  unfolding walk last4 begin4
  walk_has growth qs t b e =
      let v = went (each w (step1 w) qs t) (λ b₁. and_then (each w (step2 w) qs b₁) (λ b₂. last4 w qs (begin4 w growth b₂))) b e in
      let u = went (each w (step2 w) qs v.middle) (λ b₂. last4 w qs (begin4 w growth b₂)) b v.second in
      let c = begin4 w growth u.middle in
      let h₁ = each_has w (step1 w) mine1 (λ i p s x y f. move1 w i p s x y f) (λ i p s x y k f. has1 i p s x y k f) qs t v.middle v.first in
      let h₂ = each_has w (step2 w) mine2 (λ i p s x y f. move2 w i p s x y f) (λ i p s x y k f. has2 i p s x y k f) qs v.middle u.middle u.first in
      let h₄ = each_has w (step4 w c.cursor) mine4 (λ i p s x y f. move4 w c.cursor i p s x y f) (λ i p s x y k f. has4 c.cursor i p s x y k f) qs c b u.second in
      three (λ q f g h. one_of (on w.axis q.item) (on (other w.axis) q.item) (λ k. end4 u.middle u.second q.index (mid2 v.middle u.middle u.first q.index (f k))) (λ k. end4 u.middle u.second q.index (g k)) h) h₁ h₂ h₄
    where
      mid2 : (x y : Board) → each w (step2 w) qs x ≡ going y → (i : ℕ) → Has i x.tiles → Has i y.tiles
      mid2 x y f i h = each_carries w (step2 w) mine2 (λ i p s x y f. move2 w i p s x y f) (λ i p s x y k f. has2 i p s x y k f) i qs x y h f

      end4 : (x : Board) → last4 w qs (begin4 w growth x) ≡ going b → (i : ℕ) → Has i x.tiles → Has i b.tiles
      end4 x f i h =
          let c = begin4 w growth x in
          each_carries w (step4 w c.cursor) mine4 (λ i p s x y f. move4 w c.cursor i p s x y f) (λ i p s x y k f. has4 c.cursor i p s x y k f) i qs c b h f

-- ---- and one tile only: a run lays as many tiles as it has items

-- 1 where the step takes the item up
abbrev one : (Placement → Placement → Bool) → Placement → Placement → ℕ
one c p s = bit 1 (c p s)

one_step : (p s : Placement) → one mine1 p s + one mine2 p s + one mine4 p s ≡ 1
one_step (Fixed p) (Fixed s) = refl
one_step (Fixed p) (Spanned m) = refl
one_step (Spanned n) (Fixed s) = refl
one_step (Spanned n) (Spanned m) = refl

laid_one : (w : Setting) (i : ℕ) (x : Choice) (t b : Board) → put w i x t ≡ going b → length b.tiles ≡ 1 + length t.tiles
unfolding laid_on
laid_one w i x t b e = rw (← (put_going w i x t b e)) (omega arith)

none_laid : (t b : Board) → going t ≡ going b → length b.tiles ≡ 0 + length t.tiles
none_laid t b e = rw (← (stay e)) (omega arith)

module _ (w : Setting) where
  total : (Placement → Placement → Bool) → List Queued → ℕ
  total c [] = 0
  total c (q ∷ qs) = one c (on w.axis q.item) (on (other w.axis) q.item) + total c qs

  total_all : (qs : List Queued) → total mine1 qs + total mine2 qs + total mine4 qs ≡ length qs
  unfolding total
  total_all [] = refl
  total_all (q ∷ qs) = omega (arith, total_all qs, one_step (on w.axis q.item) (on (other w.axis) q.item))

  each_count : (f : ℕ → Placement → Placement → Board → Run) (c : Placement → Placement → Bool) → ((i : ℕ) (p s : Placement) (t b : Board) → f i p s t ≡ going b → length b.tiles ≡ one c p s + length t.tiles)
      → (qs : List Queued) (t b : Board) → each w f qs t ≡ going b → length b.tiles ≡ total c qs + length t.tiles
  unfolding each total
  each_count f c ones [] t b e = none_laid t b e
  each_count f c ones (q ∷ qs) t b e =
      let v = went (f q.index (on w.axis q.item) (on (other w.axis) q.item) t) (λ u. each w f qs u) b e in
      let h = ones q.index (on w.axis q.item) (on (other w.axis) q.item) t v.middle v.first in
      let k = each_count f c ones qs v.middle b v.second in
      omega arith

  lays1 : (i : ℕ) (p s : Placement) (t b : Board) → step1 w i p s t ≡ going b → length b.tiles ≡ one mine1 p s + length t.tiles
  unfolding step1
  lays1 i (Fixed p) (Fixed s) t b e = laid_one w i (choose1 w p s t) t b e
  lays1 i (Fixed p) (Spanned m) t b e = none_laid t b e
  lays1 i (Spanned n) (Fixed s) t b e = none_laid t b e
  lays1 i (Spanned n) (Spanned m) t b e = none_laid t b e

  lays2 : (i : ℕ) (p s : Placement) (t b : Board) → step2 w i p s t ≡ going b → length b.tiles ≡ one mine2 p s + length t.tiles
  unfolding step2
  lays2 i (Fixed p) (Fixed s) t b e = none_laid t b e
  lays2 i (Fixed p) (Spanned m) t b e = none_laid t b e
  lays2 i (Spanned n) (Fixed s) t b e = laid_one w i (choose2 w n s t) t b e
  lays2 i (Spanned n) (Spanned m) t b e = none_laid t b e

  lays4 : (once : Place) (i : ℕ) (p s : Placement) (t b : Board) → step4 w once i p s t ≡ going b → length b.tiles ≡ one mine4 p s + length t.tiles
  unfolding step4
  lays4 once i (Fixed p) (Fixed s) t b e = none_laid t b e
  lays4 once i (Fixed p) (Spanned m) t b e = laid_one w i (choose_line w once p m t) t b e
  lays4 once i (Spanned n) (Fixed s) t b e = none_laid t b e
  lays4 once i (Spanned n) (Spanned m) t b e = laid_one w i (choose_pair w once n m t) t b e

  pub walk_count : (growth : Both TrackCounts → Both TrackCounts) (qs : List Queued) (t b : Board) → walk w growth qs t ≡ going b → length b.tiles ≡ length qs + length t.tiles
  unfolding walk last4 begin4
  walk_count growth qs t b e =
      let v = went (each w (step1 w) qs t) (λ b₁. and_then (each w (step2 w) qs b₁) (λ b₂. last4 w qs (begin4 w growth b₂))) b e in
      let u = went (each w (step2 w) qs v.middle) (λ b₂. last4 w qs (begin4 w growth b₂)) b v.second in
      let c = begin4 w growth u.middle in
      let n₁ = each_count (step1 w) mine1 lays1 qs t v.middle v.first in
      let n₂ = each_count (step2 w) mine2 lays2 qs v.middle u.middle u.first in
      let n₄ = each_count (step4 w c.cursor) mine4 (lays4 c.cursor) qs c b u.second in
      omega (arith, total_all qs)

-- ---- the queue in document order

pub queue_all : (n k : ℕ) (xs : List Item) (H : ℕ → Type 0) → Every (λ (q : Queued). H q.index) (queue (up_to n k) xs) → (i : ℕ) → k ≤ i → i < k + n → H i
unfolding queue up_to
queue_all zero k xs H g i a b = absurd (let z : ⊥ = omega arith in z)
queue_all (suc n) k xs H (more g gs) i a b = go (queue_all n (suc k) xs H gs) (eqb k i) refl
  where
    go : ((i : ℕ) → suc k ≤ i → i < suc k + n → H i) → (x : Bool) → eqb k i ≡ x → H i
    go rec true e = rw (← (eqb-true k i e)) g
    go rec false e = let d = eqb-false k i e in rec i (omega arith) (omega arith)

pub queue_below : (n k m : ℕ) (xs : List Item) → k + n ≤ m → Every (λ (q : Queued). q.index < m) (queue (up_to n k) xs)
unfolding queue up_to
queue_below zero k m xs h = nil
queue_below (suc n) k m xs h = let e : k < m = omega arith in more e (queue_below n (suc k) m xs (omega arith))

pub queue_length : (n k : ℕ) (xs : List Item) → length (queue (up_to n k) xs) ≡ n
unfolding queue up_to
queue_length zero k xs = refl
queue_length (suc n) k xs = ap suc (queue_length n (suc k) xs)

-- an item of the queue is the item of its index
pub queue_item : (is : List ℕ) (xs : List Item) (q : Queued) → Mem q (queue is xs) → q.item ≡ get_or xs q.index (record { columns = Spanned 1; rows = Spanned 1 })
unfolding queue
queue_item [] xs q m = elim m [ ]
queue_item (i ∷ is) xs q m = go (which m) (λ k. queue_item is xs q k)
  where
    go : (q ≡ record { index = i; item = get_or xs i (record { columns = Spanned 1; rows = Spanned 1 }) }) ⊎ Mem q (queue is xs)
        → (Mem q (queue is xs) → q.item ≡ get_or xs q.index (record { columns = Spanned 1; rows = Spanned 1 })) → q.item ≡ get_or xs q.index (record { columns = Spanned 1; rows = Spanned 1 })
    go (inl e) f = rw e refl
    go (inr k) f = f k
