-- Document 01's placement walk once more, as what it says of each item: "first free" by what it means and not by how it is searched. The walk's functions
-- keep these rules, and nothing else does: `ruled` and `ruled_only` of proofs/Promises.
use Rattle.std.specs.Prelude.{◌≡◌, Bool, true, false, not, ◌&&◌, List, [], ◌∷◌, ◌++◌, ℕ, ℤ, pos, ◌+ℤ◌, ◌≤ℤ◌, ◌<ℤ◌}
use Rattle.grid_coordinates.specs.declared.Lines.{Lines}
use Rattle.grid_track_counts.specs.declared.TrackCounts.{TrackCounts}
use Rattle.grid_track_counts.specs.Counts.{grid_start, grid_end}
use Rattle.theory_walk.specs.declared.Placement.{Placement}
use Rattle.theory_walk.specs.declared.Placement.TheVariants.{Fixed, Spanned}
use Rattle.theory_walk.specs.Axis.{col, row, other, Both, on, laid, from}
use Rattle.theory_walk.specs.Search.{Place}
use Rattle.theory_walk.specs.Walk.{is_fixed, Queued, Board, Setting, Choice, laid_on, short, Run, going, stopped, start2, free_at, moved, start4, free_across, free_pair, overwide, untested, begin4}

-- ---- first

-- r is the first line from z on at which the test passes
pub record FirstLine (ok : ℤ → Bool) (z r : ℤ) : Type 0 where
  pub since : z ≤ℤ r
  pub passes : ok r ≡ true
  pub fails : (y : ℤ) → z ≤ℤ y → y <ℤ r → ok y ≡ false

-- the places that a search from (p, s) tries, where a span of n is to end at or before e and a later secondary line begins at g
pub data Tried (n : ℕ) (e g p s : ℤ) : ℤ → ℤ → Type 0 where
  here : {y : ℤ} → p ≤ℤ y → (y +ℤ pos n) ≤ℤ e → Tried n e g p s y s
  later : {y x : ℤ} → s <ℤ x → g ≤ℤ y → (y +ℤ pos n) ≤ℤ e → Tried n e g p s y x

-- r is the first place tried at which the test passes, by secondary line and then by primary line
pub record FirstPair (n : ℕ) (e g : ℤ) (ok : ℤ → ℤ → Bool) (p s : ℤ) (r : Place) : Type 0 where
  pub tried : Tried n e g p s r.primary r.secondary
  pub passes : ok r.primary r.secondary ≡ true
  pub above : (y x : ℤ) → Tried n e g p s y x → x <ℤ r.secondary → ok y x ≡ false
  pub before : (y : ℤ) → Tried n e g p s y r.secondary → y <ℤ r.primary → ok y r.secondary ≡ false

-- ---- which items a step takes up, by their primary and secondary placement

-- "Items fixed in both axes"
abbrev pub mine1 : Placement → Placement → Bool
mine1 p s = is_fixed p && is_fixed s

-- "Items fixed in the secondary axis only"
abbrev pub mine2 : Placement → Placement → Bool
mine2 p s = not (is_fixed p) && is_fixed s

-- "The rest."
abbrev pub mine4 : Placement → Placement → Bool
mine4 p s = not (is_fixed s)

-- ---- what a step settles for an item on the board t

abbrev pub Rule : Type 1
Rule = Board → Placement → Placement → Choice → Type 0

pub data Rule1 (w : Setting) (t : Board) : Placement → Placement → Choice → Type 0 where
  -- "take their lines"
  takes : {p s : Lines} → Rule1 w t (Fixed p) (Fixed s) (record { area = laid w.axis p s; step = 1; state = w.fixed_state; flags = 2; cursor = t.cursor })

pub data Rule2 (w : Setting) (t : Board) : Placement → Placement → Choice → Type 0 where
  -- "the first free primary line at or after the starting line"
  finds : {n : ℕ} {s : Lines} {z : ℤ} → FirstLine (free_at w t n s) (start2 w s.start t) z
      → Rule2 w t (Spanned n) (Fixed s) (record { area = laid w.axis (from z n) s; step = 2; state = w.auto_state; flags = 0; cursor = t.cursor })

-- once: the lines read once before step 4
pub data Rule4 (w : Setting) (once : Place) (t : Board) : Placement → Placement → Choice → Type 0 where
  -- "Fixed primary: .. First free secondary line upward."
  finds_line : {p : Lines} {m : ℕ} {z : ℤ} → FirstLine (free_across w t p m) (start4 w p.start t) z
      → Rule4 w once t (Fixed p) (Spanned m) (record { area = laid w.axis p (from z m); step = 4; state = w.auto_state; flags = 0; cursor = moved w once p (from z m) })
  -- "Neither fixed: .. First free pair."
  finds_pair : {n m : ℕ} {y x : ℤ} → overwide n (on w.axis t.counts) ≡ false
      → FirstPair n (grid_end (on w.axis t.counts)) (grid_start (on w.axis t.counts)) (free_pair w t n m) t.cursor.primary t.cursor.secondary (record { primary = y; secondary = x })
      → Rule4 w once t (Spanned n) (Spanned m) (record { area = laid w.axis (from y n) (from x m); step = 4; state = w.auto_state; flags = 0; cursor = moved w once (from y n) (from x m) })
  -- "it is laid there without a collision test and marked overwide"
  lays_untested : {n m : ℕ} → overwide n (on w.axis t.counts) ≡ true
      → Rule4 w once t (Spanned n) (Spanned m) (record { area = laid w.axis (from (untested w t).primary n) (from (untested w t).secondary m); step = 4; state = w.auto_state; flags = 4; cursor = moved w once (from (untested w t).primary n) (from (untested w t).secondary m) })

-- "overwide": neither axis is fixed, and the primary span does not fit
abbrev pub wide : Setting → Board → Placement → Placement → Bool
wide w t (Fixed p) s = false
wide w t (Spanned n) (Fixed s) = false
wide w t (Spanned n) (Spanned m) = overwide n (on w.axis t.counts)

-- by one of the three steps
pub data Settled (w : Setting) (once : Place) (t : Board) (p s : Placement) (h : Choice) : Type 0 where
  by1 : Rule1 w t p s h → Settled w once t p s h
  by2 : Rule2 w t p s h → Settled w once t p s h
  by4 : Rule4 w once t p s h → Settled w once t p s h

-- ---- one item in one step: it is another step's; or its tile is laid and there is room; or there is none, and the run ends with 7 or 8 and its index

pub data Turn (w : Setting) (mine : Placement → Placement → Bool) (R : Rule) (i : ℕ) (p s : Placement) (t : Board) : Run → Type 0 where
  passes : mine p s ≡ false → Turn w mine R i p s t (going t)
  lays : (h : Choice) → R t p s h → short w row (laid_on i h t) ≡ false → short w col (laid_on i h t) ≡ false → Turn w mine R i p s t (going (laid_on i h t))
  full7 : (h : Choice) → R t p s h → short w row (laid_on i h t) ≡ true → Turn w mine R i p s t (stopped 7 i)
  full8 : (h : Choice) → R t p s h → short w row (laid_on i h t) ≡ false → short w col (laid_on i h t) ≡ true → Turn w mine R i p s t (stopped 8 i)

-- a step over the items, in placing order
pub data Through (w : Setting) (mine : Placement → Placement → Bool) (R : Rule) : List Queued → Board → Run → Type 0 where
  done : {t : Board} → Through w mine R [] t (going t)
  goes : {q : Queued} {qs : List Queued} {t u : Board} {r : Run} → Turn w mine R q.index (on w.axis q.item) (on (other w.axis) q.item) t (going u)
      → Through w mine R qs u r → Through w mine R (q ∷ qs) t r
  stops : {q : Queued} {qs : List Queued} {t : Board} {n i : ℕ} → Turn w mine R q.index (on w.axis q.item) (on (other w.axis) q.item) t (stopped n i)
      → Through w mine R (q ∷ qs) t (stopped n i)

-- the three steps, one after the other, up to the first refusal
pub data Walked (w : Setting) (growth : Both TrackCounts → Both TrackCounts) (qs : List Queued) (t : Board) : Run → Type 0 where
  stops1 : {n i : ℕ} → Through w mine1 (Rule1 w) qs t (stopped n i) → Walked w growth qs t (stopped n i)
  stops2 : {b₁ : Board} {n i : ℕ} → Through w mine1 (Rule1 w) qs t (going b₁) → Through w mine2 (Rule2 w) qs b₁ (stopped n i) → Walked w growth qs t (stopped n i)
  ends : {b₁ b₂ : Board} {r : Run} → Through w mine1 (Rule1 w) qs t (going b₁) → Through w mine2 (Rule2 w) qs b₁ (going b₂)
      → Through w mine4 (Rule4 w (begin4 w growth b₂).cursor) qs (begin4 w growth b₂) r → Walked w growth qs t r

-- ---- no room

-- on this board the list that the number names is too short: "7 before 8"
pub data Short (w : Setting) (b : Board) : ℕ → Type 0 where
  rows_short : short w row b ≡ true → Short w b 7
  columns_short : short w row b ≡ false → short w col b ≡ true → Short w b 8

-- a step from the board t comes, after the first items xs, to an item whose tile lacks room
pub record Lacks (w : Setting) (mine : Placement → Placement → Bool) (R : Rule) (qs : List Queued) (t : Board) (n i : ℕ) : Type 0 where
  pub xs : List Queued
  pub item : Queued
  pub ys : List Queued
  pub order : qs ≡ xs ++ (item ∷ ys)
  pub before : Board
  pub reached : Through w mine R xs t (going before)
  pub choice : Choice
  pub settled : R before (on w.axis item.item) (on (other w.axis) item.item) choice
  pub index : item.index ≡ i
  pub lacks : Short w (laid_on item.index choice before) n

-- in one of the three steps
pub data Full (w : Setting) (growth : Both TrackCounts → Both TrackCounts) (qs : List Queued) (t : Board) (n i : ℕ) : Type 0 where
  in1 : Lacks w mine1 (Rule1 w) qs t n i → Full w growth qs t n i
  in2 : {b₁ : Board} → Through w mine1 (Rule1 w) qs t (going b₁) → Lacks w mine2 (Rule2 w) qs b₁ n i → Full w growth qs t n i
  in4 : {b₁ b₂ : Board} → Through w mine1 (Rule1 w) qs t (going b₁) → Through w mine2 (Rule2 w) qs b₁ (going b₂)
      → Lacks w mine4 (Rule4 w (begin4 w growth b₂).cursor) qs (begin4 w growth b₂) n i → Full w growth qs t n i
