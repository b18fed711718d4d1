-- Free areas, and what each step settles.
use mathlib.Core.Path.{◌≡◌, refl}
use mathlib.Core.Bool.{true, false, Bool}
use mathlib.Core.List.{List}
use Prim.Native.Nat.{ℕ}
use lib.IntN.{pos, ◌+ℤ◌}
use lib.Signed.{◌≤ℤ◌}
use Rattle.theory_signed.proofs.Laws.{signed, sum}
use Rattle.grid_coordinates.specs.declared.Lines.{Lines}
use Rattle.grid_track_counts.specs.declared.TrackCounts.{TrackCounts}
use Rattle.grid_track_counts.specs.Counts.{grid_start, grid_end}
use Rattle.theory_walk.specs.declared.Placement.TheVariants.{Fixed, Spanned}
use Rattle.theory_walk.specs.Axis.{Axis, col, row, on, laid, from, Extent}
use Rattle.theory_walk.specs.Search.{first_line, Place, at}
use Rattle.theory_walk.specs.Walk.{Tile, Board, Setting, free, free_at, free_across, free_pair, start2, choose2, start4, choose_line, overwide, pair_of, choose_pair, choose1, Choice}
use Rattle.theory_walk.specs.Rules.{FirstLine, FirstPair, Rule1, Rule2, Rule4, takes, finds, finds_line, finds_pair, lays_untested}
use Rattle.theory_walk.proofs.Tests.{Every, nil, more}
use Rattle.theory_walk.proofs.SearchLaws.{first_line_first, first_pair_first, first_unique, pair_unique}
use Rattle.theory_walk.proofs.LinesLaws.{AreaLimited, in_grid_on, overlap_not}

-- the tiles are in the grid
abbrev pub Tiled : List Tile → Type 0
Tiled = Every (λ (t : Tile). AreaLimited t.area)

-- EVERY LINE FROM 10000 ON IS FREE
pub free_beyond : (x : Axis) {ts : List Tile} (a : Extent) → Tiled ts → pos 10000 ≤ℤ (on x a).start → free ts a ≡ true
unfolding free
free_beyond x a nil h = refl
free_beyond x a (more {x = t} g gs) h =
    let k = (in_grid_on x t.area g).high in
    rw (overlap_not x t.area a (omega signed)) (free_beyond x a gs h)

pub beyond_primary : (x : Axis) {ts : List Tile} (p s : Lines) → Tiled ts → pos 10000 ≤ℤ p.start → free ts (laid x p s) ≡ true
beyond_primary col p s g h = free_beyond col (laid col p s) g h
beyond_primary row p s g h = free_beyond row (laid row p s) g h

pub beyond_secondary : (x : Axis) {ts : List Tile} (p s : Lines) → Tiled ts → pos 10000 ≤ℤ s.start → free ts (laid x p s) ≡ true
beyond_secondary col p s g h = free_beyond row (laid col p s) g h
beyond_secondary row p s g h = free_beyond col (laid row p s) g h

module _ (w : Setting) (t : Board) (g : Tiled t.tiles) where
  abbrev c : TrackCounts
  c = on w.axis t.counts

  -- STEP 2 takes the first free primary line from its starting line
  pub step2_first : (n : ℕ) (s : Lines) → FirstLine (free_at w t n s) (start2 w s.start t) (first_line (free_at w t n s) (start2 w s.start t))
  step2_first n s = first_line_first (free_at w t n s) (λ y h. beyond_primary w.axis (from y n) s g h) (start2 w s.start t)

  -- STEP 4, fixed primary: the first free secondary line from its starting line
  pub line_first : (p : Lines) (m : ℕ) → FirstLine (free_across w t p m) (start4 w p.start t) (first_line (free_across w t p m) (start4 w p.start t))
  line_first p m = first_line_first (free_across w t p m) (λ y h. beyond_secondary w.axis p (from y m) g h) (start4 w p.start t)

  pub fits_is : (n : ℕ) → overwide n c ≡ false → (grid_start c +ℤ pos n) ≤ℤ grid_end c
  unfolding overwide
  fits_is n e = omega (signed, sum (grid_start c) (pos n))

  -- STEP 4, neither fixed and not overwide: the first free pair from the cursor
  pub pair_first : (n m : ℕ) → overwide n c ≡ false
      → FirstPair n (grid_end c) (grid_start c) (free_pair w t n m) t.cursor.primary t.cursor.secondary (pair_of w n m t)
  unfolding pair_of
  pair_first n m e =
      first_pair_first n (grid_end c) (grid_start c) (free_pair w t n m) (λ y x h. beyond_secondary w.axis (from y n) (from x m) g h) (fits_is n e)
      t.cursor.primary t.cursor.secondary

-- what each step chooses keeps its rule
pub choose1_rule : (w : Setting) (p s : Lines) (t : Board) → Rule1 w t (Fixed p) (Fixed s) (choose1 w p s t)
unfolding choose1
choose1_rule w p s t = takes

pub choose2_rule : (w : Setting) (n : ℕ) (s : Lines) (t : Board) → Tiled t.tiles → Rule2 w t (Spanned n) (Fixed s) (choose2 w n s t)
unfolding choose2
choose2_rule w n s t g = finds (step2_first w t g n s)

pub choose_line_rule : (w : Setting) (once : Place) (p : Lines) (m : ℕ) (t : Board) → Tiled t.tiles → Rule4 w once t (Fixed p) (Spanned m) (choose_line w once p m t)
unfolding choose_line
choose_line_rule w once p m t g = finds_line (line_first w t g p m)

pub choose_pair_rule : (w : Setting) (once : Place) (n m : ℕ) (t : Board) → Tiled t.tiles → Rule4 w once t (Spanned n) (Spanned m) (choose_pair w once n m t)
unfolding choose_pair
choose_pair_rule w once n m t g = go (overwide n (on w.axis t.counts)) refl
  where
    go : (b : Bool) → overwide n (on w.axis t.counts) ≡ b → Rule4 w once t (Spanned n) (Spanned m) (choose_pair w once n m t)
    go true e = rw e (lays_untested e)
    go false e = rw e (finds_pair e (pair_first w t g n m e))

-- and nothing else keeps it
pub rule1_only : (w : Setting) (t : Board) (p s : Lines) (h : Choice) → Rule1 w t (Fixed p) (Fixed s) h → choose1 w p s t ≡ h
unfolding choose1
rule1_only w t p s h takes = refl

pub rule2_only : (w : Setting) (t : Board) (n : ℕ) (s : Lines) (h : Choice) → Tiled t.tiles → Rule2 w t (Spanned n) (Fixed s) h → choose2 w n s t ≡ h
unfolding choose2
rule2_only w t n s h g (finds f) = rw (first_unique (step2_first w t g n s) f)

pub rule4_line_only : (w : Setting) (once : Place) (t : Board) (p : Lines) (m : ℕ) (h : Choice) → Tiled t.tiles → Rule4 w once t (Fixed p) (Spanned m) h → choose_line w once p m t ≡ h
unfolding choose_line
rule4_line_only w once t p m h g (finds_line f) = rw (first_unique (line_first w t g p m) f)

pub rule4_pair_only : (w : Setting) (once : Place) (t : Board) (n m : ℕ) (h : Choice) → Tiled t.tiles → Rule4 w once t (Spanned n) (Spanned m) h → choose_pair w once n m t ≡ h
unfolding choose_pair
rule4_pair_only w once t n m h g (finds_pair {y} {x} e f) =
    let c = on w.axis t.counts in
    rw (e, pair_unique n (grid_end c) (grid_start c) (free_pair w t n m) t.cursor.primary t.cursor.secondary (pair_of w n m t) (at y x) (pair_first w t g n m e) f)
rule4_pair_only w once t n m h g (lays_untested e) = rw e
