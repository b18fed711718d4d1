-- The walk's searches on the list of a board: what a caller needs to put the functions' contracts in place of the walk's words.
use mathlib.Core.Path.{◌≡◌, refl, ap, ◌∙◌, fun_ext}
use mathlib.Core.Bool.{Bool, true, false, cond, ◌&&◌}
use mathlib.Core.List.{List}
use mathlib.Core.Logic.{◌≢◌}
use Prim.Native.Nat.{ℕ, ◌≤◌}
use lib.IntN.{ℤ}
use lib.Signed.{lt_z, ◌≤ℤ◌, ◌<ℤ◌}
use Rattle.theory_signed.proofs.Laws.{signed}
use Rattle.theory_intervals.specs.Records.{between}
use Rattle.theory_intervals.specs.OverInt.{state_at}
use Rattle.theory_intervals.specs.Lists.{rules}
use Rattle.grid_coordinates.specs.declared.Lines.{Lines}
use Rattle.grid_track_counts.specs.declared.TrackCounts.{TrackCounts}
use Rattle.grid_track_counts.specs.Counts.{grid_start, grid_end, Covers}
use Rattle.theory_walk.specs.Axis.{Axis, col, row, other, Both, on, from, Extent}
use Rattle.theory_walk.specs.Search.{first_line, first_pair}
use Rattle.theory_walk.specs.Walk.{Tile, Board, Setting, records_on, free_at, free_across, free_pair}
use Rattle.theory_walk.proofs.Tests.{and_true, Every, nil, more}
use Rattle.theory_walk.proofs.LinesLaws.{CoversArea}
use Rattle.theory_walk.proofs.FreeLaws.{Tiled}
use Rattle.theory_walk.proofs.Cells.{Coloured, history, records_cell, between_in}
use Rattle.theory_walk.proofs.OnLists.{primary_list, secondary_list, pair_list}
use Rattle.placing_search.specs.Clear.{clear, Inside}
use Rattle.placing_search.proofs.Clears.{clear_on, inside_cells}

-- ---- every record of a list lies between the grid lines of the other axis

covers_on : (x : Axis) {c : Both TrackCounts} {a : Extent} → CoversArea c a → Covers (on x c) (on x a)
covers_on col h = h.columns
covers_on row h = h.rows

cell_inside : (x : Axis) (c : Both TrackCounts) {ts : List Tile} → Every (λ (t : Tile). CoversArea c t.area) ts → (u p : ℤ) → state_at (history x ts) u p ≢ 0
    → (grid_start (on (other x) c) ≤ℤ p) × (p <ℤ grid_end (on (other x) c))
cell_inside x c nil u p n = absurd (n refl)
cell_inside x c (more {x = t} {xs = ts} h hs) u p n = go (track && place) refl n (λ k. cell_inside x c hs u p k)
  where
    Between : Type 0
    Between = (grid_start (on (other x) c) ≤ℤ p) × (p <ℤ grid_end (on (other x) c))

    track : Bool
    track = between lt_z (on x t.area).start (on x t.area).end u

    place : Bool
    place = between lt_z (on (other x) t.area).start (on (other x) t.area).end p

    go : (b : Bool) → (track && place) ≡ b → cond b t.state (state_at (history x ts) u p) ≢ 0 → (state_at (history x ts) u p ≢ 0 → Between) → Between
    go true e k r =
        let i = between_in (on (other x) t.area) p (and_true track place e).1 in
        let v = covers_on (other x) h in
        let a = v.low in
        let b = v.high in
        let f = i.from in
        let g = i.to in
        (omega signed, omega signed)
    go false e k r = r k

pub inside_board : (x : Axis) (ts : List Tile) (c : Both TrackCounts) → rules (records_on x ts) ≡ true → Tiled ts → Coloured ts → Every (λ (t : Tile). CoversArea c t.area) ts
    → Inside (records_on x ts) (grid_start (on (other x) c)) (grid_end (on (other x) c))
inside_board x ts c h g k v =
    inside_cells (grid_start (on (other x) c)) (grid_end (on (other x) c)) (records_on x ts) h (λ u p n. cell_inside x c v u p (λ e. n (records_cell x ts g k u p ∙ e)))

-- ---- the searches

module _ (w : Setting) (t : Board) (g : Tiled t.tiles) (k : Coloured t.tiles) where
  -- along the primary axis, on the list whose tracks are of the secondary axis
  pub line_search : (n : ℕ) (s : Lines) → 1 ≤ n → s.start <ℤ s.end → (z : ℤ)
      → first_line (free_at w t n s) z ≡ first_line (λ y. clear (records_on (other w.axis) t.tiles) s (from y n)) z
  line_search n s h i z =
      primary_list w t g k n s h i z ∙ ap (λ (f : ℤ → Bool). first_line f z) (fun_ext (λ y. clear_on (other w.axis) (records_on (other w.axis) t.tiles) s (from y n)))

  -- along the secondary axis, on the list whose tracks are of the primary axis
  pub across_search : (p : Lines) (m : ℕ) → 1 ≤ m → p.start <ℤ p.end → (z : ℤ)
      → first_line (free_across w t p m) z ≡ first_line (λ y. clear (records_on w.axis t.tiles) p (from y m)) z
  across_search p m h i z =
      secondary_list w t g k p m h i z ∙ ap (λ (f : ℤ → Bool). first_line f z) (fun_ext (λ y. clear_on w.axis (records_on w.axis t.tiles) p (from y m)))

  -- both, on the list whose tracks are of the secondary axis
  pub pair_search : (n m : ℕ) → 1 ≤ n → 1 ≤ m → (places : ℤ → ℕ) (e p s : ℤ)
      → first_pair places e (free_pair w t n m) p s ≡ first_pair places e (λ y x. clear (records_on (other w.axis) t.tiles) (from x m) (from y n)) p s
  pair_search n m h i places e p s =
      ap (λ (f : ℤ → ℤ → Bool). first_pair places e f p s)
      (fun_ext (λ y. fun_ext (λ x. pair_list w t g k n m h i y x ∙ clear_on (other w.axis) (records_on (other w.axis) t.tiles) (from x m) (from y n))))
