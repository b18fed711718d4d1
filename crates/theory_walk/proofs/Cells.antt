-- The tiles' cells: free exactly when no cell of the area has a state, in the history of paints and in the lists.
use mathlib.Core.Path.{◌≡◌, refl, sym, ◌∙◌}
use mathlib.Core.Bool.{Bool, true, false, not, cond, ◌&&◌}
use mathlib.Core.List.{List, [], ◌∷◌, map}
use mathlib.Core.Logic.{◌↔◌}
use Prim.Native.Nat.{ℕ, ◌*◌, ◌≤◌}
use lib.IntN.{ℤ, pos, negsuc}
use lib.ListN.{length}
use lib.Signed.{lt_z, ◌≤ℤ◌, ◌<ℤ◌}
use Rattle.theory_signed.proofs.Laws.{signed, by_test, g_lt_true, g_lt_false, g_le_true}
use Rattle.theory_intervals.specs.Records.{Area, between}
use Rattle.theory_intervals.specs.OverInt.{state_at, cell_of, keeps, fits, ok, flat}
use Rattle.theory_intervals.specs.Lists.{all_in, rules, good_areas, Holds}
use Rattle.theory_intervals.proofs.OverInt.{painted_cell}
use Rattle.theory_intervals.proofs.Limits.{painted_rules, good_fits}
use Rattle.theory_intervals.proofs.Lists.{flat_holds}
use Rattle.grid_coordinates.specs.declared.Lines.{Lines}
use Rattle.grid_coordinates.specs.Line.{Limited}
use Rattle.theory_walk.specs.Axis.{Axis, col, row, other, on, meets, Extent, overlap}
use Rattle.theory_walk.specs.Walk.{Tile, free, area_on, records_on}
use Rattle.theory_walk.proofs.Tests.{clash, and_true, and_swap, not-true, Every, nil, more}
use Rattle.theory_walk.proofs.LinesLaws.{in_grid_on}
use Rattle.theory_walk.proofs.FreeLaws.{Tiled}

-- z is the start of a track of the span
pub record In (l : Lines) (z : ℤ) : Type 0 where
  pub from : l.start ≤ℤ z
  pub to : z <ℤ l.end

pub between_in : (l : Lines) (z : ℤ) → between lt_z l.start l.end z ≡ true → In l z
between_in l z e =
    let h = and_true (not (lt_z z l.start)) (lt_z z l.end) e in
    let f = not-true (lt_z z l.start) h.0 in
    let g = h.1 in
    record { from = omega signed; to = omega signed }

pub in_between : (l : Lines) (z : ℤ) → In l z → between lt_z l.start l.end z ≡ true
in_between l z h = rw (g_lt_false z l.start (omega signed), g_lt_true z l.end (omega signed))

meets_is : (l m : Lines) → l.start <ℤ m.end → m.start <ℤ l.end → meets l m ≡ true
meets_is l m f g = rw (g_lt_true l.start m.end (omega signed), g_lt_true m.start l.end (omega signed))

-- two spans that share a track start: it is the larger of their starts
pub record Common (l m : Lines) : Type 0 where
  pub at : ℤ
  pub left : In l at
  pub right : In m at

pub common : (l m : Lines) → l.start <ℤ l.end → m.start <ℤ m.end → meets l m ≡ true → Common l m
common l m f g e =
    let h = and_true (lt_z l.start m.end) (lt_z m.start l.end) e in
    let h₀ = h.0 in
    let h₁ = h.1 in
    by_test (lt_z l.start m.start) (λ _. Common l m)
    (λ k. record { at = m.start; left = record { from = omega signed; to = omega signed }; right = record { from = omega signed; to = g } })
    (λ k. record { at = l.start; left = record { from = omega signed; to = f }; right = record { from = omega signed; to = omega signed } })

pub overlap_on : (x : Axis) (a b : Extent) → overlap a b ≡ (meets (on x a) (on x b) && meets (on (other x) a) (on (other x) b))
overlap_on col a b = refl
overlap_on row a b = and_swap (meets a.columns b.columns) (meets a.rows b.rows)

-- the cell (t, p), track and position, of an area on the list of an axis
pub record Cell (x : Axis) (a : Extent) (t p : ℤ) : Type 0 where
  pub track : In (on x a) t
  pub place : In (on (other x) a) p

pub record Solid (a : Extent) : Type 0 where
  pub columns : a.columns.start <ℤ a.columns.end
  pub rows : a.rows.start <ℤ a.rows.end

pub solid_on : (x : Axis) (a : Extent) → Solid a → (on x a).start <ℤ (on x a).end
solid_on col a h = h.columns
solid_on row a h = h.rows

cells_overlap : (x : Axis) (a b : Extent) (t p : ℤ) → Cell x a t p → Cell x b t p → overlap a b ≡ true
cells_overlap x a b t p f g =
    let f₀ = f.track in
    let f₁ = f.place in
    let g₀ = g.track in
    let g₁ = g.place in
    overlap_on x a b ∙ rw (meets_is (on x a) (on x b) (omega signed) (omega signed), meets_is (on (other x) a) (on (other x) b) (omega signed) (omega signed))

-- the history of a list: the tiles as its areas, newest first
abbrev pub history : Axis → List Tile → List (Area ℤ)
history x ts = map (area_on x) ts

abbrev pub Coloured : List Tile → Type 0
Coloured = Every (λ (t : Tile). ok t.state ≡ true)

pub ok_nz : (s : ℕ) → ok s ≡ true → s ≡ 0 → ⊥
ok_nz s e z = clash (rw z at e) refl

-- the test by which `state_at` asks for a cell of a tile
abbrev hits : Axis → Tile → ℤ → ℤ → Bool
hits x t u p = between lt_z (on x t.area).start (on x t.area).end u && between lt_z (on (other x) t.area).start (on (other x) t.area).end p

hits_cell : (x : Axis) (t : Tile) (u p : ℤ) → hits x t u p ≡ true → Cell x t.area u p
hits_cell x t u p e =
    let h = and_true (between lt_z (on x t.area).start (on x t.area).end u) (between lt_z (on (other x) t.area).start (on (other x) t.area).end p) e in
    record { track = between_in (on x t.area) u h.0; place = between_in (on (other x) t.area) p h.1 }

cell_hits : (x : Axis) (t : Tile) (u p : ℤ) → Cell x t.area u p → hits x t u p ≡ true
cell_hits x t u p c = rw (in_between (on x t.area) u c.track, in_between (on (other x) t.area) p c.place)

-- FREE: no cell of the area has a state
pub free_cells : (x : Axis) (ts : List Tile) (a : Extent) → free ts a ≡ true → (u p : ℤ) → Cell x a u p → state_at (history x ts) u p ≡ 0
unfolding free
free_cells x [] a f u p c = refl
free_cells x (t ∷ ts) a f u p c =
    let h = and_true (not (overlap t.area a)) (free ts a) f in
    by_test (hits x t u p) (λ b. hits x t u p ≡ b → cond b t.state (state_at (history x ts) u p) ≡ 0)
    (λ _ e. clash (cells_overlap x t.area a u p (hits_cell x t u p e) c) (not-true (overlap t.area a) h.0))
    (λ _ e. free_cells x ts a h.1 u p c)
    refl

pub cells_free : (x : Axis) (ts : List Tile) (a : Extent) → Tiled ts → Coloured ts → Solid a → ((u p : ℤ) → Cell x a u p → state_at (history x ts) u p ≡ 0) → free ts a ≡ true
unfolding free
cells_free x [] a g k s h = refl
cells_free x (t ∷ ts) a (more g gs) (more k ks) s h = rw (apart (overlap t.area a) refl) (cells_free x ts a gs ks s rest)
  where
    rest : (u p : ℤ) → Cell x a u p → state_at (history x ts) u p ≡ 0
    rest u p c = by (hits x t u p) (h u p c)
      where
        by : (b : Bool) → cond b t.state (state_at (history x ts) u p) ≡ 0 → state_at (history x ts) u p ≡ 0
        by true e = absurd (ok_nz t.state k e)
        by false e = e

    shared : overlap t.area a ≡ true → ⊥
    shared e =
        let m = and_true (meets (on x t.area) (on x a)) (meets (on (other x) t.area) (on (other x) a)) (sym (overlap_on x t.area a) ∙ e) in
        let u = common (on x t.area) (on x a) (in_grid_on x t.area g).order (solid_on x a s) m.0 in
        let p = common (on (other x) t.area) (on (other x) a) (in_grid_on (other x) t.area g).order (solid_on (other x) a s) m.1 in
        let c : Cell x a u.at p.at = record { track = u.right; place = p.right } in
        let d : Cell x t.area u.at p.at = record { track = u.left; place = p.left } in
        let z = rw (cell_hits x t u.at p.at d) at (h u.at p.at c) in
        ok_nz t.state k z

    apart : (b : Bool) → overlap t.area a ≡ b → overlap t.area a ≡ false
    apart true e = absurd (shared e)
    apart false e = e

-- ---- the lists: they keep the rules, and their cells are those of the history

-- each tile is an area that may be painted
pub history_good : (x : Axis) {ts : List Tile} → Tiled ts → Coloured ts → good_areas (history x ts) ≡ true
history_good x nil nil = refl
history_good x (more {x = t} g gs) (more k ks) =
    let l = on x t.area in
    let m = on (other x) t.area in
    let a : Limited l = in_grid_on x t.area g in
    let b : Limited m = in_grid_on (other x) t.area g in
    rw (
      g_lt_true l.start l.end (omega signed),
      g_lt_true m.start m.end (omega signed),
      k,
      g_le_true (negsuc 9999) l.start (omega signed),
      g_le_true l.end (pos 10000) (omega signed),
      g_le_true (negsuc 9999) m.start (omega signed),
      g_le_true m.end (pos 10000) (omega signed),
    )
    (history_good x gs ks)

pub history_fits : (x : Axis) {ts : List Tile} → Tiled ts → Coloured ts → fits (history x ts) ≡ true
history_fits x {ts} g k = good_fits (history x ts) (history_good x g k)

pub records_rules : (x : Axis) (ts : List Tile) → Tiled ts → Coloured ts → rules (records_on x ts) ≡ true
unfolding records_on
records_rules x ts g k = painted_rules (history x ts) (history_good x g k)

pub records_keep : (x : Axis) (ts : List Tile) → Tiled ts → Coloured ts → keeps (records_on x ts) ≡ true
records_keep x ts g k = (and_true (keeps (records_on x ts)) (all_in (records_on x ts)) (records_rules x ts g k)).0

-- a list of n numbers holds them, where there is room
pub records_hold : (x : Axis) (n : ℕ) (ts : List Tile) → Tiled ts → Coloured ts → 4 * length (records_on x ts) ≤ n → Holds (flat n (records_on x ts)) (length (records_on x ts))
records_hold x n ts g k h = flat_holds n (records_on x ts) (records_rules x ts g k) h

pub records_cell : (x : Axis) (ts : List Tile) → Tiled ts → Coloured ts → (u p : ℤ) → cell_of (records_on x ts) u p ≡ state_at (history x ts) u p
unfolding records_on
records_cell x ts g k u p = painted_cell (history x ts) (history_fits x g k) u p

-- free exactly when no cell of the area has a state in the list of either axis
pub free_list : (x : Axis) (ts : List Tile) (a : Extent) → Tiled ts → Coloured ts → Solid a → free ts a ≡ true ↔ ((u p : ℤ) → Cell x a u p → cell_of (records_on x ts) u p ≡ 0)
free_list x ts a g k s = (
  (λ f u p c. records_cell x ts g k u p ∙ free_cells x ts a f u p c),
  (λ h. cells_free x ts a g k s (λ u p c. sym (records_cell x ts g k u p) ∙ h u p c)),
)

-- the two lists say the same of every cell
pub both_lists : (x : Axis) (ts : List Tile) (u p : ℤ) → state_at (history x ts) u p ≡ state_at (history (other x) ts) p u
both_lists x [] u p = refl
both_lists col (t ∷ ts) u p = rw (both_lists col ts u p, and_swap (between lt_z t.area.columns.start t.area.columns.end u) (between lt_z t.area.rows.start t.area.rows.end p))
both_lists row (t ∷ ts) u p = rw (both_lists row ts u p, and_swap (between lt_z t.area.rows.start t.area.rows.end u) (between lt_z t.area.columns.start t.area.columns.end p))
