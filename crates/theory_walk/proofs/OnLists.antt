-- The walk's searches as searches on one list of records, for code that knows the lists and no tile: free on the list is free of tiles, and a jump passes over no free place.
use mathlib.Core.Path.{◌≡◌, refl, sym, ap, ◌∙◌, fun_ext}
use mathlib.Core.Bool.{Bool, true, false, not, cond, ◌&&◌}
use mathlib.Core.List.{List, [], ◌∷◌}
use Prim.Native.Nat.{ℕ, ◌-◌, ◌≤◌}
use lib.IntN.{ℤ, pos, ◌+ℤ◌}
use lib.ListN.{length}
use lib.Signed.{lt_z, ◌≤ℤ◌, ◌<ℤ◌}
use Rattle.theory_signed.proofs.Laws.{signed, by_test, sum, g_lt_true, g_lt_false}
use Rattle.theory_intervals.specs.Records.{Rec, rec, between, same, behind, follows}
use Rattle.theory_intervals.specs.OverInt.{cell_of, keeps, ok, paint_list, flat, decode, encode, digits}
use Rattle.theory_intervals.proofs.Flat as Fl
use Rattle.theory_intervals.proofs.OverInt.{digit_laws}
use Rattle.grid_coordinates.specs.declared.Lines.{Lines}
use Rattle.grid_coordinates.specs.Line.{lines}
use Rattle.theory_walk.specs.Axis.{Axis, col, row, other, on, laid, from, meets, Extent}
use Rattle.theory_walk.specs.Search.{first_line}
use Rattle.theory_walk.specs.Walk.{Tile, Board, Setting, Choice, tile_of, laid_on, area_on, free, free_at, free_across, free_pair, records_on}
use Rattle.theory_walk.specs.OnList.{hit, free_in}
use Rattle.theory_walk.proofs.Tests.{clash, and_true, not-true, same_bool, Every, nil, more, Mem, top, under}
use Rattle.theory_walk.proofs.FreeLaws.{Tiled}
use Rattle.theory_walk.proofs.Cells.{Cell, Coloured, Solid, records_keep, free_list, between_in, in_between, common, solid_on, ok_nz}

-- a record that is in the way of a place is in the way of every later one up to its end
module _ (n : ℕ) (p u c z : ℤ) (s : ℕ) where
  again : (l : Lines) → (between lt_z l.start l.end u && meets (lines c z) (from p n)) ≡ true → (y : ℤ) → p ≤ℤ y → y <ℤ z → (between lt_z l.start l.end u && meets (lines c z) (from y n)) ≡ true
  again l e y a b =
      let h = and_true (between lt_z l.start l.end u) (meets (lines c z) (from p n)) e in
      let k = (and_true (lt_z c (p +ℤ pos n)) (lt_z p z) h.1).0 in
      rw (h.0, g_lt_true c (y +ℤ pos n) (omega (signed, sum p (pos n), sum y (pos n))), g_lt_true y z (omega signed))

  pub hit_later : (x : Axis) (l : Lines) → hit x (rec u c z s) (laid x l (from p n)) ≡ true → (y : ℤ) → p ≤ℤ y → y <ℤ z → hit x (rec u c z s) (laid x l (from y n)) ≡ true
  hit_later col l e y a b = again l e y a b
  hit_later row l e y a b = again l e y a b

pub hit_blocks : (x : Axis) (q : Rec ℤ) {rs : List (Rec ℤ)} (a : Extent) → Mem q rs → hit x q a ≡ true → free_in x rs a ≡ false
unfolding free_in
hit_blocks x q a top e = rw e
hit_blocks x q a (under {y = r} {xs = rs} i) e = by_test (hit x r a) (λ b. (not b && free_in x rs a) ≡ false) (λ _. refl) (λ _. hit_blocks x q a i e)

-- THE JUMP: to the end of any record in the way, and so to the largest, no free place is passed over
pub jump_list : (x : Axis) (rs : List (Rec ℤ)) (l : Lines) (n : ℕ) (p u c z : ℤ) (s : ℕ) → Mem (rec u c z s) rs → hit x (rec u c z s) (laid x l (from p n)) ≡ true
    → (y : ℤ) → p ≤ℤ y → y <ℤ z → free_in x rs (laid x l (from y n)) ≡ false
jump_list x rs l n p u c z s i e y a b = hit_blocks x (rec u c z s) (laid x l (from y n)) i (hit_later n p u c z s x l e y a b)

-- ---- on the lists of a run the two tests are one

good_rec : Rec ℤ → Type 0
good_rec (rec u c z s) = (c <ℤ z) × (ok s ≡ true)

behind_good : (t b : ℤ) (s : ℕ) (rs : List (Rec ℤ)) → behind lt_z ok t b s rs ≡ true → Every good_rec rs
unfolding good_rec
behind_good t b s [] e = nil
behind_good t b s (rec u c d v ∷ rs) e =
    let h = and_true (follows lt_z t b s u c v) (lt_z c d && (ok v && behind lt_z ok u d v rs)) e in
    let k = and_true (lt_z c d) (ok v && behind lt_z ok u d v rs) h.1 in
    let m = and_true (ok v) (behind lt_z ok u d v rs) k.1 in
    let k₀ = k.0 in
    more {x = rec u c d v} (omega signed, m.0) (behind_good u d v rs m.1)

keeps_good : (rs : List (Rec ℤ)) → keeps rs ≡ true → Every good_rec rs
unfolding good_rec
keeps_good [] e = nil
keeps_good (rec t a b s ∷ rs) e =
    let h = and_true (lt_z a b) (ok s && behind lt_z ok t b s rs) e in
    let m = and_true (ok s) (behind lt_z ok t b s rs) h.1 in
    let h₀ = h.0 in
    more {x = rec t a b s} (omega signed, m.0) (behind_good t b s rs m.1)

free_in_cells : (x : Axis) (rs : List (Rec ℤ)) (a : Extent) → free_in x rs a ≡ true → (u q : ℤ) → Cell x a u q → cell_of rs u q ≡ 0
unfolding free_in
free_in_cells x [] a f u q c = refl
free_in_cells x (rec t b z s ∷ rs) a f u q c =
    let h = and_true (not (hit x (rec t b z s) a)) (free_in x rs a) f in
    by_test (same lt_z u t && between lt_z b z q) (λ y. (same lt_z u t && between lt_z b z q) ≡ y → cond y s (cell_of rs u q) ≡ 0)
    (λ _ e.
    let k = and_true (same lt_z u t) (between lt_z b z q) e in
    let i₀ = and_true (not (lt_z u t)) (not (lt_z t u)) k.0 in
    let i₁ = not-true (lt_z u t) i₀.0 in
    let i₂ = not-true (lt_z t u) i₀.1 in
    let i : u ≡ t = omega signed in
    let j = between_in (lines b z) q k.1 in
    let o = c.place in
    clash (rw (← i, in_between (on x a) u c.track, g_lt_true b (on (other x) a).end (omega signed), g_lt_true (on (other x) a).start z (omega signed))) (not-true (hit x (rec t b z s) a) h.0))
    (λ _ _. free_in_cells x rs a h.1 u q c)
    refl

cells_free_in : (x : Axis) {rs : List (Rec ℤ)} (a : Extent) → Every good_rec rs → Solid a → ((u q : ℤ) → Cell x a u q → cell_of rs u q ≡ 0) → free_in x rs a ≡ true
unfolding free_in good_rec
cells_free_in x a nil s h = refl
cells_free_in x a (more {x = rec t b z v} {xs = rs} g gs) s h = rw (apart (hit x (rec t b z v) a) refl) (cells_free_in x a gs s rest)
  where
    rest : (u q : ℤ) → Cell x a u q → cell_of rs u q ≡ 0
    rest u q c = by (same lt_z u t && between lt_z b z q) (h u q c)
      where
        by : (y : Bool) → cond y v (cell_of rs u q) ≡ 0 → cell_of rs u q ≡ 0
        by true e = absurd (ok_nz v g.1 e)
        by false e = e

    shared : hit x (rec t b z v) a ≡ true → ⊥
    shared e =
        let k = and_true (between lt_z (on x a).start (on x a).end t) (meets (lines b z) (on (other x) a)) e in
        let w = common (lines b z) (on (other x) a) g.0 (solid_on (other x) a s) k.1 in
        let f = h t w.at (record { track = between_in (on x a) t k.0; place = w.right }) in
        let i : same lt_z t t ≡ true = rw (g_lt_false t t (omega signed)) in
        ok_nz v g.1 (rw (i, in_between (lines b z) w.at w.left) at f)

    apart : (y : Bool) → hit x (rec t b z v) a ≡ y → hit x (rec t b z v) a ≡ false
    apart true e = absurd (shared e)
    apart false e = e

-- FREE ON THE LIST is free of tiles
pub free_in_is : (x : Axis) (ts : List Tile) (a : Extent) → Tiled ts → Coloured ts → Solid a → free_in x (records_on x ts) a ≡ free ts a
free_in_is x ts a g k s =
    same_bool (free_in x (records_on x ts) a) (free ts a)
    (λ e. (free_list x ts a g k s).1 (free_in_cells x (records_on x ts) a e))
    (λ e. cells_free_in x a (keeps_good (records_on x ts) (records_keep x ts g k)) s ((free_list x ts a g k s).0 e))

-- so each search of the walk is a search on one list: along the primary axis on the list with the secondary axis' tracks, and the other way round
pub laid_swap : (x : Axis) (p s : Lines) → laid x p s ≡ laid (other x) s p
laid_swap col p s = refl
laid_swap row p s = refl

laid_solid : (x : Axis) (p s : Lines) → p.start <ℤ p.end → s.start <ℤ s.end → Solid (laid x p s)
laid_solid col p s f g = record { columns = f; rows = g }
laid_solid row p s f g = record { columns = g; rows = f }

module _ (w : Setting) (t : Board) (g : Tiled t.tiles) (k : Coloured t.tiles) where
  abbrev across : Axis
  across = other w.axis

  pub primary_list : (n : ℕ) (s : Lines) → 1 ≤ n → s.start <ℤ s.end → (z : ℤ)
      → first_line (free_at w t n s) z ≡ first_line (λ y. free_in across (records_on across t.tiles) (laid across s (from y n))) z
  primary_list n s h i z =
      ap (λ (f : ℤ → Bool). first_line f z)
      (fun_ext (λ y. ap (free t.tiles) (laid_swap w.axis (from y n) s)
      ∙ sym (free_in_is across t.tiles (laid across s (from y n)) g k (laid_solid across s (from y n) i (omega signed)))))

  pub secondary_list : (p : Lines) (m : ℕ) → 1 ≤ m → p.start <ℤ p.end → (z : ℤ)
      → first_line (free_across w t p m) z ≡ first_line (λ y. free_in w.axis (records_on w.axis t.tiles) (laid w.axis p (from y m))) z
  secondary_list p m h i z =
      ap (λ (f : ℤ → Bool). first_line f z)
      (fun_ext (λ y. sym (free_in_is w.axis t.tiles (laid w.axis p (from y m)) g k (laid_solid w.axis p (from y m) i (omega signed)))))

  pub pair_list : (n m : ℕ) → 1 ≤ n → 1 ≤ m → (y x : ℤ) → free_pair w t n m y x ≡ free_in across (records_on across t.tiles) (laid across (from x m) (from y n))
  pair_list n m h i y x =
      ap (free t.tiles) (laid_swap w.axis (from y n) (from x m))
      ∙ sym (free_in_is across t.tiles (laid across (from x m) (from y n)) g k (laid_solid across (from x m) (from y n) (omega signed) (omega signed)))

-- ---- painting: a tile laid is one area painted on each list, and a flat list gives its records back

pub records_laid : (x : Axis) (i : ℕ) (h : Choice) (t : Board) → records_on x (laid_on i h t).tiles ≡ paint_list (area_on x (tile_of i h)) (records_on x t.tiles)
unfolding records_on laid_on tile_of
records_laid x i h t = refl

pub records_none : (x : Axis) → records_on x [] ≡ []
unfolding records_on
records_none x = refl

pub decode_records : (x : Axis) (n : ℕ) (ts : List Tile) → Tiled ts → Coloured ts → decode (flat n (records_on x ts)) ≡ records_on x ts
decode_records x n ts g k = Fl.decode_encode digits digit_laws (records_on x ts) (n - length (encode (records_on x ts))) (Fl.keeps_live lt_z ok refl digits (records_on x ts) (records_keep x ts g k))
