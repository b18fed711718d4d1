-- For callers: what a paint leaves is what the next one requires.
use mathlib.Core.Path.{◌≡◌, subst, sym, ap, ◌∙◌}
use mathlib.Core.Bool.{true, cond, ◌&&◌}
use mathlib.Core.List.{List}
use Prim.Native.Nat.{ℕ, ◌*◌, ◌≤◌}
use lib.IntN.{ℤ, pos}
use lib.Signed.{lt_z}
use lib.ListN.{length, replicate}
use Rattle.theory_intervals.specs.Records.{Rec, between}
use Rattle.theory_intervals.specs.OverInt.{cell_of, keeps, fit, paint_list, flat}
use Rattle.theory_intervals.specs.Lists.{all_in, area_in, good_area, recs, Holds}
use Rattle.theory_intervals.proofs.Grid.{and_l}
use Rattle.theory_intervals.proofs.OverInt.{paint_list_cell}
use Rattle.theory_intervals.proofs.Lists.{flat_holds, flat_recs, empty_holds}
use Rattle.theory_intervals.proofs.Limits.{paint_list_rules}
use Rattle.list_areas.specs.Areas.{state_of, area_of}

-- a list that was painted with a good area holds the records of the paint: `x` is the list and n the count that `repaint` leaves
pub painted_holds : {l x : List ℤ} {used n : ℕ} (t₁ t₂ a b s : ℤ) → Holds l used → good_area (area_of t₁ t₂ a b s) ≡ true
    → 4 * length (paint_list (area_of t₁ t₂ a b s) (recs used l)) ≤ length l
    → n ≡ length (paint_list (area_of t₁ t₂ a b s) (recs used l)) → x ≡ flat (length l) (paint_list (area_of t₁ t₂ a b s) (recs used l)) → Holds x n
painted_holds {l} {x} {used} {n} t₁ t₂ a b s h g r en ex =
    let rs = paint_list (area_of t₁ t₂ a b s) (recs used l) in
    subst (λ (m : ℕ). Holds x m) (sym en) (subst (λ (y : List ℤ). Holds y (length rs)) (sym ex) (flat_holds (length l) rs (paint_list_rules t₁ t₂ a b (state_of s) (recs used l) g h.keep) r))

-- and its records are those of the paint
pub painted_recs : (l : List ℤ) (used : ℕ) (t₁ t₂ a b s : ℤ) {x : List ℤ} {n : ℕ} → n ≡ length (paint_list (area_of t₁ t₂ a b s) (recs used l))
    → x ≡ flat (length l) (paint_list (area_of t₁ t₂ a b s) (recs used l)) → recs n x ≡ paint_list (area_of t₁ t₂ a b s) (recs used l)
painted_recs l used t₁ t₂ a b s {x} {n} en ex = (λ i. recs (en i) (ex i)) ∙ flat_recs (length l) (paint_list (area_of t₁ t₂ a b s) (recs used l))

-- and its cells are those of the list before, with the area's state on the area
pub painted_cells : (l : List ℤ) (used : ℕ) (t₁ t₂ a b s : ℤ) {x : List ℤ} {n : ℕ} → Holds l used → fit (area_of t₁ t₂ a b s) ≡ true → n ≡ length (paint_list (area_of t₁ t₂ a b s) (recs used l))
    → x ≡ flat (length l) (paint_list (area_of t₁ t₂ a b s) (recs used l))
    → (t p : ℤ) → cell_of (recs n x) t p ≡ cond (between lt_z t₁ t₂ t && between lt_z a b p) (state_of s) (cell_of (recs used l) t p)
painted_cells l used t₁ t₂ a b s h f en ex t p =
    ap (λ (rs : List (Rec ℤ)). cell_of rs t p) (painted_recs l used t₁ t₂ a b s en ex)
    ∙ paint_list_cell t₁ t₂ a b (state_of s) (recs used l) f (and_l (keeps (recs used l)) (all_in (recs used l)) h.keep) t p

-- a good area is one that can be painted
pub good_fit : (t₁ t₂ a b s : ℤ) → good_area (area_of t₁ t₂ a b s) ≡ true → fit (area_of t₁ t₂ a b s) ≡ true
good_fit t₁ t₂ a b s h = and_l (fit (area_of t₁ t₂ a b s)) (area_in (area_of t₁ t₂ a b s)) h

-- a cleared list holds nothing
pub cleared_holds : (m : ℕ) {x : List ℤ} → x ≡ replicate m (pos 0) → Holds x 0
cleared_holds m e = subst (λ (y : List ℤ). Holds y 0) (sym e) (empty_holds m)
