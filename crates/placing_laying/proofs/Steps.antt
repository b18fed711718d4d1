-- What the steps share: an item's two placements, and a step's loop over the items, whichever step it is: what an item's function leaves is what the walk's step leaves of the item, and what is left to do
-- from the board now is what the whole step does.
use Rattle.std.specs.Prelude.{Ok, Err}
use mathlib.Core.Path.{◌≡◌, refl, subst, sym, ap, ◌∙◌}
use mathlib.Core.Bool.{Bool, true, not}
use mathlib.Core.List.{List, ◌∷◌}
use Prim.Native.Nat.{ℕ, ◌+◌, ◌/◌, ◌<◌, ◌≤◌}
use native.Mathlib.Omega.{arith}
use lib.IntN.{ℤ}
use lib.ListN.{length, drop}
use lib.Signed.{◌<ℤ◌}
use Rattle.grid_coordinates.specs.declared.Lines.{Lines}
use Rattle.theory_walk.specs.declared.Placement.{Placement}
use Rattle.theory_walk.specs.declared.Placement.TheVariants.{Fixed, Spanned}
use Rattle.theory_walk.proofs.Range.{Good, lines_good, span_good}
use Rattle.theory_walk.specs.Axis.{Axis, other, Both, on}
use Rattle.theory_walk.specs.Request.{item_of, good_item}
use Rattle.theory_walk.specs.Walk.{Queued, Board, Setting, Run, going, stopped, each}
use Rattle.theory_walk.proofs.Loops.{each_next, each_stop, each_end}
use Rattle.theory_walk.proofs.Checks.{halves_length}
use Rattle.placing_request.specs.Items.{axis_of, item_at, queued}
use Rattle.placing_request.proofs.ItemLemmas.{good_placement, queue_drop, queue_end}
use Rattle.refusals.specs.declared.Refusal.{Refusal}
use Rattle.refusals.specs.Numbers.{numbered}
use Rattle.placing_laying.specs.declared.Matrix.{Matrix}
use Rattle.placing_laying.specs.Ready.{setting_for, Ready, AfterItem, AfterStep, primary_of, secondary_of}
use Rattle.placing_laying.proofs.Lays.{other_axis}

-- an item's placement on the other axis, as a step's function asks for it
pub secondary_is : (columns : Bool) (items : List ℤ) (i : ℕ) → on (axis_of (not columns)) (item_of (item_at items i)) ≡ secondary_of columns items i
secondary_is columns items i = ap (λ (x : Axis). on x (item_of (item_at items i))) (other_axis columns)

-- both placements of a good item are
pub both_good : (columns : Bool) (items : List ℤ) (i : ℕ) (P S : Placement) → good_item (item_at items i) ≡ true → primary_of columns items i ≡ P → secondary_of columns items i ≡ S → Good P × Good S
both_good columns items i P S good e f =
    (subst Good e (good_placement items i (axis_of columns) good), subst Good f (good_placement items i (other (axis_of columns)) good))

pub in_order : {p : Lines} → Good (Fixed p) → p.start <ℤ p.end
in_order (lines_good a b c) = b

pub span_in : {n : ℕ} → Good (Spanned n) → (1 ≤ n) × (n ≤ 10000)
span_in (span_good a b) = (a, b)

module _ (columns dense : Bool) (room : Both ℕ) (old items : List ℤ) (step : ℕ → Placement → Placement → Board → Run) (i : ℕ) (b : Board) where
  -- item i, on the board b
  abbrev pub item_run : Run
  item_run = step i (primary_of columns items i) (secondary_of columns items i) b

  -- the items from i on
  abbrev pub left : Run
  left = each (setting_for columns dense room) step (drop i (queued items)) b

module _ (columns dense : Bool) (room : Both ℕ) (old items : List ℤ) (step : ℕ → Placement → Placement → Board → Run) (i : ℕ) (b : Board) where
  -- the walk went on with a board that the lists stand for
  pub record Next (m : Matrix) (answers primary secondary : List ℤ) : Type 0 where
    pub board : Board
    pub ran : item_run columns dense room old items step i b ≡ going board
    pub ready : Ready columns room old board m answers primary secondary
    pub rest : left columns dense room old items step i b ≡ left columns dense room old items step (i + 1) board

  abbrev w : Setting
  w = setting_for columns dense room

  module _ (h : i < length items / 6) where
    abbrev this : Queued
    this = record { index = i; item = item_of (item_at items i) }

    here : drop i (queued items) ≡ this ∷ drop (i + 1) (queued items)
    here = queue_drop items i (omega (arith, halves_length items))

    pub next : {m : Matrix} {a p s : List ℤ} → AfterItem columns room old i (item_run columns dense room old items step i b) (Ok m) a p s → Next m a p s
    next {m} {a} {p} {s} q = go (item_run columns dense room old items step i b) refl q
      where
        go : (u : Run) → item_run columns dense room old items step i b ≡ u → AfterItem columns room old i u (Ok m) a p s → Next m a p s
        go (going t) e (n, (z, k)) =
            let same : n ≡ m = cc in
            record {
              board = t;
              ran = e;
              ready = subst (λ (x : Matrix). Ready columns room old t x a p s) same k;
              rest = ap (λ (qs : List Queued). each w step qs b) here ∙ each_next w step this (drop (i + 1) (queued items)) b t e;
            }
        go (stopped n j) e (z, f) = let y : ◌≡◌ {A = ℕ} 0 1 = cc in absurd (omega arith)

    pub stops : (refusal : Refusal) (a p s : List ℤ) → AfterItem columns room old i (item_run columns dense room old items step i b) (Err refusal) a p s
        → AfterStep columns room old (left columns dense room old items step i b) (Err refusal) a p s
    stops refusal a p s q = go (item_run columns dense room old items step i b) refl q
      where
        go : (u : Run) → item_run columns dense room old items step i b ≡ u → AfterItem columns room old i u (Err refusal) a p s
            → AfterStep columns room old (left columns dense room old items step i b) (Err refusal) a p s
        go (going t) e (n, (z, k)) = let y : ◌≡◌ {A = ℕ} 0 1 = cc in absurd (omega arith)
        go (stopped n j) e (z, (y, st)) =
            let all = ap (λ (qs : List Queued). each w step qs b) here ∙ each_stop w step this (drop (i + 1) (queued items)) b n j e in
            subst (λ (u : Run). AfterStep columns room old u (Err refusal) a p s) (sym all) (z ∙ (λ t. Err (numbered n (sym y t))), st)

  -- all items are done
  pub done : {m : Matrix} {a p s : List ℤ} → length items / 6 ≤ i → Ready columns room old b m a p s
      → AfterStep columns room old (left columns dense room old items step i b) (Ok m) a p s
  done {m} {a} {p} {s} h k =
      let all = ap (λ (qs : List Queued). each w step qs b) (queue_end items i (omega (arith, halves_length items))) ∙ each_end w step b in
      subst (λ (u : Run). AfterStep columns room old u (Ok m) a p s) (sym all) (m, (refl, k))
