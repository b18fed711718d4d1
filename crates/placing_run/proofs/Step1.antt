-- Step 1 on the lists: an item that is not fixed in both axes stays as it is, any other is laid.
use Rattle.std.specs.Prelude.{Result, Ok, Err}
use mathlib.Core.Path.{◌≡◌, refl, subst, sym, ◌∙◌}
use mathlib.Core.Bool.{Bool}
use mathlib.Core.List.{List}
use Prim.Native.Nat.{ℕ, ◌+◌, ◌/◌, ◌<◌, ◌≤◌}
use native.Mathlib.Omega.{arith}
use lib.IntN.{ℤ, pos}
use lib.ListN.{length, drop}
use Rattle.grid_coordinates.specs.declared.Lines.{Lines}
use Rattle.theory_walk.specs.declared.Placement.{Placement}
use Rattle.theory_walk.specs.declared.Placement.TheVariants.{Fixed, Spanned}
use Rattle.theory_walk.specs.Axis.{Both}
use Rattle.theory_walk.specs.Walk.{Board, Setting, Run, going, choose1, step1, each}
use Rattle.theory_walk.proofs.WalkLaws.{kept_laid}
use Rattle.placing_request.specs.Items.{queued}
use Rattle.placing_laying.specs.declared.Matrix.{Matrix}
use Rattle.refusals.specs.declared.Refusal.{Refusal}
use Rattle.placing_laying.specs.Laying.{Laying}
use Rattle.placing_laying.specs.Ready.{setting_for, Ready, AfterItem, AfterStep, primary_of, secondary_of}
use Rattle.placing_laying.proofs.Lays.{put_laid}
use Rattle.placing_laying.proofs.Steps.{next, stops, done}

pub pass_primary : (w : Setting) (i : ℕ) (P S : Placement) (t : Board) (n : ℕ) → P ≡ Spanned n → step1 w i P S t ≡ going t
unfolding step1
pass_primary w i P (Fixed s) t n e = rw e
pass_primary w i P (Spanned m) t n e = rw e

pub pass_secondary : (w : Setting) (i : ℕ) (P S : Placement) (t : Board) (n : ℕ) → S ≡ Spanned n → step1 w i P S t ≡ going t
unfolding step1
pass_secondary w i (Fixed p) S t n e = rw e
pass_secondary w i (Spanned m) S t n e = rw e

pub step1_laid : {columns : Bool} (dense : Bool) {room : Both ℕ} {old : List ℤ} {b : Board} {m : Matrix} {answers primary secondary : List ℤ} → Ready columns room old b m answers primary secondary
    → (i : ℕ) (P S : Placement) (p s : Lines) → P ≡ Fixed p → S ≡ Fixed s → {r : Result Matrix Refusal} {a' p' s' : List ℤ} → Laying columns p s (pos 1) 2 m i answers primary secondary r a' p' s'
    → AfterItem columns room old i (step1 (setting_for columns dense room) i P S b) r a' p' s'
unfolding step1 choose1
step1_laid {columns} dense {room} {old} {b} {m} {answers} {primary} {secondary} k i P S p s e f q =
    let w = setting_for columns dense room in
    let h = choose1 w p s b in
    rw (e, f) (put_laid columns dense room old b m answers primary secondary k p s (pos 1) i h refl refl refl (kept_laid i h b (λ z. absurd (let o : ⊥ = omega arith in o)) k.kept) q)

-- ---- the loop over the items: the board that the lists stand for now, and that what is left to do from it is what the whole step does

pub record Left (columns dense : Bool) (room : Both ℕ) (old items : List ℤ) (b : Board) (i : ℕ) (m : Matrix) (answers primary secondary : List ℤ) : Type 0 where
  pub board : Board
  pub ready : Ready columns room old board m answers primary secondary
  pub same : each (setting_for columns dense room) (step1 (setting_for columns dense room)) (drop i (queued items)) board ≡ each (setting_for columns dense room) (step1 (setting_for columns dense room)) (queued items) b

-- whatever board the lists stood for at the loop's start
pub record Going (columns : Bool) (items : List ℤ) (m₀ : Matrix) (a₀ p₀ s₀ : List ℤ) (i : ℕ) (m : Matrix) (answers primary secondary : List ℤ) : Type 0 where
  pub from : (dense : Bool) (room : Both ℕ) (old : List ℤ) (b : Board) → Ready columns room old b m₀ a₀ p₀ s₀ → Left columns dense room old items b i m answers primary secondary

pub going_none : (columns : Bool) (items : List ℤ) (m : Matrix) (a p s : List ℤ) → Going columns items m a p s 0 m a p s
going_none columns items m a p s = record { from = λ dense room old b k. record { board = b; ready = k; same = refl } }

module _ {columns : Bool} {items : List ℤ} {m₀ : Matrix} {a₀ p₀ s₀ : List ℤ} {i : ℕ} {m : Matrix} {a p s : List ℤ} (g : Going columns items m₀ a₀ p₀ s₀ i m a p s) where
  -- what item i's function promises
  abbrev Item : Result Matrix Refusal → List ℤ → List ℤ → List ℤ → Type 0
  Item r a' p' s' =
      (dense : Bool) (room : Both ℕ) (old : List ℤ) (b : Board) → Ready columns room old b m a p s
      → AfterItem columns room old i (step1 (setting_for columns dense room) i (primary_of columns items i) (secondary_of columns items i) b) r a' p' s'

  pub going_on : i < length items / 6 → {m' : Matrix} {a' p' s' : List ℤ} → Item (Ok m') a' p' s' → Going columns items m₀ a₀ p₀ s₀ (i + 1) m' a' p' s'
  going_on h q =
      record {
        from = λ dense room old b k.
            let l = g.from dense room old b k in
            let x = next columns dense room old items (step1 (setting_for columns dense room)) i l.board h (q dense room old l.board l.ready) in
            record { board = x.board; ready = x.ready; same = sym x.rest ∙ l.same };
      }

  -- the item that ends the step
  pub going_stops : i < length items / 6 → (refusal : Refusal) (a' p' s' : List ℤ) → Item (Err refusal) a' p' s'
      → (dense : Bool) (room : Both ℕ) (old : List ℤ) (b : Board) → Ready columns room old b m₀ a₀ p₀ s₀
      → AfterStep columns room old (each (setting_for columns dense room) (step1 (setting_for columns dense room)) (queued items) b) (Err refusal) a' p' s'
  going_stops h refusal a' p' s' q dense room old b k =
      let l = g.from dense room old b k in
      subst (λ (u : Run). AfterStep columns room old u (Err refusal) a' p' s') (l.same)
      (stops columns dense room old items (step1 (setting_for columns dense room)) i l.board h refusal a' p' s' (q dense room old l.board l.ready))

  -- all items are done
  pub going_done : length items / 6 ≤ i → (dense : Bool) (room : Both ℕ) (old : List ℤ) (b : Board) → Ready columns room old b m₀ a₀ p₀ s₀
      → AfterStep columns room old (each (setting_for columns dense room) (step1 (setting_for columns dense room)) (queued items) b) (Ok m) a p s
  going_done h dense room old b k =
      let l = g.from dense room old b k in
      subst (λ (u : Run). AfterStep columns room old u (Ok m) a p s) (l.same)
      (done columns dense room old items (step1 (setting_for columns dense room)) i l.board h l.ready)
