-- The three steps one after the other, from cleared lists.
use Rattle.std.specs.Prelude.{Result, Ok, Err, is_err}
use mathlib.Core.Path.{◌≡◌, refl, sym, ap, subst, ◌∙◌}
use mathlib.Core.Bool.{Bool, true, false}
use mathlib.Core.List.{List, []}
use Prim.Native.Nat.{ℕ, ◌-◌}
use native.Mathlib.Omega.{arith}
use lib.IntN.{ℤ, pos}
use lib.ListN.{length, replicate}
use Rattle.theory_intervals.specs.OverInt.{flat}
use Rattle.grid_track_counts.specs.declared.TrackCounts.{TrackCounts}
use Rattle.grid_track_counts.specs.Counts.{Sound}
use Rattle.theory_walk.specs.Axis.{Axis, other, Both, on, laid}
use Rattle.theory_walk.specs.Walk.{Queued, Board, Setting, Run, going, stopped, step1, step2, each, begin4, last4, walk, records_on, ends_on}
use Rattle.theory_walk.specs.OnList.{written}
use Rattle.theory_walk.proofs.Tests.{nil}
use Rattle.theory_walk.proofs.LinesLaws.{Each}
use Rattle.theory_walk.proofs.WalkLaws.{Kept, Clear}
use Rattle.theory_walk.proofs.OnLists.{records_none}
use Rattle.refusals.specs.declared.Refusal.{Refusal}
use Rattle.refusals.specs.Numbers.{numbered}
use Rattle.placing_request.specs.Items.{axis_of}
use Rattle.placing_laying.specs.declared.Matrix.{Matrix}
use Rattle.placing_laying.specs.Ready.{Ready, Stopped, AfterStep}
use Rattle.placing_step2.specs.Ends.{NoEnds}
use Rattle.placing_run.specs.Runs.{empty_board, run_for, LeftBy, AfterRun}

-- ---- a step's answer tells how the walk went

pub record Went (columns : Bool) (room : Both ℕ) (old : List ℤ) (u : Run) (m : Matrix) (answers primary secondary : List ℤ) : Type 0 where
  pub board : Board
  pub is : u ≡ going board
  pub ready : Ready columns room old board m answers primary secondary

pub step_done : {columns : Bool} {room : Both ℕ} {old : List ℤ} (u : Run) {r : Result Matrix Refusal} {m : Matrix} {a p s : List ℤ} → AfterStep columns room old u r a p s → r ≡ Ok m → Went columns room old u m a p s
step_done {columns} {room} {old} (going b) {m = m} {a} {p} {s} (n, (e, k)) f = let y : n ≡ m = cc in record { board = b; is = refl; ready = subst (λ (x : Matrix). Ready columns room old b x a p s) y k }
step_done (stopped n i) (e, k) f = let y : ◌≡◌ {A = ℕ} 0 1 = cc in absurd (omega arith)

pub record Halted (columns : Bool) (room : Both ℕ) (old : List ℤ) (u : Run) (r : Refusal) (answers primary secondary : List ℤ) : Type 0 where
  pub number : ℕ
  pub index : ℕ
  pub is : u ≡ stopped number index
  pub refusal : r ≡ numbered number index
  pub left : Stopped columns room old answers primary secondary

pub step_refused : (columns : Bool) (room : Both ℕ) (old : List ℤ) (u : Run) (r : Refusal) (a p s : List ℤ) → AfterStep columns room old u (Err r) a p s → Halted columns room old u r a p s
step_refused columns room old (going b) r a p s (m, (e, k)) = let y : ◌≡◌ {A = ℕ} 0 1 = cc in absurd (omega arith)
step_refused columns room old (stopped n i) r a p s (e, k) = record { number = n; index = i; is = refl; refusal = cc; left = k }

-- ---- the walk by its steps

module _ (w : Setting) (growth : Both TrackCounts → Both TrackCounts) (qs : List Queued) (b : Board) where
  pub walk_stop1 : (n i : ℕ) → each w (step1 w) qs b ≡ stopped n i → walk w growth qs b ≡ stopped n i
  unfolding walk
  walk_stop1 n i e = rw e

  pub walk_stop2 : (b₁ : Board) (n i : ℕ) → each w (step1 w) qs b ≡ going b₁ → each w (step2 w) qs b₁ ≡ stopped n i → walk w growth qs b ≡ stopped n i
  unfolding walk
  walk_stop2 b₁ n i e f = rw (e, f)

  pub walk_last : (b₁ b₂ : Board) → each w (step1 w) qs b ≡ going b₁ → each w (step2 w) qs b₁ ≡ going b₂ → walk w growth qs b ≡ last4 w qs (begin4 w growth b₂)
  unfolding walk
  walk_last b₁ b₂ e f = rw (e, f)

-- a step that has stopped ends the walk with the same answer
pub ends_walk : (columns : Bool) (room : Both ℕ) (old : List ℤ) (u v : Run) (r : Refusal) (a p s : List ℤ) → AfterStep columns room old u (Err r) a p s → ((n i : ℕ) → u ≡ stopped n i → v ≡ stopped n i) → AfterStep columns room old v (Err r) a p s
ends_walk columns room old u v r a p s k f =
    let h = step_refused columns room old u r a p s k in
    subst (λ (x : Run). AfterStep columns room old x (Err r) a p s) (h.is ∙ sym (f h.number h.index h.is)) k

pub same_run : (columns : Bool) (room : Both ℕ) (old : List ℤ) (u v : Run) (r : Result Matrix Refusal) (a p s : List ℤ) → AfterStep columns room old u r a p s → u ≡ v → AfterStep columns room old v r a p s
same_run columns room old u v r a p s k e = subst (λ (x : Run). AfterStep columns room old x r a p s) e k

-- ---- cleared lists stand for an empty board

flat_none : (n : ℕ) → flat n [] ≡ replicate n (pos 0)
flat_none n = let e : n - 0 ≡ n = omega arith in ap (λ (k : ℕ). replicate k (pos 0)) e

each_laid : (c : Bool) (p s : TrackCounts) → Sound p → Sound s → Each Sound (laid (axis_of c) p s)
each_laid true p s f g = record { columns = f; rows = g }
each_laid false p s f g = record { columns = g; rows = f }

on_laid : {A : Type 0} (c : Bool) (p s : A) → on (axis_of c) (laid (axis_of c) p s) ≡ p
on_laid true p s = refl
on_laid false p s = refl

off_laid : {A : Type 0} (c : Bool) (p s : A) → on (other (axis_of c)) (laid (axis_of c) p s) ≡ s
off_laid true p s = refl
off_laid false p s = refl

module _ (columns : Bool) (p s : TrackCounts) (f : Sound p) (g : Sound s) (old primary secondary : List ℤ) (pl sl : ℕ) (e : primary ≡ replicate pl (pos 0)) (h : secondary ≡ replicate sl (pos 0)) where
  abbrev px : Axis
  px = axis_of columns

  abbrev sx : Axis
  sx = other (axis_of columns)

  kept : Kept (empty_board columns p s)
  kept = record { tiles = nil; counts = each_laid columns p s f g; covered = nil; clear = Clear.none }

  pub ready_empty : Ready columns (laid (axis_of columns) pl sl) old (empty_board columns p s) (record { primary = p; secondary = s; primary_used = 0; secondary_used = 0 }) old primary secondary
  unfolding written
  ready_empty =
      let rp = records_none px in
      let rs = records_none sx in
      record {
        kept = kept;
        coloured = nil;
        primary_counts = sym (on_laid columns p s);
        secondary_counts = sym (off_laid columns p s);
        primary_used = sym (ap length rp);
        secondary_used = sym (ap length rs);
        primary_room = rw rp (omega arith);
        secondary_room = rw rs (omega arith);
        primary_list = e ∙ sym (rw (rp, on_laid columns pl sl) (flat_none pl));
        secondary_list = h ∙ sym (rw (rs, off_laid columns pl sl) (flat_none sl));
        answered = refl;
      }

  pub no_ends_empty : NoEnds columns (empty_board columns p s)
  unfolding ends_on
  no_ends_empty c = refl

-- ---- what a run leaves

module _ (columns dense : Bool) (items : List ℤ) (p s : TrackCounts) (old : List ℤ) (pl sl : ℕ) where
  pub run_done : (m : Matrix) (a p' s' : List ℤ) → AfterStep columns (laid (axis_of columns) pl sl) old (run_for columns dense items p s pl sl) (Ok m) a p' s'
      → AfterRun columns dense items p s old pl sl (Ok m) a p' s'
  run_done m a p' s' k =
      let v = step_done (run_for columns dense items p s pl sl) k refl in
      subst (λ (u : Run). LeftBy columns old pl sl u (Ok m) a p' s') (sym v.is) (
        m,
        (
          refl,
          (
            v.ready.primary_counts,
            (
              v.ready.secondary_counts,
              (
                v.ready.answered,
                (
                  v.ready.primary_list ∙ ap (λ (n : ℕ). flat n (records_on (axis_of columns) v.board.tiles)) (on_laid columns pl sl),
                  v.ready.secondary_list ∙ ap (λ (n : ℕ). flat n (records_on (other (axis_of columns)) v.board.tiles)) (off_laid columns pl sl),
                ),
              ),
            ),
          ),
        ),
      )

  pub run_refused : (r : Refusal) (a p' s' : List ℤ) → AfterStep columns (laid (axis_of columns) pl sl) old (run_for columns dense items p s pl sl) (Err r) a p' s'
      → (a'' p'' s'' : List ℤ) → a'' ≡ replicate (length a) (pos 0) → p'' ≡ replicate (length p') (pos 0) → s'' ≡ replicate (length s') (pos 0)
      → AfterRun columns dense items p s old pl sl (Err r) a'' p'' s''
  run_refused r a p' s' k a'' p'' s'' x y z =
      let v = step_refused columns (laid (axis_of columns) pl sl) old (run_for columns dense items p s pl sl) r a p' s' k in
      subst (λ (u : Run). LeftBy columns old pl sl u (Err r) a'' p'' s'') (sym v.is)
      (ap (λ (t : Refusal). Err t) v.refusal, (x ∙ ap zeros v.left.answers_long, (y ∙ ap zeros (v.left.primary_long ∙ on_laid columns pl sl), z ∙ ap zeros (v.left.secondary_long ∙ off_laid columns pl sl))))
    where
      zeros : ℕ → List ℤ
      zeros k = replicate k (pos 0)

  -- by whether it was refused
  pub run_kept : (r : Result Matrix Refusal) (a p' s' : List ℤ) → AfterStep columns (laid (axis_of columns) pl sl) old (run_for columns dense items p s pl sl) r a p' s' → is_err r ≡ false
      → AfterRun columns dense items p s old pl sl r a p' s'
  run_kept (Ok m) a p' s' k e = run_done m a p' s' k
  run_kept (Err r) a p' s' k e = cc

  pub run_cleared : (r : Result Matrix Refusal) (a p' s' : List ℤ) → AfterStep columns (laid (axis_of columns) pl sl) old (run_for columns dense items p s pl sl) r a p' s' → is_err r ≡ true
      → (a'' p'' s'' : List ℤ) → a'' ≡ replicate (length a) (pos 0) → p'' ≡ replicate (length p') (pos 0) → s'' ≡ replicate (length s') (pos 0)
      → AfterRun columns dense items p s old pl sl r a'' p'' s''
  run_cleared (Ok m) a p' s' k e a'' p'' s'' x y z = cc
  run_cleared (Err r) a p' s' k e a'' p'' s'' x y z = run_refused r a p' s' k a'' p'' s'' x y z
