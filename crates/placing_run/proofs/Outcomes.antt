-- What a run leaves is the document's outcome.
use Rattle.std.specs.Prelude.{None, Result, Ok, Err}
use mathlib.Core.Path.{◌≡◌, refl, sym, ap, subst, ◌∙◌}
use mathlib.Core.Bool.{Bool, true, false}
use mathlib.Core.List.{List, [], ◌∷◌, ◌++◌, map, append-nil}
use Prim.Native.Nat.{ℕ, zero, suc, ◌*◌, ◌/◌, ◌%◌, ◌≤◌, ◌<◌}
use native.Mathlib.Omega.{arith}
use lib.Dec.{eqb, ltb}
use lib.IntN.{ℤ, pos}
use lib.ListN.{length, get_or, replicate, take, drop, length-take, length-map, drop_of_length-le}
use Rattle.grid_track_counts.specs.declared.TrackCounts.{TrackCounts}
use Rattle.theory_walk.specs.Axis.{Both}
use Rattle.theory_walk.specs.Walk.{Board, Run, going, stopped}
use Rattle.theory_walk.specs.Request.{Request, Half, good_item, checked, item_of, halves, setting_of, queue, up_to, run_of, item_count, answers_left, rows_left, columns_left, outcome}
use Rattle.theory_walk.specs.OnList.{written}
use Rattle.theory_walk.proofs.Tests.{Every, nil, more}
use Rattle.theory_walk.proofs.Checks.{checked_none, halves_length}
use Rattle.theory_walk.proofs.Answers.{written_is}
use Rattle.theory_walk.proofs.Promises.{is_answered, room_refuses, room_zero, all_placed, only_items}
use Rattle.placing_request.specs.Items.{item_at, request_of, queued}
use Rattle.placing_request.proofs.ItemLemmas.{halves_at}
use Rattle.refusals.specs.declared.Refusal.{Refusal}
use Rattle.placing_laying.specs.declared.Matrix.{Matrix}
use Rattle.placing_run.specs.Runs.{run_for, LeftBy}
use Rattle.placing_run.specs.Placing.{placing_of}
use Rattle.placing_run.specs.declared.checked.Placed.{Placed}

-- ---- the program's run is the request's

queue_same : (l : List ℤ) → queue (up_to (length (map item_of (halves l))) 0) (map item_of (halves l)) ≡ queued l
queue_same l = ap (λ (n : ℕ). queue (up_to n 0) (map item_of (halves l))) (length-map (halves l) item_of)

pub run_columns : (flow : ℕ) (c r : TrackCounts) (items : List ℤ) (n cl rl : ℕ) → eqb (flow % 2) 0 ≡ true → run_for true (ltb 1 flow) items c r cl rl ≡ run_of (request_of flow c r items n cl rl)
unfolding run_of setting_of
run_columns flow c r items n cl rl e = rw (e, queue_same items)

pub run_rows : (flow : ℕ) (c r : TrackCounts) (items : List ℤ) (n cl rl : ℕ) → eqb (flow % 2) 0 ≡ false → run_for false (ltb 1 flow) items r c rl cl ≡ run_of (request_of flow c r items n cl rl)
unfolding run_of setting_of
run_rows flow c r items n cl rl e = rw (e, queue_same items)

-- ---- the answer places of the items, and those past them

module _ (req : Request) (passed : checked req ≡ None) (old : List ℤ) (long : 5 * item_count req ≤ length old) where
  abbrev n : ℕ
  n = 5 * item_count req

  part_long : length (take n old) ≡ n
  part_long = simp length-take (omega arith)

  -- all of them written
  answers_all : (b : Board) → run_of req ≡ going b → written b.tiles (take n old) ++ drop n old ≡ answers_left req old (outcome req)
  unfolding answers_left
  answers_all b e =
      let none_left : drop n (take n old) ≡ [] = drop_of_length-le (take n old) {i = n} (omega (arith, part_long)) in
      let w = written_is (item_count req) b.tiles (take n old) (all_placed req passed b e) (only_items req passed b e) (omega (arith, part_long)) in
      rw (is_answered req b passed e, w, none_left, append-nil) refl

  -- all of them zero
  answers_none : (k i : ℕ) → run_of req ≡ stopped k i → replicate (length (take n old)) (pos 0) ++ drop n old ≡ answers_left req old (outcome req)
  answers_none k i e = rw part_long (sym ((room_zero req passed k i e).in_answers old))

-- ---- both axes

-- a run's counts by columns and rows: which are primary is told by the flag
abbrev pub placed_of : Bool → Matrix → Placed
placed_of true m = record { columns = m.primary; rows = m.secondary }
placed_of false m = record { columns = m.secondary; rows = m.primary }

abbrev pub by_columns : Bool → Result Matrix Refusal → Result Placed Refusal
by_columns columns (Ok m) = Ok (placed_of columns m)
by_columns columns (Err r) = Err r

-- what the document says is left, of a run's answer and lists
pub record Told (req : Request) (columns : Bool) (old oldRows oldColumns : List ℤ) (r : Result Matrix Refusal) (part rows' columns' : List ℤ) : Type 0 where
  pub answer : by_columns columns r ≡ placing_of (outcome req)
  pub in_answers : part ++ drop (5 * item_count req) old ≡ answers_left req old (outcome req)
  pub in_rows : rows' ≡ rows_left req oldRows (outcome req)
  pub in_columns : columns' ≡ columns_left req oldColumns (outcome req)

module _ (flow : ℕ) (c r : TrackCounts) (items old oldRows oldColumns : List ℤ) where
  abbrev req : Request
  req = request_of flow c r items (length old) (length oldColumns) (length oldRows)

  abbrev m₀ : ℕ
  m₀ = 5 * item_count req

  module _ (passed : checked req ≡ None) (long : 5 * item_count req ≤ length old) where
    told_columns : (u : Run) → run_of req ≡ u → (x : Result Matrix Refusal) (a p s : List ℤ) → LeftBy true (take m₀ old) (length oldColumns) (length oldRows) u x a p s → Told req true old oldRows oldColumns x a s p
    unfolding rows_left columns_left
    told_columns (going b) e x a p s (m, (f, (g, (h, (i, (j, k)))))) =
        let o = is_answered req b passed e in
        record {
          answer = rw (f, o, g, h) refl;
          in_answers = ap (λ (z : List ℤ). z ++ drop m₀ old) i ∙ answers_all req passed old long b e;
          in_rows = k ∙ rw o refl;
          in_columns = j ∙ rw o refl;
        }
    told_columns (stopped n i) e x a p s (f, (g, (h, k))) =
        let o = room_refuses req n i passed e in
        let z = room_zero req passed n i e in
        record {
          answer = rw (f, o) refl;
          in_answers = ap (λ (z : List ℤ). z ++ drop m₀ old) g ∙ answers_none req passed old long n i e;
          in_rows = k ∙ sym (z.in_rows oldRows);
          in_columns = h ∙ sym (z.in_columns oldColumns);
        }

    told_rows : (u : Run) → run_of req ≡ u → (x : Result Matrix Refusal) (a p s : List ℤ) → LeftBy false (take m₀ old) (length oldRows) (length oldColumns) u x a p s → Told req false old oldRows oldColumns x a p s
    unfolding rows_left columns_left
    told_rows (going b) e x a p s (m, (f, (g, (h, (i, (j, k)))))) =
        let o = is_answered req b passed e in
        record {
          answer = rw (f, o, g, h) refl;
          in_answers = ap (λ (z : List ℤ). z ++ drop m₀ old) i ∙ answers_all req passed old long b e;
          in_rows = j ∙ rw o refl;
          in_columns = k ∙ rw o refl;
        }
    told_rows (stopped n i) e x a p s (f, (g, (h, k))) =
        let o = room_refuses req n i passed e in
        let z = room_zero req passed n i e in
        record {
          answer = rw (f, o) refl;
          in_answers = ap (λ (z : List ℤ). z ++ drop m₀ old) g ∙ answers_none req passed old long n i e;
          in_rows = h ∙ sym (z.in_rows oldRows);
          in_columns = k ∙ sym (z.in_columns oldColumns);
        }

    pub run_by_columns : eqb (flow % 2) 0 ≡ true → (x : Result Matrix Refusal) (a p s : List ℤ) → LeftBy true (take m₀ old) (length oldColumns) (length oldRows) (run_for true (ltb 1 flow) items c r (length oldColumns) (length oldRows)) x a p s
        → Told req true old oldRows oldColumns x a s p
    run_by_columns e x a p s k = told_columns (run_of req) refl x a p s (subst (λ (u : Run). LeftBy true (take m₀ old) (length oldColumns) (length oldRows) u x a p s) (run_columns flow c r items (length old) (length oldColumns) (length oldRows) e) k)

    pub run_by_rows : eqb (flow % 2) 0 ≡ false → (x : Result Matrix Refusal) (a p s : List ℤ) → LeftBy false (take m₀ old) (length oldRows) (length oldColumns) (run_for false (ltb 1 flow) items r c (length oldRows) (length oldColumns)) x a p s
        → Told req false old oldRows oldColumns x a p s
    run_by_rows e x a p s k = told_rows (run_of req) refl x a p s (subst (λ (u : Run). LeftBy false (take m₀ old) (length oldRows) (length oldColumns) u x a p s) (run_rows flow c r items (length old) (length oldColumns) (length oldRows) e) k)

-- ---- a request that has passed: its items are good

every_at : {A : Type 0} (P : A → Type 0) (xs : List A) (i : ℕ) (d : A) → Every P xs → i < length xs → P (get_or xs i d)
every_at P [] i d nil h = absurd (let z : ⊥ = omega arith in z)
every_at P (x ∷ xs) zero d (more p ps) h = p
every_at P (x ∷ xs) (suc i) d (more p ps) h = every_at P xs i d ps (omega arith)

pub passed_items : (q : Request) → checked q ≡ None → (i : ℕ) → i < length q.items / 6 → good_item (item_at q.items i) ≡ true
passed_items q e i h =
    let l = q.items in
    subst (λ (x : Both Half). good_item x ≡ true) (halves_at l i (item_at l i) h)
    (every_at (λ (x : Both Half). good_item x ≡ true) (halves l) i (item_at l i) (checked_none q e).items (omega (arith, halves_length l)))
