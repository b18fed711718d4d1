-- Judging a file: each way to refusal 12, what a good file's length is, and how a good file comes to the door's outcome.
use Rattle.std.specs.Prelude.{Some, Result, Err}
use mathlib.Core.Path.{◌≡◌, refl, sym, ap, ◌∙◌}
use mathlib.Core.Bool.{true, false}
use mathlib.Core.List.{List, ◌++◌}
use Prim.Native.Nat.{ℕ, ◌*◌, ◌/◌, ◌%◌, ◌≤◌, ◌<◌}
use native.Mathlib.Omega.{arith}
use borrow.Author.Tests.{lt-ltb, le-ltb, lt-leb, le-leb, eq-eqb}
use lib.Dec.{eqb, ltb}
use lib.IntN.{ℤ}
use lib.ListN.{length, get_or, take, drop}
use Rattle.theory_walk.specs.Request.{Request, Refusal, Outcome, checked, outcome, answers_left, rows_left, columns_left, no}
use Rattle.theory_walk.proofs.Promises.{checks_refuse, refusal_unchanged}
use Rattle.placing_request.specs.Items.{request_of}
use Rattle.placing_run.specs.declared.checked.Placed.{Placed}
use Rattle.refusals.specs.Numbers.{numbered}
use Rattle.refusals.specs.declared.Refusal as R
use Rattle.placing_run.specs.Placing.{placing_of}
use Rattle.board_bytes.specs.declared.header.Head.{Head}
use Rattle.board_bytes.specs.File.{word_at, numbers, head_of, items_in, good_file}
use Rattle.board_file.specs.File.{request_in, file_outcome, answer_of, file_answers_left, file_rows_left, file_columns_left, file_items_left}
use Rattle.board_bytes.proofs.Judged.{head_count}
use Rattle.board_bytes.proofs.Words.{length_numbers, take_numbers}

module _ (bs : List ℕ) where
  -- ---- the request of a good file

  pub same_request : (h : Head) (zs : List ℤ) (a c r : ℕ) → h ≡ head_of bs → zs ≡ items_in bs → request_of h.flow h.columns h.rows zs a c r ≡ request_in bs a c r
  unfolding head_of
  same_request h zs a c r e f = λ t. request_of (e t).flow (e t).columns (e t).rows (f t) a c r

  module _ (a c r : ℕ) (g : good_file bs ≡ true) where
    pub good_outcome : outcome (request_in bs a c r) ≡ file_outcome bs a c r
    unfolding file_outcome
    good_outcome = rw g refl

    pub good_answers : (old : List ℤ) → answers_left (request_in bs a c r) old (outcome (request_in bs a c r)) ≡ file_answers_left bs a c r old
    unfolding file_answers_left
    good_answers old = rw g refl

    pub good_rows : (old : List ℤ) → rows_left (request_in bs a c r) old (outcome (request_in bs a c r)) ≡ file_rows_left bs a c r old
    unfolding file_rows_left
    good_rows old = rw g refl

    pub good_columns : (old : List ℤ) → columns_left (request_in bs a c r) old (outcome (request_in bs a c r)) ≡ file_columns_left bs a c r old
    unfolding file_columns_left
    good_columns old = rw g refl

    -- flow first, and then the count
    pub flow_refused : 3 < get_or bs 5 0 → checked (request_in bs a c r) ≡ no 1 0
    unfolding checked
    flow_refused h = rw (lt-ltb 3 (get_or bs 5 0) h) refl

    length_items : length (items_in bs) ≡ 6 * word_at bs 18
    unfolding items_in
    length_items = length_numbers bs 20 (6 * word_at bs 18)

    pub count_refused : get_or bs 5 0 ≤ 3 → 2000 < word_at bs 18 → checked (request_in bs a c r) ≡ no 2 0
    unfolding checked
    count_refused h k =
        let l = length_items in
        let e : eqb (length (items_in bs) % 6) 0 ≡ true = eq-eqb (length (items_in bs) % 6) 0 (omega arith) in
        let f : ltb 2000 (length (items_in bs) / 6) ≡ true = lt-ltb 2000 (length (items_in bs) / 6) (omega arith) in
        rw (le-ltb 3 (get_or bs 5 0) h, e, f) refl

    many_items : 2000 < word_at bs 18 → (old : List ℤ) → old ≡ file_items_left bs old
    unfolding file_items_left
    many_items k old = rw (g, lt-leb (word_at bs 18) 2000 k) refl

    pub few_items : word_at bs 18 ≤ 2000 → (old : List ℤ) → items_in bs ++ drop (6 * word_at bs 18) old ≡ file_items_left bs old
    unfolding file_items_left
    few_items k old = rw (g, le-leb (word_at bs 18) 2000 k) refl

    -- a count over 2000: nothing is changed
    pub many_refused : (x : Refusal) (n : ℕ) (is zs rs cs : List ℤ) → 2000 < word_at bs 18 → checked (request_in bs a c r) ≡ Some x
        → (Err (numbered x.number x.index) ≡ answer_of n (placing_of (file_outcome bs a c r)))
        × ((is ≡ file_items_left bs is) × ((zs ≡ file_answers_left bs a c r zs) × ((rs ≡ file_rows_left bs a c r rs) × (cs ≡ file_columns_left bs a c r cs))))
    many_refused x n is zs rs cs k e =
        let o = checks_refuse (request_in bs a c r) x.number x.index e in
        let l = refusal_unchanged (request_in bs a c r) x e in (
          ap (λ (v : Outcome). answer_of n (placing_of v)) (sym o ∙ good_outcome),
          (many_items k is, (sym (l.in_answers zs) ∙ good_answers zs, (sym (l.in_rows rs) ∙ good_rows rs, sym (l.in_columns cs) ∙ good_columns cs))),
        )

    -- the numbers read, as the door gets them
    pub read_whole : (h : Head) (is d : List ℤ) → h ≡ head_of bs → is ≡ numbers bs 20 (6 * h.count) ++ d → take (6 * h.count) is ≡ items_in bs
    unfolding items_in
    read_whole h is d e f =
        ap (take (6 * h.count)) f ∙ take_numbers bs d 20 (6 * h.count) ∙ ap (λ (n : ℕ). numbers bs 20 (6 * n)) (head_count bs h e)

    pub read_left : (h : Head) (is old : List ℤ) → h ≡ head_of bs → h.count ≤ 2000 → is ≡ numbers bs 20 (6 * h.count) ++ drop (6 * h.count) old → is ≡ file_items_left bs old
    unfolding items_in
    read_left h is old e k f =
        let n = head_count bs h e in
        f ∙ ap (λ (m : ℕ). numbers bs 20 (6 * m) ++ drop (6 * m) old) n ∙ few_items (omega arith) old

    -- what the door gives for them
    pub door : (q : Request) (p : Result Placed R.Refusal) (n : ℕ) (z zs r₁ rs c₁ cs : List ℤ) → q ≡ request_in bs a c r
        → (p ≡ placing_of (outcome q)) × ((z ≡ answers_left q zs (outcome q)) × ((r₁ ≡ rows_left q rs (outcome q)) × (c₁ ≡ columns_left q cs (outcome q))))
        → (answer_of n p ≡ answer_of n (placing_of (file_outcome bs a c r)))
        × ((z ≡ file_answers_left bs a c r zs) × ((r₁ ≡ file_rows_left bs a c r rs) × (c₁ ≡ file_columns_left bs a c r cs)))
    door q p n z zs r₁ rs c₁ cs e l = (
      ap (answer_of n) (l.0 ∙ ap (λ (x : Request). placing_of (outcome x)) e ∙ ap placing_of good_outcome),
      (
        l.1.0 ∙ ap (λ (x : Request). answers_left x zs (outcome x)) e ∙ good_answers zs,
        (
          l.1.1.0 ∙ ap (λ (x : Request). rows_left x rs (outcome x)) e ∙ good_rows rs,
          l.1.1.1 ∙ ap (λ (x : Request). columns_left x cs (outcome x)) e ∙ good_columns cs,
        ),
      ),
    )

  -- ---- no file
  module _ (a c r n : ℕ) (is zs rs cs : List ℤ) where
    pub no_file : good_file bs ≡ false
        → (Err (numbered 12 0) ≡ answer_of n (placing_of (file_outcome bs a c r)))
        × ((is ≡ file_items_left bs is) × ((zs ≡ file_answers_left bs a c r zs) × ((rs ≡ file_rows_left bs a c r rs) × (cs ≡ file_columns_left bs a c r cs))))
    unfolding file_outcome file_items_left file_answers_left file_rows_left file_columns_left
    no_file g = rw g (refl, (refl, (refl, (refl, refl))))
