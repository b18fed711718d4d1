-- THE PROMISES about the placement call, each under the words of document 01 that it answers. c is what a call is given and x what comes back from it,
-- as `place` ensures; q is its request.
use Rattle.std.specs.Prelude.{Some, None, Option, Result, Err}
use mathlib.Core.Path.{◌≡◌, refl, sym, ap, ◌∙◌, subst}
use mathlib.Core.Logic.{◌↔◌, ◌⊎◌, inl, inr}
use mathlib.Core.Bool.{Bool, true, false, cond}
use mathlib.Core.List.{List, [], ◌∷◌, ◌++◌, map, append_assoc}
use Prim.Native.Nat.{ℕ, zero, suc, ◌+◌, ◌*◌, ◌/◌, ◌%◌, ◌≤◌, ◌<◌}
use native.Mathlib.Omega.{arith}
use lib.Dec.{eqb, ltb}
use lib.IntN.{ℤ, pos}
use lib.ListN.{length, take, drop, replicate, get_or, length-append, length-replicate, get_or-map}
use lib.Seq.{take_at, drop_at, drop-append-add}
use Rattle.theory_signed.proofs.Laws.{by_test}
use Rattle.theory_intervals.specs.Records.{Area}
use Rattle.theory_intervals.specs.OverInt.{cell_of, state_at, decode, flat}
use Rattle.theory_intervals.specs.Lists.{kept}
use Rattle.grid_coordinates.specs.declared.Lines.{Lines}
use Rattle.grid_coordinates.specs.Line.{limited}
use Rattle.grid_track_counts.specs.declared.TrackCounts.{TrackCounts}
use Rattle.grid_track_counts.specs.Counts.{grid_start, grid_end}
use Rattle.theory_walk.specs.declared.Placement.{Placement}
use Rattle.theory_walk.specs.declared.Placement.TheVariants.{Fixed, Spanned}
use Rattle.theory_walk.specs.Axis.{Axis, col, row, other, Both, on, laid, from, Extent, limited_area, pressed_area}
use Rattle.theory_walk.specs.Search.{Place}
use Rattle.theory_walk.specs.Walk.{Item, Tile, Board, Setting, Choice, Run, going, stopped, bit, tile_of, records_on, start2, free_at, start4, free_across, free_pair, overwide, untested}
use Rattle.theory_walk.specs.Request.{Request, Refusal, Outcome, refused, answered, Half, half, checked, halves, placing_of, item_of, item_count, setting_of, up_to, queue_of, start_of, growth_of, run_of, numbers, answer_of, answers_of, outcome, answers_left, rows_left, columns_left}
use Rattle.theory_walk.specs.Rules.{FirstLine, FirstPair, finds, finds_line, finds_pair, lays_untested, mine1, wide, Settled, by1, by2, by4, Walked, Full}
use Rattle.theory_walk.proofs.Tests.{Every}
use Rattle.theory_walk.proofs.LinesLaws.{GrowsBoth, CoversArea}
use Rattle.theory_walk.proofs.Cells.{history, Cell, both_lists}
use Rattle.theory_walk.proofs.Checks.{checked_low}
use Rattle.theory_walk.proofs.Ruled.{full_number}
use Rattle.theory_walk.proofs.Origins.{Origin, Before, fixed_takes, origin_mark, mark_bits}
use Rattle.theory_walk.proofs.Promises as W
use Rattle.placing_request.specs.Items.{item_at}
use Rattle.placing_request.proofs.ItemLemmas.{halves_at}
use Rattle.placing_run.specs.Placing as S
use Rattle.placing_run.specs.declared.checked.Placed.{Placed}
use Rattle.refusals.specs.declared.Refusal as D
use Rattle.refusals.specs.Numbers.{number, index, numbered}
use Rattle.hoarbale_placing.specs.Placing.{placing_columns, placing_rows, answered_with, RefusedBy}
use Rattle.hoarbale_placing.specs.Calls.{Call, asked, Back, Meets, LengthRight, Broken, Passes, areas}
use Rattle.hoarbale_placing.specs.Series.{series, accepted}
use Rattle.hoarbale_placing.proofs.Placed.{broken_named, room_named}
use Rattle.hoarbale_placing.proofs.Refusals.{checked_broken, broken_checked, checked_passes, passes_checked}
use Rattle.hoarbale_placing.proofs.PlaceLists as R
use Rattle.hoarbale_placing.proofs.PlaceLists.{Roomed, run_roomed, Painted, one_by_one}
use Rattle.hoarbale_placing.proofs.ListPromises.{rules_hold, cells_are}

-- ---- "For every input, one result and one set of lent contents is allowed; any two that satisfy a statement are proved identical"

pub one_outcome : (c : Call) (x y : Back) → Meets c x → Meets c y → x ≡ y
one_outcome c x y m n =
    (λ t. record {
      result = (m.result ∙ sym n.result) t;
      answers = (m.answers ∙ sym n.answers) t;
      row_list = (m.row_list ∙ sym n.row_list) t;
      column_list = (m.column_list ∙ sym n.column_list) t;
    })

-- ---- how a request ends: the checks refuse it, or there is no room, or it is answered

data Ends (q : Request) : Outcome → Type 0 where
  by_checks : {n i : ℕ} → checked q ≡ Some (record { number = n; index = i }) → Ends q (refused n i)
  by_room : {n i : ℕ} → checked q ≡ None → run_of q ≡ stopped n i → Ends q (refused n i)
  by_board : (b : Board) → checked q ≡ None → run_of q ≡ going b → {a rs cs : List ℤ} → a ≡ answers_of (up_to (item_count q) 0) b.tiles → Ends q (answered a b.counts rs cs)

ends : (q : Request) → Ends q (outcome q)
ends q = go (checked q) refl (run_of q) refl
  where
    go : (o : Option Refusal) → checked q ≡ o → (u : Run) → run_of q ≡ u → Ends q (outcome q)
    go (Some y) e u f = subst (Ends q) (sym (W.checks_refuse q y.number y.index e)) (by_checks e)
    go None e (stopped n i) f = subst (Ends q) (sym (W.room_refuses q n i e f)) (by_room e f)
    go None e (going b) f = subst (Ends q) (sym (W.is_answered q b e f)) (by_board b e f refl)

not_placed : {A : Type 0} {r : D.Refusal} {k l : TrackCounts} → answered_with k l ≡ Err r → A
not_placed e = let z : ◌≡◌ {A = ℕ} 0 1 = cc in absurd (omega arith)

-- ---- the answer buffer

answer_length : (i : ℕ) (ts : List Tile) → length (answer_of i ts) ≡ 5
unfolding answer_of numbers
answer_length i [] = refl
answer_length i (t ∷ ts) = by_test (eqb t.index i) (λ b. length (cond b (numbers t) (answer_of i ts)) ≡ 5) (λ _. refl) (λ _. answer_length i ts)

answers_length : (n k : ℕ) (ts : List Tile) → length (answers_of (up_to n k) ts) ≡ 5 * n
unfolding answers_of up_to
answers_length zero k ts = omega arith
answers_length (suc n) k ts = omega (arith, length-append (answer_of k ts) (answers_of (up_to n (suc k)) ts), answer_length k ts, answers_length n (suc k) ts)

-- the five numbers of the item i
five_of : (n k i : ℕ) (ts : List Tile) (l : List ℤ) → i < n → take 5 (drop (5 * i) (answers_of (up_to n k) ts ++ l)) ≡ answer_of (k + i) ts
unfolding answers_of up_to
five_of zero k i ts l h = absurd (let z : ⊥ = omega arith in z)
five_of (suc n) k zero ts l h =
    let e : k + 0 ≡ k = omega arith in
    let a = answer_of k ts in
    rw (e, append_assoc a (answers_of (up_to n (suc k)) ts) l) (take_at a (answers_of (up_to n (suc k)) ts ++ l) 5 (answer_length k ts))
five_of (suc n) k (suc i) ts l h =
    let a = answer_of k ts in
    let r = answers_of (up_to n (suc k)) ts ++ l in
    let e : 5 * suc i ≡ length a + 5 * i = omega (arith, answer_length k ts) in
    let f : suc k + i ≡ k + suc i = omega arith in
    rw (append_assoc a (answers_of (up_to n (suc k)) ts) l, e, drop-append-add a r (5 * i)) (rw f at (five_of n (suc k) i ts l (omega arith)))

untouched_by : (q : Request) (old : List ℤ) {o : Outcome} → Ends q o → drop (5 * item_count q) (answers_left q old o) ≡ drop (5 * item_count q) old
unfolding answers_left
untouched_by q old {o} d = go d
  where
    wiped : (b : Bool) → drop (5 * item_count q) (cond b old (replicate (5 * item_count q) (pos 0) ++ drop (5 * item_count q) old)) ≡ drop (5 * item_count q) old
    wiped true = refl
    wiped false = drop_at (replicate (5 * item_count q) (pos 0)) (drop (5 * item_count q) old) (5 * item_count q) (length-replicate (5 * item_count q) (pos 0))

    go : {o : Outcome} → Ends q o → drop (5 * item_count q) (answers_left q old o) ≡ drop (5 * item_count q) old
    go (by_checks {n} e) = wiped (ltb n 7)
    go (by_room {n} e f) = wiped (ltb n 7)
    go (by_board b e f {a} g) = drop_at a (drop (5 * item_count q) old) (5 * item_count q) (ap length g ∙ answers_length (item_count q) 0 b.tiles)

-- an item of the request by its numbers
item_at_lem : (l : List ℤ) (i : ℕ) → i < length l / 6 → get_or (map item_of (halves l)) i (record { columns = Spanned 1; rows = Spanned 1 }) ≡ item_of (item_at l i)
unfolding item_of placing_of
item_at_lem l i h =
    let d : Both Half = record { columns = half (pos 1) (pos 1) (pos 0); rows = half (pos 1) (pos 1) (pos 0) } in
    get_or-map item_of (halves l) i d ∙ ap item_of (halves_at l i d h)

-- ---- what a step's rule says of one item

-- "the first free primary line at or after the starting line", and the tile's lines are limited
pub record OnSecondary (w : Setting) (t : Board) (n : ℕ) (s : Lines) (a : Extent) : Type 0 where
  pub line : ℤ
  pub first : FirstLine (free_at w t n s) (start2 w s.start t) line
  pub area : a ≡ laid w.axis (from line n) s

-- "Fixed primary: .. First free secondary line upward."
pub record OnPrimary (w : Setting) (t : Board) (p : Lines) (m : ℕ) (a : Extent) : Type 0 where
  pub line : ℤ
  pub first : FirstLine (free_across w t p m) (start4 w p.start t) line
  pub area : a ≡ laid w.axis p (from line m)

-- "Neither fixed: .. First free pair. If the span doesn't fit even from the current grid start, it is laid there without a collision test"
pub data OnNeither (w : Setting) (t : Board) (n m : ℕ) (a : Extent) : Type 0 where
  first_pair_lem : (y z : ℤ) → overwide n (on w.axis t.counts) ≡ false
      → FirstPair n (grid_end (on w.axis t.counts)) (grid_start (on w.axis t.counts)) (free_pair w t n m) t.cursor.primary t.cursor.secondary (record { primary = y; secondary = z })
      → a ≡ laid w.axis (from y n) (from z m) → OnNeither w t n m a
  laid_there : overwide n (on w.axis t.counts) ≡ true
      → a ≡ laid w.axis (from (untested w t).primary n) (from (untested w t).secondary m) → OnNeither w t n m a

by_secondary : {w : Setting} {once : Place} {t : Board} {n : ℕ} {s : Lines} {h : Choice} → Settled w once t (Spanned n) (Fixed s) h → OnSecondary w t n s h.area
by_secondary (by1 x) = elim x [ ]
by_secondary (by4 x) = elim x [ ]
by_secondary (by2 (finds {z} f)) = record { line = z; first = f; area = refl }

by_primary : {w : Setting} {once : Place} {t : Board} {p : Lines} {m : ℕ} {h : Choice} → Settled w once t (Fixed p) (Spanned m) h → OnPrimary w t p m h.area
by_primary (by1 x) = elim x [ ]
by_primary (by2 x) = elim x [ ]
by_primary (by4 (finds_line {z} f)) = record { line = z; first = f; area = refl }

by_neither : {w : Setting} {once : Place} {t : Board} {n m : ℕ} {h : Choice} → Settled w once t (Spanned n) (Spanned m) h → OnNeither w t n m h.area
by_neither (by1 x) = elim x [ ]
by_neither (by2 x) = elim x [ ]
by_neither (by4 (finds_pair {y} {x} e f)) = first_pair_lem y x e f refl
by_neither (by4 (lays_untested e)) = laid_there e refl

-- ---- every call

module _ (c : Call) (x : Back) (meets : Meets c x) where
  abbrev q : Request
  q = asked c

  -- the steps' rules find, after the items before it, an item for which the list that n names has no room: 7 the row list, 8 the column list
  abbrev pub NoRoom : ℕ → ℕ → Type 0
  NoRoom n i = Full (setting_of q) (growth_of q) (queue_of q) (start_of q) n i

  room_number : {n i : ℕ} → checked q ≡ None → run_of q ≡ stopped n i → 6 < n
  room_number {n} {i} e f = go (full_number ((W.refused_full q e n i).0 f))
    where
      go : (n ≡ 7) ⊎ (n ≡ 8) → 6 < n
      go (inl h) = omega arith
      go (inr h) = omega arith

  -- whoever is refused so, the checks or the walk refuse it so
  same_refusal : {m j n i : ℕ} → (number (numbered m j) ≡ m) × (index (numbered m j) ≡ j) → RefusedBy (Err (numbered m j)) n i → (m ≡ n) × (j ≡ i)
  same_refusal h f =
      let e = ap number (err_is f.is) in
      let g = ap index (err_is f.is) in
      (sym h.0 ∙ e ∙ f.number_is, sym h.1 ∙ g ∙ f.index_is)
    where
      err_is : {a b : D.Refusal} → ◌≡◌ {A = Result Placed D.Refusal} (Err a) (Err b) → a ≡ b
      err_is e = cc

  refused_by : {o : Outcome} {n i : ℕ} → Ends q o → RefusedBy (S.placing_of o) n i → (checked q ≡ Some (record { number = n; index = i })) ⊎ ((checked q ≡ None) × (run_of q ≡ stopped n i))
  refused_by (by_checks {n = m} {i = j} e) f = let p = same_refusal (broken_named (checked_broken q m j e)) f in inl (e ∙ (λ t. Some (record { number = p.0 t; index = p.1 t })))
  refused_by (by_room {n = m} {i = j} e g) f = let p = same_refusal (room_named (full_number ((W.refused_full q e m j).0 g))) f in inr (e, g ∙ (λ t. stopped (p.0 t) (p.1 t)))
  refused_by (by_board b e g h) f = not_placed f.is

  why : {n i : ℕ} → RefusedBy x.result n i → (checked q ≡ Some (record { number = n; index = i })) ⊎ ((checked q ≡ None) × (run_of q ≡ stopped n i))
  why f = refused_by (ends q) (record { refusal = f.refusal; is = sym meets.result ∙ f.is; number_is = f.number_is; index_is = f.index_is })

  -- 1 to 6 are "Given exactly when" the first of their reasons holds, "in that order",
  pub refused_first : (n i : ℕ) → ((RefusedBy x.result n i) × (n ≤ 6)) ↔ Broken q n i
  refused_first n i = ((λ h. go h.1 (why h.0)), (λ b. (record { refusal = numbered n i; is = meets.result ∙ ap S.placing_of (W.checks_refuse q n i (broken_checked q b)); number_is = (broken_named b).0; index_is = (broken_named b).1 }, checked_low q (record { number = n; index = i }) (broken_checked q b))))
    where
      go : n ≤ 6 → (checked q ≡ Some (record { number = n; index = i })) ⊎ ((checked q ≡ None) × (run_of q ≡ stopped n i)) → Broken q n i
      go h (inl e) = checked_broken q n i e
      go h (inr (e, f)) = absurd (let k = room_number e f in let z : ⊥ = omega arith in z)

  -- a number and an index are those of one case alone
  pub refused_named : (n i : ℕ) → RefusedBy x.result n i → x.result ≡ Err (numbered n i)
  refused_named n i h = go (why h)
    where
      go : (checked q ≡ Some (record { number = n; index = i })) ⊎ ((checked q ≡ None) × (run_of q ≡ stopped n i)) → x.result ≡ Err (numbered n i)
      go (inl e) = meets.result ∙ ap S.placing_of (W.checks_refuse q n i e)
      go (inr (e, f)) = meets.result ∙ ap S.placing_of (W.room_refuses q n i e f)

  -- and leave "all unchanged"
  pub refusal_unchanged : (n i : ℕ) → RefusedBy x.result n i → n ≤ 6 → (x.answers ≡ c.answers) × (x.row_list ≡ c.row_list) × (x.column_list ≡ c.column_list)
  refusal_unchanged n i e h =
      let l = W.refusal_unchanged q (record { number = n; index = i }) (broken_checked q ((refused_first n i).0 (e, h))) in
      (meets.answers ∙ l.in_answers c.answers, meets.row_list ∙ l.in_rows c.row_list, meets.column_list ∙ l.in_columns c.column_list)

  room_refused : {n i : ℕ} → checked q ≡ None → run_of q ≡ stopped n i → RefusedBy x.result n i
  room_refused {n} {i} p f =
      let h = room_named (full_number ((W.refused_full q p n i).0 f)) in
      record { refusal = numbered n i; is = meets.result ∙ ap S.placing_of (W.room_refuses q n i p f); number_is = h.0; index_is = h.1 }

  -- 7 and 8 are given exactly when the request passes and an item has no room, "7 before 8, with that item's index"
  pub refused_room : (n i : ℕ) → ((RefusedBy x.result n i) × (6 < n)) ↔ (Passes q × NoRoom n i)
  refused_room n i = ((λ h. go h.1 (why h.0)), (λ h. let p = passes_checked q h.0 in let f = (W.refused_full q p n i).1 h.1 in (room_refused p f, room_number p f)))
    where
      go : 6 < n → (checked q ≡ Some (record { number = n; index = i })) ⊎ ((checked q ≡ None) × (run_of q ≡ stopped n i)) → Passes q × NoRoom n i
      go h (inl e) = absurd (let k = checked_low q (record { number = n; index = i }) e in let z : ⊥ = omega arith in z)
      go h (inr (e, f)) = (checked_passes q e, (W.refused_full q e n i).0 f)

  -- "and then the answer places of all items and both lists are zero"
  pub room_zero : (n i : ℕ) → RefusedBy x.result n i → 6 < n
      → (x.answers ≡ replicate (5 * item_count q) (pos 0) ++ drop (5 * item_count q) c.answers) × (x.row_list ≡ replicate (length c.row_list) (pos 0)) × (x.column_list ≡ replicate (length c.column_list) (pos 0))
  room_zero n i e h =
      let (p, f) = (refused_room n i).0 (e, h) in
      let k = passes_checked q p in
      let l = W.room_zero q k n i ((W.refused_full q k n i).1 f) in
      (meets.answers ∙ l.in_answers c.answers, meets.row_list ∙ l.in_rows c.row_list, meets.column_list ∙ l.in_columns c.column_list)

  -- "a request that fits is answered", so that refusing everything is no answer
  pub answered_if : Passes q → ((n i : ℕ) → NoRoom n i → ⊥) → (k : TrackCounts) × (l : TrackCounts) × (x.result ≡ answered_with k l)
  answered_if p room =
      let e = passes_checked q p in
      let (b, f) = W.fits_answered q e room in
      (b.counts.columns, b.counts.rows, meets.result ∙ ap S.placing_of (W.is_answered q b e f))

  -- "Places past the last item are not touched", whatever comes back
  pub untouched : drop (5 * item_count q) x.answers ≡ drop (5 * item_count q) c.answers
  untouched = ap (drop (5 * item_count q)) meets.answers ∙ untouched_by q c.answers (ends q)

  -- ---- a call that is answered

  module _ (k l : TrackCounts) (placed : x.result ≡ answered_with k l) where
    -- it passed the checks, and its run ends with a board: the tiles, newest first, and the counts
    pub record Ran : Type 0 where
      pub board : Board
      pub passed : checked q ≡ None
      pub run : run_of q ≡ going board

    placed_by : {o : Outcome} → Ends q o → S.placing_of o ≡ answered_with k l → Ran
    placed_by (by_checks e) f = not_placed (sym f)
    placed_by (by_room e g) f = not_placed (sym f)
    placed_by (by_board b e g h) f = record { board = b; passed = e; run = g }

    pub ran : Ran
    ran = placed_by (ends q) (sym meets.result ∙ placed)

    abbrev pub b : Board
    b = ran.board

    abbrev pub w : Setting
    w = setting_of q

    is : outcome q ≡ answered (answers_of (up_to (item_count q) 0) b.tiles) b.counts (flat (length c.row_list) (records_on row b.tiles)) (flat (length c.column_list) (records_on col b.tiles))
    is = W.is_answered q b ran.passed ran.run

    -- and no other than one that fits is answered
    pub answered_only : Passes q × ((n i : ℕ) → NoRoom n i → ⊥)
    answered_only = (checked_passes q ran.passed, (λ n i f. not_placed (sym placed ∙ ((refused_room n i).1 (checked_passes q ran.passed, f)).0.is)))

    -- the steps one after the other, items in document order, each item settled by its step's rule on the board as it then stands: the cursor and the
    -- counts are those that the items before it left
    pub walked : Walked w (growth_of q) (queue_of q) (start_of q) (going b)
    walked = subst (Walked w (growth_of q) (queue_of q) (start_of q)) ran.run (W.ruled q ran.passed)

    -- and no other board comes of that
    pub walked_only : (r : Run) → Walked w (growth_of q) (queue_of q) (start_of q) r → r ≡ going b
    walked_only r d = sym (W.ruled_only q ran.passed r d) ∙ ran.run

    -- ---- "Answer: five numbers an item: column start, column end, row start, row end, mark"

    -- the lines read once before step 4
    abbrev pub once : Place
    once = (W.origins q ran.passed b ran.run).0

    -- item i's five numbers are those of its tile, which comes from the item by its step's rule on the board as it stood before it
    pub record Answer (i : ℕ) : Type 0 where
      pub tile : Tile
      pub earlier : List Tile
      pub laid : Before tile earlier b.tiles
      pub five : take 5 (drop (5 * i) x.answers) ≡ numbers tile
      pub from : Origin w once q.counts (queue_of q) tile earlier
      pub item : from.item.item ≡ item_of (item_at c.items i)

    pub answers : (i : ℕ) → i < item_count q → Answer i
    unfolding answers_left
    answers i h =
        let a = W.answers q ran.passed b ran.run i h in
        let z : 0 + i ≡ i = omega arith in
        let e : x.answers ≡ answers_of (up_to (item_count q) 0) b.tiles ++ drop (5 * item_count q) c.answers = meets.answers ∙ ap (answers_left q c.answers) is in
        record {
          tile = a.tile;
          earlier = a.earlier_tiles;
          laid = a.laid;
          five = ap (λ (y : List ℤ). take 5 (drop (5 * i) y)) e ∙ five_of (item_count q) 0 i b.tiles (drop (5 * item_count q) c.answers) h ∙ ap (λ (j : ℕ). answer_of j b.tiles) z ∙ a.is;
          from = a.from;
          item = a.item ∙ item_at_lem c.items i h;
        }

    -- ---- of one item's answer

    module _ (i : ℕ) (a : Answer i) where
      -- where the item goes among the columns and among the rows, and in the primary and in the secondary axis
      abbrev pub mine : Item
      mine = item_of (item_at c.items i)

      abbrev pub primary : Placement
      primary = on w.axis mine

      abbrev pub secondary : Placement
      secondary = on (other w.axis) mine

      -- the board as it stood before: the tiles laid by then and the least counts for them
      abbrev pub before : Board
      before = a.from.before

      -- its lines before limiting
      abbrev pub wanted : Extent
      wanted = a.from.choice.area

      settled : Settled w once before primary secondary a.from.choice
      settled = subst (λ (y : Item). Settled w once before (on w.axis y) (on (other w.axis) y) a.from.choice) a.item a.from.settled

      -- "limit its lines"
      pub limits : a.tile.area ≡ limited_area wanted
      unfolding tile_of
      limits = ap (λ (y : Tile). y.area) a.from.tile

      -- "1. Items fixed in both axes take their lines."
      pub takes_lines : (d e : Lines) → mine ≡ record { columns = Fixed d; rows = Fixed e } → a.tile.area ≡ record { columns = limited d; rows = limited e }
      takes_lines d e h = fixed_takes a.from d e (a.item ∙ h)

      -- "2. Items fixed in the secondary axis only: the first free primary line at or after the starting line."
      pub second_step : (n : ℕ) (s : Lines) → primary ≡ Spanned n → secondary ≡ Fixed s → OnSecondary w before n s wanted
      second_step n s e f = by_secondary (subst (λ (y : Placement). Settled w once before (Spanned n) y a.from.choice) f (subst (λ (y : Placement). Settled w once before y secondary a.from.choice) e settled))

      -- "4. The rest. .. Fixed primary"
      pub fourth_step_line : (p : Lines) (m : ℕ) → primary ≡ Fixed p → secondary ≡ Spanned m → OnPrimary w before p m wanted
      fourth_step_line p m e f = by_primary (subst (λ (y : Placement). Settled w once before (Fixed p) y a.from.choice) f (subst (λ (y : Placement). Settled w once before y secondary a.from.choice) e settled))

      -- "Neither fixed"
      pub fourth_step_pair : (n m : ℕ) → primary ≡ Spanned n → secondary ≡ Spanned m → OnNeither w before n m wanted
      fourth_step_pair n m e f = by_neither (subst (λ (y : Placement). Settled w once before (Spanned n) y a.from.choice) f (subst (λ (y : Placement). Settled w once before y secondary a.from.choice) e settled))

      -- "Mark: the sum of 1 pressed (limiting changed a line), 2 both axes fixed, 4 overwide. Each flag is a bit, tested by itself."
      pub marked : (eqb (a.tile.mark % 2) 1 ≡ pressed_area wanted) × (eqb (a.tile.mark / 2 % 2) 1 ≡ mine1 primary secondary) × (eqb (a.tile.mark / 4 % 2) 1 ≡ wide w before primary secondary)
      marked =
          let e = subst (λ (y : Item). a.tile.mark ≡ bit 1 (pressed_area wanted) + (bit 2 (mine1 (on w.axis y) (on (other w.axis) y)) + bit 4 (wide w before (on w.axis y) (on (other w.axis) y)))) a.item (origin_mark a.from) in
          let h = mark_bits (pressed_area wanted) (mine1 primary secondary) (wide w before primary secondary) in
          (ap (λ (n : ℕ). eqb (n % 2) 1) e ∙ h.0, ap (λ (n : ℕ). eqb (n / 2 % 2) 1) e ∙ h.1, ap (λ (n : ℕ). eqb (n / 4 % 2) 1) e ∙ h.2)

      -- a tile "marked neither pressed nor overwide", nor fixed in both axes, "covers no cell taken before it"
      pub unmarked : a.tile.mark ≡ 0 → (z : Axis) (t p : ℤ) → Cell z a.tile.area t p → state_at (history z a.earlier) t p ≡ 0
      unmarked e = W.unmarked_cells q ran.passed b ran.run a.tile a.earlier a.laid e

    -- every item has one tile, and no other is laid
    pub one_each : length b.tiles ≡ item_count q
    one_each = W.one_each q ran.passed b ran.run

    -- ---- "least counts covering the given ones and all recorded lines"

    abbrev pub given : Both TrackCounts
    given = record { columns = c.columns; rows = c.rows }

    abbrev pub counts : Both TrackCounts
    counts = record { columns = k; rows = l }

    pub counts_are : counts ≡ b.counts
    counts_are =
        let e : answered_with k l ≡ answered_with b.counts.columns b.counts.rows = sym placed ∙ meets.result ∙ ap S.placing_of is in
        (λ t. record { columns = ap placing_columns e t; rows = ap placing_rows e t })

    -- they cover the given ones and every tile, and any that do are no less
    pub least_counts : GrowsBoth given counts × Every (λ (t : Tile). CoversArea counts t.area) b.tiles
        × ((d : Both TrackCounts) → GrowsBoth given d → Every (λ (t : Tile). CoversArea d t.area) b.tiles → GrowsBoth counts d)
    least_counts =
        let h = W.least_counts q ran.passed b ran.run in
        let e = sym counts_are in (
          subst (λ (y : Both TrackCounts). GrowsBoth given y) e h.grows,
          subst (λ (y : Both TrackCounts). Every (λ (t : Tile). CoversArea y t.area) b.tiles) e h.covers,
          (λ d g f. subst (λ (y : Both TrackCounts). GrowsBoth y d) e (h.least d g f)),
        )

    -- so no others would do
    pub counts_only : (d : Both TrackCounts) → GrowsBoth given d → Every (λ (t : Tile). CoversArea d t.area) b.tiles
        → ((y : Both TrackCounts) → GrowsBoth given y → Every (λ (t : Tile). CoversArea y t.area) b.tiles → GrowsBoth d y) → d ≡ counts
    counts_only d g f h = W.counts_only q ran.passed b ran.run d g f h ∙ sym counts_are

    -- ---- "the lists, whose cells come from the paint history": the tiles' areas, in the order placed, painted one after the other through the list call
    -- on an empty list; each is accepted. So what ListPromises says of a series is said of these lists.

    roomed : (z : Axis) → Roomed z (on z q.lists) b.tiles
    unfolding setting_of run_of
    roomed z = run_roomed z w (growth_of q) (queue_of q) (start_of q) b R.none ran.run

    painted : (z : Axis) (n : ℕ) → LengthRight n → Roomed z n b.tiles → Painted z n b.tiles
    painted z n h r = one_by_one z n h b.tiles (W.tiles_in_grid q ran.passed b ran.run) (W.coloured q ran.passed b ran.run (W.states q ran.passed b ran.run)) r

    on_rows : Painted row (length c.row_list) b.tiles
    on_rows = painted row (length c.row_list) (checked_passes q ran.passed).lists.rows (roomed row)

    on_columns : Painted col (length c.column_list) b.tiles
    on_columns = painted col (length c.column_list) (checked_passes q ran.passed).lists.columns (roomed col)

    pub rows_are : x.row_list ≡ series (length c.row_list) (areas row b.tiles)
    unfolding rows_left
    rows_are = meets.row_list ∙ ap (rows_left q c.row_list) is ∙ sym on_rows.list

    pub columns_are : x.column_list ≡ series (length c.column_list) (areas col b.tiles)
    unfolding columns_left
    columns_are = meets.column_list ∙ ap (columns_left q c.column_list) is ∙ sym on_columns.list

    pub rows_accepted : accepted (length c.row_list) (areas row b.tiles) ≡ history row b.tiles
    rows_accepted = on_rows.all

    pub columns_accepted : accepted (length c.column_list) (areas col b.tiles) ≡ history col b.tiles
    columns_accepted = on_columns.all

    -- the list rules hold, and a cell has the state of the last tile painted over it, or none
    pub row_cells : (kept x.row_list ≡ true) × ((t p : ℤ) → cell_of (decode x.row_list) t p ≡ state_at (history row b.tiles) t p)
    row_cells =
        let n = length c.row_list in
        let ys = areas row b.tiles in (
          ap kept rows_are ∙ (rules_hold n ys).0,
          (λ t p. ap (λ (y : List ℤ). cell_of (decode y) t p) rows_are ∙ cells_are n ys t p ∙ ap (λ (h : List (Area ℤ)). state_at h t p) rows_accepted),
        )

    pub column_cells : (kept x.column_list ≡ true) × ((t p : ℤ) → cell_of (decode x.column_list) t p ≡ state_at (history col b.tiles) t p)
    column_cells =
        let n = length c.column_list in
        let ys = areas col b.tiles in (
          ap kept columns_are ∙ (rules_hold n ys).0,
          (λ t p. ap (λ (y : List ℤ). cell_of (decode y) t p) columns_are ∙ cells_are n ys t p ∙ ap (λ (h : List (Area ℤ)). state_at h t p) columns_accepted),
        )

    -- and both lists say the same of every cell
    pub lists_agree : (t p : ℤ) → cell_of (decode x.row_list) t p ≡ cell_of (decode x.column_list) p t
    lists_agree t p = row_cells.1 t p ∙ both_lists row b.tiles t p ∙ sym (column_cells.1 p t)
