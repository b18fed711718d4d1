-- THE PROMISES about a placement run, each under the words of document 01 that it answers. r is a request; in the last parts it passes the checks 1 to 6,
-- and b is the board that its run ends with.
use Rattle.std.specs.Prelude.{Some, None}
use mathlib.Core.Path.{◌≡◌, refl, sym, ap, ◌∙◌}
use mathlib.Core.Logic.{◌↔◌, ◌⊎◌, inl, inr}
use mathlib.Core.Bool.{Bool, true, false, cond}
use mathlib.Core.List.{List, ◌++◌}
use Prim.Native.Nat.{ℕ, ◌+◌, ◌*◌, ◌<◌}
use native.Mathlib.Omega.{arith}
use borrow.Author.Tests.{eqb-true, eqb-false, ltb-false}
use lib.Dec.{eqb, ltb}
use lib.IntN.{ℤ, pos}
use lib.ListN.{length, drop, replicate, get_or, length-map}
use Rattle.theory_signed.proofs.Laws.{signed, by_test}
use Rattle.theory_intervals.specs.Records.{Rec}
use Rattle.theory_intervals.specs.OverInt.{state_at, cell_of, keeps, ok, flat, digits}
use Rattle.theory_intervals.specs.Lists.{rules, Holds}
use Rattle.theory_intervals.proofs.Flat as Fl
use Rattle.theory_intervals.proofs.OverInt.{digit_laws, is_painted_lem}
use Rattle.grid_track_counts.specs.declared.TrackCounts.{TrackCounts}
use Rattle.grid_track_counts.specs.Counts.{Sound}
use Rattle.theory_walk.specs.declared.Placement.TheVariants.{Spanned}
use Rattle.theory_walk.specs.Axis.{Axis, col, row, other, Both, on, Extent}
use Rattle.theory_walk.specs.Search.{Place}
use Rattle.theory_walk.specs.Walk.{Queued, Tile, Board, Setting, Run, going, stopped, free, tile_of, laid_on, records_on, step4, each, begin4, walk}
use Rattle.theory_walk.specs.Request.{Request, Refusal, Outcome, refused, answered, answer_numbers, checked, halves, item_of, item_count, setting_of, up_to, queue, items_of, queue_of, start_of, growth_of, run_of, numbers, answer_of, answers_of, told, outcome, answers_left, rows_left, columns_left}
use Rattle.theory_walk.specs.Rules.{Walked, Full}
use Rattle.theory_walk.specs.OnList.{written}
use Rattle.theory_walk.proofs.Tests.{Every, nil, more, Mem}
use Rattle.theory_walk.proofs.LinesLaws.{each_on, GrowsBoth, CoversArea, start_low, start_high}
use Rattle.theory_walk.proofs.FreeLaws.{Tiled}
use Rattle.theory_walk.proofs.WalkLaws.{Kept, Clear, no_growth, walk_kept, Least, least_none, counts_least, grows_same, WithStates, states_kept, Roomy, walk_roomy, walk_keeps}
use Rattle.theory_walk.proofs.Range.{Run4, run4}
use Rattle.theory_walk.proofs.Cells.{history, Coloured, Cell, Solid, history_fits, records_rules, records_hold, records_cell, free_cells, free_list}
use Rattle.theory_walk.proofs.Checks.{checked_none, checked_low, good_items, good_queue, halves_length}
use Rattle.theory_walk.proofs.Placed.{Has, walk_has, walk_count, queue_length, queue_all, queue_below, queue_item}
use Rattle.theory_walk.proofs.Answers.{written_is, answer_of_lem}
use Rattle.theory_walk.proofs.Ruled.{walk_ruled, walk_only, walked_full, full_walked, full_number}
use Rattle.theory_walk.proofs.Origins.{Origin, Origins, origin_of, origin_index, walk_origins, Before, clear_of}

items_length : (r : Request) → length (items_of r) ≡ item_count r
items_length r = length-map (halves r.items) item_of ∙ halves_length r.items

run_is : (r : Request) → run_of r ≡ walk (setting_of r) (growth_of r) (queue_of r) (start_of r)
unfolding run_of
run_is r = refl

-- an item of the queue is the request's item of its index
pub queued_item : (r : Request) (q : Queued) → Mem q (queue_of r) → q.item ≡ get_or (items_of r) q.index (record { columns = Spanned 1; rows = Spanned 1 })
queued_item r q m = queue_item (up_to (length (items_of r)) 0) (items_of r) q m

-- ---- "For every input, one result and one set of lent contents": a refusal by the checks, a refusal for room, or the answers

pub checks_refuse : (r : Request) (n i : ℕ) → checked r ≡ Some (record { number = n; index = i }) → outcome r ≡ refused n i
unfolding outcome
checks_refuse r n i e = rw e

pub room_refuses : (r : Request) (n i : ℕ) → checked r ≡ None → run_of r ≡ stopped n i → outcome r ≡ refused n i
unfolding outcome told
room_refuses r n i e f = rw (e, f)

pub is_answered : (r : Request) (b : Board) → checked r ≡ None → run_of r ≡ going b
    → outcome r ≡ answered (answers_of (up_to (item_count r) 0) b.tiles) b.counts (flat r.lists.rows (records_on row b.tiles)) (flat r.lists.columns (records_on col b.tiles))
unfolding outcome told
is_answered r b e f = rw (e, f)

-- what a call leaves in the answer buffer, the row list and the column list, by what they held before
pub record Leaves (r : Request) (o : Outcome) (answers rows columns : List ℤ → List ℤ) : Type 0 where
  pub in_answers : (old : List ℤ) → answers_left r old o ≡ answers old
  pub in_rows : (old : List ℤ) → rows_left r old o ≡ rows old
  pub in_columns : (old : List ℤ) → columns_left r old o ≡ columns old

-- 1 to 6: "unchanged"
pub refusal_unchanged : (r : Request) (x : Refusal) → checked r ≡ Some x → Leaves r (outcome r) (λ old. old) (λ old. old) (λ old. old)
unfolding answers_left rows_left columns_left
refusal_unchanged r x e =
    rw (checks_refuse r x.number x.index e)
    (record {
      in_answers = λ old. kept old (replicate (answer_numbers * item_count r) (pos 0) ++ drop (answer_numbers * item_count r) old);
      in_rows = λ old. kept old (replicate r.lists.rows (pos 0));
      in_columns = λ old. kept old (replicate r.lists.columns (pos 0));
    })
  where
    kept : (old new : List ℤ) → cond (ltb x.number 7) old new ≡ old
    kept old new = by_test (ltb x.number 7) (λ b. cond b old new ≡ old) (λ _. refl) (λ f. absurd (let z : ⊥ = omega (arith, checked_low r x e, ltb-false x.number 7 f) in z))

-- ---- a request that passes the checks: r keeps the rules of each step (specs/Rules), and nothing else does

module _ (r : Request) (passed : checked r ≡ None) where
  start_kept : Kept (start_of r)
  start_kept = record { tiles = nil; counts = (checked_none r passed).counts; covered = nil; clear = Clear.none }

  -- steps 1, 2 and 4: each item takes its lines, or the first free line or pair from where its step's sentence says, or is laid untested; up to the first for which there is no room
  pub ruled : Walked (setting_of r) (growth_of r) (queue_of r) (start_of r) (run_of r)
  ruled = rw (run_is r) (walk_ruled (setting_of r) (queue_of r) (growth_of r) no_growth (start_of r) start_kept)

  -- "any two that satisfy a statement are proved identical"
  pub ruled_only : (x : Run) → Walked (setting_of r) (growth_of r) (queue_of r) (start_of r) x → run_of r ≡ x
  ruled_only x d = run_is r ∙ walk_only (setting_of r) (queue_of r) (growth_of r) no_growth (start_of r) start_kept d

  -- "7 row list too short, 8 column list too short": exactly where an item, after those before it in its step, has a tile that needs more records than the list has places
  pub refused_full : (n i : ℕ) → run_of r ≡ stopped n i ↔ Full (setting_of r) (growth_of r) (queue_of r) (start_of r) n i
  refused_full n i = ((λ e. walked_full n i ruled e), (λ f. ruled_only (stopped n i) (full_walked f)))

  -- "a request that fits is answered"
  pub fits_answered : ((n i : ℕ) → Full (setting_of r) (growth_of r) (queue_of r) (start_of r) n i → ⊥) → (b : Board) × (run_of r ≡ going b)
  fits_answered room = go (run_of r) refl
    where
      go : (x : Run) → run_of r ≡ x → (b : Board) × (run_of r ≡ going b)
      go (going b) e = (b, e)
      go (stopped n i) e = absurd (room n i ((refused_full n i).0 e))

  -- "and then the answer places of all items and both lists are zero"
  pub room_zero : (n i : ℕ) → run_of r ≡ stopped n i
      → Leaves r (outcome r) (λ old. replicate (answer_numbers * item_count r) (pos 0) ++ drop (answer_numbers * item_count r) old) (λ _. replicate r.lists.rows (pos 0)) (λ _. replicate r.lists.columns (pos 0))
  unfolding answers_left rows_left columns_left
  room_zero n i e =
      let f = full_number ((refused_full n i).0 e) in
      rw (room_refuses r n i passed e)
      (record {
        in_answers = λ old. new f old (replicate (answer_numbers * item_count r) (pos 0) ++ drop (answer_numbers * item_count r) old);
        in_rows = λ old. new f old (replicate r.lists.rows (pos 0));
        in_columns = λ old. new f old (replicate r.lists.columns (pos 0));
      })
    where
      new : (n ≡ 7) ⊎ (n ≡ 8) → (old z : List ℤ) → cond (ltb n 7) old z ≡ z
      new (inl h) old z = rw h refl
      new (inr h) old z = rw h refl

-- ---- a request that is answered

module _ (r : Request) (passed : checked r ≡ None) (b : Board) (run : run_of r ≡ going b) where
  e : walk (setting_of r) (growth_of r) (queue_of r) (start_of r) ≡ going b
  e = sym (run_is r) ∙ run

  -- "limit its lines": every tile's lines are in the limited grid; counts within their limits; each tile whose mark is 0 overlaps no earlier tile
  pub kept : Kept b
  kept = walk_kept (setting_of r) (growth_of r) no_growth (queue_of r) (start_of r) b (start_kept r passed) e

  pub tiles_in_grid : Tiled b.tiles
  tiles_in_grid = kept.tiles

  pub unmarked_clear : Clear b.tiles
  unmarked_clear = kept.clear

  -- an auto-placed tile that is "marked neither pressed nor overwide covers no cell taken before it": ts are the tiles before it
  pub unmarked_cells : (x : Tile) (ts : List Tile) → Before x ts b.tiles → x.mark ≡ 0 → (a : Axis) (u q : ℤ) → Cell a x.area u q → state_at (history a ts) u q ≡ 0
  unmarked_cells x ts m z a u q c = free_cells a ts x.area (clear_of unmarked_clear m z) u q c

  -- every tile comes from an item of the request, by its step's rule on the board as it stood before it, with the least counts for the tiles laid by then
  -- (`fixed_takes`, `origin_mark` and `mark_bits` of Origins: "Items fixed in both axes take their lines"; "Mark: the sum of 1 pressed, 2 both axes fixed, 4 overwide")
  pub origins : (once : Place) × Origins (setting_of r) once r.counts (queue_of r) b.tiles
  origins = walk_origins (setting_of r) (queue_of r) (start_of r) b refl (start_kept r passed) e

  pub origin : (x : Tile) (ts : List Tile) → Before x ts b.tiles → Origin (setting_of r) origins.0 r.counts (queue_of r) x ts
  origin x ts m = origin_of origins.1 m

  -- "least counts covering the given ones and all recorded lines"
  pub least_counts : Least r.counts b
  least_counts = counts_least (setting_of r) (queue_of r) r.counts (start_of r) b (least_none (start_of r) refl) e

  -- so any counts that grow from the given ones, cover every tile and are least are these
  pub counts_only : (d : Both TrackCounts) → GrowsBoth r.counts d → Every (λ (t : Tile). CoversArea d t.area) b.tiles
      → ((x : Both TrackCounts) → GrowsBoth r.counts x → Every (λ (t : Tile). CoversArea x t.area) b.tiles → GrowsBoth d x) → d ≡ b.counts
  counts_only d g c l =
      let x = least_counts.least d g c in
      let y = l b.counts least_counts.grows least_counts.covers in
      ap (λ (z : TrackCounts). record { columns = z; rows = d.rows }) (grows_same d.columns b.counts.columns y.columns x.columns)
      ∙ ap (λ (z : TrackCounts). record { columns = b.counts.columns; rows = z }) (grows_same d.rows b.counts.rows y.rows x.rows)

  -- "State is 1 for step 1, else 2"
  pub states : WithStates (setting_of r) b.tiles
  states = states_kept (setting_of r) (growth_of r) (queue_of r) (start_of r) b nil e

  pub coloured : {ts : List Tile} → WithStates (setting_of r) ts → Coloured ts
  unfolding setting_of
  coloured nil = nil
  coloured (more {x = t} h hs) = more (go (eqb t.step 1) refl) (coloured hs)
    where
      go : (y : Bool) → eqb t.step 1 ≡ y → ok t.state ≡ true
      go true i = rw (h.first (eqb-true t.step 1 i))
      go false i = rw (h.others (eqb-false t.step 1 i))

  -- the records keep the list rules, and a cell has the state of the last tile painted over it
  pub lists_rules : (x : Axis) → rules (records_on x b.tiles) ≡ true
  lists_rules x = records_rules x b.tiles tiles_in_grid (coloured states)

  pub lists_cells : (x : Axis) (u q : ℤ) → cell_of (records_on x b.tiles) u q ≡ state_at (history x b.tiles) u q
  lists_cells x u q = records_cell x b.tiles tiles_in_grid (coloured states) u q

  -- and they are the only ones that do
  pub lists_only : (x : Axis) (rs : List (Rec ℤ)) → keeps rs ≡ true → ((u q : ℤ) → cell_of rs u q ≡ state_at (history x b.tiles) u q) → rs ≡ records_on x b.tiles
  unfolding records_on
  lists_only x rs k c = is_painted_lem rs (history x b.tiles) k (history_fits x tiles_in_grid (coloured states)) c

  -- "Free means that no cell of the area has a state"
  pub free_means : (x : Axis) (a : Extent) → Solid a → free b.tiles a ≡ true ↔ ((u q : ℤ) → Cell x a u q → cell_of (records_on x b.tiles) u q ≡ 0)
  free_means x a s = free_list x b.tiles a tiles_in_grid (coloured states) s

  -- the lists fit
  pub roomy : Roomy (setting_of r) b
  unfolding records_on
  roomy = walk_roomy (setting_of r) (growth_of r) (queue_of r) (start_of r) b (record { rows = omega arith; columns = omega arith }) e

  -- and so do the row list and the column list that come back: those records, then zeros
  pub rows_hold : Holds (flat r.lists.rows (records_on row b.tiles)) (length (records_on row b.tiles))
  unfolding setting_of
  rows_hold = records_hold row r.lists.rows b.tiles tiles_in_grid (coloured states) roomy.rows

  pub columns_hold : Holds (flat r.lists.columns (records_on col b.tiles)) (length (records_on col b.tiles))
  unfolding setting_of
  columns_hold = records_hold col r.lists.columns b.tiles tiles_in_grid (coloured states) roomy.columns

  pub rows_length : length (flat r.lists.rows (records_on row b.tiles)) ≡ r.lists.rows
  unfolding setting_of
  rows_length = Fl.length_flat digits digit_laws r.lists.rows (records_on row b.tiles) roomy.rows

  pub columns_length : length (flat r.lists.columns (records_on col b.tiles)) ≡ r.lists.columns
  unfolding setting_of
  columns_length = Fl.length_flat digits digit_laws r.lists.columns (records_on col b.tiles) roomy.columns

  -- every item has its tile, no other index has one, and the tiles are as many as the items
  pub all_placed : (i : ℕ) → i < item_count r → Has i b.tiles
  all_placed i h =
      let n = items_length r in
      queue_all (length (items_of r)) 0 (items_of r) (λ j. Has j b.tiles) (walk_has (setting_of r) (growth_of r) (queue_of r) (start_of r) b e) i (omega arith) (omega arith)

  pub only_items : Every (λ (t : Tile). t.index < item_count r) b.tiles
  unfolding laid_on tile_of begin4
  only_items =
      let n = items_length r in
      walk_keeps (setting_of r) (growth_of r) (λ i. i < item_count r) (λ x. Every (λ (t : Tile). t.index < item_count r) x.tiles) (λ i h x j _ _ k. more j k) (λ x k. k)
      (queue_of r) (start_of r) b (queue_below (length (items_of r)) 0 (item_count r) (items_of r) (omega arith)) nil e

  pub one_each : length b.tiles ≡ item_count r
  one_each =
      let n = items_length r in
      let q = queue_length (length (items_of r)) 0 (items_of r) in
      omega (arith, walk_count (setting_of r) (growth_of r) (queue_of r) (start_of r) b e)

  -- "five numbers an item": item i's answer is that of a tile which comes from item i of the request
  pub record Answer (i : ℕ) : Type 0 where
    pub tile : Tile
    pub earlier_tiles : List Tile
    pub laid : Before tile earlier_tiles b.tiles
    pub is : answer_of i b.tiles ≡ numbers tile
    pub from : Origin (setting_of r) origins.0 r.counts (queue_of r) tile earlier_tiles
    pub item : from.item.item ≡ get_or (items_of r) i (record { columns = Spanned 1; rows = Spanned 1 })

  pub answers : (i : ℕ) → i < item_count r → Answer i
  answers i h =
      let a = answer_of_lem i (all_placed i h) in
      let o = origin a.tile a.earlier_tiles a.laid in
      let j : o.item.index ≡ i = origin_index o ∙ a.index in
      record {
        tile = a.tile;
        earlier_tiles = a.earlier_tiles;
        laid = a.laid;
        is = a.is;
        from = o;
        item = queued_item r o.item o.queued ∙ ap (λ (n : ℕ). get_or (items_of r) n (record { columns = Spanned 1; rows = Spanned 1 })) j;
      }

  -- for code: the answer buffer, written item by item, is in the end what the outcome says
  pub answers_written : (old : List ℤ) → length old ≡ r.answers → written b.tiles old ≡ answers_left r old (outcome r)
  unfolding answers_left
  answers_written old h = let a = (checked_none r passed).answers in written_is (item_count r) b.tiles old all_placed only_items (omega arith) ∙ rw (is_answered r b passed run)

-- ---- "With 2000 items no searched line passes 22000": the cursor of step 4 after any of the items

module _ (r : Request) (passed : checked r ≡ None) where
  abbrev w : Setting
  w = setting_of r

  -- from any good board, as the one after step 2, step 4's cursor starts within the grid
  pub cursor_begins : (t : Board) → Kept t → Run4 0 (begin4 w (growth_of r) t)
  unfolding begin4
  cursor_begins t k =
      let sp : Sound (on w.axis t.counts) = each_on w.axis t.counts k.counts in
      let ss : Sound (on (other w.axis) t.counts) = each_on (other w.axis) t.counts k.counts in
      let lp = start_low (on w.axis t.counts) sp in
      let hp = start_high (on w.axis t.counts) in
      let ls = start_low (on (other w.axis) t.counts) ss in
      let hs = start_high (on (other w.axis) t.counts) in
      record {
        kept = record { tiles = k.tiles; counts = k.counts; covered = k.covered; clear = k.clear };
        cursor = record { p_low = omega signed; p_high = omega signed; s_low = ls; s_high = omega signed };
      }

  -- and after the first k of the items the cursor's secondary line is at most 10000 + k (`within_line`, `within_pair` of Range: then no line chosen passes 22000)
  pub cursor_stays : (t : Board) (k : Kept t) (is : List ℕ) (x : Board) → each w (step4 w (begin4 w (growth_of r) t).cursor) (queue is (items_of r)) (begin4 w (growth_of r) t) ≡ going x → Run4 (length (queue is (items_of r)) + 0) x
  cursor_stays t k is x f =
      let s = cursor_begins t k in
      run4 w (begin4 w (growth_of r) t).cursor s.cursor (queue is (items_of r)) 0 (begin4 w (growth_of r) t) x (good_queue w.axis is (items_of r) (good_items (checked_none r passed).items)) s f
