-- A request, the checks 1 to 6, and what a placement run gives back.
use Rattle.std.specs.Prelude.{Bool, not, cond, ◌&&◌, ◌||◌, List, [], ◌∷◌, ◌++◌, map, ℕ, zero, suc, ◌*◌, ◌/◌, ◌%◌, eqb, leb, ltb, ℤ, pos, negsuc, nat_abs, length, get_or, replicate, drop, Option, Some, None}
use Rattle.std.specs.Int.Signed.{lt_z, le_z}
use Rattle.theory_signed.specs.Parts.{eq_z}
use Rattle.theory_intervals.specs.OverInt.{flat}
use Rattle.grid_coordinates.specs.Line.{lines}
use Rattle.grid_track_counts.specs.declared.TrackCounts.{TrackCounts}
use Rattle.grid_track_counts.specs.Counts.{counts_good}
use Rattle.theory_walk.specs.declared.Placement.{Placement}
use Rattle.theory_walk.specs.declared.Placement.TheVariants.{Fixed, Spanned}
use Rattle.theory_walk.specs.Axis.{col, row, Both}
use Rattle.theory_walk.specs.Search.{at, or_else}
use Rattle.theory_walk.specs.Walk.{Item, Queued, Tile, Board, Setting, Run, going, stopped, records_on, walk}

-- flow; counts; the items' numbers, six each; the length of the answer buffer; the lengths of the column and the row list
pub record Request : Type 0 where
  pub flow : ℕ
  pub counts : Both TrackCounts
  pub items : List ℤ
  pub answers : ℕ
  pub lists : Both ℕ

-- how many numbers an item has, and its answer
abbrev pub item_numbers : ℕ
item_numbers = 6

abbrev pub answer_numbers : ℕ
answer_numbers = 5

-- ---- items: "six signed 16-bit numbers each: column kind, a, b, then row kind, a, b"

pub record Half : Type 0 where
  pub kind : ℤ
  pub a : ℤ
  pub b : ℤ

abbrev pub half : ℤ → ℤ → ℤ → Half
half k a b = record { kind = k; a = a; b = b }

unfoldable pub halves : List ℤ → List (Both Half)
halves [] = []
halves (k ∷ []) = []
halves (k ∷ a ∷ []) = []
halves (k ∷ a ∷ b ∷ []) = []
halves (k ∷ a ∷ b ∷ j ∷ []) = []
halves (k ∷ a ∷ b ∷ j ∷ c ∷ []) = []
halves (k ∷ a ∷ b ∷ j ∷ c ∷ d ∷ zs) = record { columns = half k a b; rows = half j c d } ∷ halves zs

-- "Kind 0 is fixed lines a..b, -20000 ≤ a < b ≤ 20000. Kind 1 is a span a, 1 to 10000, with b = 0."
unfoldable pub good_half : Half → Bool
good_half h =
    (eq_z h.kind (pos 0) && (le_z (negsuc 19999) h.a && (lt_z h.a h.b && le_z h.b (pos 20000))))
    || (eq_z h.kind (pos 1) && (le_z (pos 1) h.a && (le_z h.a (pos 10000) && eq_z h.b (pos 0))))

abbrev pub good_item : Both Half → Bool
good_item x = good_half x.columns && good_half x.rows

-- the first index, from i on, of an item that breaks its rules
unfoldable pub bad_from : ℕ → List (Both Half) → Option ℕ
bad_from i [] = None
bad_from i (x ∷ xs) = cond (good_item x) (bad_from (suc i) xs) (Some i)

-- what an item's three numbers say of one axis
unfoldable pub placing_of : Half → Placement
placing_of h = cond (eq_z h.kind (pos 0)) (Fixed (lines h.a h.b)) (Spanned (nat_abs h.a))

unfoldable pub item_of : Both Half → Item
item_of x = record { columns = placing_of x.columns; rows = placing_of x.rows }

-- ---- "A placement run checks 1 to 6 in that order"

-- "A list's length is a multiple of 4, at most 1,048,576 numbers."
unfoldable pub length_good : ℕ → Bool
length_good n = eqb (n % 4) 0 && leb n 1048576

abbrev pub item_count : Request → ℕ
item_count r = length r.items / item_numbers

-- a refusal's number and its index: "Where no index is named it is 0"
pub record Refusal : Type 0 where
  pub number : ℕ
  pub index : ℕ

abbrev pub no : ℕ → ℕ → Option Refusal
no n i = Some (record { number = n; index = i })

-- 1 "flow not 0..3"; 2 "item numbers not a multiple of 6, or over 2000 items"; 3 "counts outside the limits"; 4 "answer buffer below 5 numbers an item";
-- 5 "a list's length is wrong"; 6 "an item breaks its rules; the first such index"
unfoldable pub checked : Request → Option Refusal
checked r =
    cond (ltb 3 r.flow) (no 1 0)
    (cond (not (eqb (length r.items % item_numbers) 0) || ltb 2000 (item_count r)) (no 2 0)
    (cond (not (counts_good r.counts.columns && counts_good r.counts.rows)) (no 3 0)
    (cond (ltb r.answers (answer_numbers * item_count r)) (no 4 0)
    (cond (not (length_good r.lists.columns && length_good r.lists.rows)) (no 5 0)
    (or_else (bad_from 0 (halves r.items)) (λ i. no 6 i) None)))))

-- ---- today's values of what the walk is given

-- "Row flows have columns as primary axis, column flows rows": 0 row, 1 column, 2 row dense, 3 column dense
unfoldable pub setting_of : Request → Setting
setting_of r = record { axis = cond (eqb (r.flow % 2) 0) col row; dense = ltb 1 r.flow; fixed_state = 1; auto_state = 2; room = r.lists }

-- "Document order": the indexes 0, 1, .. ; n of them from i on
unfoldable pub up_to : ℕ → ℕ → List ℕ
up_to zero i = []
up_to (suc n) i = i ∷ up_to n (suc i)

-- the items in the order of a list of indexes
unfoldable pub queue : List ℕ → List Item → List Queued
queue [] xs = []
queue (i ∷ is) xs = record { index = i; item = get_or xs i (record { columns = Spanned 1; rows = Spanned 1 }) } ∷ queue is xs

-- the request's items, in document order
abbrev pub items_of : Request → List Item
items_of r = map item_of (halves r.items)

abbrev pub queue_of : Request → List Queued
queue_of r = queue (up_to (length (items_of r)) 0) (items_of r)

-- "clears both lists and places": no tiles, the request's counts. (The cursor is read before step 4 only.)
abbrev pub start_of : Request → Board
start_of r = record { tiles = []; counts = r.counts; cursor = at (pos 0) (pos 0) }

-- the growth before step 4: none
abbrev pub growth_of : Request → Both TrackCounts → Both TrackCounts
growth_of r c = c

unfoldable pub run_of : Request → Run
run_of r = walk (setting_of r) (growth_of r) (queue_of r) (start_of r)

-- ---- what comes back

-- "column start, column end, row start, row end, mark"
unfoldable pub numbers : Tile → List ℤ
numbers t = t.area.columns.start ∷ t.area.columns.end ∷ t.area.rows.start ∷ t.area.rows.end ∷ pos t.mark ∷ []

unfoldable pub answer_of : ℕ → List Tile → List ℤ
answer_of i [] = replicate answer_numbers (pos 0)
answer_of i (t ∷ ts) = cond (eqb t.index i) (numbers t) (answer_of i ts)

-- the answers of the items of the list, in its order
unfoldable pub answers_of : List ℕ → List Tile → List ℤ
answers_of [] ts = []
answers_of (i ∷ is) ts = answer_of i ts ++ answers_of is ts

-- a refusal number and an index; or the answers, the counts, the row list and the column list
pub data Outcome : Type 0 where
  refused : ℕ → ℕ → Outcome
  answered : List ℤ → Both TrackCounts → List ℤ → List ℤ → Outcome

unfoldable pub told : Request → Run → Outcome
told r (stopped n i) = refused n i
told r (going b) =
    answered (answers_of (up_to (item_count r) 0) b.tiles) b.counts
    (flat r.lists.rows (records_on row b.tiles)) (flat r.lists.columns (records_on col b.tiles))

unfoldable pub outcome : Request → Outcome
outcome r = let run = told r (run_of r) in or_else (checked r) (λ x. refused x.number x.index) run

-- what is left in the answer buffer, in the row list and in the column list: "Places past the last item are not touched", refusals 1 to 6 leave all unchanged,
-- and on 7 and 8 "the answer places of all items and both lists are zero"
unfoldable pub answers_left : Request → List ℤ → Outcome → List ℤ
answers_left r old (refused n i) = cond (ltb n 7) old (replicate (answer_numbers * item_count r) (pos 0) ++ drop (answer_numbers * item_count r) old)
answers_left r old (answered a c rs cs) = a ++ drop (answer_numbers * item_count r) old

unfoldable pub rows_left : Request → List ℤ → Outcome → List ℤ
rows_left r old (refused n i) = cond (ltb n 7) old (replicate r.lists.rows (pos 0))
rows_left r old (answered a c rs cs) = rs

unfoldable pub columns_left : Request → List ℤ → Outcome → List ℤ
columns_left r old (refused n i) = cond (ltb n 7) old (replicate r.lists.columns (pos 0))
columns_left r old (answered a c rs cs) = cs
