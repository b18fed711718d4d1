-- A placement call as a whole: what it is given, what comes back, and what document 01's refusals 1 to 6 say of a request, in plain terms.
use Rattle.std.specs.Prelude.{◌≡◌, true, false, List, [], ◌∷◌, ◌++◌, ℕ, ◌*◌, ◌≤◌, ◌<◌, ◌%◌, length, ℤ, Result}
use Rattle.theory_intervals.specs.Records.{Area}
use Rattle.grid_track_counts.specs.declared.TrackCounts.{TrackCounts}
use Rattle.grid_track_counts.specs.Counts.{Sound}
use Rattle.theory_walk.specs.Axis.{Axis}
use Rattle.theory_walk.specs.Walk.{Tile, area_on}
use Rattle.theory_walk.specs.Request.{Request, good_item, item_count, outcome, answers_left, rows_left, columns_left}
use Rattle.placing_request.specs.Items.{item_at, request_of}
use Rattle.placing_run.specs.Placing.{placing_of}
use Rattle.refusals.specs.declared.Refusal.{Refusal}
use Rattle.placing_run.specs.declared.checked.Placed.{Placed}

-- the arguments; of the lent buffers, what they hold at entry
pub record Call : Type 0 where
  pub flow : ℕ
  pub columns : TrackCounts
  pub rows : TrackCounts
  pub items : List ℤ
  pub answers : List ℤ
  pub row_list : List ℤ
  pub column_list : List ℤ

abbrev pub asked : Call → Request
asked c = request_of c.flow c.columns c.rows c.items (length c.answers) (length c.column_list) (length c.row_list)

-- the result, and what the lent buffers hold at exit
pub record Back : Type 0 where
  pub result : Result Placed Refusal
  pub answers : List ℤ
  pub row_list : List ℤ
  pub column_list : List ℤ

-- what `place` ensures, its four sentences
pub record Meets (c : Call) (x : Back) : Type 0 where
  pub result : x.result ≡ placing_of (outcome (asked c))
  pub answers : x.answers ≡ answers_left (asked c) c.answers (outcome (asked c))
  pub row_list : x.row_list ≡ rows_left (asked c) c.row_list (outcome (asked c))
  pub column_list : x.column_list ≡ columns_left (asked c) c.column_list (outcome (asked c))

-- ---- "A placement run checks 1 to 6 in that order"

-- "item numbers" are "a multiple of 6", and not "over 2000 items"
pub record ItemsRight (q : Request) : Type 0 where
  pub sixes : length q.items % 6 ≡ 0
  pub few : item_count q ≤ 2000

-- "Negative at most 10000; explicit plus positive at most 10000", in each axis
pub record CountsRight (q : Request) : Type 0 where
  pub columns : Sound q.counts.columns
  pub rows : Sound q.counts.rows

-- "A list's length is a multiple of 4, at most 1,048,576 numbers."
pub record LengthRight (n : ℕ) : Type 0 where
  pub fours : n % 4 ≡ 0
  pub most : n ≤ 1048576

pub record ListsRight (q : Request) : Type 0 where
  pub columns : LengthRight q.lists.columns
  pub rows : LengthRight q.lists.rows

-- "an item breaks its rules; the first such index"
pub record FirstBad (q : Request) (i : ℕ) : Type 0 where
  pub below : i < item_count q
  pub bad : good_item (item_at q.items i) ≡ false
  pub before : (j : ℕ) → j < i → good_item (item_at q.items j) ≡ true

-- "Given exactly when": why a request is refused with a number and an index before any item is placed
pub data Broken (q : Request) : ℕ → ℕ → Type 0 where
  flow_unknown : 3 < q.flow → Broken q 1 0
  items_wrong : q.flow ≤ 3 → (ItemsRight q → ⊥) → Broken q 2 0
  counts_outside : q.flow ≤ 3 → ItemsRight q → (CountsRight q → ⊥) → Broken q 3 0
  answers_short : q.flow ≤ 3 → ItemsRight q → CountsRight q → q.answers < 5 * item_count q → Broken q 4 0
  length_wrong : q.flow ≤ 3 → ItemsRight q → CountsRight q → 5 * item_count q ≤ q.answers → (ListsRight q → ⊥) → Broken q 5 0
  item_bad : {i : ℕ} → q.flow ≤ 3 → ItemsRight q → CountsRight q → 5 * item_count q ≤ q.answers → ListsRight q → FirstBad q i → Broken q 6 i

-- and why it is not
pub record Passes (q : Request) : Type 0 where
  pub flow : q.flow ≤ 3
  pub items : ItemsRight q
  pub counts : CountsRight q
  pub answers : 5 * item_count q ≤ q.answers
  pub lists : ListsRight q
  pub each : (i : ℕ) → i < item_count q → good_item (item_at q.items i) ≡ true

-- ---- "painting its answered tiles, in placing order": the tiles, newest first, as areas of the list whose tracks lie along the axis, oldest first
abbrev pub areas : Axis → List Tile → List (Area ℤ)
areas a [] = []
areas a (t ∷ ts) = areas a ts ++ (area_on a t ∷ [])
