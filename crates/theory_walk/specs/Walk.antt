-- Document 01, "The placement walk". It knows no record and no jump: a board is the tiles painted so far, newest first, the counts, and the cursor.
use Rattle.std.specs.Prelude.{Bool, true, false, not, cond, ◌&&◌, List, [], ◌∷◌, map, ℕ, ◌+◌, ◌*◌, eqb, ltb, ℤ, pos, ◌+ℤ◌, length}
use Rattle.std.specs.Int.Signed.{lt_z}
use Rattle.theory_signed.specs.Parts.{eq_z}
use Rattle.theory_intervals.specs.Records.{Rec, Area, area}
use Rattle.theory_intervals.specs.OverInt.{painted}
use Rattle.grid_coordinates.specs.declared.Lines.{Lines}
use Rattle.grid_track_counts.specs.declared.TrackCounts.{TrackCounts}
use Rattle.grid_track_counts.specs.Counts.{grid_start, grid_end}
use Rattle.theory_walk.specs.declared.Placement.{Placement}
use Rattle.theory_walk.specs.declared.Placement.TheVariants.{Fixed, Spanned}
use Rattle.theory_walk.specs.Axis.{Axis, col, row, other, Both, on, laid, from, Extent, overlap, limited_area, pressed_area, grown_both}
use Rattle.theory_walk.specs.Search.{first_line, first_pair, places_to, Place, at}

-- "A definite or spanned placement is an enum": fixed lines, or a span of so many tracks
abbrev pub is_fixed : Placement → Bool
is_fixed (Fixed l) = true
is_fixed (Spanned n) = false

-- an item: where it goes among the columns and among the rows
abbrev pub Item : Type 0
Item = Both Placement

-- an item in the placing order: its index and itself
pub record Queued : Type 0 where
  pub index : ℕ
  pub item : Item

-- a tile as painted: whose it is, its limited lines, its state, the step that placed it, its mark
pub record Tile : Type 0 where
  pub index : ℕ
  pub area : Extent
  pub state : ℕ
  pub step : ℕ
  pub mark : ℕ

pub record Board : Type 0 where
  pub tiles : List Tile
  pub counts : Both TrackCounts
  pub cursor : Place

-- "Free means that no cell of the area has a state": no painted tile overlaps it
unfoldable pub free : List Tile → Extent → Bool
free [] a = true
free (t ∷ ts) a = not (overlap t.area a) && free ts a

-- what a run is given beside its items: the primary axis; dense or sparse; the states of step 1 and of the others; the lengths of the column and the row list
pub record Setting : Type 0 where
  pub axis : Axis
  pub dense : Bool
  pub fixed_state : ℕ
  pub auto_state : ℕ
  pub room : Both ℕ

-- ---- after each item

-- what a step settles for an item: its lines before limiting, its step and state, the flags 2 and 4 of its mark, and where the cursor goes
pub record Choice : Type 0 where
  pub area : Extent
  pub step : ℕ
  pub state : ℕ
  pub flags : ℕ
  pub cursor : Place

abbrev pub bit : ℕ → Bool → ℕ
bit n b = cond b n 0

unfoldable pub tile_of : ℕ → Choice → Tile
tile_of i h = record { index = i; area = limited_area h.area; state = h.state; step = h.step; mark = bit 1 (pressed_area h.area) + h.flags }

-- "After each item: limit its lines, grow the counts as little as covers it, paint both lists"
unfoldable pub laid_on : ℕ → Choice → Board → Board
laid_on i h b = record { tiles = tile_of i h ∷ b.tiles; counts = grown_both b.counts (limited_area h.area); cursor = h.cursor }

-- a tile as an area of the list whose tracks lie along the axis: the row list has rows for tracks
abbrev pub area_on : Axis → Tile → Area ℤ
area_on a t = area (on a t.area).start (on a t.area).end (on (other a) t.area).start (on (other a) t.area).end t.state

-- the records that a list needs after these tiles
unfoldable pub records_on : Axis → List Tile → List (Rec ℤ)
records_on a ts = painted (map (area_on a) ts)

unfoldable pub short : Setting → Axis → Board → Bool
short w a b = ltb (on a w.room) (4 * length (records_on a b.tiles))

-- a run goes on, or has stopped with a refusal number and an item's index
pub data Run : Type 0 where
  going : Board → Run
  stopped : ℕ → ℕ → Run

-- "Room is judged on the list rules after the whole of one item's area: 7 before 8, with that item's index"
unfoldable pub judged : Setting → ℕ → Board → Run
judged w i b = cond (short w row b) (stopped 7 i) (cond (short w col b) (stopped 8 i) (going b))

unfoldable pub put : Setting → ℕ → Choice → Board → Run
put w i h b = judged w i (laid_on i h b)

-- ---- "1. Items fixed in both axes take their lines."

unfoldable pub choose1 : Setting → Lines → Lines → Board → Choice
choose1 w p s b = record { area = laid w.axis p s; step = 1; state = w.fixed_state; flags = 2; cursor = b.cursor }

-- by an item's primary and secondary lines
unfoldable pub step1 : Setting → ℕ → Placement → Placement → Board → Run
step1 w i (Fixed p) (Fixed s) t = put w i (choose1 w p s t) t
step1 w i (Fixed p) (Spanned m) t = going t
step1 w i (Spanned n) (Fixed s) t = going t
step1 w i (Spanned n) (Spanned m) t = going t

-- ---- "2. Items fixed in the secondary axis only: the first free primary line at or after the starting line."

-- the recorded primary ends of "step-2 items already placed whose recorded secondary start equals this item's unlimited secondary start" c
unfoldable pub ends_on : Axis → ℤ → List Tile → List ℤ
ends_on p c [] = []
ends_on p c (t ∷ ts) = cond (eqb t.step 2 && eq_z (on (other p) t.area).start c) ((on p t.area).end ∷ ends_on p c ts) (ends_on p c ts)

abbrev pub larger : ℤ → ℤ → ℤ
larger a b = cond (lt_z a b) b a

unfoldable pub largest : ℤ → List ℤ → ℤ
largest z [] = z
largest z (y ∷ ys) = larger z (largest y ys)

-- the largest, "if none" g
unfoldable pub largest_or : ℤ → List ℤ → ℤ
largest_or g [] = g
largest_or g (z ∷ zs) = largest z zs

-- "Grid start here is the primary start line at that moment. Dense starts at grid start. Sparse starts at the largest recorded primary end .. if none, at grid start."
unfoldable pub start2 : Setting → ℤ → Board → ℤ
start2 w c t = let g = grid_start (on w.axis t.counts) in cond w.dense g (largest_or g (ends_on w.axis c t.tiles))

-- a span of n at primary line p, on the secondary lines s: is it free
abbrev pub free_at : Setting → Board → ℕ → Lines → ℤ → Bool
free_at w t n s p = free t.tiles (laid w.axis (from p n) s)

unfoldable pub choose2 : Setting → ℕ → Lines → Board → Choice
choose2 w n s t = record { area = laid w.axis (from (first_line (free_at w t n s) (start2 w s.start t)) n) s; step = 2; state = w.auto_state; flags = 0; cursor = t.cursor }

unfoldable pub step2 : Setting → ℕ → Placement → Placement → Board → Run
step2 w i (Fixed p) (Fixed s) t = going t
step2 w i (Fixed p) (Spanned m) t = going t
step2 w i (Spanned n) (Fixed s) t = put w i (choose2 w n s t) t
step2 w i (Spanned n) (Spanned m) t = going t

-- ---- "4. The rest."

-- "Sparse then sets the cursor to the primary end and secondary start before limiting; dense sets it back to the lines read once."
unfoldable pub moved : Setting → Place → Lines → Lines → Place
moved w once p s = cond w.dense once (at p.end s.start)

-- "Fixed primary: dense starts at the secondary grid start as it stands at that moment; sparse at the cursor's secondary line, plus 1 if the item's primary start is below the cursor's primary line."
unfoldable pub start4 : Setting → ℤ → Board → ℤ
start4 w a t =
    cond w.dense (grid_start (on (other w.axis) t.counts))
    (cond (lt_z a t.cursor.primary) (t.cursor.secondary +ℤ pos 1) t.cursor.secondary)

abbrev pub free_across : Setting → Board → Lines → ℕ → ℤ → Bool
free_across w t p m s = free t.tiles (laid w.axis p (from s m))

-- "First free secondary line upward."
unfoldable pub choose_line : Setting → Place → Lines → ℕ → Board → Choice
choose_line w once p m t =
    let s = from (first_line (free_across w t p m) (start4 w p.start t)) m in
    record { area = laid w.axis p s; step = 4; state = w.auto_state; flags = 0; cursor = moved w once p s }

abbrev pub free_pair : Setting → Board → ℕ → ℕ → ℤ → ℤ → Bool
free_pair w t n m p s = free t.tiles (laid w.axis (from p n) (from s m))

-- "If the span doesn't fit even from the current grid start"
unfoldable pub overwide : ℕ → TrackCounts → Bool
overwide n c = lt_z (grid_end c) (grid_start c +ℤ pos n)

-- "Neither fixed: on the cursor's secondary line, primary lines from the cursor's upward while the span ends at or before the current grid end; then each next secondary line from the current grid start. First free pair."
unfoldable pub pair_of : Setting → ℕ → ℕ → Board → Place
pair_of w n m t =
    let c = on w.axis t.counts in
    first_pair (places_to (grid_end c) n) (grid_start c) (free_pair w t n m) t.cursor.primary t.cursor.secondary

-- "it is laid there without a collision test ..: on the cursor's secondary line if the cursor's primary line is the current grid start, else one line further"
unfoldable pub untested : Setting → Board → Place
untested w t =
    let g = grid_start (on w.axis t.counts) in
    at g (cond (eq_z t.cursor.primary g) t.cursor.secondary (t.cursor.secondary +ℤ pos 1))

unfoldable pub choose_pair : Setting → Place → ℕ → ℕ → Board → Choice
choose_pair w once n m t =
    let wide = overwide n (on w.axis t.counts) in
    let found = pair_of w n m t in
    let q = cond wide (untested w t) found in
    let p = from q.primary n in
    let s = from q.secondary m in
    record { area = laid w.axis p s; step = 4; state = w.auto_state; flags = bit 4 wide; cursor = moved w once p s }

-- once: the lines read once before this step
unfoldable pub step4 : Setting → Place → ℕ → Placement → Placement → Board → Run
step4 w once i (Fixed p) (Fixed s) t = going t
step4 w once i (Fixed p) (Spanned m) t = put w i (choose_line w once p m t) t
step4 w once i (Spanned n) (Fixed s) t = going t
step4 w once i (Spanned n) (Spanned m) t = put w i (choose_pair w once n m t) t

-- ---- the run

abbrev pub and_then : Run → (Board → Run) → Run
and_then (going b) f = f b
and_then (stopped n i) f = stopped n i

-- a step over the items, in placing order; each is read as primary and secondary lines
unfoldable pub each : Setting → (ℕ → Placement → Placement → Board → Run) → List Queued → Board → Run
each w f [] b = going b
each w f (q ∷ qs) b = and_then (f q.index (on w.axis q.item) (on (other w.axis) q.item) b) (λ t. each w f qs t)

-- "The cursor starts at the grid start lines read once before this step": after the growth before step 4
unfoldable pub begin4 : Setting → (Both TrackCounts → Both TrackCounts) → Board → Board
begin4 w growth b =
    let c = growth b.counts in
    record { tiles = b.tiles; counts = c; cursor = at (grid_start (on w.axis c)) (grid_start (on (other w.axis) c)) }

unfoldable pub last4 : Setting → List Queued → Board → Run
last4 w qs b = each w (step4 w b.cursor) qs b

unfoldable pub walk : Setting → (Both TrackCounts → Both TrackCounts) → List Queued → Board → Run
walk w growth qs b = and_then (each w (step1 w) qs b) (λ b₁. and_then (each w (step2 w) qs b₁) (λ b₂. last4 w qs (begin4 w growth b₂)))
