-- How the program's lists and counts stand for a board of the walk, and what a step's item, or a whole step, leaves of them. These words join the code to
-- the walk of document 01; what the door promises is said without them.
use Rattle.std.specs.Prelude.{◌≡◌, List, Bool, ℕ, ◌*◌, ◌≤◌, ℤ, length, Result, Ok, Err}
use Rattle.theory_intervals.specs.OverInt.{flat}
use Rattle.theory_walk.specs.Axis.{other, Both, on}
use Rattle.theory_walk.specs.Walk.{Board, Setting, Run, going, stopped, records_on}
use Rattle.theory_walk.specs.OnList.{written}
use Rattle.theory_walk.proofs.Cells.{Coloured}
use Rattle.theory_walk.proofs.WalkLaws.{Kept}
use Rattle.theory_walk.specs.declared.Placement.{Placement}
use Rattle.theory_walk.specs.Request.{item_of}
use Rattle.refusals.specs.declared.Refusal.{Refusal}
use Rattle.refusals.specs.Numbers.{numbered}
use Rattle.placing_request.specs.Items.{axis_of, item_at}
use Rattle.placing_laying.specs.declared.Matrix.{Matrix}

-- a run's setting, with today's states
abbrev pub setting_for : Bool → Bool → Both ℕ → Setting
setting_for columns dense room = record { axis = axis_of columns; dense = dense; fixed_state = 1; auto_state = 2; room = room }

module _ (columns : Bool) (room : Both ℕ) (old : List ℤ) where
  -- the lists hold what painting the board's tiles makes, the answers of the tiles are written over `old`, and the counts are the board's
  pub record Ready (b : Board) (m : Matrix) (answers primary secondary : List ℤ) : Type 0 where
    pub kept : Kept b
    pub coloured : Coloured b.tiles
    pub primary_counts : m.primary ≡ on (axis_of columns) b.counts
    pub secondary_counts : m.secondary ≡ on (other (axis_of columns)) b.counts
    pub primary_used : m.primary_used ≡ length (records_on (axis_of columns) b.tiles)
    pub secondary_used : m.secondary_used ≡ length (records_on (other (axis_of columns)) b.tiles)
    pub primary_room : 4 * length (records_on (axis_of columns) b.tiles) ≤ on (axis_of columns) room
    pub secondary_room : 4 * length (records_on (other (axis_of columns)) b.tiles) ≤ on (other (axis_of columns)) room
    pub primary_list : primary ≡ flat (on (axis_of columns) room) (records_on (axis_of columns) b.tiles)
    pub secondary_list : secondary ≡ flat (on (other (axis_of columns)) room) (records_on (other (axis_of columns)) b.tiles)
    pub answered : answers ≡ written b.tiles old

  -- a run that has stopped leaves buffers of the same lengths, which are then cleared
  pub record Stopped (answers primary secondary : List ℤ) : Type 0 where
    pub answers_long : length answers ≡ length old
    pub primary_long : length primary ≡ on (axis_of columns) room
    pub secondary_long : length secondary ≡ on (other (axis_of columns)) room

  -- after the item i: the walk goes on with a board that the program's lists stand for, or stops there, and the item is refused by a list's number
  abbrev pub AfterItem : ℕ → Run → Result Matrix Refusal → List ℤ → List ℤ → List ℤ → Type 0
  AfterItem i (going b) r answers primary secondary = (m : Matrix) × ((r ≡ Ok m) × Ready b m answers primary secondary)
  AfterItem i (stopped n j) r answers primary secondary = (r ≡ Err (numbered n i)) × ((j ≡ i) × Stopped answers primary secondary)

-- the lists and counts stand for some board, over some answers
abbrev pub Stands : Bool → Matrix → List ℤ → List ℤ → List ℤ → Type 0
Stands columns m answers primary secondary =
    (room : Both ℕ) × ((old : List ℤ) × ((b : Board) × Ready columns room old b m answers primary secondary))

-- an item's placement in the primary axis, and in the secondary
abbrev pub primary_of : Bool → List ℤ → ℕ → Placement
primary_of columns items i = on (axis_of columns) (item_of (item_at items i))

abbrev pub secondary_of : Bool → List ℤ → ℕ → Placement
secondary_of columns items i = on (other (axis_of columns)) (item_of (item_at items i))

-- after a step: the walk goes on with a board that the program's lists stand for, or has stopped with a list's number and an item's index
abbrev pub AfterStep : Bool → Both ℕ → List ℤ → Run → Result Matrix Refusal → List ℤ → List ℤ → List ℤ → Type 0
AfterStep columns room old (going b) r answers primary secondary = (m : Matrix) × ((r ≡ Ok m) × Ready columns room old b m answers primary secondary)
AfterStep columns room old (stopped n i) r answers primary secondary = (r ≡ Err (numbered n i)) × Stopped columns room old answers primary secondary
