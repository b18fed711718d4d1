-- The items of a request by their index, and what the functions of this crate give back.
use Rattle.std.specs.Prelude.{Bool, true, false, List, ℕ, ◌+◌, ◌*◌, ℤ, pos, get_or, length, map, Option, Some, None, Result, Err}
use Rattle.theory_walk.specs.Axis.{Axis, col, row, Both}
use Rattle.theory_walk.specs.Walk.{Queued}
use Rattle.grid_track_counts.specs.declared.TrackCounts.{TrackCounts}
use Rattle.theory_walk.specs.Request.{Half, half, halves, item_of, up_to, queue, Request, Refusal}
use Rattle.refusals.specs.Numbers.{numbered}
use Rattle.refusals.specs.declared.Refusal as R
use Rattle.placing_request.specs.declared.flow.Flow.{Flow}
use Rattle.placing_request.specs.Flows.{flow_of}

-- number k of item i
abbrev pub number_at : List ℤ → ℕ → ℕ → ℤ
number_at l i k = get_or l (6 * i + k) (pos 0)

-- "six signed 16-bit numbers each: column kind, a, b, then row kind, a, b": those of item i
abbrev pub item_at : List ℤ → ℕ → Both Half
item_at l i = record {
  columns = half (number_at l i 0) (number_at l i 1) (number_at l i 2);
  rows = half (number_at l i 3) (number_at l i 4) (number_at l i 5);
}

-- the axis that a flag names: columns, or rows
abbrev pub axis_of : Bool → Axis
axis_of true = col
axis_of false = row

-- the items of the list as a queue, in document order
abbrev pub queued : List ℤ → List Queued
queued l = queue (up_to (length (halves l)) 0) (map item_of (halves l))

-- "A placement run checks 1 to 6 in that order": the request of a call's arguments, and what the check answers
abbrev pub request_of : ℕ → TrackCounts → TrackCounts → List ℤ → ℕ → ℕ → ℕ → Request
request_of flow columns rows items answers column_list row_list =
    record { flow = flow; counts = record { columns = columns; rows = rows }; items = items; answers = answers; lists = record { columns = column_list; rows = row_list } }

abbrev pub check_of : ℕ → Option Refusal → Result Flow R.Refusal
check_of flow None = flow_of flow
check_of flow (Some x) = Err (numbered x.number x.index)
