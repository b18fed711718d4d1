-- The document's numbers for each case of the placement call's answer. What it gives and leaves for every input is `outcome`,
-- `answers_left`, `rows_left` and `columns_left` of the walk.
use Rattle.std.specs.Prelude.{◌≡◌, ℕ, Result, Ok, Err}
use Rattle.refusals.specs.Numbers.{number, index}
use Rattle.refusals.specs.declared.Refusal.{Refusal}
use Rattle.grid_track_counts.specs.declared.TrackCounts.{TrackCounts}
use Rattle.placing_run.specs.declared.checked.Placed.{Placed}

-- the refusal's number, 0 where it is none, and its index: "Where no index is named it is 0"
abbrev pub placing_number : Result Placed Refusal → ℕ
placing_number (Ok p) = 0
placing_number (Err r) = number r

abbrev pub placing_index : Result Placed Refusal → ℕ
placing_index (Ok p) = 0
placing_index (Err r) = index r

-- "counts, lines and vector indexes are 0 on refusal"
abbrev pub no_counts : TrackCounts
no_counts = record { negative = 0; explicit = 0; positive = 0 }

abbrev pub placing_columns : Result Placed Refusal → TrackCounts
placing_columns (Ok p) = p.columns
placing_columns (Err r) = no_counts

abbrev pub placing_rows : Result Placed Refusal → TrackCounts
placing_rows (Ok p) = p.rows
placing_rows (Err r) = no_counts

-- it is answered with these counts
abbrev pub answered_with : TrackCounts → TrackCounts → Result Placed Refusal
answered_with columns rows = Ok (record { columns = columns; rows = rows })

-- it is refused by this number and this index
pub record RefusedBy (x : Result Placed Refusal) (n i : ℕ) : Type 0 where
  pub refusal : Refusal
  pub is : x ≡ Err refusal
  pub number_is : number refusal ≡ n
  pub index_is : index refusal ≡ i
