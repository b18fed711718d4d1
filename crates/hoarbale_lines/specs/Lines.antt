-- The calls on lines: what each gives for every input, and document 01's numbers for each case of an answer.
use Rattle.std.specs.Prelude.{Bool, true, false, cond, not, ◌&&◌, ℕ, leb, ℤ, pos, Option, Some, None, Result, Ok, Err}
use Rattle.std.specs.Int.Signed.{le_z}
use Rattle.theory_signed.specs.Parts.{eq_z}
use Rattle.grid_coordinates.specs.Line.{lowest, highest, origin_zero_of, css_of}
use Rattle.grid_track_counts.specs.declared.TrackCounts.{TrackCounts}
use Rattle.grid_track_counts.specs.Counts.{counts_good, index_of}
use Rattle.grid_coordinates.specs.declared.GridLine.{GridLine}
use Rattle.grid_coordinates.specs.declared.OriginZeroLine.{OriginZeroLine}
use Rattle.refusals.specs.declared.Refusal.{Refusal}
use Rattle.refusals.specs.declared.Refusal.TheVariants as R

-- "CSS line to origin-zero"; refusal 11: "CSS line 0, explicit count over 10000"
unfoldable pub origin_zero_answer : ℤ → ℕ → Result OriginZeroLine Refusal
origin_zero_answer n e = cond (leb e 10000 && not (eq_z n (pos 0))) (Ok (record { 0 = origin_zero_of n e })) (Err R.BadLine)

-- "Back"; refusal 11: "explicit count over 10000, or origin-zero line outside the limited grid"
unfoldable pub css_answer : ℤ → ℕ → Result GridLine Refusal
css_answer z e = cond (leb e 10000 && (le_z lowest z && le_z z highest)) (Ok (record { 0 = css_of z e })) (Err R.BadLine)

-- "Index in the track vector ..; its only refusal is 3": "counts outside the limits"
unfoldable pub index_answer : TrackCounts → ℤ → Result (Option ℕ) Refusal
index_answer t z = cond (counts_good t) (Ok (index_of t z)) (Err R.CountsOutsideLimits)

-- ---- the document's values of an answer: "counts, lines and vector indexes are 0 on refusal"

abbrev pub zero_line : Result OriginZeroLine Refusal → ℤ
zero_line (Ok l) = l.0
zero_line (Err e) = pos 0

abbrev pub css_line : Result GridLine Refusal → ℤ
css_line (Ok l) = l.0
css_line (Err e) = pos 0

-- whether the line has a place, and which; 0 where it has none
abbrev pub index_present : Result (Option ℕ) Refusal → Bool
index_present (Ok (Some n)) = true
index_present (Ok None) = false
index_present (Err e) = false

abbrev pub index_place : Result (Option ℕ) Refusal → ℕ
index_place (Ok (Some n)) = n
index_place (Ok None) = 0
index_place (Err e) = 0
