-- "Row list and column list": a flat list of numbers that holds records, and all the rules that it keeps.
use Rattle.std.specs.Prelude.{◌≡◌, Bool, true, cond, ◌&&◌, List, [], ◌∷◌, ℕ, ◌%◌, eqb, leb, length, ℤ, pos, negsuc, ◌≤ℤ◌, ◌<ℤ◌}
use Rattle.std.specs.Int.Signed.{lt_z, le_z}
use Rattle.theory_intervals.specs.Records.{Rec, rec, Area, area, same}
use Rattle.theory_intervals.specs.Flat.{flat_rows}
use Rattle.theory_intervals.specs.OverInt.{cell_of, keeps, fit, decode, flat, is_flat, digits}

-- "The limited grid is -10000..10000": its first and last line, and its last track
abbrev pub low : ℤ
low = negsuc 9999

abbrev pub high : ℤ
high = pos 10000

abbrev pub last : ℤ
last = pos 9999

-- "Track -10000..9999, lines inside the limited grid"
abbrev pub in_grid : Rec ℤ → Bool
in_grid (rec t a b s) = le_z low t && (le_z t last && (le_z low a && le_z b high))

abbrev pub all_in : List (Rec ℤ) → Bool
all_in [] = true
all_in (r ∷ rs) = in_grid r && all_in rs

-- the rules of the records. `keeps` is "Sorted by track, then start", "start < end", state 1 or 2, and "Within a track, records are disjoint, and
-- touching ones differ in state"
abbrev pub rules : List (Rec ℤ) → Bool
rules rs = keeps rs && all_in rs

-- the lines of an area are inside the limited grid, where each start is below its end
abbrev pub area_in : Area ℤ → Bool
area_in (area t₁ t₂ a b s) = le_z low t₁ && (le_z t₂ high && (le_z low a && le_z b high))

-- an area that is painted: it has none of "start not below end, or, for painting, a line outside the limited grid or a state not 1 or 2"
abbrev pub good_area : Area ℤ → Bool
good_area x = fit x && area_in x

abbrev pub good_areas : List (Area ℤ) → Bool
good_areas [] = true
good_areas (x ∷ h) = good_area x && good_areas h

-- the first n records of a flat list
abbrev pub recs : ℕ → List ℤ → List (Rec ℤ)
recs n l = flat_rows digits n l

-- l is n records that keep the rules, and then "Unused places are zero and come last"
pub record Holds (l : List ℤ) (n : ℕ) : Type 0 where
  pub keep : rules (recs n l) ≡ true
  pub laid : l ≡ flat (length l) (recs n l)

-- how many records a flat list has: those before the first place whose state is 0
abbrev pub used : List ℤ → ℕ
used l = length (decode l)

-- whether a flat list keeps the rules: `is_flat` says that only zeros stand behind the records
abbrev pub kept : List ℤ → Bool
kept l = is_flat l && rules (decode l)

-- "A list's length is a multiple of 4, at most 1,048,576 numbers"
abbrev pub good_length : List ℤ → Bool
good_length l = eqb (length l % 4) 0 && leb (length l) 1048576

-- the records of one track, in order
abbrev pub on_track : ℤ → List (Rec ℤ) → List (Rec ℤ)
on_track t [] = []
on_track t (rec u a b s ∷ rs) = cond (same lt_z t u) (rec u a b s ∷ on_track t rs) (on_track t rs)

-- "Free means that no cell of the area has a state": of the tracks t₁..t₂ and the lines a..b
abbrev pub Free : List (Rec ℤ) → ℤ → ℤ → ℤ → ℤ → Type 0
Free rs t₁ t₂ a b = (t p : ℤ) → t₁ ≤ℤ t → t <ℤ t₂ → a ≤ℤ p → p <ℤ b → cell_of rs t p ≡ 0
