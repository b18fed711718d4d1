-- "Paint one area on one list." The records that a list holds afterwards are `paint_list` of the area and of those that it held (intervals), laid out by
-- `flat`; here is the area that five numbers name.
use Rattle.std.specs.Prelude.{ℕ, ℤ, pos, negsuc}
use Rattle.theory_intervals.specs.Records.{Area, area}

-- the state that a number names: "a state not 1 or 2" is none, and so is a negative number
abbrev pub state_of : ℤ → ℕ
state_of (pos n) = n
state_of (negsuc n) = 0

-- "An area on a list is two track lines and two lines along the track", with the state that it is painted with
abbrev pub area_of : ℤ → ℤ → ℤ → ℤ → ℤ → Area ℤ
area_of t₁ t₂ a b s = area t₁ t₂ a b (state_of s)
