-- Areas painted one after the other through the call on an empty list: the list that is left, and the areas that were accepted.
use Rattle.std.specs.Prelude.{◌≡◌, true, false, cond, ◌&&◌, List, [], ◌∷◌, ℕ, ◌*◌, ◌≤◌, ◌<◌, length, replicate, ℤ, pos, Result, Ok, Err}
use Rattle.std.specs.Int.Signed.{lt_z}
use Rattle.theory_intervals.specs.Records.{Area, area, between}
use Rattle.theory_intervals.specs.OverInt.{cell_of, decode, paint_list}
use Rattle.theory_intervals.specs.Lists.{kept, good_length, good_area}
use Rattle.hoarbale_lists.specs.Lists.{paint_answer, paint_left}
use Rattle.refusals.specs.declared.Refusal.{Refusal}
use Rattle.refusals.specs.declared.Refusal.TheVariants as R

-- the list l after a series of areas, oldest first
abbrev pub paint_all : List ℤ → List (Area ℤ) → List ℤ
paint_all l [] = l
paint_all l (x ∷ xs) = paint_all (paint_left l x) xs

-- an empty list of n numbers after a series of areas
abbrev pub series : ℕ → List (Area ℤ) → List ℤ
series n xs = paint_all (replicate n (pos 0)) xs

-- an area that was painted is added to those accepted before, newest first; a refused one is not
abbrev pub noted : Result Unit Refusal → Area ℤ → List (Area ℤ) → List (Area ℤ)
noted (Ok u) x h = x ∷ h
noted (Err e) x h = h

abbrev pub accepted_on : List ℤ → List (Area ℤ) → List (Area ℤ) → List (Area ℤ)
accepted_on l h [] = h
accepted_on l h (x ∷ xs) = accepted_on (paint_left l x) (noted (paint_answer l x) x h) xs

-- the accepted areas of a series on an empty list of n numbers, newest first
abbrev pub accepted : ℕ → List (Area ℤ) → List (Area ℤ)
accepted n xs = accepted_on (replicate n (pos 0)) [] xs

-- the state of a cell once an area is painted over what had the state c: the area's own, or c where the cell is not of the area
abbrev pub over_cell : Area ℤ → ℤ → ℤ → ℕ → ℕ
over_cell (area t₁ t₂ a b s) t p c = cond (between lt_z t₁ t₂ t && between lt_z a b p) s c

-- some list of the same length keeps the list rules and has the cells that the paint of the area asks for
pub record Fits (l : List ℤ) (x : Area ℤ) : Type 0 where
  pub list : List ℤ
  pub long : length list ≡ length l
  pub keep : kept list ≡ true
  pub cells : (t p : ℤ) → cell_of (decode list) t p ≡ over_cell x t p (cell_of (decode l) t p)

-- "Given exactly when": why a paint of the area x on the list l has an answer
pub data Why (l : List ℤ) (x : Area ℤ) : Result Unit Refusal → Type 0 where
  length_wrong : good_length l ≡ false → Why l x (Err R.WrongListLength)
  rules_broken : good_length l ≡ true → kept l ≡ false → Why l x (Err R.BrokenList)
  area_bad : good_length l ≡ true → kept l ≡ true → good_area x ≡ false → Why l x (Err R.BadArea)
  no_room : good_length l ≡ true → kept l ≡ true → good_area x ≡ true → length l < 4 * length (paint_list x (decode l)) → Why l x (Err R.ShortList)
  is_room : good_length l ≡ true → kept l ≡ true → good_area x ≡ true → 4 * length (paint_list x (decode l)) ≤ length l → Why l x (Ok tt)
