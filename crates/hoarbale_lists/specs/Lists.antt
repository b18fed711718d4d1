-- The list calls: what each gives for every input, and what a paint leaves. "A list paint checks 5, 9, 10, 7"; "Other calls use the numbers that apply,
-- smallest first": 5, 9, 10 for the jumps.
use Rattle.std.specs.Prelude.{Bool, true, false, cond, ◌&&◌, List, ℕ, ◌*◌, leb, length, ℤ, pos, Option, Some, None, Result, Ok, Err}
use Rattle.std.specs.Int.Signed.{lt_z}
use Rattle.theory_intervals.specs.Records.{Area}
use Rattle.theory_intervals.specs.OverInt.{decode, flat, paint_list}
use Rattle.theory_intervals.specs.Lists.{good_length, kept, used, good_area}
use Rattle.list_jumps.specs.Calls.{collision_jump, occupied_jump}
use Rattle.refusals.specs.declared.Refusal.{Refusal}
use Rattle.refusals.specs.declared.Refusal.TheVariants as R

-- refusal 5: "a list's length is wrong"; 9: "list call on a list that breaks the list rules"; else how many records it has
unfoldable pub checked_of : List ℤ → Result ℕ Refusal
checked_of l = cond (good_length l) (cond (kept l) (Ok (used l)) (Err R.BrokenList)) (Err R.WrongListLength)

-- ---- painting

-- whether "the records that the list rules need after the paint" have places: four numbers each
abbrev pub room : List ℤ → Area ℤ → Bool
room l x = leb (4 * length (paint_list x (decode l))) (length l)

-- refusal 10: "start not below end, or, for painting, a line outside the limited grid or a state not 1 or 2"; then 7: "given only if the records that
-- the list rules need after the paint outnumber the list's places"
abbrev pub paint_of : List ℤ → Area ℤ → Result ℕ Refusal → Result Unit Refusal
paint_of l x (Err e) = Err e
paint_of l x (Ok n) = cond (good_area x) (cond (room l x) (Ok tt) (Err R.ShortList)) (Err R.BadArea)

-- "A list paint checks 5, 9, 10, 7"
unfoldable pub paint_answer : List ℤ → Area ℤ → Result Unit Refusal
paint_answer l x = paint_of l x (checked_of l)

-- what the answer leaves of the list: where it is refused, "unchanged"
abbrev pub left_by : List ℤ → Area ℤ → Result Unit Refusal → List ℤ
left_by l x (Ok u) = flat (length l) (paint_list x (decode l))
left_by l x (Err e) = l

unfoldable pub paint_left : List ℤ → Area ℤ → List ℤ
paint_left l x = left_by l x (paint_answer l x)

-- ---- the jumps: the line to go on from, or none

-- refusal 10: "start not below end", and "refusal 10 reads both pairs"
abbrev pub collision_of : List ℤ → ℤ → ℤ → ℤ → ℤ → Result ℕ Refusal → Result (Option ℤ) Refusal
collision_of l t₁ t₂ a b (Err e) = Err e
collision_of l t₁ t₂ a b (Ok n) = cond (lt_z t₁ t₂ && lt_z a b) (Ok (collision_jump (decode l) t₁ t₂ a b)) (Err R.BadArea)

-- the collision jump of the tracks t₁..t₂ and the lines a..b
unfoldable pub collision_answer : List ℤ → ℤ → ℤ → ℤ → ℤ → Result (Option ℤ) Refusal
collision_answer l t₁ t₂ a b = collision_of l t₁ t₂ a b (checked_of l)

abbrev pub occupied_of : List ℤ → ℤ → ℤ → Result ℕ Refusal → Result (Option ℤ) Refusal
occupied_of l t₁ t₂ (Err e) = Err e
occupied_of l t₁ t₂ (Ok n) = cond (lt_z t₁ t₂) (Ok (occupied_jump (decode l) t₁ t₂)) (Err R.BadArea)

-- the occupied-track jump of the tracks t₁..t₂
unfoldable pub occupied_answer : List ℤ → ℤ → ℤ → Result (Option ℤ) Refusal
occupied_answer l t₁ t₂ = occupied_of l t₁ t₂ (checked_of l)

-- whether an answer has a line to go on from, and which; 0 where there is none
abbrev pub jump_found : Result (Option ℤ) Refusal → Bool
jump_found (Ok (Some e)) = true
jump_found (Ok None) = false
jump_found (Err e) = false

abbrev pub jump_line : Result (Option ℤ) Refusal → ℤ
jump_line (Ok (Some e)) = e
jump_line (Ok None) = pos 0
jump_line (Err e) = pos 0
