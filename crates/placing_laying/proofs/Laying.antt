-- Laws of laying a tile: a tile with limited lines can be painted, the test for room is the contract's, no refusal is room on both lists.
use Rattle.std.specs.Prelude.{Ok, Err}
use mathlib.Core.Path.{◌≡◌, refl, sym, subst}
use mathlib.Core.Bool.{Bool, true, false, ◌||◌}
use mathlib.Core.List.{List}
use Prim.Native.Nat.{ℕ, zero, suc, ◌+◌, ◌%◌, ◌≤◌, ◌<◌}
use lib.Dec.{eqb}
use native.Mathlib.Omega.{arith}
use lib.Bits.{bit_or, and_high, or_add_and}
use lib.IntN.{ℤ}
use lib.ListN.{length}
use Rattle.std.proofs.Common.{append_assoc, drop-drop}
use borrow.Rule.Slice.PartMut.{put_mid}
use borrow.Author.Tests.{ne_eqb}
use Rattle.std.proofs.lemmas.List.Edits.{sets-eq}
use lib.Seq.{sets}
use Rattle.theory_intervals.specs.Records.{Rec}
use Rattle.theory_intervals.specs.OverInt.{paint_list}
use Rattle.list_areas.specs.Areas.{area_of}
use Rattle.grid_coordinates.specs.declared.Lines.{Lines}
use Rattle.grid_coordinates.specs.Line.{limited, Limited}
use Rattle.grid_coordinates.proofs.Promises.{limited_meets}
use Rattle.theory_walk.specs.Walk.{bit}
use Rattle.refusals.specs.declared.Refusal.{Refusal}
use Rattle.refusals.specs.Numbers.{numbered}
use Rattle.placing_laying.specs.Laying.{refusal_of, room_of}

-- lines that were pressed into the limited grid are limited
pub pressed_limited : (l m : Lines) → l ≡ limited m → Limited l
pressed_limited l m e = subst Limited (sym e) (limited_meets m)

-- the same tile, painted on the same records
pub same_paint : {t t' l l' : Lines} (s : ℤ) (rs : List (Rec ℤ)) → t ≡ t' → l ≡ l'
    → paint_list (area_of t.start t.end l.start l.end s) rs ≡ paint_list (area_of t'.start t'.end l'.start l'.end s) rs
same_paint s rs e f j = paint_list (area_of (e j).start (e j).end (f j).start (f j).end s) rs

-- no refusal: neither list is short
pub neither : (columns p s : Bool) → refusal_of columns p s ≡ 0 → (p ≡ false) × (s ≡ false)
neither true true true e = absurd (omega arith)
neither true true false e = absurd (omega arith)
neither true false true e = absurd (omega arith)
neither true false false e = (refl, refl)
neither false true true e = absurd (omega arith)
neither false true false e = absurd (omega arith)
neither false false true e = absurd (omega arith)
neither false false false e = (refl, refl)

-- what `check_room` gives back: the list that is short, or that neither is
pub crowded : (n i : ℕ) (r : Refusal) → room_of n i ≡ Err r → (0 < n) × (r ≡ numbered n i)
crowded zero i r e = cc
crowded (suc n) i r e = let f : eqb (suc n) 0 ≡ false = ne_eqb (suc n) 0 (λ z. omega arith) in let g : Err (numbered (suc n) i) ≡ Err r = rw f at e in (omega arith, cc)

pub roomy : (n i : ℕ) (u : Unit {0}) → room_of n i ≡ Ok u → n ≡ 0
roomy zero i u e = refl
roomy (suc n) i u e = let f : eqb (suc n) 0 ≡ false = ne_eqb (suc n) 0 (λ z. omega arith) in let g : Err (numbered (suc n) i) ≡ Ok u = rw f at e in cc

-- flags without bit 1: setting it adds 1
pub marked : (pressed : Bool) (flags : ℕ) → flags % 2 ≡ 0 → pressed ≡ true → bit_or flags 1 ≡ bit 1 pressed + flags
marked pressed flags h e = rw e (omega (arith, or_add_and flags 1, and_high flags 1 0))

pub first_pressed : (p s : Bool) → p ≡ true → (p || s) ≡ true
first_pressed p s e = rw e

pub second_pressed : (p s : Bool) → s ≡ true → (p || s) ≡ true
second_pressed true s e = refl
second_pressed false s e = e

-- a part that is written over is the stores of its numbers, one behind the other
pub put_sets : (at k : ℕ) (l ys vs : List ℤ) → ys ≡ vs → k ≡ length vs → at + k ≤ length l → put_mid at k l ys ≡ sets l at vs
put_sets at k l ys vs e f h = rw (e, sets-eq vs l at (omega arith), f) (grind (arith, append_assoc, drop-drop))

-- a mark is below 8 where the flags are
pub small_mark : (pressed : Bool) (flags : ℕ) → flags < 8 → bit 1 pressed + flags < 32768
small_mark true flags h = omega arith
small_mark false flags h = omega arith
