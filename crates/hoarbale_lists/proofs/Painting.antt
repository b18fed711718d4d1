-- The answer of a paint on a list that passes the checks, from what the inner paint gives.
use Rattle.std.specs.Prelude.{None, Option, Some, Result, Ok, Err, ℕ}
use Rattle.std.specs.Option.{ok_or}
use mathlib.Core.Path.{◌≡◌, refl, sym, ap, ◌∙◌}
use mathlib.Core.Bool.{Bool, true, false, cond}
use mathlib.Core.List.{List}
use Prim.Native.Nat.{ℕ, ◌*◌, ◌≤◌, ◌<◌}
use native.Mathlib.Omega.{arith}
use borrow.Author.Tests.{leb-true, leb-false}
use lib.ListN.{length}
use lib.IntN.{ℤ}
use Rattle.theory_intervals.specs.Records.{Rec, Area}
use Rattle.theory_intervals.specs.OverInt.{decode, flat, paint_list}
use Rattle.theory_intervals.specs.Lists.{recs, good_area}
use Rattle.theory_intervals.proofs.Lists.{holds_decode}
use Rattle.refusals.specs.declared.Refusal.{Refusal}
use Rattle.refusals.specs.declared.Refusal.TheVariants as R
use Rattle.hoarbale_lists.specs.Lists.{checked_of, room, paint_of, paint_answer, left_by, paint_left}
use Rattle.hoarbale_lists.proofs.Checking.{checked_holds}

-- an answer without its value
abbrev pub told : {A : Type 0} → Result A Refusal → Result Unit Refusal
told (Ok n) = Ok tt
told (Err e) = Err e

-- what is told, however the code makes it of what the inner paint gives: that it is painted, and without room the refusal 7
pub told_by : (r : Option ℕ) (o : Result Unit Refusal) → ((n : ℕ) → r ≡ Some n → o ≡ Ok tt) → (r ≡ None → o ≡ Err R.ShortList) → o ≡ told (ok_or r R.ShortList)
told_by (Some n) o some none = some n refl
told_by None o some none = none refl

pub inner_answer : (l y : List ℤ) (x : Area ℤ) (n : ℕ) (r : Option ℕ) → checked_of l ≡ Ok n → good_area x ≡ true
    → (4 * length (paint_list x (recs n l)) ≤ length l → (r ≡ Some (length (paint_list x (recs n l)))) × (y ≡ flat (length l) (paint_list x (recs n l))))
    → (length l < 4 * length (paint_list x (recs n l)) → (r ≡ None) × (y ≡ l))
    → (told (ok_or r R.ShortList) ≡ paint_answer l x) × (y ≡ paint_left l x)
unfolding paint_left paint_answer
inner_answer l y x n r e g fits full =
    let q = go (room l x) refl in
    (q.0 ∙ sym a, q.1 ∙ sym (ap (left_by l x) a))
  where
    d : decode l ≡ recs n l
    d = holds_decode (checked_holds l n e)

    a : paint_of l x (checked_of l) ≡ cond (room l x) (Ok tt) (Err R.ShortList)
    a = rw (e, g)

    long : length (paint_list x (decode l)) ≡ length (paint_list x (recs n l))
    long = ap (λ (rs : List (Rec ℤ)). length (paint_list x rs)) d

    go : (b : Bool) → room l x ≡ b → (told (ok_or r R.ShortList) ≡ cond b (Ok tt) (Err R.ShortList)) × (y ≡ left_by l x (cond b (Ok tt) (Err R.ShortList)))
    go true h =
        let q = fits (omega (arith, leb-true (4 * length (paint_list x (decode l))) (length l) h, long)) in
        (ap (λ o. told (ok_or o R.ShortList)) q.0, q.1 ∙ sym (ap (λ (rs : List (Rec ℤ)). flat (length l) (paint_list x rs)) d))
    go false h =
        let q = full (omega (arith, leb-false (4 * length (paint_list x (decode l))) (length l) h, long)) in
        (ap (λ o. told (ok_or o R.ShortList)) q.0, q.1)
