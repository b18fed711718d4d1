-- What the checks 5 and 9 of a list tell.
use Rattle.std.specs.Prelude.{None, Some, Ok, Err, ℕ}
use Rattle.std.specs.Option.{ok_or}
use mathlib.Core.Path.{◌≡◌, refl, subst}
use mathlib.Core.Bool.{Bool, true, false, cond}
use mathlib.Core.List.{List}
use Prim.Native.Nat.{ℕ}
use borrow.Author.Rules.{rules}
use lib.IntN.{ℤ}
use Rattle.theory_signed.proofs.Laws.{by_test}
use Rattle.theory_intervals.specs.Lists.{Holds, kept, used, good_length}
use Rattle.theory_intervals.proofs.Lists.{kept_holds}
use Rattle.list_rules.specs.Kept.{kept_of}
use Rattle.refusals.specs.declared.Refusal.TheVariants as R
use Rattle.hoarbale_lists.specs.Lists.{checked_of}

-- a list whose length is taken is counted or refused as the rules check says
pub checked_rules : (l : List ℤ) → good_length l ≡ true → checked_of l ≡ ok_or (kept_of l) R.BrokenList
unfolding checked_of kept_of
checked_rules l e = rw e (by_test (kept l) (λ b. cond b (Ok (used l)) (Err R.BrokenList) ≡ ok_or (cond b (Some (used l)) None) R.BrokenList) (λ k. refl) (λ k. refl))

-- a list that passes keeps the rules, with as many records as it is told to have
pub checked_holds : (l : List ℤ) (n : ℕ) → checked_of l ≡ Ok n → Holds l n
unfolding checked_of
checked_holds l n e = go (good_length l) (kept l) refl e
  where
    go : (a b : Bool) → kept l ≡ b → cond a (cond b (Ok (used l)) (Err R.BrokenList)) (Err R.WrongListLength) ≡ Ok n → Holds l n
    go true true k h = let i : used l ≡ n = cc in subst (Holds l) i (kept_holds l k)
    go true false k h = absurd (search rules)
    go false b k h = absurd (search rules)
