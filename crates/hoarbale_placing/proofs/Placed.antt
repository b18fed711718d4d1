-- What the check of a request tells, and that a refusal has the number and the index that the checks and the walk give it.
use Rattle.std.specs.Prelude.{Some, None, Option, Ok, Err}
use mathlib.Core.Path.{◌≡◌, refl}
use mathlib.Core.Logic.{◌⊎◌, inl, inr}
use Prim.Native.Nat.{ℕ}
use borrow.Author.Tests.{ltb-true}
use native.Mathlib.Omega.{arith}
use Rattle.refusals.specs.Numbers.{number, index, numbered}
use Rattle.refusals.specs.declared.Refusal as R
use Rattle.theory_walk.specs.Request.{Request, Refusal, checked}
use Rattle.placing_request.specs.declared.flow.Flow.{Flow}
use Rattle.placing_request.specs.Flows.{flow_number}
use Rattle.placing_request.specs.Items.{check_of}
use Rattle.placing_request.proofs.Ladder as F
use Rattle.placing_request.proofs.Ladder.{flow_known}
use Rattle.theory_walk.proofs.Checks.{checked_none}
use Rattle.hoarbale_placing.specs.Calls.{Broken, flow_unknown, items_wrong, counts_outside, answers_short, length_wrong, item_bad}

-- a request that has passed, and its flow by its number
pub check_passed : (n : ℕ) (o : Option Refusal) (f : Flow) → check_of n o ≡ Ok f → (o ≡ None) × (flow_number f ≡ n)
check_passed n None f e = (refl, (flow_known n f e).1)
check_passed n (Some x) f e = let y : ◌≡◌ {A = ℕ} 0 1 = cc in absurd (omega arith)

pub record Refused (o : Option Refusal) (r : R.Refusal) : Type 0 where
  pub number_is : ℕ
  pub index_is : ℕ
  pub is : o ≡ Some (record { number = number_is; index = index_is })
  pub refusal : r ≡ numbered number_is index_is

pub check_refused : (q : Request) (r : R.Refusal) → check_of q.flow (checked q) ≡ Err r → Refused (checked q) r
check_refused q r e = go (checked q) refl e
  where
    go : (o : Option Refusal) → checked q ≡ o → check_of q.flow o ≡ Err r → Refused o r
    go None f e = absurd (let h = ltb-true 3 q.flow (F.flow_unknown q.flow r e).0 in let k = (checked_none q f).flow in let z : ⊥ = omega arith in z)
    go (Some x) f e = record { number_is = x.number; index_is = x.index; is = refl; refusal = cc }

-- 1 to 6, by their reasons
pub broken_named : {q : Request} {n i : ℕ} → Broken q n i → (number (numbered n i) ≡ n) × (index (numbered n i) ≡ i)
broken_named (flow_unknown a) = (refl, refl)
broken_named (items_wrong a b) = (refl, refl)
broken_named (counts_outside a b c) = (refl, refl)
broken_named (answers_short a b c d) = (refl, refl)
broken_named (length_wrong a b c d e) = (refl, refl)
broken_named (item_bad a b c d e f) = (refl, refl)

-- 7 and 8
pub room_named : {n i : ℕ} → (n ≡ 7) ⊎ (n ≡ 8) → (number (numbered n i) ≡ n) × (index (numbered n i) ≡ i)
room_named (inl e) = rw e (refl, refl)
room_named (inr e) = rw e (refl, refl)
