-- The checks of a request as a ladder of tests, and a flow by its number.
use Rattle.std.specs.Prelude.{Result, Ok, Err}
use mathlib.Core.Path.{◌≡◌, refl, sym, ap}
use mathlib.Core.Bool.{Bool, true, false, not, ◌&&◌, ◌||◌}
use mathlib.Core.Logic.{◌⊎◌, inl, inr}
use Prim.Native.Nat.{ℕ, zero, suc, ◌≤◌, ◌<◌}
use native.Mathlib.Omega.{arith}
use borrow.Author.Tests.{eq-eqb, ne_eqb, lt-ltb, le-ltb}
use lib.Dec.{eqb, ltb}
use Rattle.refusals.specs.declared.Refusal.{Refusal}
use Rattle.refusals.specs.declared.Refusal.TheVariants.{UnknownFlow}
use Rattle.placing_request.specs.declared.flow.Flow.{Flow}
use Rattle.placing_request.specs.Flows.{flow_number, flow_of}

-- a number from 4 on has no flow
beyond : (n : ℕ) → flow_of (suc (suc (suc (suc n)))) ≡ Err UnknownFlow
beyond n =
    let m = suc (suc (suc (suc n))) in
    rw (ne_eqb m 0 (λ e. omega arith), ne_eqb m 1 (λ e. omega arith), ne_eqb m 2 (λ e. omega arith), ne_eqb m 3 (λ e. omega arith))

abbrev number_or : ℕ → Result Flow Refusal → ℕ
number_or n (Ok f) = flow_number f
number_or n (Err r) = n

-- a number that has a flow is that flow's, and below 4
pub flow_known : (n : ℕ) (f : Flow) → flow_of n ≡ Ok f → (ltb 3 n ≡ false) × (flow_number f ≡ n)
flow_known zero f e = (refl, sym (ap (number_or 0) e))
flow_known (suc zero) f e = (refl, sym (ap (number_or 0) e))
flow_known (suc (suc zero)) f e = (refl, sym (ap (number_or 0) e))
flow_known (suc (suc (suc zero))) f e = (refl, sym (ap (number_or 0) e))
flow_known (suc (suc (suc (suc n)))) f e = let g = beyond n in cc

-- one that has none is not
pub flow_unknown : (n : ℕ) (r : Refusal) → flow_of n ≡ Err r → (ltb 3 n ≡ true) × (r ≡ UnknownFlow)
flow_unknown zero r e = cc
flow_unknown (suc zero) r e = cc
flow_unknown (suc (suc zero)) r e = cc
flow_unknown (suc (suc (suc zero))) r e = cc
flow_unknown (suc (suc (suc (suc n)))) r e = let g = beyond n in (lt-ltb 3 (suc (suc (suc (suc n)))) (omega arith), cc)

-- the items' numbers are wrong where they are no sixes, or too many
pub items_wrong : (n m : ℕ) → ((n ≡ 0 → ⊥) ⊎ ((n ≡ 0) × (2000 < m))) → (not (eqb n 0) || ltb 2000 m) ≡ true
items_wrong n m (inl h) = rw (ne_eqb n 0 h)
items_wrong n m (inr h) = rw (eq-eqb n 0 h.0, lt-ltb 2000 m h.1)

pub items_right : (n m : ℕ) → n ≡ 0 → m ≤ 2000 → (not (eqb n 0) || ltb 2000 m) ≡ false
items_right n m e h = rw (eq-eqb n 0 e, le-ltb 2000 m h)

-- of two parts one is bad, or neither
pub first_wrong : (a b : Bool) → a ≡ false → not (a && b) ≡ true
first_wrong a b e = rw e

pub second_wrong : (a b : Bool) → b ≡ false → not (a && b) ≡ true
second_wrong true b e = rw e
second_wrong false b e = refl

pub both_right : (a b : Bool) → a ≡ true → b ≡ true → not (a && b) ≡ false
both_right a b e f = rw (e, f)
