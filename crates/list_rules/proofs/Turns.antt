-- The turns of the rules check: one record more, one zero more, and what a flag says.
use mathlib.Core.Path.{◌≡◌, sym, ◌∙◌}
use mathlib.Core.Bool.{Bool, true, false}
use mathlib.Core.List.{List}
use Prim.Native.Nat.{ℕ, ◌+◌, ◌-◌, ◌*◌, ◌<◌, ◌≤◌}
use native.Mathlib.Omega.{arith}
use lib.ListN.{length}
use lib.IntN.{ℤ}
use borrow.Author.Count.{below_more}
use Rattle.theory_intervals.proofs.Line.{no_both}
use Rattle.list_rules.specs.Inner.{GoodAt, follow_at, Says, Goes, Front}

pub front_none : (l : List ℤ) → Front l 0
front_none l = record { room = omega arith; each = λ i h. absurd (omega arith) }

pub front_more : {l : List ℤ} {n : ℕ} → Front l n → 4 * n + 4 ≤ length l → Goes l n → Front l (n + 1)
front_more {l} {n} f h g = record { room = omega arith; each = below_more (λ i. Goes l i) n f.each g }

pub goes_next : {l : List ℤ} {i : ℕ} → 0 < i → GoodAt l (4 * i) → follow_at l (4 * i - 4) (4 * i - 4 + 4) ≡ true → Goes l i
goes_next {l} {i} p g h = record { good = g; next = λ k e. let x : 4 * i - 4 ≡ 4 * k = omega arith in let y : 4 * i - 4 + 4 ≡ 4 * i = omega arith in (λ j. follow_at l (sym x j) (sym y j)) ∙ h }

pub goes_not : {l : List ℤ} {i : ℕ} → 0 < i → follow_at l (4 * i - 4) (4 * i - 4 + 4) ≡ false → Goes l i → ⊥
goes_not {l} {i} p h g =
    let x : 4 * i - 4 ≡ 4 * (i - 1) = omega arith in
    let y : 4 * i - 4 + 4 ≡ 4 * i = omega arith in
    no_both ((λ j. follow_at l (x j) (y j)) ∙ g.next (i - 1) (omega arith)) h

-- a record that stands behind another goes where it may follow that one
pub goes_behind : (l : List ℤ) (i : ℕ) (b : Bool) → 0 < i → GoodAt l (4 * i) → b ≡ follow_at l (4 * i - 4) (4 * i - 4 + 4) → Says b (Goes l i)
goes_behind l i true p g e = goes_next p g (sym e)
goes_behind l i false p g e = goes_not p (sym e)
