-- What `then_some` and `max` give, in the words of the calls.
use Rattle.std.specs.Prelude.{Option, Some, None, cond}
use Rattle.std.specs.Bool.{then_some}
use Rattle.std.specs.Option.{option_cmp}
use Rattle.std.proofs.Common.{Ordering, Less, Equal, Greater}
use Rattle.std.specs.Ordering.{MatchOrdering, int_cmp, ord_max, is_lt}
use Rattle.std.specs.Cmp.{int_ranks}
use mathlib.Core.Path.{◌≡◌, refl}
use mathlib.Core.Bool.{Bool, true, false}
use lib.IntN.{ℤ}
use lib.Signed.{lt_z, ◌<ℤ◌}
use Rattle.theory_signed.proofs.Laws.{signed, g_lt_true, g_lt_false}
use Rattle.list_jumps.specs.Calls.{larger}

pub if_some : {A : Type 0} (b : Bool) (v : A) (x : Option A) → (b ≡ true → Some v ≡ x) → (b ≡ false → None ≡ x) → then_some b v ≡ x
if_some true v x p q = p refl
if_some false v x p q = q refl

pub larger_max : (x y : Option ℤ) → ord_max (option_cmp int_cmp) x y ≡ larger x y
larger_max None None = refl
larger_max None (Some f) = refl
larger_max (Some e) None = refl
larger_max (Some e) (Some f) = go (int_cmp f e) (int_ranks f e)
  where
    go : (o : Ordering) → MatchOrdering o (f <ℤ e) (f ≡ e) (e <ℤ f) → cond (is_lt o) (Some e) (Some f) ≡ Some (cond (lt_z e f) f e)
    go Less h = rw (g_lt_false e f (omega signed))
    go Equal h = rw (g_lt_false e f (omega signed), h)
    go Greater h = rw (g_lt_true e f (omega signed))
