-- The tracks of an area as a list: none stands twice, and how the list begins.
use mathlib.Core.Path.{◌≡◌, refl}
use mathlib.Core.Bool.{true, false}
use mathlib.Core.List.{List, [], ◌∷◌}
use Prim.Native.Nat.{ℕ, zero, suc}
use lib.IntN.{ℤ, pos, ◌+ℤ◌}
use lib.Signed.{lt_z}
use Rattle.theory_signed.specs.Parts.{gap}
use Rattle.theory_signed.proofs.Laws.{signed, sum}
use Rattle.theory_intervals.specs.Records.{same}
use Rattle.theory_intervals.specs.OverInt.{span, upto}
use Rattle.theory_intervals.proofs.Grid.{or_r}
use Rattle.theory_intervals.proofs.Paint.{mem}
use Rattle.theory_intervals.proofs.Tracks.{Dis, In, same_self}

below : (u v : ℤ) (n : ℕ) → lt_z u v ≡ true → mem lt_z u (upto n v) ≡ false
below u v zero h = refl
below u v (suc n) h = rw h (below u (v +ℤ pos 1) n (omega (signed, sum v (pos 1))))

dis_upto : (n : ℕ) (u : ℤ) → Dis (upto n u)
dis_upto zero u = tt
dis_upto (suc n) u = (below u (u +ℤ pos 1) n (omega (signed, sum u (pos 1))), dis_upto n (u +ℤ pos 1))

pub dis_span : (a b : ℤ) → Dis (span a b)
unfolding span
dis_span a b = dis_upto (gap a b) a

-- all of a list are of it
in_more : (u : ℤ) (us ts : List ℤ) → In us ts → In (u ∷ us) ts
in_more u us [] i = tt
in_more u us (t ∷ ts) i = (or_r (same lt_z t u) (mem lt_z t us) i.0, in_more u us ts i.1)

pub in_self : (ts : List ℤ) → In ts ts
in_self [] = tt
in_self (t ∷ ts) = (rw (same_self t), in_more t ts ts (in_self ts))

pub span_none : (a b : ℤ) → lt_z a b ≡ false → span a b ≡ []
unfolding span
span_none a b h = let e : gap a b ≡ 0 = omega signed in rw e

pub span_cons : (a c b : ℤ) → a +ℤ pos 1 ≡ c → lt_z a b ≡ true → span a b ≡ a ∷ span c b
unfolding span
span_cons a c b q h =
    let e : gap a b ≡ suc (gap (a +ℤ pos 1) b) = omega (signed, sum a (pos 1)) in
    rw (← q, e)
