-- Refusals of the calls on lines: "Given exactly when".
use Rattle.std.specs.Prelude.{Ok, Err, ℕ}
use mathlib.Core.Path.{◌≡◌, refl, subst}
use mathlib.Core.Bool.{Bool, true, false, cond, not, ◌&&◌}
use mathlib.Core.Logic.{◌⊎◌, inl, inr, ◌↔◌}
use Prim.Native.Nat.{ℕ, ◌<◌}
use native.Mathlib.Omega.{arith}
use borrow.Author.Tests.{leb-false, lt-leb}
use lib.Dec.{T, leb}
use lib.IntN.{ℤ, pos}
use lib.Signed.{le_z, ◌<ℤ◌}
use Rattle.theory_signed.specs.Parts.{eq_z}
use Rattle.theory_signed.proofs.Laws.{signed, eq_yes, eq_of, g_le_false}
use Rattle.grid_coordinates.specs.declared.GridLine.{GridLine}
use Rattle.grid_coordinates.specs.declared.OriginZeroLine.{OriginZeroLine}
use Rattle.grid_coordinates.specs.Line.{lowest, highest, origin_zero_of, css_of}
use Rattle.grid_track_counts.specs.declared.TrackCounts.{TrackCounts}
use Rattle.grid_track_counts.specs.Counts.{counts_good, index_of}
use Rattle.refusals.specs.declared.Refusal.{Refusal}
use Rattle.refusals.specs.declared.Refusal.TheVariants.{BadLine, CountsOutsideLimits}
use Rattle.refusals.specs.Numbers.{number, number_of}
use Rattle.hoarbale_lines.specs.Lines.{origin_zero_answer, css_answer, index_answer}

abbrev zero_at : ℤ → OriginZeroLine
zero_at z = record { 0 = z }

abbrev css_at : ℤ → GridLine
css_at z = record { 0 = z }

and_no : (x y : Bool) → y ≡ false → x && y ≡ false
and_no true y e = e
and_no false y e = refl

-- an answer is refused by row n exactly where its test fails
refused_where : {A : Type 0} (b : Bool) (a : A) (r : Refusal) → 0 < number r → number_of (cond b (Ok a) (Err r)) ≡ number r ↔ (b ≡ false)
refused_where true a r h = ((λ e. let z : ⊥ = omega (arith, h, e) in absurd z), (λ e. absurd (subst T e tt)))
refused_where false a r h = ((λ e. refl), (λ e. refl))

-- refusal 11: "CSS line 0, explicit count over 10000"
pub origin_zero_refused : (n : ℤ) (e : ℕ) → number_of (origin_zero_answer n e) ≡ 11 ↔ ((10000 < e) ⊎ (n ≡ pos 0))
unfolding origin_zero_answer
origin_zero_refused n e =
    let w = refused_where (leb e 10000 && not (eq_z n (pos 0))) (zero_at (origin_zero_of n e)) BadLine (omega arith) in
    ((λ h. there (leb e 10000) (eq_z n (pos 0)) refl refl (w.0 h)), (λ h. w.1 (back h)))
  where
    there : (a b : Bool) → leb e 10000 ≡ a → eq_z n (pos 0) ≡ b → a && not b ≡ false → (10000 < e) ⊎ (n ≡ pos 0)
    there false b p q h = inl (leb-false e 10000 p)
    there true true p q h = inr (eq_of n (pos 0) q)
    there true false p q h = absurd (subst T h tt)

    back : (10000 < e) ⊎ (n ≡ pos 0) → leb e 10000 && not (eq_z n (pos 0)) ≡ false
    back (inl h) = rw (lt-leb e 10000 h)
    back (inr h) = rw (eq_yes n (pos 0) (omega signed)) (and_no (leb e 10000) false refl)

-- refusal 11: "explicit count over 10000, or origin-zero line outside the limited grid"
pub css_refused : (z : ℤ) (e : ℕ) → number_of (css_answer z e) ≡ 11 ↔ ((10000 < e) ⊎ ((z <ℤ lowest) ⊎ (highest <ℤ z)))
unfolding css_answer
css_refused z e =
    let w = refused_where (leb e 10000 && (le_z lowest z && le_z z highest)) (css_at (css_of z e)) BadLine (omega arith) in
    ((λ h. there (leb e 10000) (le_z lowest z) (le_z z highest) refl refl refl (w.0 h)), (λ h. w.1 (back h)))
  where
    there : (a b c : Bool) → leb e 10000 ≡ a → le_z lowest z ≡ b → le_z z highest ≡ c → a && (b && c) ≡ false → (10000 < e) ⊎ ((z <ℤ lowest) ⊎ (highest <ℤ z))
    there false b c p q r h = inl (leb-false e 10000 p)
    there true false c p q r h = let o : z <ℤ lowest = omega signed in inr (inl o)
    there true true false p q r h = let o : highest <ℤ z = omega signed in inr (inr o)
    there true true true p q r h = absurd (subst T h tt)

    back : (10000 < e) ⊎ ((z <ℤ lowest) ⊎ (highest <ℤ z)) → leb e 10000 && (le_z lowest z && le_z z highest) ≡ false
    back (inl h) = rw (lt-leb e 10000 h)
    back (inr (inl h)) = rw (g_le_false lowest z (omega signed)) (and_no (leb e 10000) false refl)
    back (inr (inr h)) = rw (g_le_false z highest (omega signed)) (and_no (leb e 10000) _ (and_no (le_z lowest z) false refl))

-- "its only refusal is 3": "counts outside the limits"
pub index_refused : (t : TrackCounts) (z : ℤ) → number_of (index_answer t z) ≡ 3 ↔ (counts_good t ≡ false)
unfolding index_answer
index_refused t z = refused_where (counts_good t) (index_of t z) CountsOutsideLimits (omega arith)
