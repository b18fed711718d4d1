-- Laws of `Above`, and of the span of tracks.
use mathlib.Core.Path.{◌≡◌, refl, sym, ap, ◌∙◌, subst}
use mathlib.Core.Bool.{Bool, true, false, ◌||◌}
use mathlib.Core.List.{List, [], ◌∷◌, ◌++◌}
use Prim.Native.Nat.{ℕ, zero, suc, ◌+◌, ◌*◌, ◌≤◌, ◌<◌}
use native.Mathlib.Omega.{arith}
use lib.IntN.{ℤ, pos}
use lib.Signed.{lt_z, ◌≤ℤ◌}
use lib.ListN.{length, drop, get_or}
use mir.Syntax.{w16}
use mir.Val.{of_z}
use Rattle.theory_signed.proofs.Laws.{signed}
use Rattle.theory_intervals.specs.Paint.{pt}
use Rattle.theory_intervals.proofs.Line.{Test, yea, nay, test, no_both}
use Rattle.theory_intervals.specs.Records.{same, between}
use Rattle.theory_intervals.proofs.Paint.{mem}
use Rattle.theory_intervals.proofs.IntOrder.{int_linear}
use Rattle.theory_intervals.specs.OverInt.{span}
use Rattle.theory_intervals.proofs.OverInt.{span_is}
use Rattle.theory_intervals.specs.Cut.{gapb, lx}
use Rattle.theory_intervals.proofs.Split as Sp
use Rattle.theory_intervals.proofs.Split.{Late}
use Rattle.theory_intervals.proofs.Tracks.{In, same_self}
use Rattle.theory_intervals.proofs.OnTrack as Ot
use Rattle.theory_intervals.proofs.OnTrack.{On}
use Rattle.list_moves.specs.Fours.{Four, fours, four_at}
use Rattle.list_moves.proofs.Fours.{fours_more}
use Rattle.list_pieces.specs.Reach as Se
use Rattle.list_pieces.specs.Reach.{runs, AllOn, Stored}
use Rattle.list_pieces.specs.Passes.{Above, nil, cons}

pub above_append : {t : ℤ} {xs : List Four} (ys : List Four) → Above t xs → Above t ys → Above t (xs ++ ys)
above_append ys nil k = k
above_append ys (cons e h) k = cons e (above_append ys h k)

pub above_late : {t : ℤ} {rs : List Four} (u b : ℤ) (s : ℕ) → lt_z u t ≡ true → Above t rs → Late lx (pt u b) s (runs rs)
above_late u b s h nil = Sp.nil
above_late {t} u b s h (cons {r = r} e k) =
    let z : lt_z u r.track ≡ true = omega signed in
    let w : gapb lx (pt u b) s (pt r.track r.start) (of_z w16 r.state) ≡ true = rw z in
    Sp.cons w (above_late u b s h k)

pub late_above : (u b : ℤ) (s : ℕ) (rs : List Four) → Late lx (pt u b) s (runs rs) → Above u rs
late_above u b s [] h = nil
late_above u b s (r ∷ rs) (Sp.cons e h) = go (test (lt_z r.track u)) (late_above u b s rs h)
  where
    go : Test (lt_z r.track u) → Above u rs → Above u (r ∷ rs)
    go (nay i) k = cons i k
    go (yea i) k = let z : lt_z u r.track ≡ false = omega signed in no_both e (rw (z, i))

pub all_on_above : {t : ℤ} {rs : List Four} → AllOn t rs → Above t rs
all_on_above Se.nil = nil
all_on_above {t} (Se.cons {r = r} e h) = cons (ap (λ (z : ℤ). lt_z z t) e ∙ int_linear.irr t) (all_on_above h)

pub on_above : (t : ℤ) (rs : List Four) → On t (runs rs) → Above t rs
on_above t [] h = nil
on_above t (r ∷ rs) (Ot.cons e i h) = cons (ap (λ (z : ℤ). lt_z z t) e ∙ int_linear.irr t) (on_above t rs h)

pub stored_append : {xs : List Four} (ys : List Four) → Stored xs → Stored ys → Stored (xs ++ ys)
stored_append ys Se.nil k = k
stored_append ys (Se.cons e h) k = Se.cons e (stored_append ys h k)

pub stored_l : (xs ys : List Four) → Stored (xs ++ ys) → Stored xs
stored_l [] ys h = Se.nil
stored_l (x ∷ xs) ys (Se.cons e h) = Se.cons e (stored_l xs ys h)

pub stored_r : (xs ys : List Four) → Stored (xs ++ ys) → Stored ys
stored_r [] ys h = h
stored_r (x ∷ xs) ys (Se.cons e h) = stored_r xs ys h

-- ---- the tracks from T on are of those from t₁ on
in_of : (us ts : List ℤ) → ((u : ℤ) → mem lt_z u ts ≡ true → mem lt_z u us ≡ true) → In us ts
in_of us [] h = tt
in_of us (t ∷ ts) h = (h t (rw (same_self t)), in_of us ts (λ u k. h u (or_r (same lt_z u t) (mem lt_z u ts) k)))
  where
    or_r : (x y : Bool) → y ≡ true → x || y ≡ true
    or_r true y e = refl
    or_r false y e = e

pub in_span : (t₁ t₂ t : ℤ) → lt_z t t₁ ≡ false → In (span t₁ t₂) (span t t₂)
in_span t₁ t₂ t h = in_of (span t₁ t₂) (span t t₂) (λ u k. span_is t₁ t₂ u ∙ go u (sym (span_is t t₂ u) ∙ k) (test (lt_z u t)) (test (lt_z u t₂)))
  where
    go : (u : ℤ) → between lt_z t t₂ u ≡ true → Test (lt_z u t) → Test (lt_z u t₂) → between lt_z t₁ t₂ u ≡ true
    go u e (yea i) j = no_both e (rw i)
    go u e (nay i) (nay j) = no_both e (rw (i, j))
    go u e (nay i) (yea j) = let z : lt_z u t₁ ≡ false = omega signed in rw (z, j)

-- records from k on, by their places
pub above_at : (l : List ℤ) (t : ℤ) (m k : ℕ) → 4 * (k + m) ≤ length l → ((i : ℕ) → k ≤ i → i < k + m → t ≤ℤ get_or l (4 * i) (pos 0)) → Above t (fours m (drop (4 * k) l))
above_at l t zero k h f = nil
above_at l t (suc m) k h f =
    let e : 4 * k + 4 ≡ 4 * suc k = omega arith in
    let b = f k (omega arith) (omega arith) in
    let z : lt_z (get_or l (4 * k) (pos 0)) t ≡ false = omega signed in
    subst (Above t) (sym (fours_more m l (4 * k) (omega arith) ∙ ap (λ (j : ℕ). four_at l (4 * k) ∷ fours m (drop j l)) e))
    (cons z (above_at l t m (suc k) (omega arith) (λ i a b. f i (omega arith) (omega arith))))
