-- A sweep that paints all has room where the list has two places more for each track: a track is left with at most two records more.
use mathlib.Core.Path.{◌≡◌, ap}
use mathlib.Core.Bool.{Bool, true, false, cond}
use mathlib.Core.List.{List, [], ◌∷◌}
use Prim.Native.Nat.{ℕ, zero, suc, ◌+◌, ◌*◌, ◌≤◌}
use native.Mathlib.Omega.{arith}
use lib.Dec.{eqb}
use lib.IntN.{ℤ, pos, ◌+ℤ◌}
use lib.ListN.{length, length-append}
use mir.Syntax.{w16}
use mir.Val.{of_z}
use Rattle.theory_signed.specs.Parts.{gap}
use Rattle.theory_signed.proofs.Laws.{signed}
use Rattle.theory_intervals.specs.Paint.{Point, pt, run}
use Rattle.theory_intervals.specs.OverInt.{span, upto}
use Rattle.theory_intervals.specs.Cut.{lrem, lstart, rtail, rend, new, lx, Rn, P, H, sw}
use Rattle.theory_intervals.proofs.Tracks.{K, one, sw_all, PT-keep}
use Rattle.list_areas.proofs.Good.{Good}
use Rattle.list_pieces.specs.Passes.{Roomy}

-- what is left before the painted run, and behind it, is one run at most
few_cond : (a b : Bool) (r : Rn) → length (cond a (cond b [] (r ∷ [])) []) ≤ 1
few_cond true true r = omega arith
few_cond true false r = omega arith
few_cond false b r = omega arith

few_left : (x : Point ℤ) (s : ℕ) (ms : List Rn) → length (lrem lx x s ms) ≤ 1
few_left x s [] = omega arith
few_left x s (run p q v ∷ ms) = few_cond (lx p x) (eqb v s) (run p x v)

few_right : (y : Point ℤ) (s : ℕ) (ms : List Rn) → length (rtail lx y s ms) ≤ 1
few_right y s [] = omega arith
few_right y s (run p q v ∷ []) = few_cond (lx y q) (eqb s v) (run y q v)
few_right y s (run p q v ∷ r ∷ ms) = few_right y s (r ∷ ms)

-- so the runs that are reached become at most two more
pub few_new : (x y : Point ℤ) (s : ℕ) (ms : List Rn) → length (new lx x y s ms) ≤ length ms + 2
few_new x y s [] = omega arith
few_new x y s (run p q v ∷ ms) =
    let rs = run p q v ∷ ms in
    omega (arith, length-append (lrem lx x s rs) (run (lstart lx x s rs) (rend lx y s rs) s ∷ rtail lx y s rs), few_left x s rs, few_right y s rs)

module _ (a b s : ℤ) (good : Good a b s) where
  abbrev σ : ℕ
  σ = of_z w16 s

  grows : (t : ℤ) {rs : List Rn} → K rs → length (P a b σ t rs) ≤ length rs + 2
  grows t {rs} k = omega (arith, one a b σ good.less good.state t k, few_new (pt t a) (pt t b) σ (H a b σ t rs))

  sweep_grows : (ts : List ℤ) {rs : List Rn} → K rs → length (sw true a b σ ts rs) ≤ length rs + 2 * length ts
  sweep_grows [] k = omega arith
  sweep_grows (t ∷ ts) {rs} k =
      let m : K (sw true a b σ ts rs) = rw (sw_all a b σ good.less good.state ts rs) (PT-keep a b σ good.less good.state ts k) in
      omega (arith, grows t m, sweep_grows ts k)

length_upto : (n : ℕ) (u : ℤ) → length (upto n u) ≡ n
length_upto zero u = omega arith
length_upto (suc n) u = ap suc (length_upto n (u +ℤ pos 1))

length_span : (a b : ℤ) → length (span a b) ≡ gap a b
unfolding span
length_span a b = length_upto (gap a b) a

-- the sweep of a list with so many places
pub two_each : {a b s : ℤ} (t₁ t₂ : ℤ) {top used : ℕ} {rs : List Rn} → Good a b s → K rs → length rs ≡ used → top ≡ used + 2 * gap t₁ t₂ → Roomy true a b s t₁ t₂ top rs
two_each {a} {b} {s} t₁ t₂ {top} {used} {rs} good k e h =
    record {
      at = λ t l.
          let g : gap t t₂ ≤ gap t₁ t₂ = omega (signed) in
          omega (arith, sweep_grows a b s good (span t t₂) k, length_span t t₂);
    }
