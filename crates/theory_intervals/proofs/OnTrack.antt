-- The runs that a track's paint reaches are on it; and the cut by its seams, at the integers.
use mathlib.Core.Path.{◌≡◌, refl}
use mathlib.Core.List.{List, [], ◌∷◌, ◌++◌}
use Prim.Native.Nat.{ℕ}
use lib.IntN.{ℤ}
use lib.Signed.{lt_z}
use Rattle.theory_intervals.specs.Paint.{run, Point, pt, track_of}
use Rattle.theory_intervals.specs.OverInt.{ok}
use Rattle.theory_intervals.specs.Cut.{new, meets, lx, Rn, P, H}
use Rattle.theory_intervals.proofs.Line as Ln
use Rattle.theory_intervals.proofs.Line.{◌≺◌, From, none, next, empty, first, Test, yea, nay, test}
use Rattle.theory_intervals.proofs.Grid as Gr
use Rattle.theory_intervals.proofs.Grid.{Span}
use Rattle.theory_intervals.proofs.IntOrder.{int_linear}
use Rattle.theory_intervals.proofs.Split as Sp
use Rattle.theory_intervals.proofs.Split.{EarlyEnd, NotEarly, NotLateEnd, Late}
use Rattle.theory_intervals.proofs.Tracks as Tr
use Rattle.theory_intervals.proofs.Tracks.{OK, K}

pub data On (t : ℤ) : List Rn → Type 0 where
  nil : On t []
  cons : {p q : Point ℤ} {v : ℕ} {rs : List Rn} → track_of p ≡ t → track_of q ≡ t → On t rs → On t (run p q v ∷ rs)

module _ (a b : ℤ) (s : ℕ) (l : ◌≺◌ lt_z a b) (n : OK s) (t : ℤ) where
  hit_on : {z : Point ℤ} {u : ℕ} {rs : List Rn} → From lx OK (Span lt_z) z u rs → On t (H a b s t rs)
  hit_on none = nil
  hit_on {z} {u} (next {a = p} {b = q} {u = v} {rs = rs} g w o f) = go (test (meets lx (pt t a) (pt t b) s p q v)) (hit_on f)
    where
      go : Test (meets lx (pt t a) (pt t b) s p q v) → On t (H a b s t rs) → On t (H a b s t (run p q v ∷ rs))
      go (yea e) r = let k = Tr.on a b s l n t p q v w e in rw e (cons k.0 k.1 r)
      go (nay e) r = rw e r

  from : (rs : List Rn) → K rs → (Z : Type 0) → ((z : Point ℤ) (u : ℕ) → From lx OK (Span lt_z) z u rs → Z) → Z
  from rs empty Z k = k (pt t a) 0 none
  from rs (first {a = c} w o f) Z k = k c 0 (Ln.start lx (Gr.lex_linear lt_z int_linear) OK (Span lt_z) (Gr.rules lt_z int_linear ok refl) w o f)

  pub reached : (rs : List Rn) → K rs → On t (H a b s t rs)
  reached rs k = from rs k (On t (H a b s t rs)) (λ z u f. hit_on f)

  pub split : (pre mid post : List Rn) → K (pre ++ (mid ++ post)) → EarlyEnd lx (pt t a) s pre → NotEarly lx (pt t a) s mid → NotLateEnd lx (pt t b) s mid → Late lx (pt t b) s post
      → (H a b s t (pre ++ (mid ++ post)) ≡ mid) × (P a b s t (pre ++ (mid ++ post)) ≡ pre ++ (new lx (pt t a) (pt t b) s mid ++ post))
  split pre mid post k e m o h =
      from (pre ++ (mid ++ post)) k ((H a b s t (pre ++ (mid ++ post)) ≡ mid) × (P a b s t (pre ++ (mid ++ post)) ≡ pre ++ (new lx (pt t a) (pt t b) s mid ++ post)))
      (λ z u f. Sp.split lx (Gr.lex_linear lt_z int_linear) OK (Span lt_z) (Gr.rules lt_z int_linear ok refl) (pt t a) (pt t b) s (Tr.up a b s l n t) pre mid post f e m o h)
