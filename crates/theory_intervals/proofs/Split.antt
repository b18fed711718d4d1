-- A list taken apart by tests at the seams: what lies before an interval, what it reaches, and what lies behind.
use mathlib.Core.Path.{◌≡◌, refl, sym, ap, ◌∙◌, subst}
use mathlib.Core.Bool.{Bool, true, false}
use mathlib.Core.List.{List, [], ◌∷◌, ◌++◌, append_assoc}
use Prim.Native.Nat.{ℕ, suc}
use native.Mathlib.Omega.{arith}
use lib.ListN.{take, drop, length, length-append}
use lib.Seq.{take-append_seam, drop-append_seam}
use Rattle.theory_intervals.specs.Paint.{Run, run, paint}
use Rattle.theory_intervals.specs.Cut.{gapb, new, hit}
use Rattle.theory_intervals.proofs.Line as Ln
use Rattle.theory_intervals.proofs.Line.{Linear, ◌≺◌, ◌≼◌, From, next, Rules}
use Rattle.theory_intervals.proofs.Cut as Cu
use Rattle.theory_intervals.proofs.Cut.{leads, mids}
use Rattle.theory_intervals.proofs.Hit as Hi

one_more : {A : Type 0} (rs xs : List A) (r : A) → xs ≡ rs ++ (r ∷ []) → length xs ≡ suc (length rs)
one_more rs xs r e = omega (arith, ap length e, length-append rs (r ∷ []))

module _ {X : Type 0} (ltb : X → X → Bool) where
  -- the last run does not reach x
  pub data EarlyEnd (x : X) (s : ℕ) : List (Run X) → Type 0 where
    nil : EarlyEnd x s []
    snoc : {xs : List (Run X)} (rs : List (Run X)) (p q : X) (v : ℕ) → xs ≡ rs ++ (run p q v ∷ []) → gapb ltb q v x s ≡ true → EarlyEnd x s xs

  -- the last run is reached from y
  pub data NotLateEnd (y : X) (s : ℕ) : List (Run X) → Type 0 where
    nil : NotLateEnd y s []
    snoc : {xs : List (Run X)} (rs : List (Run X)) (p q : X) (v : ℕ) → xs ≡ rs ++ (run p q v ∷ []) → gapb ltb y s p v ≡ false → NotLateEnd y s xs

  pub data NotEarly (x : X) (s : ℕ) : List (Run X) → Type 0 where
    nil : NotEarly x s []
    cons : {p q : X} {v : ℕ} {rs : List (Run X)} → gapb ltb q v x s ≡ false → NotEarly x s rs → NotEarly x s (run p q v ∷ rs)

  pub data Late (y : X) (s : ℕ) : List (Run X) → Type 0 where
    nil : Late y s []
    cons : {p q : X} {v : ℕ} {rs : List (Run X)} → gapb ltb y s p v ≡ true → Late y s rs → Late y s (run p q v ∷ rs)

  pub late_append : {y : X} {s : ℕ} {xs : List (Run X)} (ys : List (Run X)) → Late y s xs → Late y s ys → Late y s (xs ++ ys)
  late_append ys nil k = k
  late_append ys (cons e h) k = cons e (late_append ys h k)

module _ {X : Type 0} (ltb : X → X → Bool) (L : Linear X ltb) (Ok : ℕ → Type 0) (W : X → X → Type 0) (R : Rules ltb Ok W) where
  abbrev F : X → ℕ → List (Run X) → Type 0
  F = From ltb Ok W

  reach : {z : X} {u : ℕ} (p q : X) (v : ℕ) (rest xs : List (Run X)) → F z u (xs ++ (run p q v ∷ rest)) → ◌≼◌ ltb z p
  reach p q v rest [] (next g w o f) = Ln.gap_le ltb L Ok W R g
  reach {z = z} {u = u} p q v rest (r ∷ xs) (next {b = b} g w o f) = Ln.≤-tra ltb L (Ln.gap_le ltb L Ok W R g) (Ln.≤-tra ltb L (Ln.weak ltb L (R.up w)) (reach {z = b} p q v rest xs f))

  up_of : {z : X} {u : ℕ} (p q : X) (v : ℕ) (rest xs : List (Run X)) → F z u (xs ++ (run p q v ∷ rest)) → ◌≺◌ ltb p q
  up_of p q v rest [] (next g w o f) = R.up w
  up_of {z = z} {u = u} p q v rest (r ∷ xs) (next {b = b} g w o f) = up_of {z = b} p q v rest xs f

  module _ (x y : X) (s : ℕ) (l : ◌≺◌ ltb x y) where
    leads_early : {z : X} {u : ℕ} (p q : X) (v : ℕ) (rest xs : List (Run X)) → F z u (xs ++ (run p q v ∷ rest)) → gapb ltb q v x s ≡ true → leads ltb x s rest ≡ 0
        → leads ltb x s (xs ++ (run p q v ∷ rest)) ≡ suc (length xs)
    leads_early p q v rest [] f e h = rw (e, h)
    leads_early {z = z} {u = u} p q v rest (run c d w ∷ xs) (next g i o f) e h =
        let k : ◌≺◌ ltb d x = Ln.<-≤ ltb L (Ln.≤-< ltb L (reach p q v rest xs f) (up_of p q v rest xs f)) (Ln.gap_le ltb L Ok W R (Cu.gap_yes ltb L Ok W R q v x s e)) in
        rw k.lt (ap suc (leads_early {z = d} p q v rest xs f e h))

    mids_late : {z : X} {u : ℕ} (p q : X) (v : ℕ) (rest xs : List (Run X)) → F z u (xs ++ (run p q v ∷ rest)) → gapb ltb y s p v ≡ false → mids ltb y s rest ≡ 0
        → mids ltb y s (xs ++ (run p q v ∷ rest)) ≡ suc (length xs)
    mids_late p q v rest [] f e h = rw (e, h)
    mids_late {z = z} {u = u} p q v rest (run c d w ∷ xs) (next g i o f) e h =
        let k : ◌≺◌ ltb c y = Ln.<-≤ ltb L (Ln.<-≤ ltb L (R.up i) (reach p q v rest xs f)) (Cu.gap_no ltb L Ok W R y s p v e) in
        rw ((Ln.weak ltb L k).le, k.lt) (ap suc (mids_late {z = d} p q v rest xs f e h))

    late_mids : {rs : List (Run X)} → Late ltb y s rs → mids ltb y s rs ≡ 0
    late_mids nil = refl
    late_mids (cons e h) = rw e

    late_leads : {z : X} {u : ℕ} {rs : List (Run X)} → F z u rs → Late ltb y s rs → leads ltb x s rs ≡ 0
    late_leads f nil = refl
    late_leads (next {a = p} {b = q} {u = v} g w o f) (cons e h) =
        let k : ◌≺◌ ltb x q = Ln.<-tra ltb L (Ln.<-≤ ltb L l (Ln.gap_le ltb L Ok W R (Cu.gap_yes ltb L Ok W R y s p v e))) (R.up w) in
        rw ((Ln.weak ltb L k).le, k.lt)

    after_pre : {z : X} {u : ℕ} (rest pre : List (Run X)) → F z u (pre ++ rest) → (P : Type 0) → ((z' : X) (u' : ℕ) → F z' u' rest → P) → P
    after_pre {z} {u} rest [] f P k = k z u f
    after_pre {z = z} {u = u} rest (r ∷ pre) (next {b = b} g w o f) P k = after_pre {z = b} rest pre f P k

    none_leads : {z : X} {u : ℕ} (mid post : List (Run X)) → F z u (mid ++ post) → NotEarly ltb x s mid → Late ltb y s post → leads ltb x s (mid ++ post) ≡ 0
    none_leads mid post f nil h = late_leads f h
    none_leads mid post f (cons e k) h = rw e

    pre_leads : {z : X} {u : ℕ} (pre mid post : List (Run X)) → F z u (pre ++ (mid ++ post)) → EarlyEnd ltb x s pre → NotEarly ltb x s mid → Late ltb y s post
        → leads ltb x s (pre ++ (mid ++ post)) ≡ length pre
    pre_leads pre mid post f nil n h = none_leads mid post f n h
    pre_leads {z} {u} pre mid post f (snoc rs p q v w e) n h =
        let c : pre ++ (mid ++ post) ≡ rs ++ (run p q v ∷ (mid ++ post)) = ap (λ (k : List (Run X)). k ++ (mid ++ post)) w ∙ append_assoc rs (run p q v ∷ []) (mid ++ post) in
        let k : leads ltb x s (mid ++ post) ≡ 0 = after_pre (mid ++ post) pre f (leads ltb x s (mid ++ post) ≡ 0) (λ z' u' g. none_leads mid post g n h) in
        ap (leads ltb x s) c ∙ leads_early p q v (mid ++ post) rs (subst (F z u) c f) e k ∙ sym (one_more rs pre (run p q v) w)

    mid_mids : {z : X} {u : ℕ} (mid post : List (Run X)) → F z u (mid ++ post) → NotLateEnd ltb y s mid → Late ltb y s post → mids ltb y s (mid ++ post) ≡ length mid
    mid_mids mid post f nil h = late_mids h
    mid_mids {z} {u} mid post f (snoc rs p q v w e) h =
        let c : mid ++ post ≡ rs ++ (run p q v ∷ post) = ap (λ (k : List (Run X)). k ++ post) w ∙ append_assoc rs (run p q v ∷ []) post in
        ap (mids ltb y s) c ∙ mids_late p q v post rs (subst (F z u) c f) e (late_mids h) ∙ sym (one_more rs mid (run p q v) w)

    -- THE CUT, by the tests at its seams
    pub split : {z : X} {u : ℕ} (pre mid post : List (Run X)) → F z u (pre ++ (mid ++ post)) → EarlyEnd ltb x s pre → NotEarly ltb x s mid → NotLateEnd ltb y s mid → Late ltb y s post
        → (hit ltb x y s (pre ++ (mid ++ post)) ≡ mid) × (paint ltb (pre ++ (mid ++ post)) x y s ≡ pre ++ (new ltb x y s mid ++ post))
    split {z} {u} pre mid post f e n m h =
        let A = pre ++ (mid ++ post) in
        let i : leads ltb x s A ≡ length pre = pre_leads pre mid post f e n h in
        let d : drop (leads ltb x s A) A ≡ mid ++ post = ap (λ (k : ℕ). drop k A) i ∙ drop-append_seam pre (mid ++ post) in
        let j : mids ltb y s (drop (leads ltb x s A) A) ≡ length mid = ap (mids ltb y s) d ∙ after_pre (mid ++ post) pre f (mids ltb y s (mid ++ post) ≡ length mid) (λ z' u' g. mid_mids mid post g m h) in
        let t : take (mids ltb y s (drop (leads ltb x s A) A)) (drop (leads ltb x s A) A) ≡ mid = (λ k. take (j k) (d k)) ∙ take-append_seam mid post in
        let r : drop (mids ltb y s (drop (leads ltb x s A) A)) (drop (leads ltb x s A) A) ≡ post = (λ k. drop (j k) (d k)) ∙ drop-append_seam mid post in
        let q : take (leads ltb x s A) A ≡ pre = ap (λ (k : ℕ). take k A) i ∙ take-append_seam pre (mid ++ post) in
        (Hi.hit_is ltb L Ok W R x y s l f ∙ t, Cu.is_cut ltb L Ok W R x y s l f ∙ (λ k. q k ++ (new ltb x y s (t k) ++ r k)))
