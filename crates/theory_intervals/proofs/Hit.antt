-- The runs that an interval reaches, and how many runs painting leaves.
use mathlib.Core.Path.{◌≡◌, refl, sym, ap, ◌∙◌}
use mathlib.Core.Bool.{Bool, true, false}
use mathlib.Core.List.{List, [], ◌∷◌, ◌++◌}
use Prim.Native.Nat.{ℕ, ◌+◌}
use native.Mathlib.Omega.{arith}
use lib.Dec.{eqb}
use lib.ListN.{take, drop, length, length-append, take-append-drop}
use Rattle.theory_intervals.specs.Paint.{Run, run, paint}
use Rattle.theory_intervals.specs.Cut.{gapb, lrem, lstart, rtail, rend, new, meets, hit}
use Rattle.theory_intervals.proofs.Line as Ln
use Rattle.theory_intervals.proofs.Line.{Linear, ◌≺◌, ◌≼◌, From, none, next, Rules, Test, yea, nay, test}
use Rattle.theory_intervals.proofs.Cut as Cu
use Rattle.theory_intervals.proofs.Cut.{leads, mids}

module _ {X : Type 0} (ltb : X → X → Bool) where
  pub hit_append : (x y : X) (s : ℕ) (xs ys : List (Run X)) → hit ltb x y s (xs ++ ys) ≡ hit ltb x y s xs ++ hit ltb x y s ys
  hit_append x y s [] ys = refl
  hit_append x y s (run p q v ∷ xs) ys = go (test (meets ltb x y s p q v)) (hit_append x y s xs ys)
    where
      go : Test (meets ltb x y s p q v) → hit ltb x y s (xs ++ ys) ≡ hit ltb x y s xs ++ hit ltb x y s ys → hit ltb x y s (run p q v ∷ (xs ++ ys)) ≡ hit ltb x y s (run p q v ∷ xs) ++ hit ltb x y s ys
      go (yea e) r = rw e (ap (λ (z : List (Run X)). run p q v ∷ z) r)
      go (nay e) r = rw e r

module _ {X : Type 0} (ltb : X → X → Bool) (L : Linear X ltb) (Ok : ℕ → Type 0) (W : X → X → Type 0) (R : Rules ltb Ok W) where
  abbrev F : X → ℕ → List (Run X) → Type 0
  F = From ltb Ok W

  module _ (x y : X) (s : ℕ) (l : ◌≺◌ ltb x y) where
    hit_late : {z : X} {u : ℕ} {rs : List (Run X)} → F z u rs → ◌≺◌ ltb y z → hit ltb x y s rs ≡ []
    hit_late none h = refl
    hit_late {z} {u} (next {a = p} {b = q} {u = v} {rs = rs} g w o f) h = go (test (gapb ltb q v x s)) (hit_late f (Ln.<-tra ltb L k (R.up w)))
      where
        k : ◌≺◌ ltb y p
        k = Ln.<-≤ ltb L h (Ln.gap_le ltb L Ok W R g)

        go : Test (gapb ltb q v x s) → hit ltb x y s rs ≡ [] → hit ltb x y s (run p q v ∷ rs) ≡ []
        go (yea e) r = rw e r
        go (nay e) r = rw (e, k.lt) r

    hit_from : {z : X} {u : ℕ} {rs : List (Run X)} → F z u rs → ◌≼◌ ltb x z → hit ltb x y s rs ≡ take (mids ltb y s rs) rs
    hit_from none h = refl
    hit_from {z} {u} (next {a = p} {b = q} {u = v} {rs = rs} g w o f) h = go (test (gapb ltb y s p v)) (hit_from f (Ln.weak ltb L k))
      where
        k : ◌≺◌ ltb x q
        k = Ln.≤-< ltb L (Ln.≤-tra ltb L h (Ln.gap_le ltb L Ok W R g)) (R.up w)

        go : Test (gapb ltb y s p v) → hit ltb x y s rs ≡ take (mids ltb y s rs) rs → hit ltb x y s (run p q v ∷ rs) ≡ take (mids ltb y s (run p q v ∷ rs)) (run p q v ∷ rs)
        go (yea e) r = let j = Ln.gap_le ltb L Ok W R (Cu.gap_yes ltb L Ok W R y s p v e) in rw (e, (Ln.weak ltb L k).le, k.lt, hit_late f (Ln.≤-< ltb L j (R.up w)))
        go (nay e) r = rw (e, (Ln.weak ltb L k).le, k.lt) (ap (λ (z : List (Run X)). run p q v ∷ z) r)

    pub hit_is : {z : X} {u : ℕ} {rs : List (Run X)} → F z u rs → hit ltb x y s rs ≡ take (mids ltb y s (drop (leads ltb x s rs) rs)) (drop (leads ltb x s rs) rs)
    hit_is none = refl
    hit_is {z} {u} (next {a = p} {b = q} {u = v} {rs = rs} g w o f) = go (test (gapb ltb q v x s)) (test (gapb ltb y s p v)) (hit_is f)
      where
        go : Test (gapb ltb q v x s) → Test (gapb ltb y s p v) → hit ltb x y s rs ≡ take (mids ltb y s (drop (leads ltb x s rs) rs)) (drop (leads ltb x s rs) rs)
            → hit ltb x y s (run p q v ∷ rs) ≡ take (mids ltb y s (drop (leads ltb x s (run p q v ∷ rs)) (run p q v ∷ rs))) (drop (leads ltb x s (run p q v ∷ rs)) (run p q v ∷ rs))
        go (yea e) i r = rw e r
        go (nay e) (yea i) r = let j = Ln.gap_le ltb L Ok W R (Cu.gap_yes ltb L Ok W R y s p v i) in rw (e, i, hit_late f (Ln.≤-< ltb L j (R.up w)))
        go (nay e) (nay i) r = rw (e, i) (ap (λ (z : List (Run X)). run p q v ∷ z) (hit_from f (Cu.gap_no ltb L Ok W R q v x s e)))

    -- a list and what painting makes of it: they differ in the runs that are reached
    pub record Cutting (rs : List (Run X)) : Type 0 where
      pub pre : List (Run X)
      pub post : List (Run X)
      pub was : rs ≡ pre ++ (hit ltb x y s rs ++ post)
      pub becomes : paint ltb rs x y s ≡ pre ++ (new ltb x y s (hit ltb x y s rs) ++ post)

    pub cutting : {z : X} {u : ℕ} {rs : List (Run X)} → F z u rs → Cutting rs
    cutting {z} {u} {rs} f =
        let n = leads ltb x s rs in
        let m = mids ltb y s (drop n rs) in
        let e : hit ltb x y s rs ≡ take m (drop n rs) = hit_is f in
        record {
          pre = take n rs;
          post = drop m (drop n rs);
          was = sym (take-append-drop n rs) ∙ ap (λ (k : List (Run X)). take n rs ++ k) (sym (take-append-drop m (drop n rs)) ∙ ap (λ (k : List (Run X)). k ++ drop m (drop n rs)) (sym e));
          becomes = Cu.is_cut ltb L Ok W R x y s l f ∙ ap (λ (k : List (Run X)). take n rs ++ (new ltb x y s k ++ drop m (drop n rs))) (sym e);
        }

    pub count_one : {z : X} {u : ℕ} {rs : List (Run X)} → F z u rs → length (paint ltb rs x y s) + length (hit ltb x y s rs) ≡ length rs + length (new ltb x y s (hit ltb x y s rs))
    count_one {z} {u} {rs} f =
        let c = cutting f in
        let h = hit ltb x y s rs in
        let a : length rs ≡ length c.pre + (length h + length c.post) = ap length c.was ∙ length-append c.pre (h ++ c.post) ∙ ap (λ (k : ℕ). length c.pre + k) (length-append h c.post) in
        let b : length (paint ltb rs x y s) ≡ length c.pre + (length (new ltb x y s h) + length c.post) =
        ap length c.becomes ∙ length-append c.pre (new ltb x y s h ++ c.post) ∙ ap (λ (k : ℕ). length c.pre + k) (length-append (new ltb x y s h) c.post) in
        omega arith

  -- ---- two intervals that have no run in common: B says that a point belongs to the second, x'..y'
  module _ (x y x' y' : X) (s : ℕ) (l : ◌≺◌ ltb x' y') (B : X → Type 0) (bx : B x') (by : B y')
      (off : (p q : X) (v : ℕ) → B p → B q → meets ltb x y s p q v ≡ false)
      (on : (p q : X) (v : ℕ) → W p q → meets ltb x' y' s p q v ≡ true → B p × B q) where
    data Bs : List (Run X) → Type 0 where
      nil : Bs []
      cons : {p q : X} {v : ℕ} {ms : List (Run X)} → B p → B q → Bs ms → Bs (run p q v ∷ ms)

    hit_bs : {z : X} {u : ℕ} {rs : List (Run X)} → F z u rs → Bs (hit ltb x' y' s rs)
    hit_bs none = nil
    hit_bs {z} {u} (next {a = p} {b = q} {u = v} {rs = rs} g w o f) = go (test (meets ltb x' y' s p q v)) (hit_bs f)
      where
        go : Test (meets ltb x' y' s p q v) → Bs (hit ltb x' y' s rs) → Bs (hit ltb x' y' s (run p q v ∷ rs))
        go (yea e) r = let k = on p q v w e in rw e (cons k.0 k.1 r)
        go (nay e) r = rw e r

    bs_off : {ms : List (Run X)} → Bs ms → hit ltb x y s ms ≡ []
    bs_off nil = refl
    bs_off (cons {p = p} {q} {v} {ms} b c r) = rw (off p q v b c) (bs_off r)

    bs_append : {ms ns : List (Run X)} → Bs ms → Bs ns → Bs (ms ++ ns)
    bs_append nil t = t
    bs_append (cons b c r) t = cons b c (bs_append r t)

    bs_lrem : {ms : List (Run X)} → Bs ms → Bs (lrem ltb x' s ms) × B (lstart ltb x' s ms)
    bs_lrem nil = (nil, bx)
    bs_lrem (cons {p = p} {q} {v} {ms} b c r) = go (test (ltb p x')) (test (eqb v s))
      where
        go : Test (ltb p x') → Test (eqb v s) → Bs (lrem ltb x' s (run p q v ∷ ms)) × B (lstart ltb x' s (run p q v ∷ ms))
        go (nay e) i = (rw e nil, rw e bx)
        go (yea e) (yea i) = (rw (e, i) nil, rw (e, i) b)
        go (yea e) (nay i) = (rw (e, i) (cons b bx nil), rw (e, i) bx)

    bs_rtail : {ms : List (Run X)} → Bs ms → Bs (rtail ltb y' s ms) × B (rend ltb y' s ms)
    bs_rtail nil = (nil, by)
    bs_rtail (cons b c (cons b' c' r)) = bs_rtail (cons b' c' r)
    bs_rtail (cons {p = p} {q} {v} b c nil) = go (test (ltb y' q)) (test (eqb s v))
      where
        go : Test (ltb y' q) → Test (eqb s v) → Bs (rtail ltb y' s (run p q v ∷ [])) × B (rend ltb y' s (run p q v ∷ []))
        go (nay e) i = (rw e nil, rw e by)
        go (yea e) (yea i) = (rw (e, i) nil, rw (e, i) c)
        go (yea e) (nay i) = (rw (e, i) (cons by c nil), rw (e, i) by)

    bs_new : {ms : List (Run X)} → Bs ms → Bs (new ltb x' y' s ms)
    bs_new r = let a = bs_lrem r in let b = bs_rtail r in bs_append a.0 (cons a.1 b.1 b.0)

    -- painting the second changes nothing of what the first reaches
    pub other : {z : X} {u : ℕ} {rs : List (Run X)} → F z u rs → hit ltb x y s (paint ltb rs x' y' s) ≡ hit ltb x y s rs
    other {z} {u} {rs} f =
        let c = cutting x' y' s l f in
        let h = hit ltb x' y' s rs in
        let b = hit_bs f in
        let same : (ms : List (Run X)) → Bs ms → hit ltb x y s (c.pre ++ (ms ++ c.post)) ≡ hit ltb x y s c.pre ++ hit ltb x y s c.post =
        λ ms k. rw (hit_append ltb x y s c.pre (ms ++ c.post), hit_append ltb x y s ms c.post, bs_off k) in
        ap (hit ltb x y s) c.becomes ∙ same (new ltb x' y' s h) (bs_new b) ∙ sym (ap (hit ltb x y s) c.was ∙ same h b)
