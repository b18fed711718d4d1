-- Painting one interval x..y of a line with a state s, as a cut: the runs before it that do not reach it stay (`leads` of them), those that reach it
-- (`mids`) are replaced by `new`, and the others stay. X is any linear order.
use mathlib.Core.Path.{◌≡◌, refl, ap, ◌∙◌}
use mathlib.Core.Bool.{Bool, true, false, cond}
use mathlib.Core.List.{List, [], ◌∷◌, ◌++◌}
use Prim.Native.Nat.{ℕ, suc}
use lib.Dec.{eqb}
use lib.ListN.{take, drop}
use borrow.Author.Tests.{eqb-true, eqb-false, ne_eqb}
use Rattle.theory_intervals.specs.Paint.{Run, run, put, after, before, paint}
use Rattle.theory_intervals.specs.Cut.{gapb, rtail, rend, new}
use Rattle.theory_intervals.proofs.Line as Ln
use Rattle.theory_intervals.proofs.Line.{Linear, ◌≺◌, ◌≼◌, Gap, apart, touch, From, none, next, Rules, Test, yea, nay, test}

module _ {X : Type 0} (ltb : X → X → Bool) where
  -- how many runs there are before the first that reaches the interval from x on
  abbrev pub leads : X → ℕ → List (Run X) → ℕ
  leads x s [] = 0
  leads x s (run p q v ∷ rs) = cond (gapb ltb q v x s) (suc (leads x s rs)) 0

  -- how many runs there are before the first that the interval to y does not reach
  abbrev pub mids : X → ℕ → List (Run X) → ℕ
  mids y s [] = 0
  mids y s (run p q v ∷ rs) = cond (gapb ltb y s p v) 0 (suc (mids y s rs))

  -- the cut
  abbrev pub cut_at : X → X → ℕ → ℕ → ℕ → List (Run X) → List (Run X)
  cut_at x y s n m rs = take n rs ++ (new ltb x y s (take m (drop n rs)) ++ drop m (drop n rs))

module _ {X : Type 0} (ltb : X → X → Bool) (L : Linear X ltb) (Ok : ℕ → Type 0) (W : X → X → Type 0) (R : Rules ltb Ok W) where
  abbrev F : X → ℕ → List (Run X) → Type 0
  F = From ltb Ok W

  pub gap_yes : (q : X) (v : ℕ) (x : X) (s : ℕ) → gapb ltb q v x s ≡ true → Gap ltb q v x s
  gap_yes q v x s h = go (test (ltb q x)) (test (ltb x q)) (test (eqb v s))
    where
      go : Test (ltb q x) → Test (ltb x q) → Test (eqb v s) → Gap ltb q v x s
      go (yea e) i j = apart (record { lt = e })
      go (nay e) (yea i) j = Ln.no_both h (rw (e, i))
      go (nay e) (nay i) (yea j) = Ln.no_both h (rw (e, i, j))
      go (nay e) (nay i) (nay j) = touch (L.con q x e i) (eqb-false v s j)

  pub gap_is : {q : X} {v : ℕ} {x : X} {s : ℕ} → Gap ltb q v x s → gapb ltb q v x s ≡ true
  gap_is (apart h) = rw h.lt
  gap_is {q} {v} {x} {s} (touch e n) = rw (e, L.irr x, ne_eqb v s n)

  pub gap_no : (q : X) (v : ℕ) (x : X) (s : ℕ) → gapb ltb q v x s ≡ false → ◌≼◌ ltb x q
  gap_no q v x s h = go (test (ltb q x))
    where
      go : Test (ltb q x) → ◌≼◌ ltb x q
      go (yea e) = Ln.no_both (rw e) h
      go (nay e) = record { le = e }

  -- ---- put in front of a run that does not touch it
  put_gap : {q c : X} {v u : ℕ} (p d : X) (rs : List (Run X)) → Gap ltb q v c u → put ltb p q v (run c d u ∷ rs) ≡ run p q v ∷ run c d u ∷ rs
  put_gap p d rs (apart h) = rw h.lt
  put_gap {q} {c} {v} {u} p d rs (touch e n) = rw (e, L.irr c, ne_eqb v u n)

  put_apart : {q c : X} {v u : ℕ} (p d : X) (k : List (Run X)) → Gap ltb q v c u → put ltb p q v (put ltb c d u k) ≡ run p q v ∷ put ltb c d u k
  put_apart p d [] g = put_gap p d [] g
  put_apart {q} {c} {v} {u} p d (run e f w ∷ ks) g = go (test (ltb d e)) (test (eqb u w))
    where
      go : Test (ltb d e) → Test (eqb u w) → put ltb p q v (put ltb c d u (run e f w ∷ ks)) ≡ run p q v ∷ put ltb c d u (run e f w ∷ ks)
      go (yea i) j = rw i (put_gap p d (run e f w ∷ ks) g)
      go (nay i) (yea j) = rw (i, j) (put_gap p f ks g)
      go (nay i) (nay j) = rw (i, j) (put_gap p d (run e f w ∷ ks) g)

  module _ (x y : X) (s : ℕ) (l : ◌≺◌ ltb x y) where
    -- a run before the interval stays
    lead_one : {q : X} {v : ℕ} {rs : List (Run X)} (p : X) (k : List (Run X)) → F q v rs → Gap ltb q v x s
        → put ltb p q v (before ltb x rs (put ltb x y s k)) ≡ run p q v ∷ before ltb x rs (put ltb x y s k)
    lead_one p k none g = put_apart p y k g
    lead_one {q} {v} p k (next {a = c} {b = d} {u} {rs} h w o f) g = go (test (ltb c x))
      where
        go : Test (ltb c x) → put ltb p q v (before ltb x (run c d u ∷ rs) (put ltb x y s k)) ≡ run p q v ∷ before ltb x (run c d u ∷ rs) (put ltb x y s k)
        go (yea e) = rw e (put_apart p (cond (ltb x d) x d) (before ltb x rs (put ltb x y s k)) h)
        go (nay e) = rw e (put_apart p y k g)

    -- no run of a list that stands behind q, from x on, starts below x
    before_none : {q : X} {v : ℕ} {rs : List (Run X)} (k : List (Run X)) → F q v rs → ◌≼◌ ltb x q → before ltb x rs k ≡ k
    before_none k none h = refl
    before_none k (next g w o f) h = rw (Ln.≤-tra ltb L h (Ln.gap_le ltb L Ok W R g)).le

    after_none : {q : X} {v : ℕ} {rs : List (Run X)} → F q v rs → ◌≼◌ ltb y q → after ltb y rs ≡ rs
    after_none none h = refl
    after_none {q} {v} (next {a = c} {b = d} {u} {rs} g w o f) h = go (test (ltb y c))
      where
        k : ◌≼◌ ltb y c
        k = Ln.≤-tra ltb L h (Ln.gap_le ltb L Ok W R g)

        go : Test (ltb y c) → after ltb y (run c d u ∷ rs) ≡ run c d u ∷ rs
        go (yea e) = rw ((Ln.≤-< ltb L k (R.up w)).lt, e)
        go (nay e) = rw ((Ln.≤-< ltb L k (R.up w)).lt, e, Ln.anti ltb L k (record { le = e }))

    mids_none : {q : X} {v : ℕ} {rs : List (Run X)} → F q v rs → ◌≺◌ ltb y q → mids ltb y s rs ≡ 0
    mids_none none h = refl
    mids_none (next g w o f) h = rw (Ln.<-≤ ltb L h (Ln.gap_le ltb L Ok W R g)).lt

    rend_skip : (p q : X) (v : ℕ) (ms : List (Run X)) → ltb y q ≡ false → rend ltb y s (run p q v ∷ ms) ≡ rend ltb y s ms
    rend_skip p q v [] e = rw e
    rend_skip p q v (r ∷ ms) e = refl

    rtail_skip : (p q : X) (v : ℕ) (ms : List (Run X)) → ltb y q ≡ false → rtail ltb y s (run p q v ∷ ms) ≡ rtail ltb y s ms
    rtail_skip p q v [] e = rw e
    rtail_skip p q v (r ∷ ms) e = refl

    -- the painted run and what is behind it
    abbrev Right : List (Run X) → Type 0
    Right rs = put ltb x y s (after ltb y rs) ≡ run x (rend ltb y s (take (mids ltb y s rs) rs)) s ∷ (rtail ltb y s (take (mids ltb y s rs) rs) ++ drop (mids ltb y s rs) rs)

    right : {z : X} {u : ℕ} {rs : List (Run X)} → F z u rs → Right rs
    right none = refl
    right {z} {u} (next {a = p} {b = q} {u = v} {rs = rs} g w o f) = go (test (gapb ltb y s p v)) (test (ltb y q)) (test (eqb s v)) (right f)
      where
        go : Test (gapb ltb y s p v) → Test (ltb y q) → Test (eqb s v) → Right rs → Right (run p q v ∷ rs)
        go (yea e) j k r =
            let h = gap_yes y s p v e in
            rw (e, after_none {v = s} (next h w o f) (Ln.≤-refl ltb L)) (put_gap x q rs h)
        go (nay e) (yea j) (yea k) r = rw (e, j, mids_none f (record { lt = j }), (gap_no y s p v e).le, L.irr y, k, j)
        go (nay e) (yea j) (nay k) r = rw (e, j, mids_none f (record { lt = j }), (gap_no y s p v e).le, L.irr y, k, j)
        go (nay e) (nay j) k r = rw (e, j, rend_skip p q v (take (mids ltb y s rs) rs) j, rtail_skip p q v (take (mids ltb y s rs) rs) j) r

    -- where the first run reaches the interval, or lies behind it
    here : {z q p : X} {u v : ℕ} {rs : List (Run X)} → F z u (run p q v ∷ rs) → ◌≼◌ ltb x q
        → paint ltb (run p q v ∷ rs) x y s ≡ cut_at ltb x y s 0 (mids ltb y s (run p q v ∷ rs)) (run p q v ∷ rs)
    here {z} {q} {p} {u} {v} {rs} (next g w o f) h = go (test (gapb ltb y s p v)) (test (ltb p x)) (test (eqb v s)) (test (ltb x q)) (right (next g w o f))
      where
        go : Test (gapb ltb y s p v) → Test (ltb p x) → Test (eqb v s) → Test (ltb x q) → Right (run p q v ∷ rs)
            → paint ltb (run p q v ∷ rs) x y s ≡ cut_at ltb x y s 0 (mids ltb y s (run p q v ∷ rs)) (run p q v ∷ rs)
        go (yea e) i j k r = let m = gap_yes y s p v e in rw ((Ln.weak ltb L (Ln.<-≤ ltb L l (Ln.gap_le ltb L Ok W R m))).le, r, e)
        go (nay e) (nay i) j k r = rw (i, r, e, i)
        go (nay e) (yea i) (yea j) (yea k) r = rw (i, k, r, before_none _ f h, L.irr x, e, i, j, eqb-true v s j)
        go (nay e) (yea i) (nay j) (yea k) r = rw (i, k, r, before_none _ f h, L.irr x, e, i, j)
        go (nay e) (yea i) (yea j) (nay k) r = rw (i, k, r, before_none _ f h, Ln.anti ltb L (record { le = k }) h, L.irr x, e, i, j, eqb-true v s j)
        go (nay e) (yea i) (nay j) (nay k) r = rw (i, k, r, before_none _ f h, Ln.anti ltb L (record { le = k }) h, L.irr x, e, i, j)

    -- PAINTING IS A CUT
    pub is_cut : {z : X} {u : ℕ} {rs : List (Run X)} → F z u rs → paint ltb rs x y s ≡ cut_at ltb x y s (leads ltb x s rs) (mids ltb y s (drop (leads ltb x s rs) rs)) rs
    is_cut none = refl
    is_cut {z} {u} (next {a = p} {b = q} {u = v} {rs = rs} g w o f) = go (test (gapb ltb q v x s)) (is_cut f)
      where
        go : Test (gapb ltb q v x s) → paint ltb rs x y s ≡ cut_at ltb x y s (leads ltb x s rs) (mids ltb y s (drop (leads ltb x s rs) rs)) rs
            → paint ltb (run p q v ∷ rs) x y s ≡ cut_at ltb x y s (leads ltb x s (run p q v ∷ rs)) (mids ltb y s (drop (leads ltb x s (run p q v ∷ rs)) (run p q v ∷ rs))) (run p q v ∷ rs)
        go (nay e) r = rw e (here (next g w o f) (gap_no q v x s e))
        go (yea e) r =
            let h = gap_yes q v x s e in
            let i : ◌≼◌ ltb q x = Ln.gap_le ltb L Ok W R h in
            let j : ◌≺◌ ltb p x = Ln.<-≤ ltb L (R.up w) i in
            let k : ◌≼◌ ltb q y = Ln.weak ltb L (Ln.≤-< ltb L i l) in
            let d : run p q v ∷ paint ltb rs x y s ≡ run p q v ∷ cut_at ltb x y s (leads ltb x s rs) (mids ltb y s (drop (leads ltb x s rs) rs)) rs = ap (λ (z : List (Run X)). run p q v ∷ z) r in
            rw (e, j.lt, i.le, k.le) (lead_one p (after ltb y rs) f h ∙ d)
