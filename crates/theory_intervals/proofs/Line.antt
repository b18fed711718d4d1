-- Runs on a line. X is any linear order, given by its test `ltb`. Assumes nothing beyond the order's laws.
use mathlib.Core.Path.{◌≡◌, refl, sym, ◌∙◌}
use mathlib.Core.Bool.{Bool, true, false, not, cond, true≢false}
use mathlib.Core.List.{List, [], ◌∷◌}
use mathlib.Core.Logic.{◌≢◌}
use Prim.Native.Nat.{ℕ}
use lib.Dec.{eqb}
use borrow.Author.Tests.{eqb-true, eqb-false}
use Rattle.theory_intervals.specs.Paint.{Run, run, put, after, before, paint}

-- ---- linear orders by a test

pub record Linear (X : Type 0) (ltb : X → X → Bool) : Type 0 where
  pub irr : (x : X) → ltb x x ≡ false
  pub tra : (x y z : X) → ltb x y ≡ true → ltb y z ≡ true → ltb x z ≡ true
  pub con : (x y : X) → ltb x y ≡ false → ltb y x ≡ false → x ≡ y

module _ {X : Type 0} (ltb : X → X → Bool) where
  -- the state of a point: that of the first run that has it, and 0 in none
  abbrev pub cell : List (Run X) → X → ℕ
  cell [] p = 0
  cell (run a b s ∷ rs) p = cond (not (ltb p a)) (cond (ltb p b) s (cell rs p)) (cell rs p)

  infix 50 ◌≺◌ ◌≼◌
  pub record ◌≺◌ (x y : X) : Type 0 where
    pub lt : ltb x y ≡ true

  pub record ◌≼◌ (x y : X) : Type 0 where
    pub le : ltb y x ≡ false

  -- what may stand between the end p of a run of state s and the next run, which starts at a and has state u
  pub data Gap (p : X) (s : ℕ) (a : X) (u : ℕ) : Type 0 where
    apart : p ≺ a → Gap p s a u
    touch : p ≡ a → s ≢ u → Gap p s a u

-- Ok: the states that a run may have. W: the ends that it may have
module _ {X : Type 0} (ltb : X → X → Bool) (Ok : ℕ → Type 0) (W : X → X → Type 0) where
  -- the list may stand behind a run that ends at p and has state s
  pub data From : X → ℕ → List (Run X) → Type 0 where
    none : {p : X} {s : ℕ} → From p s []
    next : {p : X} {s : ℕ} {a b : X} {u : ℕ} {rs : List (Run X)} → Gap ltb p s a u → W a b → Ok u → From b u rs → From p s (run a b u ∷ rs)

  pub data Keeps : List (Run X) → Type 0 where
    empty : Keeps []
    first : {a b : X} {u : ℕ} {rs : List (Run X)} → W a b → Ok u → From b u rs → Keeps (run a b u ∷ rs)

-- what `Ok` and `W` must meet: no run is empty, and what is cut from a run, or joined from two that touch, may be a run
pub record Rules {X : Type 0} (ltb : X → X → Bool) (Ok : ℕ → Type 0) (W : X → X → Type 0) : Type 0 where
  pub nz : {s : ℕ} → Ok s → s ≢ 0
  pub up : {a b : X} → W a b → ◌≺◌ ltb a b
  pub join : {a b c : X} → W a b → W b c → W a c
  pub head : {a b c : X} → W a c → ◌≺◌ ltb a b → ◌≼◌ ltb b c → W a b
  pub tail : {a b c : X} → W a c → ◌≼◌ ltb a b → ◌≺◌ ltb b c → W b c

-- ---- which way a test goes, as a thing to match on

pub data Test (b : Bool) : Type 0 where
  yea : b ≡ true → Test b
  nay : b ≡ false → Test b

pub test : (b : Bool) → Test b
test true = yea refl
test false = nay refl

pub no_both {ℓ} : {A : Type ℓ} {b : Bool} → b ≡ true → b ≡ false → A
no_both p q = absurd (true≢false (sym p ∙ q))

module _ {X : Type 0} (ltb : X → X → Bool) (L : Linear X ltb) where
  infix 50 ◌<◌ ◌≤◌
  abbrev ◌<◌ : X → X → Type 0
  x < y = ◌≺◌ ltb x y

  abbrev ◌≤◌ : X → X → Type 0
  x ≤ y = ◌≼◌ ltb x y

  -- ---- the order's laws

  pub ≤-refl : {x : X} → x ≤ x
  ≤-refl {x} = record { le = L.irr x }

  pub clash {ℓ} : {A : Type ℓ} {x y : X} → x < y → y ≤ x → A
  clash h k = no_both h.lt k.le

  pub <-tra : {x y z : X} → x < y → y < z → x < z
  <-tra {x} {y} {z} h k = record { lt = L.tra x y z h.lt k.lt }

  pub <-≤ : {x y z : X} → x < y → y ≤ z → x < z
  <-≤ {x} {y} {z} h k = go (test (ltb x z)) (test (ltb y z))
    where
      go : Test (ltb x z) → Test (ltb y z) → x < z
      go (yea e) t = record { lt = e }
      go (nay e) (yea f) = <-tra h (record { lt = f })
      go (nay e) (nay f) = rw (L.con y z f k.le) at h

  pub ≤-< : {x y z : X} → x ≤ y → y < z → x < z
  ≤-< {x} {y} {z} h k = go (test (ltb x z)) (test (ltb x y))
    where
      go : Test (ltb x z) → Test (ltb x y) → x < z
      go (yea e) t = record { lt = e }
      go (nay e) (yea f) = <-tra (record { lt = f }) k
      go (nay e) (nay f) = rw (L.con x y f h.le) k

  pub weak : {x y : X} → x < y → x ≤ y
  weak {x} {y} h = go (test (ltb y x))
    where
      go : Test (ltb y x) → x ≤ y
      go (yea e) = no_both (<-tra h (record { lt = e })).lt (L.irr x)
      go (nay e) = record { le = e }

  pub ≤-tra : {x y z : X} → x ≤ y → y ≤ z → x ≤ z
  ≤-tra {x} {y} {z} h k = go (test (ltb z x))
    where
      go : Test (ltb z x) → x ≤ z
      go (yea e) = clash (<-≤ (record { lt = e }) h) k
      go (nay e) = record { le = e }

  pub anti : {x y : X} → x ≤ y → y ≤ x → x ≡ y
  anti {x} {y} h k = L.con x y k.le h.le

  pub data Side (x y : X) : Type 0 where
    less : x < y → Side x y
    more : y ≤ x → Side x y

  pub side : (x y : X) → Side x y
  side x y = go (test (ltb x y))
    where
      go : Test (ltb x y) → Side x y
      go (yea e) = less (record { lt = e })
      go (nay e) = more (record { le = e })

  -- ---- the three places of a point and a run

  pub cell_lo : {a p : X} (b : X) (s : ℕ) (rs : List (Run X)) → p < a → cell ltb (run a b s ∷ rs) p ≡ cell ltb rs p
  cell_lo b s rs h = rw h.lt

  pub cell_in : {a b p : X} (s : ℕ) (rs : List (Run X)) → a ≤ p → p < b → cell ltb (run a b s ∷ rs) p ≡ s
  cell_in s rs h k = rw (h.le, k.lt)

  pub cell_hi : {b p : X} (a : X) (s : ℕ) (rs : List (Run X)) → b ≤ p → cell ltb (run a b s ∷ rs) p ≡ cell ltb rs p
  cell_hi {b} {p} a s rs h = go (test (ltb p a))
    where
      go : Test (ltb p a) → cell ltb (run a b s ∷ rs) p ≡ cell ltb rs p
      go (yea e) = rw e
      go (nay e) = rw (e, h.le)

  pub data Place (a b p : X) : Type 0 where
    lower : p < a → Place a b p
    inner : a ≤ p → p < b → Place a b p
    upper : a ≤ p → b ≤ p → Place a b p

  pub place : (a b p : X) → Place a b p
  place a b p = go (side p a) (side p b)
    where
      go : Side p a → Side p b → Place a b p
      go (less h) k = lower h
      go (more h) (less k) = inner h k
      go (more h) (more k) = upper h k

  -- ---- a list that stands behind a point

  module _ (Ok : ℕ → Type 0) (W : X → X → Type 0) (R : Rules ltb Ok W) where
    abbrev F : X → ℕ → List (Run X) → Type 0
    F = From ltb Ok W

    pub gap_le : {p a : X} {s u : ℕ} → Gap ltb p s a u → p ≤ a
    gap_le (apart h) = weak h
    gap_le {p} (touch e n) = rw (← e) ≤-refl

    -- it has nothing below that point
    pub below : {x q : X} {s : ℕ} {rs : List (Run X)} → F x s rs → q < x → cell ltb rs q ≡ 0
    below none h = refl
    below (next {b = b} {u} {rs} g l n f) h =
        let k = <-≤ h (gap_le g) in
        cell_lo b u rs k ∙ below f (<-tra k (R.up l))

    -- and at that point not the state of the run before
    pub at_start : {x : X} {s : ℕ} {rs : List (Run X)} → F x s rs → s ≢ 0 → cell ltb rs x ≢ s
    at_start none n e = n (sym e)
    at_start (next {b = b} {u} {rs} (apart h) l m f) n e = n (sym e ∙ cell_lo b u rs h ∙ below f (<-tra h (R.up l)))
    at_start {x} {s} (next {a = a} {b} {u} {rs} (touch q d) l m f) n e =
        d (sym e ∙ cell_in u rs (rw q ≤-refl) (rw q (R.up l)))

    -- ---- uniqueness

    pub record Same (rs qs : List (Run X)) : Type 0 where
      pub at : (p : X) → cell ltb rs p ≡ cell ltb qs p

    back : {rs qs : List (Run X)} → Same rs qs → Same qs rs
    back h = record { at = λ p. sym (h.at p) }

    -- a run does not start where the other list has nothing
    early : {a b : X} {u : ℕ} {rs qs : List (Run X)} → a < b → u ≢ 0 → Same (run a b u ∷ rs) qs → cell ltb qs a ≢ 0
    early {a} {u = u} {rs} l n h z = n (sym (cell_in u rs ≤-refl l) ∙ h.at a ∙ z)

    module _ {a b c d : X} {u v : ℕ} {rs qs : List (Run X)} (l : a < b) (n : u ≢ 0) (f : F b u rs) (m : c < d) (g : F d v qs) (h : Same (run a b u ∷ rs) (run c d v ∷ qs)) where
      start_le : c ≤ a
      start_le = go (side a c)
        where
          go : Side a c → c ≤ a
          go (less k) = absurd (early l n h (cell_lo d v qs k ∙ below g (<-tra k m)))
          go (more k) = k

      state_eq : a ≤ c → u ≡ v
      state_eq k = sym (cell_in u rs ≤-refl l) ∙ h.at a ∙ cell_in v qs start_le (≤-< k m)

      end_le : a ≤ c → d ≤ b
      end_le k = go (side b d)
        where
          go : Side b d → d ≤ b
          go (less j) = absurd (at_start f n (sym (cell_hi a u rs ≤-refl) ∙ h.at b ∙ cell_in v qs (weak (≤-< start_le l)) j ∙ sym (state_eq k)))
          go (more j) = j

      tails : b ≡ d → Same rs qs
      tails e = record { at = λ p. go p (side p b) }
        where
          go : (p : X) → Side p b → cell ltb rs p ≡ cell ltb qs p
          go p (less k) = below f k ∙ sym (below g (rw e at k))
          go p (more k) = sym (cell_hi a u rs k) ∙ h.at p ∙ cell_hi c v qs (rw e at k)

    pub uniq : {x y : X} {s t : ℕ} {rs qs : List (Run X)} → F x s rs → F y t qs → Same rs qs → rs ≡ qs
    uniq none none h = refl
    uniq none (next g l n f) h = absurd (early (R.up l) (R.nz n) (back h) refl)
    uniq (next g l n f) none h = absurd (early (R.up l) (R.nz n) h refl)
    uniq (next {a = a} {b} {u} {rs} g w z f) (next {a = c} {b = d} {u = v} {rs = qs} g' w' v' f') h =
        let l = R.up w in
        let n = R.nz z in
        let l' = R.up w' in
        let n' = R.nz v' in
        let p = start_le l n f l' f' h in
        let q = start_le l' n' f' l f (back h) in
        let e : a ≡ c = anti q p in
        let i : b ≡ d = anti (end_le l' n' f' l f (back h) p) (end_le l n f l' f' h q) in
        let j : u ≡ v = state_eq l n f l' f' h q in
        let k : rs ≡ qs = uniq f f' (tails l n f l' f' h i) in
        cc

    -- ---- weaker bounds: `From x 0` says only that nothing stands below x

    gap₀ : {x a : X} {u : ℕ} → x ≤ a → Ok u → Gap ltb x 0 a u
    gap₀ {x} {a} {u} h n = go (side x a)
      where
        go : Side x a → Gap ltb x 0 a u
        go (less k) = apart k
        go (more k) = touch (anti h k) (λ e. R.nz n (sym e))

    pub relax : {x y : X} {s : ℕ} {rs : List (Run X)} → x ≤ y → F y s rs → F x 0 rs
    relax h none = none
    relax h (next g l n f) = next (gap₀ (≤-tra h (gap_le g)) n) l n f

    -- ---- put

    pub put_cell : {a b : X} {t : ℕ} {rs : List (Run X)} (s : ℕ) → a < b → F b t rs → (p : X) → cell ltb (put ltb a b s rs) p ≡ cell ltb (run a b s ∷ rs) p
    put_cell s l none p = refl
    put_cell {a} {b} s l (next {a = c} {b = d} {u} {rs} g w n f) p = go (test (ltb b c)) (test (eqb s u))
      where
        merged : b ≡ c → s ≡ u → Place a b p → Side p d → cell ltb (run a d s ∷ rs) p ≡ cell ltb (run a b s ∷ run c d u ∷ rs) p
        merged e i (lower h) k = cell_lo d s rs h ∙ sym (cell_lo b s (run c d u ∷ rs) h ∙ cell_lo d u rs (rw e at (<-tra h l)))
        merged e i (inner h j) k = cell_in s rs h (<-tra j (≤-< (gap_le g) (R.up w))) ∙ sym (cell_in s (run c d u ∷ rs) h j)
        merged e i (upper h j) (less k) = cell_in s rs h k ∙ i ∙ sym (cell_hi a s (run c d u ∷ rs) j ∙ cell_in u rs (rw e at j) k)
        merged e i (upper h j) (more k) = cell_hi a s rs k ∙ sym (cell_hi a s (run c d u ∷ rs) j ∙ cell_hi c u rs k)

        go : Test (ltb b c) → Test (eqb s u) → cell ltb (put ltb a b s (run c d u ∷ rs)) p ≡ cell ltb (run a b s ∷ run c d u ∷ rs) p
        go (yea e) t = rw e
        go (nay e) (nay i) = rw (e, i)
        go (nay e) (yea i) = rw (e, i) (merged (anti (gap_le g) (record { le = e })) (eqb-true s u i) (place a b p) (side p d))

    pub put_from : {x a b : X} {t s : ℕ} {rs : List (Run X)} → x ≤ a → W a b → Ok s → F b t rs → F x 0 (put ltb a b s rs)
    put_from h l n none = next (gap₀ h n) l n none
    put_from {x} {a} {b} {s = s} h l n (next {a = c} {b = d} {u} {rs} g m o f) = go (test (ltb b c)) (test (eqb s u))
      where
        go : Test (ltb b c) → Test (eqb s u) → F x 0 (put ltb a b s (run c d u ∷ rs))
        go (yea e) t = rw e (next (gap₀ h n) l n (next (apart (record { lt = e })) m o f))
        go (nay e) (nay i) = rw (e, i) (next (gap₀ h n) l n (next (touch (anti (gap_le g) (record { le = e })) (eqb-false s u i)) m o f))
        go (nay e) (yea i) = rw (e, i) (next (gap₀ h n) (R.join l (rw (← (anti (gap_le g) (record { le = e }))) at m)) n (rw (← (eqb-true s u i)) at f))

    -- ---- after

    pub after_from : {x : X} {s : ℕ} {rs : List (Run X)} (b : X) → F x s rs → F b 0 (after ltb b rs)
    after_from b none = none
    after_from b (next {a = c} {b = d} {u} {rs} g l n f) = go (after_from b f) (test (ltb b d)) (test (ltb b c))
      where
        go : F b 0 (after ltb b rs) → Test (ltb b d) → Test (ltb b c) → F b 0 (after ltb b (run c d u ∷ rs))
        go r (nay e) t = rw e r
        go r (yea e) (yea i) = rw (e, i) (next (apart (record { lt = i })) l n f)
        go r (yea e) (nay i) = rw (e, i) (next (gap₀ ≤-refl n) (R.tail l (record { le = i }) (record { lt = e })) n f)

    pub after_cell : {x b p : X} {s : ℕ} {rs : List (Run X)} → F x s rs → b ≤ p → cell ltb (after ltb b rs) p ≡ cell ltb rs p
    after_cell none h = refl
    after_cell {b = b} {p} (next {a = c} {b = d} {u} {rs} g l n f) h = go (after_cell f h) (test (ltb b d)) (test (ltb b c)) (side p d)
      where
        go : cell ltb (after ltb b rs) p ≡ cell ltb rs p → Test (ltb b d) → Test (ltb b c) → Side p d → cell ltb (after ltb b (run c d u ∷ rs)) p ≡ cell ltb (run c d u ∷ rs) p
        go r (nay e) t k = rw e (r ∙ sym (cell_hi c u rs (≤-tra (record { le = e }) h)))
        go r (yea e) (yea i) k = rw (e, i)
        go r (yea e) (nay i) (less k) = rw (e, i) (cell_in u rs h k ∙ sym (cell_in u rs (≤-tra (record { le = i }) h) k))
        go r (yea e) (nay i) (more k) = rw (e, i) (cell_hi b u rs k ∙ sym (cell_hi c u rs k))

    -- ---- before

    cut_l : (a d : X) → cond (ltb a d) a d ≤ a
    cut_l a d = go (test (ltb a d))
      where
        go : Test (ltb a d) → cond (ltb a d) a d ≤ a
        go (yea e) = rw e ≤-refl
        go (nay e) = rw e (record { le = e })

    cut_r : (a d : X) → cond (ltb a d) a d ≤ d
    cut_r a d = go (test (ltb a d))
      where
        go : Test (ltb a d) → cond (ltb a d) a d ≤ d
        go (yea e) = rw e (weak (record { lt = e }))
        go (nay e) = rw e ≤-refl

    cut_gt : {c a d : X} → c < a → c < d → c < cond (ltb a d) a d
    cut_gt {c} {a} {d} h k = go (test (ltb a d))
      where
        go : Test (ltb a d) → c < cond (ltb a d) a d
        go (yea e) = rw e h
        go (nay e) = rw e k

    -- a point from the cut on that is below a is from d on
    cut_hi : {a d p : X} → cond (ltb a d) a d ≤ p → p < a → d ≤ p
    cut_hi {a} {d} {p} h k = go (test (ltb a d))
      where
        go : Test (ltb a d) → d ≤ p
        go (yea e) = clash k (rw e at h)
        go (nay e) = rw e at h

    pub before_from : {x y a : X} {s t : ℕ} {rs k : List (Run X)} → x ≤ y → x ≤ a → F y s rs → F a t k → F x 0 (before ltb a rs k)
    before_from h j none i = relax j i
    before_from {x} {y} {a} {k = k} h j (next {a = c} {b = d} {u} {rs} g l n f) i = go (test (ltb c a)) (before_from {x = cond (ltb a d) a d} (cut_r a d) (cut_l a d) f i)
      where
        go : Test (ltb c a) → F (cond (ltb a d) a d) 0 (before ltb a rs k) → F x 0 (before ltb a (run c d u ∷ rs) k)
        go (nay e) r = rw e (relax j i)
        go (yea e) r = rw e (put_from (≤-tra h (gap_le g)) (R.head l (cut_gt (record { lt = e }) (R.up l)) (cut_r a d)) n r)

    pub before_lo : {y a p : X} {s t : ℕ} {rs k : List (Run X)} → F y s rs → F a t k → p < a → cell ltb (before ltb a rs k) p ≡ cell ltb rs p
    before_lo none i h = below i h
    before_lo {y} {a} {p} {k = k} (next {a = c} {b = d} {u} {rs} g l n f) i h = go (test (ltb c a)) (before_from (cut_r a d) (cut_l a d) f i) (before_lo f i h) (place c (cond (ltb a d) a d) p)
      where
        go : Test (ltb c a) → F (cond (ltb a d) a d) 0 (before ltb a rs k) → cell ltb (before ltb a rs k) p ≡ cell ltb rs p → Place c (cond (ltb a d) a d) p
            → cell ltb (before ltb a (run c d u ∷ rs) k) p ≡ cell ltb (run c d u ∷ rs) p
        go (nay e) q r w = let z = <-≤ h (record { le = e }) in rw e (below i h ∙ sym (cell_lo d u rs z ∙ below f (<-tra z (R.up l))))
        go (yea e) q r (lower z) = rw e (put_cell u (cut_gt (record { lt = e }) (R.up l)) q p ∙ cell_lo _ u (before ltb a rs k) z ∙ r ∙ sym (cell_lo d u rs z))
        go (yea e) q r (inner z w) = rw e (put_cell u (cut_gt (record { lt = e }) (R.up l)) q p ∙ cell_in u (before ltb a rs k) z w ∙ sym (cell_in u rs z (<-≤ w (cut_r a d))))
        go (yea e) q r (upper z w) = rw e (put_cell u (cut_gt (record { lt = e }) (R.up l)) q p ∙ cell_hi c u (before ltb a rs k) w ∙ r ∙ sym (cell_hi c u rs (cut_hi w h)))

    pub before_hi : {y a p : X} {s t : ℕ} {rs k : List (Run X)} → F y s rs → F a t k → a ≤ p → cell ltb (before ltb a rs k) p ≡ cell ltb k p
    before_hi none i h = refl
    before_hi {y} {a} {p} {k = k} (next {a = c} {b = d} {u} {rs} g l n f) i h = go (test (ltb c a)) (before_from (cut_r a d) (cut_l a d) f i) (before_hi f i h)
      where
        go : Test (ltb c a) → F (cond (ltb a d) a d) 0 (before ltb a rs k) → cell ltb (before ltb a rs k) p ≡ cell ltb k p → cell ltb (before ltb a (run c d u ∷ rs) k) p ≡ cell ltb k p
        go (nay e) q r = rw e
        go (yea e) q r = rw e (put_cell u (cut_gt (record { lt = e }) (R.up l)) q p ∙ cell_hi c u (before ltb a rs k) (≤-tra (cut_l a d) h) ∙ r)

    -- ---- paint

    module _ {a b : X} {s : ℕ} (w : W a b) (n : Ok s) where
      paint_from : {x y : X} {t : ℕ} {rs : List (Run X)} → x ≤ y → x ≤ a → F y t rs → F x 0 (paint ltb rs a b s)
      paint_from h j f = before_from h j f (put_from ≤-refl w n (after_from b f))

      pub paint_cell : {x : X} {t : ℕ} {rs : List (Run X)} → F x t rs → (p : X) → cell ltb (paint ltb rs a b s) p ≡ cond (not (ltb p a)) (cond (ltb p b) s (cell ltb rs p)) (cell ltb rs p)
      paint_cell {rs = rs} f p = go (test (ltb p a)) (test (ltb p b))
        where
          k : F a 0 (put ltb a b s (after ltb b rs))
          k = put_from ≤-refl w n (after_from b f)

          go : Test (ltb p a) → Test (ltb p b) → cell ltb (paint ltb rs a b s) p ≡ cond (not (ltb p a)) (cond (ltb p b) s (cell ltb rs p)) (cell ltb rs p)
          go (yea e) t = before_lo f k (record { lt = e }) ∙ rw e
          go (nay e) (yea i) = before_hi f k (record { le = e }) ∙ put_cell s (R.up w) (after_from b f) p ∙ cell_in s (after ltb b rs) (record { le = e }) (record { lt = i }) ∙ rw (e, i)
          go (nay e) (nay i) = before_hi f k (record { le = e }) ∙ put_cell s (R.up w) (after_from b f) p ∙ cell_hi a s (after ltb b rs) (record { le = i }) ∙ after_cell f (record { le = i }) ∙ rw (e, i)

    -- ---- the same for `Keeps`

    pub keeps_of : {x : X} {s : ℕ} {rs : List (Run X)} → F x s rs → Keeps ltb Ok W rs
    keeps_of none = empty
    keeps_of (next g l n f) = first l n f

    pub start : {a b : X} {u : ℕ} {rs : List (Run X)} → W a b → Ok u → F b u rs → F a 0 (run a b u ∷ rs)
    start l n f = next (gap₀ ≤-refl n) l n f

    pub Keeps-uniq : {rs qs : List (Run X)} → Keeps ltb Ok W rs → Keeps ltb Ok W qs → Same rs qs → rs ≡ qs
    Keeps-uniq empty empty h = refl
    Keeps-uniq empty (first {a = a} l n f) h = uniq {x = a} {s = 0} none (start l n f) h
    Keeps-uniq (first {a = a} l n f) empty h = uniq {y = a} {t = 0} (start l n f) none h
    Keeps-uniq (first l n f) (first m o g) h = uniq (start l n f) (start m o g) h

    pub Keeps-paint : {a b : X} {s : ℕ} {rs : List (Run X)} → W a b → Ok s → Keeps ltb Ok W rs → Keeps ltb Ok W (paint ltb rs a b s)
    Keeps-paint {a} w n empty = keeps_of (paint_from w n {y = a} {t = 0} ≤-refl ≤-refl none)
    Keeps-paint {a} w n (first {a = c} l m f) = keeps_of (paint_from w n (cut_r a c) (cut_l a c) (start l m f))

    pub Keeps-cell : {a b : X} {s : ℕ} {rs : List (Run X)} → W a b → Ok s → Keeps ltb Ok W rs → (p : X) → cell ltb (paint ltb rs a b s) p ≡ cond (not (ltb p a)) (cond (ltb p b) s (cell ltb rs p)) (cell ltb rs p)
    Keeps-cell {a} w n empty p = paint_cell w n {x = a} {t = 0} none p
    Keeps-cell w n (first l m f) p = paint_cell w n (start l m f) p
