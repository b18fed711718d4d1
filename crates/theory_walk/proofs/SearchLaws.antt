-- What the searches find: the least line, the earliest pair, at which the test passes; and how code may skip.
use Rattle.std.specs.Prelude.{Some, None, Option}
use mathlib.Core.Path.{◌≡◌, refl, ap, ◌∙◌, subst}
use mathlib.Core.Bool.{Bool, true, false, cond}
use mathlib.Core.Logic.{◌⊎◌, inl, inr}
use Prim.Native.Nat.{ℕ, zero, suc}
use lib.IntN.{ℤ, pos, ◌+ℤ◌}
use lib.Signed.{lt_z, ◌≤ℤ◌, ◌<ℤ◌}
use Rattle.theory_signed.specs.Parts.{gap}
use Rattle.theory_signed.proofs.Laws.{signed, by_test, sum}
use Rattle.theory_walk.specs.Search.{line_from, first_line, among, Place, at, or_else, pair_from, places_to, first_pair}
use Rattle.theory_walk.specs.Rules.{FirstLine, FirstPair, Tried, here, later}
use Rattle.theory_walk.proofs.Tests.{clash}

-- y is from b on, or is below it
pub side : (b y : ℤ) → (b ≤ℤ y) ⊎ (y <ℤ b)
side b y = by_test (lt_z y b) (λ t. (b ≤ℤ y) ⊎ (y <ℤ b)) (λ e. inr (omega signed)) (λ e. inl (omega signed))

-- it is the only one
pub first_unique : {ok : ℤ → Bool} {z r q : ℤ} → FirstLine ok z r → FirstLine ok z q → r ≡ q
first_unique {ok} {z} {r} {q} f g = go (side r q) (side q r)
  where
    go : (r ≤ℤ q) ⊎ (q <ℤ r) → (q ≤ℤ r) ⊎ (r <ℤ q) → r ≡ q
    go (inr h) k = clash g.passes (f.fails q g.since h)
    go (inl h) (inr k) = clash f.passes (g.fails r f.since k)
    go (inl h) (inl k) = omega signed

-- steps of a search
pub first_here : {ok : ℤ → Bool} {z : ℤ} → ok z ≡ true → FirstLine ok z z
first_here {ok} {z} h = record { since = omega signed; passes = h; fails = λ y a b. absurd (let e : ⊥ = omega signed in e) }

-- lines from z to u at which the test fails may be skipped
pub first_skip : {ok : ℤ → Bool} {z u r : ℤ} → z ≤ℤ u → ((y : ℤ) → z ≤ℤ y → y <ℤ u → ok y ≡ false) → FirstLine ok u r → FirstLine ok z r
first_skip {ok} {z} {u} {r} h n f = record { since = let k = f.since in omega signed; passes = f.passes; fails = λ y a b. go y a b (side u y) }
  where
    go : (y : ℤ) → z ≤ℤ y → y <ℤ r → (u ≤ℤ y) ⊎ (y <ℤ u) → ok y ≡ false
    go y a b (inl k) = f.fails y k b
    go y a b (inr k) = n y a k

only : (ok : ℤ → Bool) (z : ℤ) → ok z ≡ false → (y : ℤ) → z ≤ℤ y → y <ℤ (z +ℤ pos 1) → ok y ≡ false
only ok z f y a b = let e : y ≡ z = omega signed in rw e f

-- ---- lines

module _ (ok : ℤ → Bool) (beyond : (y : ℤ) → pos 10000 ≤ℤ y → ok y ≡ true) where
  line_first : (n : ℕ) (z : ℤ) → pos 10000 ≤ℤ (z +ℤ pos n) → FirstLine ok z (line_from n ok z)
  unfolding line_from
  line_first zero z h = first_here (beyond z (omega signed))
  line_first (suc n) z h =
      by_test (ok z) (λ t. ok z ≡ t → FirstLine ok z (cond t z (line_from n ok (z +ℤ pos 1))))
      (λ _ e. first_here e)
      (λ _ e. first_skip (omega signed) (only ok z e) (line_first n (z +ℤ pos 1) (omega (signed, sum z (pos 1)))))
      refl

  -- THE FIRST FREE LINE: it is from the start on, it is free, and every earlier one from the start on is not
  pub first_line_first : (z : ℤ) → FirstLine ok z (first_line ok z)
  unfolding first_line
  first_line_first z = line_first (gap z (pos 10000)) z (omega signed)

  pub first_line_is : (z r : ℤ) → FirstLine ok z r → first_line ok z ≡ r
  first_line_is z r f = first_unique (first_line_first z) f

  -- for code: a search may go on from u
  pub first_line_skip : (z u : ℤ) → z ≤ℤ u → ((y : ℤ) → z ≤ℤ y → y <ℤ u → ok y ≡ false) → first_line ok z ≡ first_line ok u
  first_line_skip z u h n = first_line_is z (first_line ok u) (first_skip h n (first_line_first u))

  pub first_line_here : (z : ℤ) → ok z ≡ true → first_line ok z ≡ z
  first_line_here z h = first_line_is z z (first_here h)

  -- no line past 10000 is looked at, unless the search starts there, and then it ends there
  pub first_line_high : (z m : ℤ) → z ≤ℤ m → pos 10000 ≤ℤ m → first_line ok z ≤ℤ m
  first_line_high z m a b = go (side (first_line ok z) m)
    where
      f : FirstLine ok z (first_line ok z)
      f = first_line_first z

      go : (first_line ok z ≤ℤ m) ⊎ (m <ℤ first_line ok z) → first_line ok z ≤ℤ m
      go (inl h) = h
      go (inr h) = clash (beyond m b) (f.fails m a h)

-- ---- pairs

pub data Among (ok : ℤ → Bool) (n : ℕ) (p : ℤ) : Option ℤ → Type 0 where
  missed : ((y : ℤ) → p ≤ℤ y → y <ℤ (p +ℤ pos n) → ok y ≡ false) → Among ok n p None
  hit : {q : ℤ} → q <ℤ (p +ℤ pos n) → FirstLine ok p q → Among ok n p (Some q)

pub among_is : (ok : ℤ → Bool) (n : ℕ) (p : ℤ) → Among ok n p (among n ok p)
unfolding among
among_is ok zero p = missed (λ y a b. absurd (let e : ⊥ = omega signed in e))
among_is ok (suc n) p =
    by_test (ok p) (λ t. ok p ≡ t → Among ok (suc n) p (cond t (Some p) (among n ok (p +ℤ pos 1))))
    (λ _ e. hit {q = p} (omega signed) (first_here e))
    (λ _ e. go e (among n ok (p +ℤ pos 1)) (among_is ok n (p +ℤ pos 1)))
    refl
  where
    go : ok p ≡ false → (o : Option ℤ) → Among ok n (p +ℤ pos 1) o → Among ok (suc n) p o
    go e None (missed f) = missed (λ y a b. each y a b (side (p +ℤ pos 1) y))
      where
        each : (y : ℤ) → p ≤ℤ y → y <ℤ (p +ℤ pos (suc n)) → ((p +ℤ pos 1) ≤ℤ y) ⊎ (y <ℤ (p +ℤ pos 1)) → ok y ≡ false
        each y a b (inl h) = f y h (omega (signed, sum p (pos 1)))
        each y a b (inr h) = only ok p e y a h
    go e (Some q) (hit h f) = hit {q = q} (omega (signed, sum p (pos 1))) (first_skip (omega signed) (only ok p e) f)

module _ (n : ℕ) (e g : ℤ) (ok : ℤ → ℤ → Bool) where
  abbrev T : ℤ → ℤ → ℤ → ℤ → Type 0
  T = Tried n e g

  abbrev F : ℤ → ℤ → Place → Type 0
  F = FirstPair n e g ok

  -- steps of a search: the first place of this line on which the test passes
  pub pair_hit : (p s q : ℤ) → FirstLine (λ y. ok y s) p q → (q +ℤ pos n) ≤ℤ e → F p s (at q s)
  pair_hit p s q f h = record { tried = here f.since h; passes = f.passes; above = λ y x t k. up t k; before = λ y t k. on y s refl t k }
    where
      up : {y x : ℤ} → T p s y x → x <ℤ s → ok y x ≡ false
      up (here a b) k = absurd (let z : ⊥ = omega signed in z)
      up (later a b c) k = absurd (let z : ⊥ = omega signed in z)

      on : (y x : ℤ) → x ≡ s → T p s y x → y <ℤ q → ok y s ≡ false
      on y x i (here a b) k = f.fails y a k
      on y x i (later a b c) k = absurd (let z : ⊥ = omega signed in z)

  -- where no place of this line passes, the search goes on at g on the next
  pub pair_next : (p s : ℤ) (r : Place) → ((y : ℤ) → p ≤ℤ y → (y +ℤ pos n) ≤ℤ e → ok y s ≡ false) → F g (s +ℤ pos 1) r → F p s r
  pair_next p s r miss f = record { tried = lift f.tried; passes = f.passes; above = λ y x t k. up y x t k; before = λ y t k. on y r.secondary refl t k }
    where
      below : {y x : ℤ} → T g (s +ℤ pos 1) y x → s <ℤ x
      below (here a b) = omega signed
      below (later a b c) = omega (signed, sum s (pos 1))

      lift : {y x : ℤ} → T g (s +ℤ pos 1) y x → T p s y x
      lift (here a b) = let h : s <ℤ (s +ℤ pos 1) = omega signed in later h a b
      lift {x} (later a b c) = let h : s <ℤ x = omega (signed, sum s (pos 1)) in later h b c

      -- a later place of this search is a place of the next line's
      drop : {y x : ℤ} → s <ℤ x → g ≤ℤ y → (y +ℤ pos n) ≤ℤ e → T g (s +ℤ pos 1) y x
      drop {y} {x} a b c = go (side x (s +ℤ pos 1))
        where
          go : (x ≤ℤ (s +ℤ pos 1)) ⊎ ((s +ℤ pos 1) <ℤ x) → T g (s +ℤ pos 1) y x
          go (inl h) = let i : x ≡ s +ℤ pos 1 = omega signed in rw i (here b c)
          go (inr h) = later h b c

      up : (y x : ℤ) → T p s y x → x <ℤ r.secondary → ok y x ≡ false
      up y x (here a b) k = miss y a b
      up y x (later a b c) k = f.above y x (drop a b c) k

      on : (y x : ℤ) → x ≡ r.secondary → T p s y x → y <ℤ r.primary → ok y r.secondary ≡ false
      on y x i (here a b) k = absurd (let z : ⊥ = (let j = below f.tried in omega signed) in z)
      on y x i (later a b c) k = f.before y (rw i at (drop a b c)) k

  -- every place on a secondary line from 10000 on passes; the span fits from g
  module _ (beyond : (y x : ℤ) → pos 10000 ≤ℤ x → ok y x ≡ true) (fits : (g +ℤ pos n) ≤ℤ e) where
    step : (k : ℕ) (p s : ℤ) → F g (s +ℤ pos 1) (pair_from k (places_to e n) g ok g (s +ℤ pos 1)) → F p s (pair_from (suc k) (places_to e n) g ok p s)
    unfolding pair_from places_to
    step k p s f = go (among (places_to e n p) (λ q. ok q s) p) (among_is (λ q. ok q s) (places_to e n p) p)
      where
        m : ℕ
        m = places_to e n p

        go : (o : Option ℤ) → Among (λ q. ok q s) m p o → F p s (or_else o (λ q. at q s) (pair_from k (places_to e n) g ok g (s +ℤ pos 1)))
        go None (missed h) = pair_next p s (pair_from k (places_to e n) g ok g (s +ℤ pos 1)) (λ y a b. h y a (omega (signed, sum p (pos n), sum e (pos 1), sum p (pos m)))) f
        go (Some q) (hit h i) = pair_hit p s q i (omega (signed, i.since, sum p (pos n), sum e (pos 1), sum p (pos m)))

    from_g : (k : ℕ) (s : ℤ) → pos 10000 ≤ℤ (s +ℤ pos k) → F g s (pair_from k (places_to e n) g ok g s)
    unfolding pair_from
    from_g zero s h = pair_hit g s g (first_here (beyond g s (omega signed))) fits
    from_g (suc k) s h = step k g s (from_g k (s +ℤ pos 1) (omega (signed, sum s (pos 1))))

    -- THE FIRST FREE PAIR: it is one of the places tried, it is free, and every place tried before it is not
    pub first_pair_first : (p s : ℤ) → F p s (first_pair (places_to e n) g ok p s)
    unfolding first_pair
    first_pair_first p s = step (gap s (pos 10000)) p s (from_g (gap s (pos 10000)) (s +ℤ pos 1) (omega (signed, sum s (pos 1))))

  -- it is the only one
  pub pair_unique : (p s : ℤ) (r q : Place) → F p s r → F p s q → r ≡ q
  pair_unique p s r q f h = go (side r.secondary q.secondary) (side q.secondary r.secondary) (side r.primary q.primary) (side q.primary r.primary)
    where
      go : (r.secondary ≤ℤ q.secondary) ⊎ (q.secondary <ℤ r.secondary) → (q.secondary ≤ℤ r.secondary) ⊎ (r.secondary <ℤ q.secondary)
          → (r.primary ≤ℤ q.primary) ⊎ (q.primary <ℤ r.primary) → (q.primary ≤ℤ r.primary) ⊎ (r.primary <ℤ q.primary) → r ≡ q
      go (inr a) b c d = clash h.passes (f.above q.primary q.secondary h.tried a)
      go (inl a) (inr b) c d = clash f.passes (h.above r.primary r.secondary f.tried b)
      go (inl a) (inl b) (inr c) d = let i : q.secondary ≡ r.secondary = omega signed in clash (rw i at h.passes) (f.before q.primary (rw i at h.tried) c)
      go (inl a) (inl b) (inl c) (inr d) = let i : r.secondary ≡ q.secondary = omega signed in clash (rw i at f.passes) (h.before r.primary (rw i at f.tried) d)
      go (inl a) (inl b) (inl c) (inl d) =
          let i : r.secondary ≡ q.secondary = omega signed in
          let j : r.primary ≡ q.primary = omega signed in
          ap (λ (y : ℤ). at y r.secondary) j ∙ ap (λ (x : ℤ). at q.primary x) i

  -- for code: on one line, places from p to u at which the test fails may be skipped
  pub pair_skip : (p u s : ℤ) (r : Place) → p ≤ℤ u → ((y : ℤ) → p ≤ℤ y → y <ℤ u → ok y s ≡ false) → F u s r → F p s r
  pair_skip p u s r h miss f = record { tried = wide f.tried; passes = f.passes; above = λ y x t k. up y x t k; before = λ y t k. on y r.secondary refl t k }
    where
      wide : {y x : ℤ} → T u s y x → T p s y x
      wide {y} (here a b) = let c : p ≤ℤ y = omega signed in here c b
      wide (later a b c) = later a b c

      up : (y x : ℤ) → T p s y x → x <ℤ r.secondary → ok y x ≡ false
      up y x (here a b) k = go (side u y)
        where
          go : (u ≤ℤ y) ⊎ (y <ℤ u) → ok y s ≡ false
          go (inl c) = f.above y s (here c b) k
          go (inr c) = miss y a c
      up y x (later a b c) k = f.above y x (later a b c) k

      on : (y x : ℤ) → x ≡ r.secondary → T p s y x → y <ℤ r.primary → ok y r.secondary ≡ false
      on y x i (here a b) k = go (side u y)
        where
          go : (u ≤ℤ y) ⊎ (y <ℤ u) → ok y r.secondary ≡ false
          go (inl c) = f.before y (subst (λ (v : ℤ). T u s y v) i (here c b)) k
          go (inr c) = rw (← i) (miss y a c)
      on y x i (later a b c) k = f.before y (subst (λ (v : ℤ). T u s y v) i (later a b c)) k

  -- the secondary line found is at most one past the start's, or at most 10000
  pub pair_high : ((y x : ℤ) → pos 10000 ≤ℤ x → ok y x ≡ true) → (g +ℤ pos n) ≤ℤ e → (p s m : ℤ) (r : Place) → F p s r → s <ℤ m → pos 10000 ≤ℤ m → r.secondary ≤ℤ m
  pair_high beyond fits p s m r f a b = go (side r.secondary m)
    where
      go : (r.secondary ≤ℤ m) ⊎ (m <ℤ r.secondary) → r.secondary ≤ℤ m
      go (inl h) = h
      go (inr h) = clash (beyond g m b) (f.above g m (later a (omega signed) fits) h)

  -- for code, as equations: a loop's invariant is that the search from where it stands finds what the search from the start finds
  module _ (beyond : (y x : ℤ) → pos 10000 ≤ℤ x → ok y x ≡ true) (fits : (g +ℤ pos n) ≤ℤ e) where
    pub first_pair_is : (p s : ℤ) (r : Place) → F p s r → first_pair (places_to e n) g ok p s ≡ r
    first_pair_is p s r f = pair_unique p s (first_pair (places_to e n) g ok p s) r (first_pair_first beyond fits p s) f

    pub first_pair_here : (p s : ℤ) → ok p s ≡ true → (p +ℤ pos n) ≤ℤ e → first_pair (places_to e n) g ok p s ≡ at p s
    first_pair_here p s h i = first_pair_is p s (at p s) (pair_hit p s p (first_here h) i)

    pub first_pair_skip : (p u s : ℤ) → p ≤ℤ u → ((y : ℤ) → p ≤ℤ y → y <ℤ u → ok y s ≡ false) → first_pair (places_to e n) g ok p s ≡ first_pair (places_to e n) g ok u s
    first_pair_skip p u s h miss = first_pair_is p s (first_pair (places_to e n) g ok u s) (pair_skip p u s (first_pair (places_to e n) g ok u s) h miss (first_pair_first beyond fits u s))

    -- no place is left on this line
    pub first_pair_next : (p s : ℤ) → e <ℤ (p +ℤ pos n) → first_pair (places_to e n) g ok p s ≡ first_pair (places_to e n) g ok g (s +ℤ pos 1)
    first_pair_next p s h =
        first_pair_is p s (first_pair (places_to e n) g ok g (s +ℤ pos 1))
        (pair_next p s (first_pair (places_to e n) g ok g (s +ℤ pos 1)) (λ y a b. absurd (let z : ⊥ = omega signed in z)) (first_pair_first beyond fits g (s +ℤ pos 1)))
