-- Painting the tracks of an area, at the integers: which runs a track's paint reaches, how many runs there are afterwards, and the two sweeps.
use mathlib.Core.Path.{◌≡◌, refl, sym, ap, ◌∙◌}
use mathlib.Core.Bool.{Bool, true, false, cond, ◌&&◌, ◌||◌}
use mathlib.Core.List.{List, [], ◌∷◌}
use Prim.Native.Nat.{ℕ, ◌+◌, ◌≤◌}
use native.Mathlib.Omega.{arith}
use lib.Dec.{leb}
use lib.IntN.{ℤ}
use lib.Signed.{lt_z}
use lib.ListN.{length}
use borrow.Author.Tests.{leb-true, leb-false}
use Rattle.theory_intervals.specs.Records.{same, between}
use Rattle.theory_intervals.specs.Paint.{Point, pt, track_of}
use Rattle.theory_intervals.specs.OverInt.{ok}
use Rattle.theory_intervals.specs.Cut.{gapb, new, meets, lx, Rn, P, PT, H, N, sw}
use Rattle.theory_intervals.proofs.Line as Ln
use Rattle.theory_intervals.proofs.Line.{Linear, cell, ◌≺◌, none, Keeps, empty, first, Test, yea, nay, test, no_both}
use Rattle.theory_intervals.proofs.Grid as Gr
use Rattle.theory_intervals.proofs.Grid.{Span}
use Rattle.theory_intervals.proofs.Paint as Pa
use Rattle.theory_intervals.proofs.Paint.{mem}
use Rattle.theory_intervals.proofs.IntOrder.{int_linear}
use Rattle.theory_intervals.proofs.Hit as Hi

abbrev pub OK : ℕ → Type 0
OK = Gr.IsOk lt_z int_linear ok refl

abbrev pub K : List Rn → Type 0
K = Keeps lx OK (Span lt_z)

abbrev LL : Linear (Point ℤ) lx
LL = Gr.lex_linear lt_z int_linear

abbrev pub sum_h : ℤ → ℤ → ℕ → List ℤ → List Rn → ℕ
sum_h a b s [] rs = 0
sum_h a b s (t ∷ ts) rs = length (H a b s t rs) + sum_h a b s ts rs

abbrev pub sum_n : ℤ → ℤ → ℕ → List ℤ → List Rn → ℕ
sum_n a b s [] rs = 0
sum_n a b s (t ∷ ts) rs = length (N a b s t rs) + sum_n a b s ts rs

-- no track stands twice
abbrev pub Dis : List ℤ → Type 0
Dis [] = Unit {0}
Dis (t ∷ ts) = (mem lt_z t ts ≡ false) × Dis ts

-- all of ts are of us
abbrev pub In : List ℤ → List ℤ → Type 0
In us [] = Unit {0}
In us (t ∷ ts) = (mem lt_z t us ≡ true) × In us ts

-- on none of the tracks the runs get fewer
abbrev pub Grow : ℤ → ℤ → ℕ → List ℤ → List Rn → Type 0
Grow a b s [] rs = Unit {0}
Grow a b s (t ∷ ts) rs = (length (H a b s t rs) ≤ length (N a b s t rs)) × Grow a b s ts rs

-- the sweep never has more than n runs
abbrev pub Fits : Bool → ℤ → ℤ → ℕ → ℕ → List ℤ → List Rn → Type 0
Fits all a b s n [] rs = length rs ≤ n
Fits all a b s n (t ∷ ts) rs = (length (sw all a b s (t ∷ ts) rs) ≤ n) × Fits all a b s n ts rs

pub same_yes : (t u : ℤ) → same lt_z t u ≡ true → t ≡ u
same_yes t u h = go (test (lt_z t u)) (test (lt_z u t))
  where
    go : Test (lt_z t u) → Test (lt_z u t) → t ≡ u
    go (yea e) i = no_both h (rw e)
    go (nay e) (yea i) = no_both h (rw (e, i))
    go (nay e) (nay i) = int_linear.con t u e i

pub same_self : (t : ℤ) → same lt_z t t ≡ true
same_self t = rw (int_linear.irr t)

module _ (a b : ℤ) (s : ℕ) (l : ◌≺◌ lt_z a b) (n : OK s) where
  pub up : (t : ℤ) → ◌≺◌ lx (pt t a) (pt t b)
  up t = record { lt = Gr.by_pos lt_z int_linear t a b ∙ l.lt }

  pub P-keep : (t : ℤ) {rs : List Rn} → K rs → K (P a b s t rs)
  P-keep t k = Pa.tracks_keep lt_z int_linear ok refl l n (t ∷ []) k

  pub PT-keep : (ts : List ℤ) {rs : List Rn} → K rs → K (PT a b s ts rs)
  PT-keep ts k = Pa.tracks_keep lt_z int_linear ok refl l n ts k

  pub one : (t : ℤ) {rs : List Rn} → K rs → length (P a b s t rs) + length (H a b s t rs) ≡ length rs + length (N a b s t rs)
  one t empty = Hi.count_one lx LL OK (Span lt_z) (Gr.rules lt_z int_linear ok refl) (pt t a) (pt t b) s (up t) {z = pt t a} {u = 0} none
  one t (first w o f) = Hi.count_one lx LL OK (Span lt_z) (Gr.rules lt_z int_linear ok refl) (pt t a) (pt t b) s (up t) (Ln.start lx LL OK (Span lt_z) (Gr.rules lt_z int_linear ok refl) w o f)

  -- ---- another track
  off : (t u : ℤ) → same lt_z t u ≡ false → (p q : Point ℤ) (v : ℕ) → track_of p ≡ u → track_of q ≡ u → meets lx (pt t a) (pt t b) s p q v ≡ false
  off t u h (pt x c) (pt y d) v e i = go (test (lt_z u t)) (test (lt_z t u)) (test (gapb lx (pt y d) v (pt t a) s))
    where
      go : Test (lt_z u t) → Test (lt_z t u) → Test (gapb lx (pt y d) v (pt t a) s) → meets lx (pt t a) (pt t b) s (pt x c) (pt y d) v ≡ false
      go (yea j) k m = rw (i, j)
      go (nay j) (yea k) (yea m) = rw m
      go (nay j) (yea k) (nay m) = rw (m, e, k)
      go (nay j) (nay k) m = no_both (rw (k, j)) h

  pub on : (u : ℤ) (p q : Point ℤ) (v : ℕ) → Span lt_z p q → meets lx (pt u a) (pt u b) s p q v ≡ true → (track_of p ≡ u) × (track_of q ≡ u)
  on u (pt x c) (pt y d) v w h = go (test (gapb lx (pt y d) v (pt u a) s)) (test (gapb lx (pt u b) s (pt x c) v)) (test (lt_z y u)) (test (lt_z u x))
    where
      go : Test (gapb lx (pt y d) v (pt u a) s) → Test (gapb lx (pt u b) s (pt x c) v) → Test (lt_z y u) → Test (lt_z u x) → (x ≡ u) × (y ≡ u)
      go (yea e) i j k = no_both h (rw e)
      go (nay e) (yea i) j k = no_both h (rw (e, i))
      go (nay e) (nay i) (yea j) k = no_both (rw j) e
      go (nay e) (nay i) (nay j) (yea k) = no_both (rw k) i
      go (nay e) (nay i) (nay j) (nay k) = let z : x ≡ u = int_linear.con x u (rw (← w.track) at j) k in (z, sym w.track ∙ z)

  pub else_where : (t u : ℤ) → same lt_z t u ≡ false → {rs : List Rn} → K rs → H a b s t (P a b s u rs) ≡ H a b s t rs
  else_where t u h empty =
      Hi.other lx LL OK (Span lt_z) (Gr.rules lt_z int_linear ok refl) (pt t a) (pt t b) (pt u a) (pt u b) s (up u) (λ p. track_of p ≡ u) refl refl (off t u h) (on u) {z = pt t a} {u = 0} none
  else_where t u h (first w o f) =
      Hi.other lx LL OK (Span lt_z) (Gr.rules lt_z int_linear ok refl) (pt t a) (pt t b) (pt u a) (pt u b) s (up u) (λ p. track_of p ≡ u) refl refl (off t u h) (on u)
      (Ln.start lx LL OK (Span lt_z) (Gr.rules lt_z int_linear ok refl) w o f)

  miss : (x y : Bool) → x || y ≡ false → (x ≡ false) × (y ≡ false)
  miss true y e = no_both refl e
  miss false y e = (refl, e)

  pub untouched : (t : ℤ) (ts : List ℤ) → mem lt_z t ts ≡ false → {rs : List Rn} → K rs → H a b s t (PT a b s ts rs) ≡ H a b s t rs
  untouched t [] h k = refl
  untouched t (u ∷ ts) h k =
      let e = miss (same lt_z t u) (mem lt_z t ts) h in
      else_where t u e.0 (PT-keep ts k) ∙ untouched t ts e.1 k

  -- HOW MANY RUNS THERE ARE AFTER PAINTING
  pub count : (ts : List ℤ) → Dis ts → {rs : List Rn} → K rs → length (PT a b s ts rs) + sum_h a b s ts rs ≡ length rs + sum_n a b s ts rs
  count [] d k = refl
  count (t ∷ ts) d {rs} k =
      let B = PT a b s ts rs in
      let e : H a b s t B ≡ H a b s t rs = untouched t ts d.0 k in
      let i : length (P a b s t B) + length (H a b s t rs) ≡ length B + length (N a b s t rs) =
      (λ j. length (P a b s t B) + length (sym e j)) ∙ one t (PT-keep ts k) ∙ (λ j. length B + length (new lx (pt t a) (pt t b) s (e j))) in
      omega (arith, count ts d.1 k)

  -- ---- a track that is painted anyway may be painted before
  eat : (m n w : Bool) (c : ℕ) → (n ≡ true → m ≡ true) → cond (m && w) s (cond (n && w) s c) ≡ cond (m && w) s c
  eat true n true c h = refl
  eat true true false c h = refl
  eat true false false c h = refl
  eat false true w c h = no_both (h refl) refl
  eat false false w c h = refl

  hold : (t u : ℤ) (ts : List ℤ) → mem lt_z u ts ≡ true → same lt_z t u ≡ true → mem lt_z t ts ≡ true
  hold t u ts h e = rw (same_yes t u e) h

  pub absorb : (t : ℤ) (ts : List ℤ) → mem lt_z t ts ≡ true → {rs : List Rn} → K rs → PT a b s ts (P a b s t rs) ≡ PT a b s ts rs
  absorb t ts h {rs} k =
      Ln.Keeps-uniq lx LL OK (Span lt_z) (Gr.rules lt_z int_linear ok refl) (PT-keep ts (P-keep t k)) (PT-keep ts k) (record { at = go })
    where
      or_false : (x : Bool) → x || false ≡ x
      or_false true = refl
      or_false false = refl

      go : (x : Point ℤ) → cell lx (PT a b s ts (P a b s t rs)) x ≡ cell lx (PT a b s ts rs) x
      go (pt u p) =
          Pa.tracks_cell lt_z int_linear ok refl l n ts (P-keep t k) u p
          ∙ ap (λ (c : ℕ). cond (mem lt_z u ts && between lt_z a b p) s c) (Pa.tracks_cell lt_z int_linear ok refl l n (t ∷ []) k u p ∙ ap (λ (z : Bool). cond (z && between lt_z a b p) s (cell lx rs (pt u p))) (or_false (same lt_z u t)))
          ∙ eat (mem lt_z u ts) (same lt_z u t) (between lt_z a b p) (cell lx rs (pt u p)) (hold u t ts h)
          ∙ sym (Pa.tracks_cell lt_z int_linear ok refl l n ts k u p)

  pub again : (t : ℤ) {rs : List Rn} → K rs → P a b s t (P a b s t rs) ≡ P a b s t rs
  again t k = absorb t (t ∷ []) (rw (same_self t)) k

  -- once a track is painted, painting it again changes no number
  even : (t : ℤ) {rs : List Rn} → K rs → length (H a b s t (P a b s t rs)) ≤ length (N a b s t (P a b s t rs))
  even t k = omega (arith, one t (P-keep t k), ap length (again t k))

  same_H : (t : ℤ) (rs qs : List Rn) → H a b s t rs ≡ H a b s t qs → length (H a b s t qs) ≤ length (N a b s t qs) → length (H a b s t rs) ≤ length (N a b s t rs)
  same_H t rs qs e h = rw e h

  pub grow_keep : (ts : List ℤ) (u : ℤ) {rs : List Rn} → K rs → Grow a b s ts rs → Grow a b s ts (P a b s u rs)
  grow_keep [] u k g = tt
  grow_keep (t ∷ ts) u {rs} k g = go (test (same lt_z t u)) (grow_keep ts u k g.1)
    where
      go : Test (same lt_z t u) → Grow a b s ts (P a b s u rs) → Grow a b s (t ∷ ts) (P a b s u rs)
      go (yea e) r = (rw (same_yes t u e) (even u k), r)
      go (nay e) r = (same_H t (P a b s u rs) rs (else_where t u e k) g.0, r)

  pub more : (ts : List ℤ) → Dis ts → {rs : List Rn} → K rs → Grow a b s ts rs → length rs ≤ length (PT a b s ts rs)
  more ts d {rs} k g = omega (arith, count ts d k, sums ts g)
    where
      sums : (us : List ℤ) → Grow a b s us rs → sum_h a b s us rs ≤ sum_n a b s us rs
      sums [] g = omega arith
      sums (u ∷ us) g = omega (arith, sums us g.1, g.0)

  -- ---- the sweep that paints all
  pub sw_all : (ts : List ℤ) (rs : List Rn) → sw true a b s ts rs ≡ PT a b s ts rs
  sw_all [] rs = refl
  sw_all (t ∷ ts) rs = ap (P a b s t) (sw_all ts rs)

  -- ---- the sweep that lets nothing grow
  module _ (us : List ℤ) where
    pub record Shrunk (ts : List ℤ) (rs qs : List Rn) : Type 0 where
      pub keep : K qs
      pub same : PT a b s us qs ≡ PT a b s us rs
      pub less : length qs ≤ length rs
      pub grow : Grow a b s ts qs

    pub shrunk : (ts : List ℤ) → In us ts → {rs : List Rn} → K rs → Shrunk ts rs (sw false a b s ts rs)
    shrunk [] i k = record { keep = k; same = refl; less = omega arith; grow = tt }
    shrunk (t ∷ ts) i {rs} k = go (shrunk ts i.1 k) (test (leb (length (N a b s t (sw false a b s ts rs))) (length (H a b s t (sw false a b s ts rs)))))
      where
        go : Shrunk ts rs (sw false a b s ts rs) → Test (leb (length (N a b s t (sw false a b s ts rs))) (length (H a b s t (sw false a b s ts rs)))) → Shrunk (t ∷ ts) rs (sw false a b s (t ∷ ts) rs)
        go r (yea e) =
            rw e (record {
              keep = P-keep t r.keep;
              same = absorb t us i.0 r.keep ∙ r.same;
              less = omega (arith, one t r.keep, r.less, leb-true (length (N a b s t (sw false a b s ts rs))) (length (H a b s t (sw false a b s ts rs))) e);
              grow = (even t r.keep, grow_keep ts t r.keep r.grow);
            })
        go r (nay e) = rw e (record { keep = r.keep; same = r.same; less = r.less; grow = (omega (arith, leb-false (length (N a b s t (sw false a b s ts rs))) (length (H a b s t (sw false a b s ts rs))) e), r.grow) })

    -- and it has room where the list has
    pub room_less : (ts : List ℤ) → In us ts → {rs : List Rn} → K rs → (m : ℕ) → length rs ≤ m → Fits false a b s m ts rs
    room_less [] i k m h = h
    room_less (t ∷ ts) i k m h = (omega (arith, (shrunk (t ∷ ts) i k).less), room_less ts i.1 k m h)

    -- the sweep that paints all has room where the end has
    pub room_more : Dis us → (ts : List ℤ) → In us ts → {rs : List Rn} → K rs → Grow a b s us rs → (m : ℕ) → length (PT a b s us rs) ≤ m → Fits true a b s m ts rs
    room_more d ts i {rs} k g m h = (fits ts i).2
      where
        fits : (ts : List ℤ) → In us ts → (PT a b s us (PT a b s ts rs) ≡ PT a b s us rs) × (Grow a b s us (PT a b s ts rs)) × Fits true a b s m ts rs
        fits [] i = (refl, g, omega (arith, more us d k g))
        fits (t ∷ ts) i =
            let r = fits ts i.1 in
            let k' = PT-keep ts k in
            let e : PT a b s us (P a b s t (PT a b s ts rs)) ≡ PT a b s us rs = absorb t us i.0 k' ∙ r.0 in
            let g' = grow_keep us t k' r.1 in
            (e, g', (omega (arith, more us d (P-keep t k') g', ap length e, ap length (sw_all (t ∷ ts) rs)), r.2))
