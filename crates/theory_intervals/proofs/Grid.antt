-- Lists of records as runs in reading order, and uniqueness. Z is any linear order of tracks and lines, given by its test `ltb`.
use mathlib.Core.Path.{◌≡◌, refl, sym, ap, ◌∙◌}
use mathlib.Core.Bool.{Bool, true, false, not, cond, ◌&&◌, ◌||◌}
use mathlib.Core.List.{List, [], ◌∷◌, map}
use mathlib.Core.Logic.{◌≢◌}
use Prim.Native.Nat.{ℕ}
use lib.Dec.{eqb}
use borrow.Author.Tests.{eqb-false, ne_eqb}
use Rattle.theory_intervals.specs.Records.{Rec, rec, same, between, cell_of, follows, behind, keeps}
use Rattle.theory_intervals.specs.Paint.{Run, Point, pt, track_of, pos_of, to_run, to_rec, lex}
use Rattle.theory_intervals.proofs.Line as Ln
use Rattle.theory_intervals.proofs.Line.{Linear, cell, ◌≺◌, ◌≼◌, Gap, apart, touch, From, none, next, Keeps, empty, first, Rules, Test, yea, nay, test, no_both}

module _ {Z : Type 0} (ltb : Z → Z → Bool) where
  -- two points that may be the ends of one record
  pub record Span (x y : Point Z) : Type 0 where
    pub track : track_of x ≡ track_of y
    pub up : ◌≺◌ ltb (pos_of x) (pos_of y)

pub and_l : (x y : Bool) → x && y ≡ true → x ≡ true
and_l true y e = refl
and_l false y e = e

pub and_r : (x y : Bool) → x && y ≡ true → y ≡ true
and_r true y e = e
and_r false y e = no_both e refl

pub and₃ : (x y z : Bool) → x && (y && z) ≡ true → (x ≡ true) × (y ≡ true) × (z ≡ true)
and₃ x y z h = let k = and_r x (y && z) h in (and_l x (y && z) h, and_l y z k, and_r y z k)

pub or_r : (x y : Bool) → y ≡ true → x || y ≡ true
or_r true y e = refl
or_r false y e = e

pub and_i : {x y : Bool} → x ≡ true → y ≡ true → x && y ≡ true
and_i e i = rw (e, i)

module _ {Z : Type 0} (ltb : Z → Z → Bool) (L : Linear Z ltb) where
  infix 50 ◌<◌ ◌≤◌
  abbrev ◌<◌ : Z → Z → Type 0
  x < y = ◌≺◌ ltb x y

  abbrev ◌≤◌ : Z → Z → Type 0
  x ≤ y = ◌≼◌ ltb x y

  -- ---- the reading order is linear

  data Lt (t p u q : Z) : Type 0 where
    track< : t < u → Lt t p u q
    pos< : t ≡ u → p < q → Lt t p u q

  data Le (t p u q : Z) : Type 0 where
    track< : t < u → Le t p u q
    pos≤ : t ≡ u → p ≤ q → Le t p u q

  lt : {t p u q : Z} → ◌≺◌ (lex ltb) (pt t p) (pt u q) → Lt t p u q
  lt {t} {p} {u} {q} h = go (test (ltb t u)) (test (ltb u t))
    where
      go : Test (ltb t u) → Test (ltb u t) → Lt t p u q
      go (yea e) k = track< (record { lt = e })
      go (nay e) (yea i) = no_both h.lt (rw (e, i))
      go (nay e) (nay i) = pos< (L.con t u e i) (record { lt = rw (e, i) at h.lt })

  le : {t p u q : Z} → ◌≼◌ (lex ltb) (pt t p) (pt u q) → Le t p u q
  le {t} {p} {u} {q} h = go (test (ltb t u)) (test (ltb u t))
    where
      go : Test (ltb t u) → Test (ltb u t) → Le t p u q
      go (yea e) k = track< (record { lt = e })
      go (nay e) (yea i) = no_both (rw i) h.le
      go (nay e) (nay i) = pos≤ (L.con t u e i) (record { le = rw (i, e) at h.le })

  pub by_track : {t u : Z} (p q : Z) → t < u → lex ltb (pt t p) (pt u q) ≡ true
  by_track p q h = rw h.lt

  pub by_pos : (t p q : Z) → lex ltb (pt t p) (pt t q) ≡ ltb p q
  by_pos t p q = rw (L.irr t)

  lex_irr : (x : Point Z) → lex ltb x x ≡ false
  lex_irr (pt t p) = by_pos t p p ∙ L.irr p

  lex_tra : (x y z : Point Z) → lex ltb x y ≡ true → lex ltb y z ≡ true → lex ltb x z ≡ true
  lex_tra (pt t p) (pt u q) (pt v r) h k = go (lt (record { lt = h })) (lt (record { lt = k }))
    where
      go : Lt t p u q → Lt u q v r → lex ltb (pt t p) (pt v r) ≡ true
      go (track< a) (track< b) = by_track p r (Ln.<-tra ltb L a b)
      go (track< a) (pos< e b) = by_track p r (rw e at a)
      go (pos< e a) (track< b) = by_track p r (rw e b)
      go (pos< e a) (pos< i b) = rw (e, i) (by_pos v p r ∙ (Ln.<-tra ltb L a b).lt)

  lex_con : (x y : Point Z) → lex ltb x y ≡ false → lex ltb y x ≡ false → x ≡ y
  lex_con (pt t p) (pt u q) h k = go (le (record { le = k })) (le (record { le = h }))
    where
      go : Le t p u q → Le u q t p → pt t p ≡ pt u q
      go (track< a) (track< b) = Ln.clash ltb L a (Ln.weak ltb L b)
      go (track< a) (pos≤ e b) = no_both (rw e at a).lt (L.irr t)
      go (pos≤ e a) (track< b) = no_both (rw e at b).lt (L.irr u)
      go (pos≤ e a) (pos≤ i b) = let j = Ln.anti ltb L a b in cc

  pub lex_linear : Linear (Point Z) (lex ltb)
  lex_linear = record { irr = lex_irr; tra = lex_tra; con = lex_con }

  -- ---- a record is a run of the reading order

  span_head : (x y z : Point Z) → Span ltb x z → ◌≺◌ (lex ltb) x y → ◌≼◌ (lex ltb) y z → Span ltb x y
  span_head (pt t p) (pt u q) (pt v r) w h k = go (lt h) (le k)
    where
      go : Lt t p u q → Le u q v r → Span ltb (pt t p) (pt u q)
      go (pos< e a) b = record { track = e; up = a }
      go (track< a) (track< b) = Ln.clash ltb L (Ln.<-tra ltb L a b) (rw w.track (Ln.≤-refl ltb L))
      go (track< a) (pos≤ e b) = Ln.clash ltb L a (rw (w.track, e) (Ln.≤-refl ltb L))

  span_tail : (x y z : Point Z) → Span ltb x z → ◌≼◌ (lex ltb) x y → ◌≺◌ (lex ltb) y z → Span ltb y z
  span_tail (pt t p) (pt u q) (pt v r) w h k = go (le h) (lt k)
    where
      go : Le t p u q → Lt u q v r → Span ltb (pt u q) (pt v r)
      go a (pos< e b) = record { track = e; up = b }
      go (track< a) (track< b) = Ln.clash ltb L (Ln.<-tra ltb L a b) (rw w.track (Ln.≤-refl ltb L))
      go (pos≤ e a) (track< b) = Ln.clash ltb L b (rw (← e, w.track) (Ln.≤-refl ltb L))

  span_up : (x y : Point Z) → Span ltb x y → ◌≺◌ (lex ltb) x y
  span_up (pt t p) (pt u q) w = record { lt = rw w.track (by_pos u p q ∙ w.up.lt) }

  -- the test of a point against a run from (u, a) to (u, b)
  pub at_run : (t p u a b : Z) (s r : ℕ) → cond (not (lex ltb (pt t p) (pt u a))) (cond (lex ltb (pt t p) (pt u b)) s r) r ≡ cond (same ltb t u && between ltb a b p) s r
  at_run t p u a b s r = go (test (ltb t u)) (test (ltb u t)) (test (ltb p a))
    where
      go : Test (ltb t u) → Test (ltb u t) → Test (ltb p a) → cond (not (lex ltb (pt t p) (pt u a))) (cond (lex ltb (pt t p) (pt u b)) s r) r ≡ cond (same ltb t u && between ltb a b p) s r
      go (yea e) i j = rw e
      go (nay e) (yea i) j = rw (e, i)
      go (nay e) (nay i) (yea j) = rw (e, i, j)
      go (nay e) (nay i) (nay j) = rw (e, i, j)

  pub line_cell : (rs : List (Rec Z)) (t p : Z) → cell (lex ltb) (map to_run rs) (pt t p) ≡ cell_of ltb rs t p
  line_cell [] t p = refl
  line_cell (rec u a b s ∷ rs) t p = rw (← (line_cell rs t p)) (at_run t p u a b s (cell (lex ltb) (map to_run rs) (pt t p)))

  pub rec_run : (rs : List (Rec Z)) → map to_rec (map to_run rs) ≡ rs
  rec_run [] = refl
  rec_run (rec t a b s ∷ rs) = ap (λ (l : List (Rec Z)). rec t a b s ∷ l) (rec_run rs)

  -- ---- the rules

  module _ (ok : ℕ → Bool) (ok-zero : ok 0 ≡ false) where
    ok_nz : {s : ℕ} → ok s ≡ true → s ≢ 0
    ok_nz {s} h e = no_both h (rw e ok-zero)

    pub record IsOk (s : ℕ) : Type 0 where
      pub is : ok s ≡ true

    pub rules : Rules (lex ltb) IsOk (Span ltb)
    rules = record {
      nz = λ h. ok_nz h.is;
      up = λ w. span_up _ _ w;
      join = λ w v. record { track = w.track ∙ v.track; up = Ln.<-tra ltb L w.up v.up };
      head = λ w h k. span_head _ _ _ w h k;
      tail = λ w h k. span_tail _ _ _ w h k;
    }

    abbrev F : Point Z → ℕ → List (Run (Point Z)) → Type 0
    F = From (lex ltb) IsOk (Span ltb)

    abbrev K : List (Run (Point Z)) → Type 0
    K = Keeps (lex ltb) IsOk (Span ltb)

    -- ---- the rules of the records are those of their runs

    pub to_gap : (t b : Z) (s : ℕ) (u c : Z) (v : ℕ) → follows ltb t b s u c v ≡ true → Gap (lex ltb) (pt t b) s (pt u c) v
    to_gap t b s u c v h = go (test (ltb t u)) (test (ltb u t)) (test (ltb b c)) (test (ltb c b)) (test (eqb s v))
      where
        go : Test (ltb t u) → Test (ltb u t) → Test (ltb b c) → Test (ltb c b) → Test (eqb s v) → Gap (lex ltb) (pt t b) s (pt u c) v
        go (yea e) i j k m = apart (record { lt = rw e })
        go (nay e) (yea i) j k m = no_both h (rw (e, i))
        go (nay e) (nay i) (yea j) k m = apart (record { lt = rw (e, i, j) })
        go (nay e) (nay i) (nay j) (yea k) m = no_both h (rw (e, i, j, k))
        go (nay e) (nay i) (nay j) (nay k) (yea m) = no_both h (rw (e, i, j, k, m))
        go (nay e) (nay i) (nay j) (nay k) (nay m) = let x = L.con t u e i in let y = L.con b c j k in touch (cc) (eqb-false s v m)

    pub of_gap : (t b : Z) (s : ℕ) (u c : Z) (v : ℕ) → Gap (lex ltb) (pt t b) s (pt u c) v → follows ltb t b s u c v ≡ true
    of_gap t b s u c v (apart h) = go (lt h)
      where
        go : Lt t b u c → follows ltb t b s u c v ≡ true
        go (track< a) = rw a.lt
        go (pos< e a) = rw (e, L.irr u, a.lt)
    of_gap t b s u c v (touch e n) = let i : t ≡ u = cc in let j : b ≡ c = cc in rw (i, j, L.irr u, L.irr c, ne_eqb s v n)

    pub to_from : (t b : Z) (s : ℕ) (rs : List (Rec Z)) → behind ltb ok t b s rs ≡ true → F (pt t b) s (map to_run rs)
    to_from t b s [] h = none
    to_from t b s (rec u c d v ∷ rs) h =
        let q = follows ltb t b s u c v in
        let k = ltb c d && (ok v && behind ltb ok u d v rs) in
        let j = and₃ (ltb c d) (ok v) (behind ltb ok u d v rs) (and_r q k h) in
        next (to_gap t b s u c v (and_l q k h)) (record { track = refl; up = record { lt = j.0 } }) (record { is = j.1 }) (to_from u d v rs j.2)

    pub of_from : (t b : Z) (s : ℕ) (rs : List (Rec Z)) → F (pt t b) s (map to_run rs) → behind ltb ok t b s rs ≡ true
    of_from t b s [] none = refl
    of_from t b s (rec u c d v ∷ rs) (next g w n f) = and_i (of_gap t b s u c v g) (and_i w.up.lt (and_i n.is (of_from u d v rs f)))

    pub to_line : (rs : List (Rec Z)) → keeps ltb ok rs ≡ true → K (map to_run rs)
    to_line [] h = empty
    to_line (rec t a b s ∷ rs) h =
        let j = and₃ (ltb a b) (ok s) (behind ltb ok t b s rs) h in
        first (record { track = refl; up = record { lt = j.0 } }) (record { is = j.1 }) (to_from t b s rs j.2)

    pub of_line : (rs : List (Rec Z)) → K (map to_run rs) → keeps ltb ok rs ≡ true
    of_line [] empty = refl
    of_line (rec t a b s ∷ rs) (first w n f) = and_i w.up.lt (and_i n.is (of_from t b s rs f))

    -- ---- UNIQUENESS

    at_point : (xs ys : List (Rec Z)) → ((t p : Z) → cell_of ltb xs t p ≡ cell_of ltb ys t p) → (x : Point Z) → cell (lex ltb) (map to_run xs) x ≡ cell (lex ltb) (map to_run ys) x
    at_point xs ys h (pt t p) = line_cell xs t p ∙ h t p ∙ sym (line_cell ys t p)

    pub unique : (xs ys : List (Rec Z)) → keeps ltb ok xs ≡ true → keeps ltb ok ys ≡ true → ((t p : Z) → cell_of ltb xs t p ≡ cell_of ltb ys t p) → xs ≡ ys
    unique xs ys k j h =
        let e : map to_run xs ≡ map to_run ys = Ln.Keeps-uniq (lex ltb) lex_linear IsOk (Span ltb) rules (to_line xs k) (to_line ys j) (record { at = at_point xs ys h }) in
        sym (rec_run xs) ∙ ap (map to_rec) e ∙ rec_run ys
