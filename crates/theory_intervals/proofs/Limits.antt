-- Painting an area inside the limited grid keeps all the list rules. A record inside the limits is a run whose ends may be what `Limited` says, so
-- this is the theory of runs once more, with that for the ends that a run may have.
use mathlib.Core.Path.{◌≡◌, refl, sym, ◌∙◌}
use mathlib.Core.Bool.{true, ◌&&◌}
use mathlib.Core.List.{List, [], ◌∷◌, map}
use Prim.Native.Nat.{ℕ}
use lib.IntN.{ℤ, pos, negsuc}
use lib.Signed.{lt_z, le_z}
use Rattle.theory_signed.proofs.Laws.{signed}
use Rattle.theory_intervals.specs.Records.{Rec, rec, Area, area, same, between}
use Rattle.theory_intervals.specs.Paint.{Point, pt, track_of, pos_of, to_run, to_rec, paint_tracks}
use Rattle.theory_intervals.specs.OverInt.{ok, span, keeps, fit, fits, paint_list, painted}
use Rattle.theory_intervals.specs.Lists.{in_grid, all_in, rules, area_in, good_area, good_areas}
use Rattle.theory_intervals.specs.Cut.{lx, Rn}
use Rattle.theory_intervals.proofs.Line as Ln
use Rattle.theory_intervals.proofs.Line.{Linear, ◌≺◌, ◌≼◌, From, none, next, Keeps, empty, first, Rules, Test, yea, nay, test, no_both, Side, less, more}
use Rattle.theory_intervals.proofs.Grid as Gr
use Rattle.theory_intervals.proofs.Grid.{Span, or_r, and_l, and_r, and_i, and₃}
use Rattle.theory_intervals.proofs.Paint.{mem}
use Rattle.theory_intervals.proofs.IntOrder.{int_linear}
use Rattle.theory_intervals.proofs.OverInt.{span_is, paint_list_keeps}
use Rattle.theory_intervals.proofs.Tracks.{OK, same_self}
use Rattle.theory_intervals.proofs.Lists.{InGrid, in_is, is_in}

-- two points that may be the ends of one record inside the limits
record Limited (x y : Point ℤ) : Type 0 where
  span : Span lt_z x y
  grid : InGrid (track_of x) (pos_of x) (pos_of y)

abbrev LL : Linear (Point ℤ) lx
LL = Gr.lex_linear lt_z int_linear

abbrev RR : Rules lx OK (Span lt_z)
RR = Gr.rules lt_z int_linear ok refl

-- what is cut from a run inside the limits is inside them
head : {x y z : Point ℤ} → Limited x z → ◌≺◌ lx x y → ◌≼◌ lx y z → Limited x y
head {x} {y} {z} w h k = go (Ln.side lx LL y z)
  where
    go : Side lx LL y z → Limited x y
    go (less q) =
        let g = w.grid in
        let e : lt_z (pos_of y) (pos_of z) ≡ true = (RR.tail w.span (Ln.weak lx LL h) q).up.lt in
        record { span = RR.head w.span h k; grid = record { t_lo = g.t_lo; t_hi = g.t_hi; lo = g.lo; hi = omega signed } }
    go (more q) = rw (Ln.anti lx LL k q) w

tail : {x y z : Point ℤ} → Limited x z → ◌≼◌ lx x y → ◌≺◌ lx y z → Limited y z
tail {x} {y} {z} w h k = go (Ln.side lx LL x y)
  where
    go : Side lx LL x y → Limited y z
    go (less q) =
        let g = w.grid in
        let s = RR.tail w.span h k in
        let e : lt_z (pos_of x) (pos_of y) ≡ true = (RR.head w.span q (Ln.weak lx LL k)).up.lt in
        let i : track_of x ≡ track_of y = w.span.track ∙ sym s.track in
        record { span = s; grid = record { t_lo = rw (← i) g.t_lo; t_hi = rw (← i) g.t_hi; lo = omega signed; hi = g.hi } }
    go (more q) = rw (← (Ln.anti lx LL h q)) w

limited : Rules lx OK Limited
limited = record {
  nz = λ h. RR.nz h;
  up = λ w. RR.up w.span;
  join = λ w v. record { span = RR.join w.span v.span; grid = record { t_lo = w.grid.t_lo; t_hi = w.grid.t_hi; lo = w.grid.lo; hi = v.grid.hi } };
  head = λ w h k. head w h k;
  tail = λ w h k. tail w h k;
}

-- ---- from records to such runs, and back

to_from : {x : Point ℤ} {s : ℕ} (rs : List (Rec ℤ)) → From lx OK (Span lt_z) x s (map to_run rs) → all_in rs ≡ true → From lx OK Limited x s (map to_run rs)
to_from [] none h = none
to_from (rec t a b u ∷ rs) (next g w o f) h =
    let i = and_l (in_grid (rec t a b u)) (all_in rs) h in
    next g (record { span = w; grid = in_is t a b u i }) o (to_from rs f (and_r (in_grid (rec t a b u)) (all_in rs) h))

to_keeps : (rs : List (Rec ℤ)) → Keeps lx OK (Span lt_z) (map to_run rs) → all_in rs ≡ true → Keeps lx OK Limited (map to_run rs)
to_keeps [] empty h = empty
to_keeps (rec t a b u ∷ rs) (first w o f) h =
    let i = and_l (in_grid (rec t a b u)) (all_in rs) h in
    first (record { span = w; grid = in_is t a b u i }) o (to_from rs f (and_r (in_grid (rec t a b u)) (all_in rs) h))

of_from : {x : Point ℤ} {s : ℕ} {qs : List Rn} → From lx OK Limited x s qs → all_in (map to_rec qs) ≡ true
of_from none = refl
of_from (next {a = p} {b = q} {u = u} g w o f) = and_i (is_in (track_of p) (pos_of p) (pos_of q) u w.grid) (of_from f)

of_keeps : {qs : List Rn} → Keeps lx OK Limited qs → all_in (map to_rec qs) ≡ true
of_keeps empty = refl
of_keeps (first {a = p} {b = q} {u = u} w o f) = and_i (is_in (track_of p) (pos_of p) (pos_of q) u w.grid) (of_from f)

-- ---- painting

tracks_in : (a b : ℤ) (s : ℕ) → OK s → (ts : List ℤ) → ((t : ℤ) → mem lt_z t ts ≡ true → Limited (pt t a) (pt t b))
    → {rs : List Rn} → Keeps lx OK Limited rs → Keeps lx OK Limited (paint_tracks lt_z ts a b s rs)
tracks_in a b s n [] w k = k
tracks_in a b s n (t ∷ ts) w k =
    Ln.Keeps-paint lx LL OK Limited limited (w t (rw (same_self t))) n (tracks_in a b s n ts (λ u h. w u (or_r (same lt_z u t) (mem lt_z u ts) h)) k)

module _ (t₁ t₂ a b : ℤ) (s : ℕ) (rs : List (Rec ℤ)) (h : good_area (area t₁ t₂ a b s) ≡ true) (k : rules rs ≡ true) where
  fitting : fit (area t₁ t₂ a b s) ≡ true
  fitting = and_l (fit (area t₁ t₂ a b s)) (area_in (area t₁ t₂ a b s)) h

  track : (t : ℤ) → mem lt_z t (span t₁ t₂) ≡ true → Limited (pt t a) (pt t b)
  track t m =
      let f = and₃ (lt_z t₁ t₂) (lt_z a b) (ok s) fitting in
      let j = and₃ (le_z (negsuc 9999) t₁) (le_z t₂ (pos 10000)) (le_z (negsuc 9999) a && le_z b (pos 10000)) (and_r (fit (area t₁ t₂ a b s)) (area_in (area t₁ t₂ a b s)) h) in
      let x = j.0 in
      let y = j.1 in
      let z = and_l (le_z (negsuc 9999) a) (le_z b (pos 10000)) j.2 in
      let w = and_r (le_z (negsuc 9999) a) (le_z b (pos 10000)) j.2 in
      let i : between lt_z t₁ t₂ t ≡ true = sym (span_is t₁ t₂ t) ∙ m in
      go (test (lt_z t t₁)) (test (lt_z t t₂)) i f.1 x y z w
    where
      go : Test (lt_z t t₁) → Test (lt_z t t₂) → between lt_z t₁ t₂ t ≡ true → lt_z a b ≡ true → le_z (negsuc 9999) t₁ ≡ true → le_z t₂ (pos 10000) ≡ true → le_z (negsuc 9999) a ≡ true → le_z b (pos 10000) ≡ true
          → Limited (pt t a) (pt t b)
      go (yea e) q i l x y z w = no_both i (rw e)
      go (nay e) (nay q) i l x y z w = no_both i (rw (e, q))
      go (nay e) (yea q) i l x y z w = record { span = record { track = refl; up = record { lt = l } }; grid = record { t_lo = omega signed; t_hi = omega signed; lo = omega signed; hi = omega signed } }

  -- a good area painted on a list that keeps the rules leaves one that keeps them
  pub paint_list_rules : rules (paint_list (area t₁ t₂ a b s) rs) ≡ true
  paint_list_rules =
      let q = and_l (keeps rs) (all_in rs) k in
      let f = and₃ (lt_z t₁ t₂) (lt_z a b) (ok s) fitting in
      and_i (paint_list_keeps t₁ t₂ a b s rs fitting q)
      (of_keeps (tracks_in a b s (record { is = f.2 }) (span t₁ t₂) track (to_keeps rs (Gr.to_line lt_z int_linear ok refl rs q) (and_r (keeps rs) (all_in rs) k))))

pub painted_rules : (h : List (Area ℤ)) → good_areas h ≡ true → rules (painted h) ≡ true
painted_rules [] g = refl
painted_rules (area t₁ t₂ a b s ∷ h) g =
    let x = good_area (area t₁ t₂ a b s) in
    paint_list_rules t₁ t₂ a b s (painted h) (and_l x (good_areas h) g) (painted_rules h (and_r x (good_areas h) g))

pub good_fits : (h : List (Area ℤ)) → good_areas h ≡ true → fits h ≡ true
good_fits [] g = refl
good_fits (x ∷ h) g = and_i (and_l (fit x) (area_in x) (and_l (good_area x) (good_areas h) g)) (good_fits h (and_r (good_area x) (good_areas h) g))
