-- From a list that holds records to the fours that the passes move, and back: what the passes may take for granted, and what they leave.
use mathlib.Core.Path.{◌≡◌, refl, sym, ap, ◌∙◌, subst}
use mathlib.Core.Bool.{Bool, true, false, ◌&&◌}
use mathlib.Core.List.{List, [], ◌∷◌, ◌++◌, map}
use Prim.Native.Nat.{ℕ, zero, suc, ◌+◌, ◌-◌, ◌*◌, ◌≤◌}
use native.Mathlib.Omega.{arith}
use lib.Dec.{eqb}
use lib.IntN.{ℤ, pos, nat_abs}
use lib.Signed.{lt_z}
use lib.ListN.{length, drop, get_or, replicate, length-map}
use mir.Syntax.{w16}
use mir.Val.{to_z, of_z}
use borrow.Author.Tests.{eqb-true}
use Rattle.theory_signed.specs.Parts.{gap}
use Rattle.theory_intervals.specs.Records.{Rec, rec, behind, follows}
use Rattle.theory_intervals.specs.Paint.{run, Point, pt, to_run, to_rec}
use Rattle.theory_intervals.specs.OverInt.{ok, keeps, fit, paint_list, span, encode, flat}
use Rattle.theory_intervals.specs.Lists.{all_in, recs, Holds}
use Rattle.theory_intervals.specs.Cut.{lx, Rn, PT, sw}
use Rattle.theory_intervals.proofs.Line.{From, next, first, Test, yea, nay, test, no_both}
use Rattle.theory_intervals.proofs.Grid as Gr
use Rattle.theory_intervals.proofs.Grid.{Span, and_l, and_r, and₃}
use Rattle.theory_intervals.proofs.IntOrder.{int_linear}
use Rattle.theory_intervals.proofs.Index.{rows_snoc}
use Rattle.theory_intervals.proofs.Lists.{holds_room, holds_used, holds_zeros}
use Rattle.theory_intervals.proofs.Tracks.{OK, K, Grow, Fits, Shrunk, shrunk, more, sw_all, room_more, PT-keep}
use Rattle.theory_intervals.proofs.Spans.{dis_span, in_self}
use Rattle.list_moves.specs.Fours.{Four, enc, fours, four_at}
use Rattle.list_moves.proofs.Fours.{laid_is, length_enc, length_fours, fours_snoc, enc_fours}
use Rattle.list_areas.specs.Areas.{state_of, area_of}
use Rattle.list_areas.specs.declared.Area.{Area}
use Rattle.list_areas.proofs.Good.{Good, state_bits}
use Rattle.list_areas.proofs.Good as Ar
use Rattle.list_pieces.specs.Reach as Re
use Rattle.list_pieces.specs.Reach.{runs, Stored}
use Rattle.list_pieces.specs.Passes.{Ready, Roomy, Swept}
use Rattle.list_pieces.proofs.Build.{map_append}
use Rattle.list_pieces.proofs.Above.{in_span}
use Rattle.list_sweeps.proofs.Count.{length_runs}
use Rattle.list_in_place.proofs.Room.{two_each}

-- ---- states: 1 and 2 are their own bits

one_two : (n : ℕ) (Z : ℕ → Type 0) → ok n ≡ true → Z 1 → Z 2 → Z n
one_two n Z h x y = go (test (eqb n 1)) (test (eqb n 2))
  where
    go : Test (eqb n 1) → Test (eqb n 2) → Z n
    go (yea e) i = subst Z (sym (eqb-true n 1 e)) x
    go (nay e) (yea i) = subst Z (sym (eqb-true n 2 i)) y
    go (nay e) (nay i) = no_both h (rw (e, i))

back : (z : ℤ) → z ≡ pos (nat_abs z) → ok (nat_abs z) ≡ true → to_z w16 (of_z w16 z) ≡ z
back z e h = ap (λ (y : ℤ). to_z w16 (of_z w16 y)) e ∙ one_two (nat_abs z) (λ (m : ℕ). to_z w16 (of_z w16 (pos m)) ≡ pos m) h refl refl ∙ sym e

there : (n : ℕ) (z : ℤ) → ok n ≡ true → to_z w16 n ≡ z → pos n ≡ z
there n z h e = one_two n (λ (m : ℕ). pos m ≡ to_z w16 m) h refl refl ∙ e

-- ---- the fours of a list are its records

abbrev rec_of : Four → Rec ℤ
rec_of r = rec r.track r.start r.end (nat_abs r.state)

pub recs_fours : (n : ℕ) (l : List ℤ) → recs n l ≡ map rec_of (fours n l)
recs_fours zero l = refl
recs_fours (suc n) l =
    rows_snoc n (λ i. get_or l (4 * i) (pos 0)) (λ i. get_or l (4 * i + 1) (pos 0)) (λ i. get_or l (4 * i + 2) (pos 0)) (λ i. nat_abs (get_or l (4 * i + 3) (pos 0)))
    ∙ ap (λ (x : List (Rec ℤ)). x ++ (rec_of (four_at l (4 * n)) ∷ [])) (recs_fours n l)
    ∙ sym (ap (map rec_of) (fours_snoc n l) ∙ map_append rec_of (fours n l) (four_at l (4 * n) ∷ []))

-- no state is negative
data Plain : List Four → Type 0 where
  nil : Plain []
  cons : {r : Four} {rs : List Four} → r.state ≡ pos (nat_abs r.state) → Plain rs → Plain (r ∷ rs)

plain_of : (rs : List Four) → enc rs ≡ encode (map rec_of rs) → Plain rs
plain_of [] e = nil
plain_of (r ∷ rs) e = cons (ap (λ (l : List ℤ). get_or l 3 (pos 0)) e) (plain_of rs (ap (drop 4) e))

holds_plain : {l : List ℤ} {n : ℕ} → Holds l n → Plain (fours n l)
holds_plain {l} {n} h = plain_of (fours n l) (enc_fours n l (holds_room h) ∙ holds_used h ∙ ap encode (recs_fours n l))

runs_are : (rs : List Four) → Plain rs → runs rs ≡ map to_run (map rec_of rs)
runs_are [] nil = refl
runs_are (r ∷ rs) (cons e h) = λ i. run (pt r.track r.start) (pt r.track r.end) (of_z w16 (e i)) ∷ runs_are rs h i

stored_behind : (t b : ℤ) (s : ℕ) (rs : List Four) → Plain rs → behind lt_z ok t b s (map rec_of rs) ≡ true → Stored rs
stored_behind t b s [] p h = Re.nil
stored_behind t b s (r ∷ rs) (cons e p) h =
    let v = nat_abs r.state in
    let m = behind lt_z ok r.track r.end v (map rec_of rs) in
    let j = and₃ (lt_z r.start r.end) (ok v) m (and_r (follows lt_z t b s r.track r.start v) (lt_z r.start r.end && (ok v && m)) h) in
    Re.cons (back r.state e j.1) (stored_behind r.track r.end v rs p j.2)

stored_are : (rs : List Four) → Plain rs → keeps (map rec_of rs) ≡ true → Stored rs
stored_are [] p h = Re.nil
stored_are (r ∷ rs) (cons e p) h =
    let v = nat_abs r.state in
    let m = behind lt_z ok r.track r.end v (map rec_of rs) in
    let j = and₃ (lt_z r.start r.end) (ok v) m h in
    Re.cons (back r.state e j.1) (stored_behind r.track r.end v rs p j.2)

-- ---- runs that keep the rules, as a flat list

enc_from : (rs : List Four) (p : Point ℤ) (u : ℕ) → From lx OK (Span lt_z) p u (runs rs) → Stored rs → enc rs ≡ encode (map to_rec (runs rs))
enc_from [] p u f t = refl
enc_from (r ∷ rs) p u (next g w o f) (Re.cons e t) =
    let i = enc_from rs (pt r.track r.end) (of_z w16 r.state) f t in
    λ x. r.track ∷ r.start ∷ r.end ∷ sym (there (of_z w16 r.state) r.state o.is e) x ∷ i x

enc_keeps : (rs : List Four) → K (runs rs) → Stored rs → enc rs ≡ encode (map to_rec (runs rs))
enc_keeps [] k t = refl
enc_keeps (r ∷ rs) (first w o f) (Re.cons e t) =
    let i = enc_from rs (pt r.track r.end) (of_z w16 r.state) f t in
    λ x. r.track ∷ r.start ∷ r.end ∷ sym (there (of_z w16 r.state) r.state o.is e) x ∷ i x

fits_head : (all : Bool) (a b : ℤ) (s m : ℕ) (ts : List ℤ) (rs : List Rn) → Fits all a b s m ts rs → length (sw all a b s ts rs) ≤ m
fits_head all a b s m [] rs h = h
fits_head all a b s m (t ∷ ts) rs h = h.0

-- ---- painting an area: counting, and the two sweeps

-- what is required of a paint
pub record Asked (l : List ℤ) (used : ℕ) (t₁ t₂ a b s : ℤ) : Type 0 where
  pub holds : Holds l used
  pub fits : fit (area_of t₁ t₂ a b s) ≡ true

pub asked : {l : List ℤ} {used : ℕ} (x : Area) → Holds l used → Asked l used x.track_start x.track_end x.stroke.start x.stroke.end x.stroke.state
asked x h = record { holds = h; fits = x.fits }

module _ {l : List ℤ} {used : ℕ} {t₁ t₂ a b s : ℤ} (q : Asked l used t₁ t₂ a b s) where
  σ_is : of_z w16 s ≡ state_of s
  σ_is = state_bits t₁ t₂ a b s q.fits

  pub good : Good a b s
  good = Ar.good t₁ t₂ a b s q.fits

  abbrev A : List Rn
  A = runs (fours used l)

  abbrev us : List ℤ
  us = span t₁ t₂

  keeps_l : keeps (recs used l) ≡ true
  keeps_l = and_l (keeps (recs used l)) (all_in (recs used l)) q.holds.keep

  runs_is : A ≡ map to_run (recs used l)
  runs_is = runs_are (fours used l) (holds_plain q.holds) ∙ ap (map to_run) (sym (recs_fours used l))

  pub keep : K A
  keep = subst K (sym runs_is) (Gr.to_line lt_z int_linear ok refl (recs used l) keeps_l)

  stored : Stored (fours used l)
  stored = stored_are (fours used l) (holds_plain q.holds) (ap keeps (sym (recs_fours used l)) ∙ keeps_l)

  abbrev R : List (Rec ℤ)
  R = paint_list (area_of t₁ t₂ a b s) (recs used l)

  list_is : R ≡ map to_rec (PT a b (of_z w16 s) us A)
  list_is = λ i. map to_rec (PT a b (sym σ_is i) us (sym runs_is i))

  -- how many records there are in the end
  pub total_is : (n : ℕ) → n ≡ length (PT a b (of_z w16 s) us A) → n ≡ length R
  total_is n e = e ∙ sym (ap length list_is ∙ length-map (PT a b (of_z w16 s) us A) to_rec)

  pub total_runs : (n : ℕ) → n ≡ length R → n ≡ length (PT a b (of_z w16 s) us A)
  total_runs n e = e ∙ ap length list_is ∙ length-map (PT a b (of_z w16 s) us A) to_rec

  -- what one sweep leaves that paints all
  pub painted : {y : List ℤ} {m : ℕ} → Swept true a b s t₁ t₂ l used y m → (m ≡ length R) × (y ≡ flat (length l) R)
  painted {y} {m} w =
      let v : runs (fours m y) ≡ PT a b (of_z w16 s) us A = w.is ∙ sw_all a b (of_z w16 s) good.less good.state us A in
      let ky : K (runs (fours m y)) = subst K (sym v) (PT-keep a b (of_z w16 s) good.less good.state us keep) in
      let c : enc (fours m y) ≡ encode R = enc_keeps (fours m y) ky w.stored ∙ ap (λ (z : List Rn). encode (map to_rec z)) v ∙ sym (ap encode list_is) in
      let d : m ≡ length (PT a b (of_z w16 s) us A) = sym (length_runs (fours m y) ∙ length_fours m y) ∙ ap length v in
      let z : length y - 4 * length (fours m y) ≡ length l - length (encode R) = omega (arith, length_enc (fours m y), ap length c, w.long) in
      (total_is m d, laid_is y m w.laid ∙ (λ i. c i ++ replicate (z i) (pos 0)))

  -- the first sweep
  pub ready_to : (top : ℕ) → used ≤ top → 4 * top ≤ length l → Ready l used top
  ready_to top h r = record { laid = record { fits = holds_room q.holds; zeros = holds_zeros q.holds }; low = h; room = r; keep = keep; stored = stored }

  pub ready_one : Ready l used used
  ready_one = ready_to used (omega arith) (holds_room q.holds)

  A-long : length A ≡ used
  A-long = length_runs (fours used l) ∙ length_fours used l

  -- in a list that has two places more for each track, one sweep has room
  pub roomy_all : (top : ℕ) → top ≡ used + 2 * gap t₁ t₂ → Roomy true a b s t₁ t₂ top A
  roomy_all top e = two_each t₁ t₂ good keep A-long e

  -- and so there is room for what it leaves
  pub room_enough : 4 * (used + 2 * gap t₁ t₂) ≤ length l → 4 * length R ≤ length l
  room_enough h =
      let n : length R ≡ length (PT a b (of_z w16 s) us A) = total_runs (length R) refl in
      omega (arith, (roomy_all (used + 2 * gap t₁ t₂) refl).at t₁ (int_linear.irr t₁), ap length (sw_all a b (of_z w16 s) good.less good.state us A))

  pub roomy_one : Roomy false a b s t₁ t₂ used A
  roomy_one = record { at = λ t k. omega (arith, (shrunk a b (of_z w16 s) good.less good.state us (span t t₂) (in_span t₁ t₂ t k) keep).less, A-long) }

  -- the second
  module _ {x : List ℤ} {n total : ℕ} (p : Swept false a b s t₁ t₂ l used x n) (e : total ≡ length R) where
    total_of : total ≡ length (PT a b (of_z w16 s) us A)
    total_of = total_runs total e

    shr : Shrunk a b (of_z w16 s) good.less good.state us us A (sw false a b (of_z w16 s) us A)
    shr = shrunk a b (of_z w16 s) good.less good.state us us (in_self us) keep

    kx : K (runs (fours n x))
    kx = subst K (sym p.is) shr.keep

    gx : Grow a b (of_z w16 s) us (runs (fours n x))
    gx = subst (Grow a b (of_z w16 s) us) (sym p.is) shr.grow

    ends : PT a b (of_z w16 s) us (runs (fours n x)) ≡ PT a b (of_z w16 s) us A
    ends = ap (PT a b (of_z w16 s) us) p.is ∙ shr.same

    n_is : length (runs (fours n x)) ≡ n
    n_is = length_runs (fours n x) ∙ length_fours n x

    pub ready_two : 4 * total ≤ length l → Ready x n total
    ready_two r = record {
      laid = p.laid;
      low = omega (arith, more a b (of_z w16 s) good.less good.state us (dis_span t₁ t₂) kx gx, ap length ends, n_is, total_of);
      room = omega (arith, p.long);
      keep = kx;
      stored = p.stored;
    }

    pub roomy_two : Roomy true a b s t₁ t₂ total (runs (fours n x))
    roomy_two = record {
      at = λ t k. fits_head true a b (of_z w16 s) total (span t t₂) (runs (fours n x))
          (room_more a b (of_z w16 s) good.less good.state us (dis_span t₁ t₂) (span t t₂) (in_span t₁ t₂ t k) kx gx total (omega (arith, ap length ends, total_of)));
    }

    -- and the end
    pub done : {y : List ℤ} {m : ℕ} → Swept true a b s t₁ t₂ x n y m → (m ≡ length R) × (y ≡ flat (length l) R)
    done {y} {m} w =
        painted (record {
          laid = w.laid;
          long = w.long ∙ p.long;
          is = w.is ∙ sw_all a b (of_z w16 s) good.less good.state us (runs (fours n x)) ∙ ends ∙ sym (sw_all a b (of_z w16 s) good.less good.state us A);
          stored = w.stored;
        })
