-- What the two searches find: the records before what is reached, those that are, and those behind.
use mathlib.Core.Path.{◌≡◌, refl, sym, ap, ◌∙◌, subst}
use mathlib.Core.Bool.{true, false}
use mathlib.Core.List.{List, [], ◌∷◌, ◌++◌, append_assoc}
use mathlib.Core.Logic.{⊎_elim}
use Prim.Native.Nat.{ℕ, zero, suc, ◌+◌, ◌-◌, ◌*◌, ◌<◌, ◌≤◌}
use native.Mathlib.Omega.{arith}
use native.Mathlib.Nat.{zero-add, suc-add}
use lib.IntN.{ℤ}
use lib.Signed.{lt_z}
use lib.ListN.{drop, length}
use lib.Seq.{drop-drop}
use mir.Syntax.{w16}
use mir.Val.{of_z}
use Rattle.theory_intervals.specs.Paint.{Point, pt}
use Rattle.theory_intervals.proofs.Line.{◌≺◌, Test, yea, nay, test}
use Rattle.theory_intervals.specs.Cut.{new, lx, Rn, P, H}
use Rattle.theory_intervals.proofs.Split.{EarlyEnd, NotEarly, NotLateEnd, Late, late_append, nil, cons, snoc}
use Rattle.theory_intervals.proofs.Tracks.{OK, K}
use Rattle.theory_intervals.proofs.OnTrack as Ot
use Rattle.theory_intervals.proofs.OnTrack.{On}
use Rattle.list_moves.specs.Fours.{Four, four_at, fours}
use Rattle.list_moves.proofs.Parts.{lt_or_ge}
use Rattle.list_moves.proofs.Fours.{fours_more, fours_snoc, four_at_drop_add}
use Rattle.list_pieces.specs.Reach.{run_of, runs, early_r, late_r, before_late, after_early, OnTrack}
use Rattle.list_pieces.proofs.Build.{map_append}

pub fours_add : (m n : ℕ) (l : List ℤ) → fours (m + n) l ≡ fours m l ++ fours n (drop (4 * m) l)
fours_add zero n l = rw zero-add
fours_add (suc m) n l =
    let e : 4 + 4 * m ≡ 4 * suc m = omega arith in
    rw suc-add (ap (λ (r : List Four). four_at l 0 ∷ r) (fours_add m n (drop 4 l) ∙ ap (λ (r : List ℤ). fours m (drop 4 l) ++ fours n r) (drop-drop (4 * m) 4 l ∙ ap (λ (k : ℕ). drop k l) e)))

-- the records i..j, the last one apart
pub part_snoc : (l : List ℤ) (i j k : ℕ) → j ≡ suc k → i ≤ k → fours (j - i) (drop (4 * i) l) ≡ fours (k - i) (drop (4 * i) l) ++ (four_at l (4 * k) ∷ [])
part_snoc l i j k e h =
    let a : j - i ≡ suc (k - i) = omega arith in
    let b : 4 * i + 4 * (k - i) ≡ 4 * k = omega arith in
    (λ m. fours (a m) (drop (4 * i) l)) ∙ fours_snoc (k - i) (drop (4 * i) l) ∙ ap (λ (r : Four). fours (k - i) (drop (4 * i) l) ++ (r ∷ [])) (four_at_drop_add l (4 * i) (4 * (k - i)) ∙ ap (four_at l) b)

part_none : (l : List ℤ) (i j : ℕ) → j - i ≡ 0 → fours (j - i) (drop (4 * i) l) ≡ []
part_none l i j e = ap (λ (k : ℕ). fours k (drop (4 * i) l)) e

runs_snoc : (xs : List Four) (r : Four) → runs (xs ++ (r ∷ [])) ≡ runs xs ++ (run_of r ∷ [])
runs_snoc xs r = map_append run_of xs (r ∷ [])

not_early_append : {x : Point ℤ} {s : ℕ} {xs : List Rn} (ys : List Rn) → NotEarly lx x s xs → NotEarly lx x s ys → NotEarly lx x s (xs ++ ys)
not_early_append ys nil k = k
not_early_append ys (cons e h) k = cons e (not_early_append ys h k)

module _ (l : List ℤ) (t b : ℤ) (s : ℕ) where
  pub last_le : (n : ℕ) → before_late l t b s n ≤ n
  last_le zero = omega arith
  last_le (suc n) = go (test (late_r (four_at l (4 * n)) t b s)) (last_le n)
    where
      go : Test (late_r (four_at l (4 * n)) t b s) → before_late l t b s n ≤ n → before_late l t b s (suc n) ≤ suc n
      go (yea e) h = rw e (omega arith)
      go (nay e) h = rw e (omega arith)

  pub first_le : (n : ℕ) → after_early l t b s n ≤ n
  first_le zero = omega arith
  first_le (suc n) = go (test (early_r (four_at l (4 * n)) t b s)) (first_le n)
    where
      go : Test (early_r (four_at l (4 * n)) t b s) → after_early l t b s n ≤ n → after_early l t b s (suc n) ≤ suc n
      go (yea e) h = rw e (omega arith)
      go (nay e) h = rw e (omega arith)

  abbrev Rest : ℕ → ℕ → List Rn
  Rest i n = runs (fours (n - i) (drop (4 * i) l))

  rest_snoc : (i n : ℕ) → i ≤ n → Rest i (suc n) ≡ Rest i n ++ (run_of (four_at l (4 * n)) ∷ [])
  rest_snoc i n h = ap runs (part_snoc l i (suc n) n refl h) ∙ runs_snoc (fours (n - i) (drop (4 * i) l)) (four_at l (4 * n))

  rest_none : (i : ℕ) → Rest i i ≡ []
  rest_none i = ap runs (part_none l i i (omega arith))

  pub last_late : (n : ℕ) → Late lx (pt t b) s (Rest (before_late l t b s n) n)
  last_late zero = nil
  last_late (suc n) = go (test (late_r (four_at l (4 * n)) t b s)) (last_late n) (last_le n)
    where
      go : Test (late_r (four_at l (4 * n)) t b s) → Late lx (pt t b) s (Rest (before_late l t b s n) n) → before_late l t b s n ≤ n → Late lx (pt t b) s (Rest (before_late l t b s (suc n)) (suc n))
      go (yea e) h k = rw e (subst (Late lx (pt t b) s) (sym (rest_snoc (before_late l t b s n) n k)) (late_append lx (run_of (four_at l (4 * n)) ∷ []) h (cons e nil)))
      go (nay e) h k = rw e (subst (Late lx (pt t b) s) (sym (rest_none (suc n))) nil)

  pub first_none : (n : ℕ) → NotEarly lx (pt t b) s (Rest (after_early l t b s n) n)
  first_none zero = nil
  first_none (suc n) = go (test (early_r (four_at l (4 * n)) t b s)) (first_none n) (first_le n)
    where
      go : Test (early_r (four_at l (4 * n)) t b s) → NotEarly lx (pt t b) s (Rest (after_early l t b s n) n) → after_early l t b s n ≤ n → NotEarly lx (pt t b) s (Rest (after_early l t b s (suc n)) (suc n))
      go (nay e) h k = rw e (subst (NotEarly lx (pt t b) s) (sym (rest_snoc (after_early l t b s n) n k)) (not_early_append (run_of (four_at l (4 * n)) ∷ []) h (cons e nil)))
      go (yea e) h k = rw e (subst (NotEarly lx (pt t b) s) (sym (rest_none (suc n))) nil)

  -- the record before what was found
  last_not : (n k : ℕ) → before_late l t b s n ≡ suc k → late_r (four_at l (4 * k)) t b s ≡ false
  last_not zero k h = absurd (omega arith)
  last_not (suc n) k h = go (test (late_r (four_at l (4 * n)) t b s)) (λ z. last_not n k z)
    where
      go : Test (late_r (four_at l (4 * n)) t b s) → (before_late l t b s n ≡ suc k → late_r (four_at l (4 * k)) t b s ≡ false) → late_r (four_at l (4 * k)) t b s ≡ false
      go (yea e) f = f (rw e at h)
      go (nay e) f = let i : n ≡ k = omega (arith, rw e at h) in rw (← i) e

  first_is : (n k : ℕ) → after_early l t b s n ≡ suc k → early_r (four_at l (4 * k)) t b s ≡ true
  first_is zero k h = absurd (omega arith)
  first_is (suc n) k h = go (test (early_r (four_at l (4 * n)) t b s)) (λ z. first_is n k z)
    where
      go : Test (early_r (four_at l (4 * n)) t b s) → (after_early l t b s n ≡ suc k → early_r (four_at l (4 * k)) t b s ≡ true) → early_r (four_at l (4 * k)) t b s ≡ true
      go (nay e) f = f (rw e at h)
      go (yea e) f = let i : n ≡ k = omega (arith, rw e at h) in rw (← i) e

  pub last_end : (n i : ℕ) → i ≤ before_late l t b s n → NotLateEnd lx (pt t b) s (Rest i (before_late l t b s n))
  last_end n i h = ⊎_elim more same (lt_or_ge i j)
    where
      j : ℕ
      j = before_late l t b s n

      more : i < j → NotLateEnd lx (pt t b) s (Rest i j)
      more k =
          let e : j ≡ suc (j - 1) = omega arith in
          let r = four_at l (4 * (j - 1)) in
          snoc (Rest i (j - 1)) (pt r.track r.start) (pt r.track r.end) (of_z w16 r.state) (ap (Rest i) e ∙ rest_snoc i (j - 1) (omega arith)) (last_not n (j - 1) e)

      same : j ≤ i → NotLateEnd lx (pt t b) s (Rest i j)
      same k = subst (NotLateEnd lx (pt t b) s) (sym (ap runs (part_none l i j (omega arith)))) nil

  pub first_end : (n : ℕ) → EarlyEnd lx (pt t b) s (runs (fours (after_early l t b s n) l))
  first_end n = ⊎_elim more same (lt_or_ge 0 i)
    where
      i : ℕ
      i = after_early l t b s n

      more : 0 < i → EarlyEnd lx (pt t b) s (runs (fours i l))
      more k =
          let e : i ≡ suc (i - 1) = omega arith in
          let r = four_at l (4 * (i - 1)) in
          snoc (runs (fours (i - 1) l)) (pt r.track r.start) (pt r.track r.end) (of_z w16 r.state)
          (ap (λ (m : ℕ). runs (fours m l)) e ∙ ap runs (fours_snoc (i - 1) l) ∙ runs_snoc (fours (i - 1) l) r) (first_is n (i - 1) e)

      same : i ≤ 0 → EarlyEnd lx (pt t b) s (runs (fours i l))
      same k = let z : i ≡ 0 = omega arith in subst (EarlyEnd lx (pt t b) s) (sym (ap (λ (m : ℕ). runs (fours m l)) z)) nil

-- ---- both searches, on the records r that are not yet passed, with W behind them
pub record Found (l : List ℤ) (r : ℕ) (t a b : ℤ) (s : ℕ) (W : List Four) (i j : ℕ) : Type 0 where
  pub low : i ≤ j
  pub high : j ≤ r
  pub parts : fours r l ≡ fours i l ++ (fours (j - i) (drop (4 * i) l) ++ fours (r - j) (drop (4 * j) l))
  pub hits : H a b s t (runs (fours r l ++ W)) ≡ runs (fours (j - i) (drop (4 * i) l))
  pub paints : P a b s t (runs (fours r l ++ W)) ≡ runs (fours i l) ++ (new lx (pt t a) (pt t b) s (runs (fours (j - i) (drop (4 * i) l))) ++ runs (fours (r - j) (drop (4 * j) l) ++ W))
  pub on : OnTrack l i j t
  pub mids : On t (runs (fours (j - i) (drop (4 * i) l)))
  pub behind : Late lx (pt t b) s (runs (fours (r - j) (drop (4 * j) l) ++ W))

three : (l : List ℤ) (i j r : ℕ) → i ≤ j → j ≤ r → fours r l ≡ fours i l ++ (fours (j - i) (drop (4 * i) l) ++ fours (r - j) (drop (4 * j) l))
three l i j r h k =
    let e : r ≡ i + ((j - i) + (r - j)) = omega arith in
    let f : 4 * i + 4 * (j - i) ≡ 4 * j = omega arith in
    (λ m. fours (e m) l) ∙ fours_add i ((j - i) + (r - j)) l
    ∙ ap (λ (x : List Four). fours i l ++ x) (fours_add (j - i) (r - j) (drop (4 * i) l) ∙ ap (λ (x : List ℤ). fours (j - i) (drop (4 * i) l) ++ fours (r - j) x) (drop-drop (4 * (j - i)) (4 * i) l ∙ ap (λ (m : ℕ). drop m l) f))

on_first : (t : ℤ) (r : Four) (rs : List Rn) → On t (run_of r ∷ rs) → r.track ≡ t
on_first t r rs (Ot.cons e h k) = e

on_last : (t : ℤ) (xs : List Rn) (r : Four) → On t (xs ++ (run_of r ∷ [])) → r.track ≡ t
on_last t [] r (Ot.cons e h k) = e
on_last t (x ∷ xs) r (Ot.cons e h k) = on_last t xs r k

pub found : (l : List ℤ) (r : ℕ) (t a b : ℤ) (s : ℕ) (W : List Four) (i j : ℕ) → ◌≺◌ lt_z a b → OK s → 4 * r ≤ length l → K (runs (fours r l ++ W)) → Late lx (pt t b) s (runs W)
    → j ≡ before_late l t b s r → i ≡ after_early l t a s j → Found l r t a b s W i j
found l r t a b s W i j lt ok len k late ej ei =
    let hj : j ≤ r = rw ej (last_le l t b s r) in
    let hi : i ≤ j = rw ei (first_le l t a s j) in
    let pre = fours i l in
    let mid = fours (j - i) (drop (4 * i) l) in
    let post = fours (r - j) (drop (4 * j) l) in
    let p : fours r l ≡ pre ++ (mid ++ post) = three l i j r hi hj in
    let q : runs (fours r l ++ W) ≡ runs pre ++ (runs mid ++ runs (post ++ W)) =
    ap (λ (x : List Four). runs (x ++ W)) p ∙ ap runs (append_assoc pre (mid ++ post) W ∙ ap (λ (x : List Four). pre ++ x) (append_assoc mid post W))
    ∙ map_append run_of pre (mid ++ (post ++ W)) ∙ ap (λ (x : List Rn). runs pre ++ x) (map_append run_of mid (post ++ W)) in
    let lp : Late lx (pt t b) s (runs post) = subst (λ (m : ℕ). Late lx (pt t b) s (runs (fours (r - m) (drop (4 * m) l)))) (sym ej) (last_late l t b s r) in
    let la : Late lx (pt t b) s (runs (post ++ W)) = subst (Late lx (pt t b) s) (sym (map_append run_of post W)) (late_append lx (runs W) lp late) in
    let ee : EarlyEnd lx (pt t a) s (runs pre) = subst (λ (m : ℕ). EarlyEnd lx (pt t a) s (runs (fours m l))) (sym ei) (first_end l t a s j) in
    let ne : NotEarly lx (pt t a) s (runs mid) = subst (λ (m : ℕ). NotEarly lx (pt t a) s (runs (fours (j - m) (drop (4 * m) l)))) (sym ei) (first_none l t a s j) in
    let hi' : i ≤ before_late l t b s r = rw (← ej) hi in
    let nl : NotLateEnd lx (pt t b) s (runs mid) = subst (λ (m : ℕ). NotLateEnd lx (pt t b) s (runs (fours (m - i) (drop (4 * i) l)))) (sym ej) (last_end l t b s r i hi') in
    let c = Ot.split a b s lt ok t (runs pre) (runs mid) (runs (post ++ W)) (subst K q k) ee ne nl la in
    let h : H a b s t (runs (fours r l ++ W)) ≡ runs mid = ap (H a b s t) q ∙ c.0 in
    let o : On t (runs mid) = subst (On t) h (Ot.reached a b s lt ok t (runs (fours r l ++ W)) k) in
    record {
      low = hi;
      high = hj;
      parts = p;
      hits = h;
      paints = ap (P a b s t) q ∙ c.1;
      mids = o;
      behind = la;
      on = record {
        first = λ z. let e : j - i ≡ suc (j - i - 1) = omega arith in
            on_first t (four_at l (4 * i)) (runs (fours (j - i - 1) (drop (4 * i + 4) l)))
            (subst (On t) (ap runs ((λ m. fours (e m) (drop (4 * i) l)) ∙ fours_more (j - i - 1) l (4 * i) (omega arith))) o);
        last = λ z. let e : j ≡ suc (j - 1) = omega arith in
            on_last t (runs (fours (j - 1 - i) (drop (4 * i) l))) (four_at l (4 * (j - 1)))
            (subst (On t) (ap runs (part_snoc l i j (j - 1) e (omega arith)) ∙ runs_snoc (fours (j - 1 - i) (drop (4 * i) l)) (four_at l (4 * (j - 1)))) o);
      };
    }
