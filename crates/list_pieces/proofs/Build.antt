-- What becomes of the records that a track's paint reaches: from the first and the last of them to `new`.
use mathlib.Core.Path.{◌≡◌, refl, sym, ap, ◌∙◌}
use mathlib.Core.Bool.{Bool, true, false, cond}
use mathlib.Core.List.{List, [], ◌∷◌, ◌++◌, map}
use Prim.Native.Nat.{ℕ, suc, ◌+◌, ◌-◌, ◌*◌, ◌<◌, ◌≤◌}
use native.Mathlib.Omega.{arith}
use lib.IntN.{ℤ}
use lib.Dec.{eqb}
use lib.Signed.{lt_z}
use lib.ListN.{drop, length}
use mir.Syntax.{w16}
use mir.Val.{of_z}
use Rattle.theory_intervals.specs.Paint.{run, Point, pt}
use Rattle.theory_intervals.proofs.Line.{Test, yea, nay, test}
use Rattle.theory_intervals.proofs.IntOrder.{int_linear}
use Rattle.theory_intervals.specs.Cut.{new, lrem, lstart, rtail, rend, lx, Rn}
use Rattle.list_moves.specs.Fours.{Four, four_at, fours}
use Rattle.list_moves.proofs.Fours.{fours_more, fours_snoc, four_at_drop_add}
use Rattle.list_pieces.proofs.Bits.{ζ}
use Rattle.list_pieces.specs.Reach.{run_of, runs, four, start_of, left_of, end_of, nil, cons, Built, Pieced, OnTrack}

-- the painted record, between what is left of the first record that it reaches and of the last
pub built : (t c v d z a b s : ℤ) (left right : Bool) → left ≡ left_of c (of_z w16 v) a (of_z w16 s) → right ≡ left_of b (of_z w16 s) d (of_z w16 z) → ζ v ≡ v → ζ z ≡ z → ζ s ≡ s
    → Built t c v d z a b s (cond left (four t c a v ∷ []) [] ++ (four t (start_of c (of_z w16 v) a (of_z w16 s)) (end_of d (of_z w16 z) b (of_z w16 s)) s ∷ cond right (four t b d z ∷ []) []))
built t c v d z a b s true true h k V Z S = record { is = rw (← h, ← k); stored = cons V (cons S (cons Z nil)); placed = cons refl (cons refl (cons refl nil)) }
built t c v d z a b s true false h k V Z S = record { is = rw (← h, ← k); stored = cons V (cons S nil); placed = cons refl (cons refl nil) }
built t c v d z a b s false true h k V Z S = record { is = rw (← h, ← k); stored = cons S (cons Z nil); placed = cons refl (cons refl nil) }
built t c v d z a b s false false h k V Z S = record { is = rw (← h, ← k); stored = cons S nil; placed = cons refl nil }

-- ---- from the first and the last record to `new`

lrem_is : (t c a : ℤ) (q : Point ℤ) (v s : ℕ) (ms : List Rn) → lrem lx (pt t a) s (run (pt t c) q v ∷ ms) ≡ cond (left_of c v a s) (run (pt t c) (pt t a) v ∷ []) []
lrem_is t c a q v s ms = go (test (lt_z c a)) (test (eqb v s))
  where
    go : Test (lt_z c a) → Test (eqb v s) → lrem lx (pt t a) s (run (pt t c) q v ∷ ms) ≡ cond (left_of c v a s) (run (pt t c) (pt t a) v ∷ []) []
    go (yea e) (yea i) = rw (int_linear.irr t, e, i)
    go (yea e) (nay i) = rw (int_linear.irr t, e, i)
    go (nay e) i = rw (int_linear.irr t, e)

lstart_is : (t c a : ℤ) (q : Point ℤ) (v s : ℕ) (ms : List Rn) → lstart lx (pt t a) s (run (pt t c) q v ∷ ms) ≡ pt t (start_of c v a s)
lstart_is t c a q v s ms = go (test (lt_z c a)) (test (eqb v s))
  where
    go : Test (lt_z c a) → Test (eqb v s) → lstart lx (pt t a) s (run (pt t c) q v ∷ ms) ≡ pt t (start_of c v a s)
    go (yea e) (yea i) = rw (int_linear.irr t, e, i)
    go (yea e) (nay i) = rw (int_linear.irr t, e, i)
    go (nay e) i = rw (int_linear.irr t, e)

rtail_is : (t d b : ℤ) (p : Point ℤ) (z s : ℕ) (ms : List Rn) → rtail lx (pt t b) s (ms ++ (run p (pt t d) z ∷ [])) ≡ cond (left_of b s d z) (run (pt t b) (pt t d) z ∷ []) []
rtail_is t d b p z s [] = go (test (lt_z b d)) (test (eqb s z))
  where
    go : Test (lt_z b d) → Test (eqb s z) → rtail lx (pt t b) s (run p (pt t d) z ∷ []) ≡ cond (left_of b s d z) (run (pt t b) (pt t d) z ∷ []) []
    go (yea e) (yea i) = rw (int_linear.irr t, e, i)
    go (yea e) (nay i) = rw (int_linear.irr t, e, i)
    go (nay e) i = rw (int_linear.irr t, e)
rtail_is t d b p z s (m ∷ []) = rtail_is t d b p z s []
rtail_is t d b p z s (m ∷ m' ∷ ms) = rtail_is t d b p z s (m' ∷ ms)

rend_is : (t d b : ℤ) (p : Point ℤ) (z s : ℕ) (ms : List Rn) → rend lx (pt t b) s (ms ++ (run p (pt t d) z ∷ [])) ≡ pt t (end_of d z b s)
rend_is t d b p z s [] = go (test (lt_z b d)) (test (eqb s z))
  where
    go : Test (lt_z b d) → Test (eqb s z) → rend lx (pt t b) s (run p (pt t d) z ∷ []) ≡ pt t (end_of d z b s)
    go (yea e) (yea i) = rw (int_linear.irr t, e, i)
    go (yea e) (nay i) = rw (int_linear.irr t, e, i)
    go (nay e) i = rw (int_linear.irr t, e)
rend_is t d b p z s (m ∷ []) = rend_is t d b p z s []
rend_is t d b p z s (m ∷ m' ∷ ms) = rend_is t d b p z s (m' ∷ ms)

pub map_append : {A B : Type 0} (f : A → B) (xs ys : List A) → map f (xs ++ ys) ≡ map f xs ++ map f ys
map_append f [] ys = refl
map_append {A} {B} f (x ∷ xs) ys = ap (λ (r : List B). f x ∷ r) (map_append f xs ys)

module _ (l : List ℤ) (i j : ℕ) (t a b s : ℤ) (h : i < j) (k : 4 * j ≤ length l) (on : OnTrack l i j t) where
  abbrev X : Four
  X = four_at l (4 * i)

  abbrev Y : Four
  Y = four_at l (4 * (j - 1))

  mid_first : runs (fours (j - i) (drop (4 * i) l)) ≡ run (pt t X.start) (pt X.track X.end) (of_z w16 X.state) ∷ runs (fours (j - i - 1) (drop (4 * i + 4) l))
  mid_first =
      let e : j - i ≡ suc (j - i - 1) = omega arith in
      ap runs ((λ m. fours (e m) (drop (4 * i) l)) ∙ fours_more (j - i - 1) l (4 * i) (omega arith))
      ∙ (λ m. run (pt (on.first h m) X.start) (pt X.track X.end) (of_z w16 X.state) ∷ runs (fours (j - i - 1) (drop (4 * i + 4) l)))

  mid_last : runs (fours (j - i) (drop (4 * i) l)) ≡ runs (fours (j - i - 1) (drop (4 * i) l)) ++ (run (pt Y.track Y.start) (pt t Y.end) (of_z w16 Y.state) ∷ [])
  mid_last =
      let e : j - i ≡ suc (j - i - 1) = omega arith in
      let f : 4 * i + 4 * (j - i - 1) ≡ 4 * (j - 1) = omega arith in
      let ms = fours (j - i - 1) (drop (4 * i) l) in
      ap runs ((λ m. fours (e m) (drop (4 * i) l)) ∙ fours_snoc (j - i - 1) (drop (4 * i) l))
      ∙ map_append run_of ms (four_at (drop (4 * i) l) (4 * (j - i - 1)) ∷ [])
      ∙ ap (λ (r : Four). runs ms ++ (run_of r ∷ [])) (four_at_drop_add l (4 * i) (4 * (j - i - 1)) ∙ ap (four_at l) f)
      ∙ (λ m. runs ms ++ (run (pt Y.track Y.start) (pt (on.last h m) Y.end) (of_z w16 Y.state) ∷ []))

  pub pieced : (put : List Four) → Built t X.start X.state Y.end Y.state a b s put → Pieced t a b (of_z w16 s) (fours (j - i) (drop (4 * i) l)) put
  pieced put q =
      let s' = of_z w16 s in
      let v = of_z w16 X.state in
      let z = of_z w16 Y.state in
      let r1 = runs (fours (j - i - 1) (drop (4 * i + 4) l)) in
      let r2 = runs (fours (j - i - 1) (drop (4 * i) l)) in
      let p1 : lrem lx (pt t a) s' (runs (fours (j - i) (drop (4 * i) l))) ≡ cond (left_of X.start v a s') (run (pt t X.start) (pt t a) v ∷ []) [] =
      ap (lrem lx (pt t a) s') mid_first ∙ lrem_is t X.start a (pt X.track X.end) v s' r1 in
      let p2 : lstart lx (pt t a) s' (runs (fours (j - i) (drop (4 * i) l))) ≡ pt t (start_of X.start v a s') =
      ap (lstart lx (pt t a) s') mid_first ∙ lstart_is t X.start a (pt X.track X.end) v s' r1 in
      let p3 : rtail lx (pt t b) s' (runs (fours (j - i) (drop (4 * i) l))) ≡ cond (left_of b s' Y.end z) (run (pt t b) (pt t Y.end) z ∷ []) [] =
      ap (rtail lx (pt t b) s') mid_last ∙ rtail_is t Y.end b (pt Y.track Y.start) z s' r2 in
      let p4 : rend lx (pt t b) s' (runs (fours (j - i) (drop (4 * i) l))) ≡ pt t (end_of Y.end z b s') =
      ap (rend lx (pt t b) s') mid_last ∙ rend_is t Y.end b (pt Y.track Y.start) z s' r2 in
      record { is = q.is ∙ sym (λ m. p1 m ++ (run (p2 m) (p4 m) s' ∷ p3 m)); stored = q.stored; placed = q.placed }

-- no record is reached
pub alone : (l : List ℤ) (i j : ℕ) (t a b s : ℤ) → ζ s ≡ s → j - i ≡ 0 → Pieced t a b (of_z w16 s) (fours (j - i) (drop (4 * i) l)) (four t a b s ∷ [])
alone l i j t a b s S e =
    record { is = sym (ap (λ (k : ℕ). new lx (pt t a) (pt t b) (of_z w16 s) (runs (fours k (drop (4 * i) l)))) e); stored = cons S nil; placed = cons refl nil }
