-- Lists of records by their indices, as code has them: record i is T i, A i, B i, S i.
use mathlib.Core.Path.{◌≡◌, refl, sym, ap, ◌∙◌}
use mathlib.Core.Bool.{Bool, true, false, not, ◌&&◌}
use mathlib.Core.List.{List, [], ◌∷◌, ◌++◌}
use Prim.Native.Nat.{ℕ, zero, suc, ◌+◌, ◌*◌, ◌<◌, ◌≤◌}
use native.Mathlib.Omega.{arith}
use lib.ListN.{length, get_or}
use borrow.Author.Tests.{not-true}
use Rattle.theory_intervals.specs.Records.{Rec, rec, same, between, cell_of, keeps, behind, follows}
use Rattle.theory_intervals.specs.Paint.{lex}
use Rattle.theory_intervals.specs.Flat.{Digits, decode, is_flat, zeros, rows, flat_rows}
use Rattle.theory_intervals.proofs.Line as Ln
use Rattle.theory_intervals.proofs.Line.{Linear, Test, yea, nay, test, no_both}
use Rattle.theory_intervals.proofs.Grid as Gr
use Rattle.theory_intervals.proofs.Grid.{Span, and_l, and_r, and_i, and₃}

pub rows_snoc : {Z : Type 0} (n : ℕ) (T A B : ℕ → Z) (S : ℕ → ℕ) → rows (suc n) T A B S ≡ rows n T A B S ++ (rec (T n) (A n) (B n) (S n) ∷ [])
rows_snoc zero T A B S = refl
rows_snoc {Z} (suc n) T A B S = ap (λ (l : List (Rec Z)). rec (T 0) (A 0) (B 0) (S 0) ∷ l) (rows_snoc n (λ i. T (suc i)) (λ i. A (suc i)) (λ i. B (suc i)) (λ i. S (suc i)))

module _ {Z : Type 0} (ltb : Z → Z → Bool) (ok : ℕ → Bool) where
  pub record Ruled (n : ℕ) (T A B : ℕ → Z) (S : ℕ → ℕ) : Type 0 where
    pub each : (i : ℕ) → i < n → ltb (A i) (B i) ≡ true
    pub okay : (i : ℕ) → i < n → ok (S i) ≡ true
    pub pair : (i : ℕ) → suc i < n → follows ltb (T i) (B i) (S i) (T (suc i)) (A (suc i)) (S (suc i)) ≡ true

  shift : {n : ℕ} {T A B : ℕ → Z} {S : ℕ → ℕ} → Ruled (suc n) T A B S → Ruled n (λ i. T (suc i)) (λ i. A (suc i)) (λ i. B (suc i)) (λ i. S (suc i))
  shift r = record { each = λ i h. r.each (suc i) (omega arith); okay = λ i h. r.okay (suc i) (omega arith); pair = λ i h. r.pair (suc i) (omega arith) }

  -- behind the record before the first
  ruled_behind : (n : ℕ) (T A B : ℕ → Z) (S : ℕ → ℕ) → Ruled (suc n) T A B S → behind ltb ok (T 0) (B 0) (S 0) (rows n (λ i. T (suc i)) (λ i. A (suc i)) (λ i. B (suc i)) (λ i. S (suc i))) ≡ true
  ruled_behind zero T A B S r = refl
  ruled_behind (suc n) T A B S r =
      and_i (r.pair 0 (omega arith)) (and_i (r.each 1 (omega arith)) (and_i (r.okay 1 (omega arith)) (ruled_behind n (λ i. T (suc i)) (λ i. A (suc i)) (λ i. B (suc i)) (λ i. S (suc i)) (shift r))))

  pub ruled_keeps : (n : ℕ) (T A B : ℕ → Z) (S : ℕ → ℕ) → Ruled n T A B S → keeps ltb ok (rows n T A B S) ≡ true
  ruled_keeps zero T A B S r = refl
  ruled_keeps (suc n) T A B S r = and_i (r.each 0 (omega arith)) (and_i (r.okay 0 (omega arith)) (ruled_behind n T A B S r))

  unshift : (n : ℕ) (T A B : ℕ → Z) (S : ℕ → ℕ) → ltb (A 0) (B 0) ≡ true → ok (S 0) ≡ true
      → (0 < n → follows ltb (T 0) (B 0) (S 0) (T 1) (A 1) (S 1) ≡ true)
      → Ruled n (λ i. T (suc i)) (λ i. A (suc i)) (λ i. B (suc i)) (λ i. S (suc i)) → Ruled (suc n) T A B S
  unshift n T A B S l o f r = record {
    each = each;
    okay = okay;
    pair = pair;
  }
    where
      each : (i : ℕ) → i < suc n → ltb (A i) (B i) ≡ true
      each zero h = l
      each (suc j) h = r.each j (omega arith)

      okay : (i : ℕ) → i < suc n → ok (S i) ≡ true
      okay zero h = o
      okay (suc j) h = r.okay j (omega arith)

      pair : (i : ℕ) → suc i < suc n → follows ltb (T i) (B i) (S i) (T (suc i)) (A (suc i)) (S (suc i)) ≡ true
      pair zero h = f (omega arith)
      pair (suc j) h = r.pair j (omega arith)

  empty_ruled : (T A B : ℕ → Z) (S : ℕ → ℕ) → Ruled 0 T A B S
  empty_ruled T A B S = record { each = λ i h. absurd (omega arith); okay = λ i h. absurd (omega arith); pair = λ i h. absurd (omega arith) }

  behind_ruled : (n : ℕ) (T A B : ℕ → Z) (S : ℕ → ℕ) → ltb (A 0) (B 0) ≡ true → ok (S 0) ≡ true
      → behind ltb ok (T 0) (B 0) (S 0) (rows n (λ i. T (suc i)) (λ i. A (suc i)) (λ i. B (suc i)) (λ i. S (suc i))) ≡ true → Ruled (suc n) T A B S
  behind_ruled zero T A B S l o h = unshift 0 T A B S l o (λ k. absurd (omega arith)) (empty_ruled (λ i. T (suc i)) (λ i. A (suc i)) (λ i. B (suc i)) (λ i. S (suc i)))
  behind_ruled (suc n) T A B S l o h =
      let q = follows ltb (T 0) (B 0) (S 0) (T 1) (A 1) (S 1) in
      let x = behind ltb ok (T 1) (B 1) (S 1) (rows n (λ i. T (suc (suc i))) (λ i. A (suc (suc i))) (λ i. B (suc (suc i))) (λ i. S (suc (suc i)))) in
      let k = ltb (A 1) (B 1) && (ok (S 1) && x) in
      let j = and₃ (ltb (A 1) (B 1)) (ok (S 1)) x (and_r q k h) in
      unshift (suc n) T A B S l o (λ z. and_l q k h) (behind_ruled n (λ i. T (suc i)) (λ i. A (suc i)) (λ i. B (suc i)) (λ i. S (suc i)) j.0 j.1 j.2)

  pub keeps_ruled : (n : ℕ) (T A B : ℕ → Z) (S : ℕ → ℕ) → keeps ltb ok (rows n T A B S) ≡ true → Ruled n T A B S
  keeps_ruled zero T A B S h = empty_ruled T A B S
  keeps_ruled (suc n) T A B S h =
      let j = and₃ (ltb (A 0) (B 0)) (ok (S 0)) (behind ltb ok (T 0) (B 0) (S 0) (rows n (λ i. T (suc i)) (λ i. A (suc i)) (λ i. B (suc i)) (λ i. S (suc i)))) h in
      behind_ruled n T A B S j.0 j.1 j.2

  -- a cell in no record
  pub rows_none : (n : ℕ) (T A B : ℕ → Z) (S : ℕ → ℕ) (t p : Z) → ((i : ℕ) → i < n → same ltb t (T i) && between ltb (A i) (B i) p ≡ false) → cell_of ltb (rows n T A B S) t p ≡ 0
  rows_none zero T A B S t p h = refl
  rows_none (suc n) T A B S t p h = rw (h 0 (omega arith)) (rows_none n (λ i. T (suc i)) (λ i. A (suc i)) (λ i. B (suc i)) (λ i. S (suc i)) t p (λ i k. h (suc i) (omega arith)))

module _ {Z : Type 0} (ltb : Z → Z → Bool) (L : Linear Z ltb) (ok : ℕ → Bool) (ok-zero : ok 0 ≡ false) where
  -- a list behind a record has none of the record's cells
  pub behind_free : (t a b : Z) (s : ℕ) (rs : List (Rec Z)) (u p : Z) → behind ltb ok t b s rs ≡ true → same ltb u t && between ltb a b p ≡ true → cell_of ltb rs u p ≡ 0
  behind_free t a b s rs u p h c =
      let x = and_l (same ltb u t) (between ltb a b p) c in
      let y = and_r (same ltb u t) (between ltb a b p) c in
      let e = not-true (ltb u t) (and_l (not (ltb u t)) (not (ltb t u)) x) in
      let i = not-true (ltb t u) (and_r (not (ltb u t)) (not (ltb t u)) x) in
      let j = and_r (not (ltb p a)) (ltb p b) y in
      sym (Gr.line_cell ltb L rs u p)
      ∙ Ln.below (lex ltb) (Gr.lex_linear ltb L) (Gr.IsOk ltb L ok ok-zero) (Span ltb) (Gr.rules ltb L ok ok-zero) (Gr.to_from ltb L ok ok-zero t b s rs h) (record { lt = rw (e, i, j) })

  -- a cell in a record has that record's state
  pub rows_cell : (n : ℕ) (T A B : ℕ → Z) (S : ℕ → ℕ) (t p : Z) → keeps ltb ok (rows n T A B S) ≡ true
      → (i : ℕ) → i < n → same ltb t (T i) && between ltb (A i) (B i) p ≡ true → cell_of ltb (rows n T A B S) t p ≡ S i
  rows_cell zero T A B S t p h i l c = absurd (omega arith)
  rows_cell (suc n) T A B S t p h zero l c = rw c
  rows_cell (suc n) T A B S t p h (suc i) l c =
      let r = keeps_ruled ltb ok (suc n) T A B S h in
      let q = shift ltb ok r in
      let rest = rows n (λ i. T (suc i)) (λ i. A (suc i)) (λ i. B (suc i)) (λ i. S (suc i)) in
      go (test (same ltb t (T 0) && between ltb (A 0) (B 0) p))
      (rows_cell n (λ i. T (suc i)) (λ i. A (suc i)) (λ i. B (suc i)) (λ i. S (suc i)) t p (ruled_keeps ltb ok n (λ i. T (suc i)) (λ i. A (suc i)) (λ i. B (suc i)) (λ i. S (suc i)) q) i (omega arith) c)
      (ruled_behind ltb ok n T A B S r)
      (r.okay (suc i) l)
    where
      go : Test (same ltb t (T 0) && between ltb (A 0) (B 0) p)
          → cell_of ltb (rows n (λ i. T (suc i)) (λ i. A (suc i)) (λ i. B (suc i)) (λ i. S (suc i))) t p ≡ S (suc i)
          → behind ltb ok (T 0) (B 0) (S 0) (rows n (λ i. T (suc i)) (λ i. A (suc i)) (λ i. B (suc i)) (λ i. S (suc i))) ≡ true
          → ok (S (suc i)) ≡ true
          → cell_of ltb (rows (suc n) T A B S) t p ≡ S (suc i)
      go (nay e) x b o = rw e x
      go (yea e) x b o = no_both o (rw (sym x ∙ behind_free (T 0) (A 0) (B 0) (S 0) (rows n (λ i. T (suc i)) (λ i. A (suc i)) (λ i. B (suc i)) (λ i. S (suc i))) t p b e) ok-zero)

-- ---- the rows of a flat list

pub rows_ext : {Z : Type 0} (n : ℕ) (T A B T' A' B' : ℕ → Z) (S S' : ℕ → ℕ) → ((i : ℕ) → i < n → T i ≡ T' i) → ((i : ℕ) → i < n → A i ≡ A' i) → ((i : ℕ) → i < n → B i ≡ B' i) → ((i : ℕ) → i < n → S i ≡ S' i)
    → rows n T A B S ≡ rows n T' A' B' S'
rows_ext zero T A B T' A' B' S S' t a b s = refl
rows_ext (suc n) T A B T' A' B' S S' t a b s =
    let e = t 0 (omega arith) in
    let i = a 0 (omega arith) in
    let j = b 0 (omega arith) in
    let k = s 0 (omega arith) in
    let l = rows_ext n (λ i. T (suc i)) (λ i. A (suc i)) (λ i. B (suc i)) (λ i. T' (suc i)) (λ i. A' (suc i)) (λ i. B' (suc i)) (λ i. S (suc i)) (λ i. S' (suc i))
    (λ i h. t (suc i) (omega arith)) (λ i h. a (suc i) (omega arith)) (λ i h. b (suc i) (omega arith)) (λ i h. s (suc i) (omega arith)) in
    cc

-- four numbers on
skip : {Z : Type 0} (t a b s o : Z) (zs : List Z) (i k : ℕ) → get_or (t ∷ a ∷ b ∷ s ∷ zs) (4 * suc i + k) o ≡ get_or zs (4 * i + k) o
skip t a b s o zs i k = let e : 4 * suc i + k ≡ suc (suc (suc (suc (4 * i + k)))) = omega arith in rw e

skip₀ : {Z : Type 0} (t a b s o : Z) (zs : List Z) (i : ℕ) → get_or (t ∷ a ∷ b ∷ s ∷ zs) (4 * suc i) o ≡ get_or zs (4 * i) o
skip₀ t a b s o zs i = let e : 4 * suc i ≡ suc (suc (suc (suc (4 * i)))) = omega arith in rw e

pub flat_rows_step : {Z : Type 0} (D : Digits Z) (n : ℕ) (t a b s : Z) (zs : List Z) → flat_rows D (suc n) (t ∷ a ∷ b ∷ s ∷ zs) ≡ rec t a b (D.st_of s) ∷ flat_rows D n zs
flat_rows_step {Z} D n t a b s zs =
    let l : List Z = t ∷ a ∷ b ∷ s ∷ zs in
    ap (λ (r : List (Rec Z)). rec t a b (D.st_of s) ∷ r)
    (rows_ext n (λ i. get_or l (4 * suc i) D.o) (λ i. get_or l (4 * suc i + 1) D.o) (λ i. get_or l (4 * suc i + 2) D.o)
    (λ i. get_or zs (4 * i) D.o) (λ i. get_or zs (4 * i + 1) D.o) (λ i. get_or zs (4 * i + 2) D.o)
    (λ i. D.st_of (get_or l (4 * suc i + 3) D.o)) (λ i. D.st_of (get_or zs (4 * i + 3) D.o))
    (λ i h. skip₀ t a b s D.o zs i) (λ i h. skip t a b s D.o zs i 1) (λ i h. skip t a b s D.o zs i 2) (λ i h. ap D.st_of (skip t a b s D.o zs i 3)))

-- a flat list with n records: states that are not 0, and zeros behind
pub record Counted {Z : Type 0} (D : Digits Z) (n : ℕ) (zs : List Z) : Type 0 where
  pub room : 4 * n ≤ length zs
  pub used : (i : ℕ) → i < n → D.is_o (get_or zs (4 * i + 3) D.o) ≡ false
  pub state : (i : ℕ) → i < n → D.is_st (get_or zs (4 * i + 3) D.o) ≡ true
  pub free : (j : ℕ) → 4 * n ≤ j → j < length zs → D.is_o (get_or zs j D.o) ≡ true

module _ {Z : Type 0} (D : Digits Z) where
  counted_tail : (n : ℕ) (t a b s : Z) (zs : List Z) → Counted D (suc n) (t ∷ a ∷ b ∷ s ∷ zs) → Counted D n zs
  counted_tail n t a b s zs c = record {
    room = omega (arith, c.room);
    used = λ i h. rw (skip t a b s D.o zs i 3) at (c.used (suc i) (omega arith));
    state = λ i h. rw (skip t a b s D.o zs i 3) at (c.state (suc i) (omega arith));
    free = λ j h k. c.free (suc (suc (suc (suc j)))) (omega arith) (omega arith);
  }

  zeros_of : (zs : List Z) → ((j : ℕ) → j < length zs → D.is_o (get_or zs j D.o) ≡ true) → zeros D zs ≡ true
  zeros_of [] h = refl
  zeros_of (z ∷ zs) h = and_i (h 0 (omega arith)) (zeros_of zs (λ j k. h (suc j) (omega arith)))

  no_rows : (zs : List Z) → Counted D 0 zs → (decode D zs ≡ []) × (is_flat D zs ≡ true)
  no_rows [] c = (refl, refl)
  no_rows (t ∷ []) c = (refl, zeros_of (t ∷ []) (λ j k. c.free j (omega arith) k))
  no_rows (t ∷ a ∷ []) c = (refl, zeros_of (t ∷ a ∷ []) (λ j k. c.free j (omega arith) k))
  no_rows (t ∷ a ∷ b ∷ []) c = (refl, zeros_of (t ∷ a ∷ b ∷ []) (λ j k. c.free j (omega arith) k))
  no_rows (t ∷ a ∷ b ∷ s ∷ zs) c =
      let e : D.is_o s ≡ true = c.free 3 (omega arith) (omega arith) in
      (rw e, rw e (rw e at (zeros_of (t ∷ a ∷ b ∷ s ∷ zs) (λ j k. c.free j (omega arith) k))))

  -- then its records are those n
  pub counted : (n : ℕ) (zs : List Z) → Counted D n zs → (decode D zs ≡ flat_rows D n zs) × (is_flat D zs ≡ true)
  counted zero zs c = no_rows zs c
  counted (suc n) [] c = absurd (omega (arith, c.room))
  counted (suc n) (t ∷ []) c = absurd (omega (arith, c.room))
  counted (suc n) (t ∷ a ∷ []) c = absurd (omega (arith, c.room))
  counted (suc n) (t ∷ a ∷ b ∷ []) c = absurd (omega (arith, c.room))
  counted (suc n) (t ∷ a ∷ b ∷ s ∷ zs) c =
      let e : D.is_o s ≡ false = c.used 0 (omega arith) in
      let i : D.is_st s ≡ true = c.state 0 (omega arith) in
      let q = counted n zs (counted_tail n t a b s zs c) in (
        rw e (ap (λ (r : List (Rec Z)). rec t a b (D.st_of s) ∷ r) q.0 ∙ sym (flat_rows_step D n t a b s zs)),
        rw (e, i) q.1,
      )

-- the first record that has the cell
pub rows_first : {Z : Type 0} (ltb : Z → Z → Bool) (n : ℕ) (T A B : ℕ → Z) (S : ℕ → ℕ) (t p : Z) (i : ℕ) → i < n
    → ((j : ℕ) → j < i → same ltb t (T j) && between ltb (A j) (B j) p ≡ false) → same ltb t (T i) && between ltb (A i) (B i) p ≡ true → cell_of ltb (rows n T A B S) t p ≡ S i
rows_first ltb zero T A B S t p i l h c = absurd (omega arith)
rows_first ltb (suc n) T A B S t p zero l h c = rw c
rows_first ltb (suc n) T A B S t p (suc i) l h c =
    rw (h 0 (omega arith)) (rows_first ltb n (λ i. T (suc i)) (λ i. A (suc i)) (λ i. B (suc i)) (λ i. S (suc i)) t p i (omega arith) (λ j k. h (suc j) (omega arith)) c)
