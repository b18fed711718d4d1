-- A flat list by the places of its records, as code reads it, and the list rules there.
use Rattle.std.specs.Prelude.{None, Some}
use Rattle.std.specs.Bool.{then_some}
use Rattle.std.specs.List.{list_all}
use Rattle.std.proofs.lemmas.List.{get_or-drop, length-drop}
use mathlib.Core.Path.{◌≡◌, refl, sym, ◌∙◌, ap, subst}
use mathlib.Core.Bool.{Bool, true, false, not, ◌&&◌, ◌||◌}
use mathlib.Core.List.{List, [], ◌∷◌, ◌++◌}
use mathlib.Core.Logic.{◌≢◌}
use Prim.Native.Nat.{ℕ, zero, suc, ◌+◌, ◌-◌, ◌*◌, ◌<◌, ◌≤◌}
use native.Mathlib.Omega.{arith}
use lib.Dec.{eqb, ltb}
use lib.ListN.{length, get_or, drop, replicate, length-append}
use lib.IntN.{ℤ, pos, negsuc, nat_abs}
use lib.Signed.{lt_z, non_neg, ◌≤ℤ◌}
use borrow.Author.Tests.{eqb-true, eqb-false, eq-eqb, ltb-true, ltb-false}
use native.Mathlib.Decide.{dec_lt}
use Rattle.theory_signed.proofs.Laws.{signed, by_test, g_lt_true}
use Rattle.theory_intervals.proofs.Line.{Test, yea, nay, test, no_both}
use Rattle.theory_intervals.specs.Records.{Rec, rec, same}
use Rattle.theory_intervals.proofs.Grid.{and_l, and_r, and_i}
use Rattle.theory_intervals.specs.OverInt.{encode, ok, keeps, decode, flat, is_flat, digits, is_zero}
use Rattle.theory_intervals.proofs.Flat.{length_encode}
use Rattle.theory_intervals.proofs.Index.{ruled_keeps, keeps_ruled, counted}
use Rattle.theory_intervals.proofs.OverInt.{digit_laws, is_zero_is}
use Rattle.theory_intervals.specs.Lists.{in_grid, all_in, rules, recs, Holds, used, kept}
use Rattle.theory_intervals.proofs.Lists.{is_in, in_is, all_in_lem, in_all, length_recs, recs_enc, kept_holds}
use Rattle.list_rules.specs.Kept.{kept_of}
use Rattle.list_rules.specs.Inner.{track_no, start_no, end_no, state_no, Says, Good, may_follow, Goes, Front, Zeros}

-- ---- one record

ok_good : (s : ℤ) → pos 1 ≤ℤ s → s ≤ℤ pos 2 → ok (nat_abs s) ≡ true
ok_good (pos n) h k = by_test (eqb n 1) (λ b. b || eqb n 2 ≡ true) (λ e. refl) (λ e. eq-eqb n 2 (let q : n ≢ 1 = λ f. no_both (eq-eqb n 1 f) e in omega signed))
ok_good (negsuc n) h k = absurd (omega signed)

good_ok : (s : ℤ) → non_neg s ≡ true → ok (nat_abs s) ≡ true → (pos 1 ≤ℤ s) × (s ≤ℤ pos 2)
good_ok (negsuc n) p h = no_both p refl
good_ok (pos n) p h = go (test (eqb n 1)) (test (eqb n 2))
  where
    go : Test (eqb n 1) → Test (eqb n 2) → (pos 1 ≤ℤ pos n) × (pos n ≤ℤ pos 2)
    go (yea e) f = let q = eqb-true n 1 e in (omega signed, omega signed)
    go (nay e) (yea f) = let q = eqb-true n 2 f in (omega signed, omega signed)
    go (nay e) (nay f) = no_both h (rw (e, f))

pub nn_good : (s : ℤ) → pos 1 ≤ℤ s → non_neg s ≡ true
nn_good (pos n) h = refl
nn_good (negsuc n) h = absurd (omega signed)

nz_good : (s : ℤ) → pos 1 ≤ℤ s → is_zero s ≡ false
nz_good (pos n) h = by_test (eqb n 0) (λ b. b ≡ false) (λ e. let q = eqb-true n 0 e in absurd (omega signed)) (λ e. refl)
nz_good (negsuc n) h = refl

in_good : {t a b s : ℤ} (v : ℕ) → Good t a b s → in_grid (rec t a b v) ≡ true
in_good {t} {a} {b} v g = is_in t a b v (record { t_lo = g.t_lo; t_hi = g.t_hi; lo = g.lo; hi = g.hi })

-- ---- the rules by index, and back

same_state : (s v : ℤ) → pos 1 ≤ℤ s → pos 1 ≤ℤ v → same lt_z s v ≡ eqb (nat_abs s) (nat_abs v)
same_state (pos s) (pos v) h k = go (test (eqb s v)) (test (ltb s v)) (test (ltb v s))
  where
    go : Test (eqb s v) → Test (ltb s v) → Test (ltb v s) → not (ltb s v) && not (ltb v s) ≡ eqb s v
    go (yea e) (yea f) g = absurd (omega (arith, eqb-true s v e, ltb-true s v f))
    go (yea e) (nay f) (yea g) = absurd (omega (arith, eqb-true s v e, ltb-true v s g))
    go (yea e) (nay f) (nay g) = rw (e, f, g)
    go (nay e) (yea f) g = rw (e, f)
    go (nay e) (nay f) (yea g) = rw (e, f, g)
    go (nay e) (nay f) (nay g) = absurd (eqb-false s v e (omega (arith, ltb-false s v f, ltb-false v s g)))
same_state (pos s) (negsuc v) h k = absurd (omega signed)
same_state (negsuc s) v h k = absurd (omega signed)

pub front_rules : {l : List ℤ} {n : ℕ} → Front l n → rules (recs n l) ≡ true
front_rules {l} {n} f =
    and_i
    (ruled_keeps lt_z ok n (track_no l) (start_no l) (end_no l) (λ i. nat_abs (state_no l i)) (record {
      each = λ i h. let g = (f.each i h).good in g_lt_true (start_no l i) (end_no l i) (omega signed);
      okay = λ i h. ok_good (state_no l i) (f.each i h).good.s_lo (f.each i h).good.s_hi;
      pair = λ i h. rw (← (same_state (state_no l i) (state_no l (suc i)) (f.each i (omega arith)).good.s_lo (f.each (suc i) h).good.s_lo)) ((f.each (suc i) h).next i refl);
    }))
    (all_in_lem n (track_no l) (start_no l) (end_no l) (λ i. nat_abs (state_no l i)) (λ i h. in_good (nat_abs (state_no l i)) (f.each i h).good))

pub rules_front : (l : List ℤ) (n : ℕ) → 4 * n ≤ length l → rules (recs n l) ≡ true → ((i : ℕ) → i < n → non_neg (state_no l i) ≡ true) → Front l n
rules_front l n m h p =
    let k = keeps (recs n l) in
    let r = keeps_ruled lt_z ok n (track_no l) (start_no l) (end_no l) (λ i. nat_abs (state_no l i)) (and_l k (all_in (recs n l)) h) in
    let g = in_all n (track_no l) (start_no l) (end_no l) (λ i. nat_abs (state_no l i)) (and_r k (all_in (recs n l)) h) in
    let o : (i : ℕ) → i < n → Good (track_no l i) (start_no l i) (end_no l i) (state_no l i) = λ i q.
    let x = in_is (track_no l i) (start_no l i) (end_no l i) (nat_abs (state_no l i)) (g i q) in
    let y = good_ok (state_no l i) (p i q) (r.okay i q) in
    let z = r.each i q in
    record { t_lo = x.t_lo; t_hi = x.t_hi; lo = x.lo; order = omega signed; hi = x.hi; s_lo = y.0; s_hi = y.1 } in
    record {
      room = m;
      each = λ i q. record {
        good = o i q;
        next = λ j e.
            let w : may_follow (track_no l j) (end_no l j) (state_no l j) (track_no l (suc j)) (start_no l (suc j)) (state_no l (suc j)) ≡ true =
            rw (same_state (state_no l j) (state_no l (suc j)) (o j (omega arith)).s_lo (o (suc j) (omega arith)).s_lo) (r.pair j (omega arith)) in
            subst (λ (m : ℕ). may_follow (track_no l j) (end_no l j) (state_no l j) (track_no l m) (start_no l m) (state_no l m) ≡ true) e w;
      };
    }

-- ---- a list that holds n records

enc_state : (rs : List (Rec ℤ)) (z : List ℤ) (i : ℕ) → i < length rs → non_neg (state_no (encode rs ++ z) i) ≡ true
enc_state [] z i h = absurd (omega arith)
enc_state (rec t a b s ∷ rs) z zero h = refl
enc_state (rec t a b s ∷ rs) z (suc i) h =
    let e : 4 * suc i + 3 ≡ suc (suc (suc (suc (4 * i + 3)))) = omega arith in
    rw e (enc_state rs z i (omega arith))

get_or_zeros : (k j : ℕ) → get_or (replicate k (pos 0)) j (pos 0) ≡ pos 0
get_or_zeros zero j = refl
get_or_zeros (suc k) zero = refl
get_or_zeros (suc k) (suc j) = get_or_zeros k j

enc_zeros : (rs : List (Rec ℤ)) (k j : ℕ) → 4 * length rs ≤ j → get_or (encode rs ++ replicate k (pos 0)) j (pos 0) ≡ pos 0
enc_zeros [] k j h = get_or_zeros k j
enc_zeros (rec t a b s ∷ rs) k j h =
    let i : ℕ = j - 4 in
    let e : j ≡ suc (suc (suc (suc i))) = omega arith in
    rw e (enc_zeros rs k i (omega arith))

pub record Both (l : List ℤ) (n : ℕ) : Type 0 where
  pub front : Front l n
  pub zeros : Zeros l (4 * n)

-- of the records of any flat list that keep the rules
laid_both : (rs : List (Rec ℤ)) (k : ℕ) → rules rs ≡ true → Both (encode rs ++ replicate k (pos 0)) (length rs)
laid_both rs k h = record {
  front = rules_front (encode rs ++ replicate k (pos 0)) (length rs) (simp length-append (omega (arith, length_encode digits digit_laws rs))) (rw (recs_enc rs (replicate k (pos 0))) h) (λ i q. enc_state rs (replicate k (pos 0)) i q);
  zeros = λ j q m. enc_zeros rs k j q;
}

pub holds_both : {l : List ℤ} {n : ℕ} → Holds l n → Both l n
holds_both {l} {n} h =
    let rs = recs n l in
    let b : Both (flat (length l) rs) (length rs) = laid_both rs (length l - length (encode rs)) h.keep in
    let e : flat (length l) rs ≡ l = sym h.laid in
    let c : length rs ≡ n = length_recs n l in
    subst (λ (m : ℕ). Both l m) c (subst (λ (x : List ℤ). Both x (length rs)) e b)

zero_is : (z : ℤ) → z ≡ pos 0 → is_zero z ≡ true
zero_is z e = rw e

both_flat : {l : List ℤ} {n : ℕ} → Both l n → (decode l ≡ recs n l) × (is_flat l ≡ true)
both_flat {l} {n} b = counted digits n l (record {
  room = b.front.room;
  used = λ i h. nz_good (state_no l i) (b.front.each i h).good.s_lo;
  state = λ i h. nn_good (state_no l i) (b.front.each i h).good.s_lo;
  free = λ j h k. zero_is (get_or l j (pos 0)) (b.zeros j h k);
})

pub both_kept : {l : List ℤ} {n : ℕ} → Both l n → kept_of l ≡ Some n
unfolding kept_of
both_kept {l} {n} b =
    let q = both_flat b in
    rw (q.1, q.0, front_rules b.front) (ap Some (length_recs n l))

-- the answer by cases: a list is one of n records, or broken
pub data Answer (l : List ℤ) : Type 0 where
  holds : (n : ℕ) → Both l n → kept_of l ≡ Some n → Answer l
  broken : kept_of l ≡ None → Answer l

pub answer : (l : List ℤ) → Answer l
unfolding kept_of
answer l = go (test (kept l))
  where
    go : Test (kept l) → Answer l
    go (yea e) = let b = holds_both (kept_holds l e) in holds (used l) b (both_kept b)
    go (nay e) = broken (rw e)

more_goes : {l : List ℤ} {m n : ℕ} → Front l m → n < m → Goes l n
more_goes f h = f.each _ h

not_zero_good : {t a b s : ℤ} → Good t a b s → s ≡ pos 0 → ⊥
not_zero_good g e = omega signed

-- a front that cannot be longer, with something behind it that is not 0: broken
pub front_broken : {l : List ℤ} {n : ℕ} → Front l n → (4 * n + 4 ≤ length l → Goes l n → ⊥) → (Zeros l (4 * n) → ⊥) → kept_of l ≡ None
front_broken {l} {n} f stop z = go (answer l)
  where
    go : Answer l → kept_of l ≡ None
    go (broken e) = e
    go (holds m b e) = absurd (by (dec_lt n m) (dec_lt m n))
      where
        by : Dec (n < m) → Dec (m < n) → ⊥
        by (yes h) d = stop (omega (arith, b.front.room)) (more_goes b.front h)
        by (no h) (yes k) = not_zero_good (f.each m k).good (b.zeros (4 * m + 3) (omega arith) (omega (arith, f.room)))
        by (no h) (no k) = let e : m ≡ n = omega arith in z (subst (λ (x : ℕ). Zeros l (4 * x)) e b.zeros)

-- a list of zeros, by its places
zeros_all : (l : List ℤ) → Says (list_all is_zero l) (Zeros l 0)
zeros_all [] = λ j h k. absurd (omega arith)
zeros_all (z ∷ l) = go (test (is_zero z)) (test (list_all is_zero l)) (zeros_all l)
  where
    go : Test (is_zero z) → Test (list_all is_zero l) → Says (list_all is_zero l) (Zeros l 0) → Says (is_zero z && list_all is_zero l) (Zeros (z ∷ l) 0)
    go (nay e) a r = rw e (λ h. no_both (zero_is z (h 0 (omega arith) (omega arith))) e)
    go (yea e) (nay a) r = rw (e, a) (λ h. (rw a at r) (λ j m k. h (suc j) (omega arith) (omega arith)))
    go (yea e) (yea a) r = rw (e, a) by_place
      where
        by_place : Zeros (z ∷ l) 0
        by_place zero m k = is_zero_is z e
        by_place (suc j) m k = (rw a at r) j (omega arith) (omega arith)

-- the check's answer: a front that cannot be longer, and whether there are only zeros behind it
pub kept_is : {l : List ℤ} {n : ℕ} → Front l n → (4 * n + 4 ≤ length l → Goes l n → ⊥) → then_some (list_all is_zero (drop (4 * n) l)) n ≡ kept_of l
kept_is {l} {n} f stop = go (list_all is_zero (drop (4 * n) l)) (zeros_all (drop (4 * n) l))
  where
    go : (b : Bool) → Says b (Zeros (drop (4 * n) l) 0) → then_some b n ≡ kept_of l
    go true z =
        let behind : Zeros l (4 * n) = λ j a b.
        let e : 4 * n + (j - 4 * n) ≡ j = omega arith in
        sym (get_or-drop (4 * n) l (j - 4 * n) (pos 0) ∙ ap (λ (i : ℕ). get_or l i (pos 0)) e) ∙ z (j - 4 * n) (omega arith) (omega (arith, length-drop (4 * n) l)) in
        sym (both_kept (record { front = f; zeros = behind }))
    go false z = sym (front_broken f stop (λ behind. z (λ j a b. get_or-drop (4 * n) l j (pos 0) ∙ behind (4 * n + j) (omega arith) (omega (arith, length-drop (4 * n) l)))))

pub holds_front : {l : List ℤ} {n : ℕ} → Holds l n → Front l n
holds_front h = (holds_both h).front
