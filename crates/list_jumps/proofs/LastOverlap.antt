-- The last overlapping record of a list of records, from behind.
use Rattle.std.specs.Option.{option_or}
use Rattle.std.specs.Prelude.{None, Option, Some, ℤ}
use mathlib.Core.Path.{◌≡◌, refl, ap, ◌∙◌}
use mathlib.Core.Bool.{true, false, cond}
use mathlib.Core.List.{List, [], ◌∷◌, ◌++◌}
use Prim.Native.Nat.{ℕ, zero, suc, ◌+◌, ◌-◌, ◌*◌, ◌/◌, ◌<◌, ◌≤◌}
use native.Mathlib.Omega.{arith}
use native.Mathlib.Decide.{ℕ_discrete}
use lib.ListN.{length, get_or, drop, length-drop}
use lib.Seq.{get_or-take, get_or-drop, length-take-le}
use lib.IntN.{ℤ, pos, nat_abs}
use lib.Signed.{lt_z, ◌≤ℤ◌}
use Rattle.theory_signed.proofs.Laws.{signed, g_lt_false}
use Rattle.theory_intervals.proofs.Line.{Test, yea, nay, test, no_both}
use Rattle.theory_intervals.specs.Records.{Rec, rec}
use Rattle.theory_intervals.proofs.Index.{rows_snoc}
use Rattle.theory_intervals.specs.Lists.{recs}
use Rattle.list_jumps.specs.Calls.{overlaps, extent_of}
use Rattle.list_rules.specs.Inner.{track_no, start_no, end_no, state_no, may_follow, Front, Part, Ascends}

extent_snoc : (xs : List (Rec ℤ)) (t c d : ℤ) (s : ℕ) (a b : ℤ) → extent_of (xs ++ (rec t c d s ∷ [])) a b ≡ cond (overlaps a b c d) (Some d) (extent_of xs a b)
extent_snoc [] t c d s a b = refl
extent_snoc (rec u x y v ∷ xs) t c d s a b = ap (λ (e : Option ℤ). option_or e (cond (overlaps a b x y) (Some y) None)) (extent_snoc xs t c d s a b) ∙ go (test (overlaps a b c d))
  where
    go : Test (overlaps a b c d) → option_or (cond (overlaps a b c d) (Some d) (extent_of xs a b)) (cond (overlaps a b x y) (Some y) None) ≡ cond (overlaps a b c d) (Some d) (option_or (extent_of xs a b) (cond (overlaps a b x y) (Some y) None))
    go (yea e) = rw e
    go (nay e) = rw e

-- one record less, from behind
pub extent_step : (l : List ℤ) (a b : ℤ) (k j : ℕ) → k ≡ suc j → extent_of (recs k l) a b ≡ cond (overlaps a b (start_no l j) (end_no l j)) (Some (end_no l j)) (extent_of (recs j l) a b)
extent_step l a b k j e =
    ap (λ (m : ℕ). extent_of (recs m l) a b) e
    ∙ ap (λ (r : List (Rec ℤ)). extent_of r a b) (rows_snoc j (track_no l) (start_no l) (end_no l) (λ i. nat_abs (state_no l i)))
    ∙ extent_snoc (recs j l) (track_no l j) (start_no l j) (end_no l j) (nat_abs (state_no l j)) a b

-- ---- a scan that is settled by the first record from behind that starts before the end

none_overlap : (l : List ℤ) (a b : ℤ) (m : ℕ) → ((i : ℕ) → i < m → overlaps a b (start_no l i) (end_no l i) ≡ false) → extent_of (recs m l) a b ≡ None
none_overlap l a b zero h = refl
none_overlap l a b (suc m) h = extent_step l a b (suc m) m refl ∙ rw (h m (omega arith)) (none_overlap l a b m (λ i k. h i (omega arith)))

not_overlap : (a b c d : ℤ) → d ≤ℤ a → overlaps a b c d ≡ false
not_overlap a b c d h = go (test (lt_z c b))
  where
    go : Test (lt_z c b) → overlaps a b c d ≡ false
    go (yea e) = rw (e, g_lt_false a d (omega signed))
    go (nay e) = rw e

ends_before_lem : {l : List ℤ} {n : ℕ} → Ascends l n → (i j : ℕ) → i < j → j < n → end_no l i ≤ℤ start_no l j
ends_before_lem v i zero h k = absurd (omega arith)
ends_before_lem {l} v i (suc j) h k = go (ℕ_discrete i j) (λ m. ends_before_lem v i j m (omega arith))
  where
    go : Dec (i ≡ j) → (i < j → end_no l i ≤ℤ start_no l j) → end_no l i ≤ℤ start_no l (suc j)
    go (yes e) r = rw e (v.next j k)
    go (no d) r = let x = r (omega arith) in let y = v.order j (omega arith) in let z = v.next j k in omega signed

-- starts rise
pub starts_rise : {l : List ℤ} {n : ℕ} → Ascends l n → (i j : ℕ) → i ≤ j → j < n → start_no l i ≤ℤ start_no l j
starts_rise {l} v i j h k = go (ℕ_discrete i j)
  where
    go : Dec (i ≡ j) → start_no l i ≤ℤ start_no l j
    go (yes e) = rw e (omega signed)
    go (no d) = let x = ends_before_lem v i j (omega arith) k in let y = v.order i (omega arith) in omega signed

-- records that start at the end or behind it don't overlap
pub late_off : (l : List ℤ) (a b : ℤ) (k m : ℕ) → k ≤ m → ((i : ℕ) → k ≤ i → i < m → b ≤ℤ start_no l i) → extent_of (recs m l) a b ≡ extent_of (recs k l) a b
late_off l a b k zero h f = let e : 0 ≡ k = omega arith in ap (λ (n : ℕ). extent_of (recs n l) a b) e
late_off l a b k (suc m) h f = go (ℕ_discrete k (suc m)) (λ q. late_off l a b k m q (λ i x y. f i x (omega arith)))
  where
    go : Dec (k ≡ suc m) → (k ≤ m → extent_of (recs m l) a b ≡ extent_of (recs k l) a b) → extent_of (recs (suc m) l) a b ≡ extent_of (recs k l) a b
    go (yes e) r = rw e
    go (no d) r =
        let q = f m (omega arith) (omega arith) in
        extent_step l a b (suc m) m refl ∙ rw (g_lt_false (start_no l m) b (omega signed)) (r (omega arith))

pub settled : {l : List ℤ} {n : ℕ} → Ascends l n → (a b : ℤ) (k j : ℕ) → k ≡ suc j → j < n → end_no l j ≤ℤ a → extent_of (recs k l) a b ≡ None
settled {l} {n} v a b k j e h t =
    none_overlap l a b k (λ i q. go i q (ℕ_discrete i j))
  where
    go : (i : ℕ) → i < k → Dec (i ≡ j) → overlaps a b (start_no l i) (end_no l i) ≡ false
    go i q (yes w) = not_overlap a b (start_no l i) (end_no l i) (rw w t)
    go i q (no w) = not_overlap a b (start_no l i) (end_no l i) (let x = ends_before_lem v i j (omega arith) h in let y = v.order j h in omega signed)

-- the records of a track do so
follow_line : (t b s u c v : ℤ) → may_follow t b s u c v ≡ true → u ≤ℤ t → b ≤ℤ c
follow_line t b s u c v h k = go (test (lt_z c b))
  where
    go : Test (lt_z c b) → b ≤ℤ c
    go (nay e) = omega signed
    go (yea e) = no_both h (by (test (lt_z u t)))
      where
        by : Test (lt_z u t) → may_follow t b s u c v ≡ false
        by (yea i) = rw (g_lt_false t u (omega signed), i)
        by (nay i) = rw (g_lt_false t u (omega signed), i, g_lt_false b c (omega signed), e)

pub part_ascends : {l : List ℤ} {n : ℕ} {t : ℤ} {r : List ℤ} → Front l n → Part l n t r → Ascends r (length r / 4)
part_ascends {l} {n} {t} {r} f p = record {
  order = λ i h. let g = (f.each (p.from + i) (omega (arith, len, p.ends.within))).good in rw (at i 1 (omega (arith, len)) (omega arith), at i 2 (omega (arith, len)) (omega arith)) g.order;
  next = λ i h.
      let x = p.ends.below (suc (p.from + i)) (omega (arith, len)) in
      let y = p.begins.above (p.from + i) (omega arith) (omega (arith, len, p.ends.within)) in
      let k = suc (p.from + i) in
      let q : end_no l (p.from + i) ≤ℤ start_no l k =
      follow_line (track_no l (p.from + i)) (end_no l (p.from + i)) (state_no l (p.from + i)) (track_no l k) (start_no l k) (state_no l k) ((f.each k (omega (arith, len, p.ends.within))).next (p.from + i) refl) (omega signed) in
      let e : p.from + suc i ≡ k = omega arith in
      rw (at i 2 (omega (arith, len)) (omega arith), at (suc i) 1 (omega (arith, len)) (omega arith), e) q;
}
  where
    len : length r / 4 + p.from ≡ p.to
    len = omega (arith, ap length p.cut, length-take-le (4 * p.to - 4 * p.from) (drop (4 * p.from) l) (omega (arith, length-drop (4 * p.from) l, f.room, p.ends.within, p.order)), p.order)

    at : (i j : ℕ) → i < length r / 4 → j < 4 → get_or r (4 * i + j) (pos 0) ≡ get_or l (4 * (p.from + i) + j) (pos 0)
    at i j h k =
        let e : 4 * p.from + (4 * i + j) ≡ 4 * (p.from + i) + j = omega arith in
        ap (λ (z : List ℤ). get_or z (4 * i + j) (pos 0)) p.cut ∙ get_or-take (4 * p.to - 4 * p.from) (drop (4 * p.from) l) (4 * i + j) (pos 0) (omega (arith, len, p.order)) ∙ get_or-drop (4 * p.from) l (4 * i + j) (pos 0)
        ∙ ap (λ (z : ℕ). get_or l z (pos 0)) e
