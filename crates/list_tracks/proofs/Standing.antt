-- Where the records of a track stand in a list.
use mathlib.Core.Path.{◌≡◌, refl, sym, ap, ◌∙◌, subst}
use mathlib.Core.List.{List, [], ◌∷◌}
use Prim.Native.Nat.{ℕ, zero, suc, ◌+◌, ◌-◌, ◌*◌, ◌<◌, ◌≤◌}
use native.Mathlib.Omega.{arith}
use lib.ListN.{length, take, drop, length-drop}
use lib.Seq.{length-take-le}
use lib.IntN.{ℤ, pos, ◌+ℤ◌, nat_abs}
use lib.Signed.{◌≤ℤ◌, ◌<ℤ◌}
use Rattle.theory_signed.proofs.Laws.{signed, g_lt_true, g_lt_false}
use Rattle.theory_intervals.specs.Records.{Rec}
use Rattle.theory_intervals.specs.Flat.{rows}
use Rattle.theory_intervals.specs.OverInt.{encode, decode}
use Rattle.theory_intervals.specs.Lists.{recs, on_track, Holds}
use Rattle.list_tracks.specs.Tracks.{before, start_of, Stands}
use Rattle.list_rules.specs.Inner.{track_no, start_no, end_no, state_no, Split, Part}
use Rattle.theory_intervals.proofs.Lists.{holds_room, holds_decode}
use Rattle.list_tracks.proofs.Sorted.{cut_is}

before_rows : (x : ℤ) (n p : ℕ) (t a b : ℕ → ℤ) (s : ℕ → ℕ) → p ≤ n → ((k : ℕ) → k < p → t k <ℤ x) → ((k : ℕ) → p ≤ k → k < n → x ≤ℤ t k) → before x (rows n t a b s) ≡ p
before_rows x zero p t a b s h l u = omega arith
before_rows x (suc n) zero t a b s h l u =
    let e = u 0 (omega arith) (omega arith) in
    rw (g_lt_false (t 0) x (omega signed)) (before_rows x n 0 (λ i. t (suc i)) (λ i. a (suc i)) (λ i. b (suc i)) (λ i. s (suc i)) (omega arith) (λ k q. absurd (omega arith)) (λ k q r. u (suc k) (omega arith) (omega arith)))
before_rows x (suc n) (suc p) t a b s h l u =
    let e = l 0 (omega arith) in
    rw (g_lt_true (t 0) x (omega signed)) (ap suc (before_rows x n p (λ i. t (suc i)) (λ i. a (suc i)) (λ i. b (suc i)) (λ i. s (suc i)) (omega arith) (λ k q. l (suc k) (omega arith)) (λ k q r. u (suc k) (omega arith) (omega arith))))

-- the records before a track are those up to where it begins
before_split : (l : List ℤ) (n : ℕ) (x : ℤ) (p : ℕ) → Split l n x p → before x (recs n l) ≡ p
before_split l n x p s = before_rows x n p (track_no l) (start_no l) (end_no l) (λ i. nat_abs (state_no l i)) s.within s.below s.above

start_some : (t : ℤ) (rs : List (Rec ℤ)) (part : List ℤ) → 0 < length part → start_of t rs part ≡ 4 * before t rs
start_some t rs [] h = absurd (omega arith)
start_some t rs (z ∷ part) h = refl

pub stands_none : {l : List ℤ} {t : ℤ} {part : List ℤ} → [] ≡ part → Stands l t part 0 0
stands_none {l} {t} {part} e = subst (λ (p : List ℤ). Stands l t p 0 0) e (record { first = refl; long = refl; inside = omega arith; is = refl })

module _ {l : List ℤ} {n : ℕ} {t : ℤ} {p q : ℕ} (h : Holds l n) (u : Split l n t p) (v : Split l n (t +ℤ pos 1) q) where
  part_is : p ≤ q → take (4 * q - 4 * p) (drop (4 * p) l) ≡ encode (on_track t (recs n l))
  part_is o = cut_is l n t (t +ℤ pos 1) p q h refl u v o

  pub part_at : p ≤ q → Part l n t (encode (on_track t (recs n l)))
  part_at o = record { from = p; to = q; order = o; begins = u; ends = v; cut = sym (part_is o) }

  pub stands_empty : p ≡ q → Stands l t (encode (on_track t (recs n l))) 0 0
  stands_empty e = let z : 4 * q - 4 * p ≡ 0 = omega arith in stands_none (ap (λ (k : ℕ). take k (drop (4 * p) l)) (sym z) ∙ part_is (omega arith))

  pub stands_some : p < q → Stands l t (encode (on_track t (recs n l))) (4 * p) (4 * q - 4 * p)
  stands_some o =
      let e = part_is (omega arith) in
      let c : 4 * q - 4 * p ≡ length (encode (on_track t (recs n l))) =
      sym (length-take-le (4 * q - 4 * p) (drop (4 * p) l) (omega (arith, length-drop (4 * p) l, holds_room h, v.within))) ∙ ap length e in
      let d : before t (decode l) ≡ p = ap (before t) (holds_decode h) ∙ before_split l n t p u in
      record {
        first = sym (start_some t (decode l) (encode (on_track t (recs n l))) (omega arith) ∙ ap (λ (k : ℕ). 4 * k) d);
        long = c;
        inside = omega (arith, holds_room h, v.within);
        is = e;
      }

-- the part itself
pub stands_part : {l : List ℤ} {t : ℤ} {part : List ℤ} {start count end : ℕ} → Stands l t part start count → end ≡ start + count → take (end - start) (drop start l) ≡ part
stands_part {l} {start = start} {count = count} {end = end} s e = let z : end - start ≡ count = omega arith in ap (λ (k : ℕ). take k (drop start l)) z ∙ s.is
