-- A list of records as an array of fours, in which std finds where records that are in order pass a number.
use mathlib.Core.Path.{◌≡◌, ap, ◌∙◌}
use mathlib.Core.Bool.{Bool, true, false}
use mathlib.Core.List.{List, []}
use Prim.Native.Nat.{ℕ, zero, suc, ◌+◌, ◌-◌, ◌*◌, ◌/◌, ◌<◌, ◌≤◌}
use native.Mathlib.Omega.{arith}
use native.Mathlib.Decide.{dec_lt}
use lib.ListN.{length, get_or, take, drop}
use lib.IntN.{ℤ, pos}
use lib.Signed.{lt_z, ◌≤ℤ◌, ◌<ℤ◌}
use Rattle.std.specs.Simd.{first_chunks}
use Rattle.std.specs.List.Sorted.{IsPartitionPoint, IsPartitionedBy}
use Rattle.std.proofs.lemmas.List.{get_or-take, get_or-drop, length-take, length-drop}
use Rattle.theory_signed.proofs.Laws.{signed, g_lt_true}
use Rattle.list_tracks.proofs.Sorted.{Halving}

-- number j of four i
chunk_no : (l : List ℤ) (n i j : ℕ) (d : List ℤ) → i < n → j < 4 → get_or (get_or (first_chunks 4 n l) i d) j (pos 0) ≡ get_or l (4 * i + j) (pos 0)
chunk_no l zero i j d h q = absurd (omega arith)
chunk_no l (suc n) zero j d h q = get_or-take 4 l j (pos 0) q ∙ (let e : j ≡ 4 * 0 + j = omega arith in ap (λ (m : ℕ). get_or l m (pos 0)) e)
chunk_no l (suc n) (suc i) j d h q =
    let e : 4 + (4 * i + j) ≡ 4 * suc i + j = omega arith in
    chunk_no (drop 4 l) n i j d (omega arith) q ∙ get_or-drop 4 l (4 * i + j) (pos 0) ∙ ap (λ (m : ℕ). get_or l m (pos 0)) e

-- the records from `from` up to n, which rise by their number j: where that number passes x
module _ (l : List ℤ) (fours : List (List ℤ)) (is : fours ≡ first_chunks 4 (length l / 4) l) (count : length fours ≡ length l / 4) (j : ℕ) (four : j < 4)
    (key : ℕ → ℤ) (number : (k : ℕ) → get_or l (4 * k + j) (pos 0) ≡ key k) (from n : ℕ) (x : ℤ) (room : 4 * n ≤ length l) (few : from ≤ n) where
  abbrev part : List (List ℤ)
  part = take (n - from) (drop from fours)

  abbrev below : List ℤ → Bool
  below y = lt_z (get_or y j (pos 0)) x

  part_no : (i : ℕ) (d : List ℤ) → from + i < n → get_or (get_or part i d) j (pos 0) ≡ key (from + i)
  part_no i d p =
      ap (λ (y : List ℤ). get_or y j (pos 0)) (get_or-take (n - from) (drop from fours) i d (omega arith) ∙ get_or-drop from fours i d ∙ ap (λ (f : List (List ℤ)). get_or f (from + i) d) is)
      ∙ chunk_no l (length l / 4) (from + i) j d (omega arith) four
      ∙ number (from + i)

  inside : (i : ℕ) → i < length part → from + i < n
  inside i h = let e = length-take (n - from) (drop from fours) in omega arith

  pub parted : ((i k : ℕ) → i ≤ k → k < n → key i ≤ℤ key k) → IsPartitionedBy below part
  parted rise i k d h p e =
      let q = inside k p in
      let a = part_no i d (omega arith) in
      let b = part_no k d q in
      let r = rise (from + i) (from + k) (omega arith) q in
      g_lt_true (get_or (get_or part i d) j (pos 0)) x (omega signed)

  pub passed : (r : ℕ) → r ≤ length part → IsPartitionPoint (λ y. below y ≡ true) (λ y. below y ≡ false) part r → ((k : ℕ) → k < from → key k <ℤ x) → Halving key n x (from + r) (from + r)
  passed r h point low = record {
    order = omega arith;
    left = (let e = length-take (n - from) (drop from fours) in omega arith);
    below = λ k b. go k b (dec_lt k from);
    above = λ k b c.
        let e : from + (k - from) ≡ k = omega arith in
        let u = length-take (n - from) (drop from fours) in
        let v = length-drop from fours in
        let w : k - from < length part = omega arith in
        let q : below (get_or part (k - from) []) ≡ false = point.1 (k - from) [] (omega arith) w in
        let s = part_no (k - from) [] (omega arith) ∙ ap key e in
        omega signed;
  }
    where
      go : (k : ℕ) → k < from + r → Dec (k < from) → key k <ℤ x
      go k b (yes c) = low k c
      go k b (no c) =
          let e : from + (k - from) ≡ k = omega arith in
          let q : below (get_or part (k - from) []) ≡ true = point.0 (k - from) [] (omega arith) (omega arith) in
          let s = part_no (k - from) [] (let i = inside (k - from) (omega arith) in omega arith) ∙ ap key e in
          omega signed
