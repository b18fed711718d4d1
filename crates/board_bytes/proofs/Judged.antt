-- Judging a file: what passes the tests, and what a refused file, and a good one, tells.
use Rattle.std.specs.Prelude.{Result, Ok, Err}
use mathlib.Core.Path.{◌≡◌, refl, ap}
use mathlib.Core.Bool.{Bool, true, false, ◌&&◌}
use mathlib.Core.List.{List}
use Prim.Native.Nat.{ℕ, ◌+◌, ◌*◌, ◌≤◌}
use native.Mathlib.Omega.{arith}
use borrow.Author.Tests.{eqb-true, le-leb, eq-eqb}
use lib.Dec.{eqb, leb}
use lib.ListN.{length, get_or}
use Rattle.theory_intervals.proofs.Grid.{and_l, and_r, and_i}
use Rattle.board_bytes.specs.declared.header.Head.{Head}
use Rattle.refusals.specs.declared.Refusal.{Refusal}
use Rattle.refusals.specs.declared.Refusal.TheVariants.{NotAFile}
use Rattle.board_bytes.specs.File.{word_at, length_told, head_of, good_file, header_of}

-- ---- the header

abbrev answer : Refusal → Result Head Refusal
answer r = Err r

module _ (bs : List ℕ) where
  -- the four tests, and those behind each
  abbrev long : Bool
  long = leb 20 (length bs)

  abbrev whole : Bool
  whole = eqb (length bs) (4 + length_told bs)

  abbrev counted : Bool
  counted = eqb (length_told bs) (16 + 12 * word_at bs 18)

  abbrev version : Bool
  version = eqb (get_or bs 4 0) 1

  pub agrees : 20 ≤ length bs → length bs ≡ 4 + length_told bs → length_told bs ≡ 16 + 12 * word_at bs 18 → get_or bs 4 0 ≡ 1 → good_file bs ≡ true
  unfolding good_file
  agrees a b c d = and_i (le-leb 20 (length bs) a) (and_i (eq-eqb _ _ b) (and_i (eq-eqb _ _ c) (eq-eqb _ _ d)))

  pub header_refused : (r : Refusal) → Err r ≡ header_of bs → (good_file bs ≡ false) × (r ≡ NotAFile)
  unfolding header_of
  header_refused r e = by (good_file bs) refl
    where
      by : (b : Bool) → good_file bs ≡ b → (b ≡ false) × (r ≡ NotAFile)
      by false f = let y : answer r ≡ answer NotAFile = rw f at e in (refl, cc)
      by true f = let y : answer r ≡ Ok (head_of bs) = rw f at e in let z : ◌≡◌ {A = ℕ} 0 1 = cc in absurd (omega arith)

  pub header_good : (h : Head) → Ok h ≡ header_of bs → (good_file bs ≡ true) × (h ≡ head_of bs)
  unfolding header_of
  header_good h e = by (good_file bs) refl
    where
      by : (b : Bool) → good_file bs ≡ b → (b ≡ true) × (h ≡ head_of bs)
      by true f = let y : ◌≡◌ {A = Result Head Refusal} (Ok h) (Ok (head_of bs)) = rw f at e in (refl, cc)
      by false f = let y : Ok h ≡ answer NotAFile = rw f at e in let z : ◌≡◌ {A = ℕ} 0 1 = cc in absurd (omega arith)

  pub good_length : good_file bs ≡ true → length bs ≡ 20 + 12 * word_at bs 18
  unfolding good_file
  good_length g =
      let r = and_r long (whole && (counted && version)) g in
      let a = eqb-true (length bs) (4 + length_told bs) (and_l whole (counted && version) r) in
      let b = eqb-true (length_told bs) (16 + 12 * word_at bs 18) (and_l counted version (and_r whole (counted && version) r)) in
      omega arith

  pub good_told : good_file bs ≡ true → 65536 * word_at bs 0 + word_at bs 2 ≡ 16 + 12 * word_at bs 18
  unfolding good_file length_told
  good_told g =
      let r = and_r long (whole && (counted && version)) g in
      eqb-true (length_told bs) (16 + 12 * word_at bs 18) (and_l counted version (and_r whole (counted && version) r))

  pub good_version : good_file bs ≡ true → get_or bs 4 0 ≡ 1
  unfolding good_file
  good_version g =
      let r = and_r whole (counted && version) (and_r long (whole && (counted && version)) g) in
      eqb-true (get_or bs 4 0) 1 (and_r counted version r)

  pub head_count : (h : Head) → h ≡ head_of bs → h.count ≡ word_at bs 18
  unfolding head_of
  head_count h e = ap (λ (x : Head). x.count) e

  pub head_flow : (h : Head) → h ≡ head_of bs → h.flow ≡ get_or bs 5 0
  unfolding head_of
  head_flow h e = ap (λ (x : Head). x.flow) e
