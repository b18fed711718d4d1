-- "Refusal 12" is given exactly for what is no file of the format: every file of the format is accepted, and reads as the request that it was made of.
use Rattle.std.specs.Prelude.{Some}
use mathlib.Core.Path.{◌≡◌, refl, sym, ap, ◌∙◌}
use mathlib.Core.Bool.{Bool, true, false}
use mathlib.Core.List.{List, [], ◌∷◌, ◌++◌}
use Prim.Native.Nat.{ℕ, zero, suc, ◌+◌, ◌-◌, ◌*◌, ◌/◌, ◌%◌, ◌≤◌, ◌<◌}
use native.Mathlib.Omega.{arith}
use borrow.Author.Tests.{ltb-false, lt-ltb, le-ltb}
use lib.IntN.{ℤ, pos, negsuc, ◌-ℤ◌}
use lib.Dec.{ltb}
use lib.ListN.{length, get_or, drop}
use lib.Seq.{drop-cons}
use native.Mathlib.Nat.{le_of_suc-le-suc, not-suc-le-zero}
use mir.Syntax.{w16}
use mir.Val.{SFits, of_z}
use Rattle.theory_signed.proofs.Laws.{signed}
use Rattle.grid_track_counts.specs.declared.TrackCounts.{TrackCounts}
use Rattle.board_bytes.specs.File.{word_at, length_told, signed_of, numbers, counts_at, items_in, good_file, Contents, read_of, put, put_counts, put_numbers, file_of}
use Rattle.board_bytes.proofs.Words.{numbers_behind}
use Rattle.board_bytes.proofs.Judged.{agrees, good_length, good_told, good_version}

-- "Counts and item count are unsigned, item numbers signed", of 16 bits; six numbers an item
pub record Counts16 (c : TrackCounts) : Type 0 where
  pub negative : c.negative < 65536
  pub explicit : c.explicit < 65536
  pub positive : c.positive < 65536

pub record Holds (n : ℕ) (q : Contents) : Type 0 where
  pub columns : Counts16 q.columns
  pub rows : Counts16 q.rows
  pub count : n < 65536
  pub items : length q.items ≡ 6 * n
  pub numbers : (k : ℕ) → k < length q.items → SFits w16 (get_or q.items k (pos 0))

-- a signed number back from its bits
signed_back : (z : ℤ) → SFits w16 z → signed_of (of_z w16 z) ≡ z
unfolding signed_of
signed_back (pos m) f = let h = f.sfits in simp (lt-ltb m 32768 (omega arith))
signed_back (negsuc m) f =
    let h = f.sfits in
    let e : negsuc m ≡ pos (65536 - suc m) -ℤ pos 65536 = omega signed in
    rw (le-ltb (65536 - suc m) 32768 (omega arith)) (sym e)

two : (n : ℕ) → 256 * (n / 256) + n % 256 ≡ n
two n = omega arith

numbers_past : (xs bs : List ℕ) (n : ℕ) → numbers (xs ++ bs) (length xs) n ≡ numbers bs 0 n
numbers_past [] bs n = refl
numbers_past (x ∷ xs) bs n = numbers_behind x (xs ++ bs) (length xs) n ∙ numbers_past xs bs n

length_put : (zs : List ℤ) → length (put_numbers zs) ≡ 2 * length zs
unfolding put put_numbers
length_put [] = refl
length_put (z ∷ zs) = omega (arith, length_put zs)

numbers_back : (zs : List ℤ) → ((k : ℕ) → k < length zs → SFits w16 (get_or zs k (pos 0))) → numbers (put_numbers zs) 0 (length zs) ≡ zs
unfolding numbers word_at put put_numbers
numbers_back [] f = refl
numbers_back (z ∷ zs) f =
    let b = of_z w16 z in
    let e : signed_of (256 * (b / 256) + b % 256) ≡ z = ap signed_of (two b) ∙ signed_back z (f 0 (omega arith)) in
    let t = numbers_past (b / 256 ∷ b % 256 ∷ []) (put_numbers zs) (length zs) ∙ numbers_back zs (λ k h. f (suc k) (omega arith)) in
    λ i. e i ∷ t i

module _ (n : ℕ) (q : Contents) (h : Holds n q) where
  abbrev bs : List ℕ
  bs = file_of n q

  told : length_told bs ≡ 16 + 12 * n
  unfolding length_told word_at file_of put put_counts
  told = let c = h.count in omega arith

  whole : length bs ≡ 20 + 12 * n
  unfolding file_of put put_counts
  whole = omega (arith, length_put q.items, h.items)

  counted : word_at bs 18 ≡ n
  unfolding word_at file_of put put_counts
  counted = two n

  version : get_or bs 4 0 ≡ 1
  unfolding file_of put put_counts
  version = refl

  -- "Refusal 12" is not given for a file of the format
  pub accepted : good_file bs ≡ true
  accepted =
      let t = told in
      let w = whole in
      let c = counted in
      agrees bs (omega arith) (omega arith) (omega arith) version

  flow_back : get_or bs 5 0 ≡ q.flow
  unfolding file_of put put_counts
  flow_back = refl

  columns_back : counts_at bs 6 ≡ q.columns
  unfolding counts_at word_at file_of put put_counts
  columns_back = λ i. record { negative = two q.columns.negative i; explicit = two q.columns.explicit i; positive = two q.columns.positive i }

  rows_back : counts_at bs 12 ≡ q.rows
  unfolding counts_at word_at file_of put put_counts
  rows_back = λ i. record { negative = two q.rows.negative i; explicit = two q.rows.explicit i; positive = two q.rows.positive i }

  abbrev head : List ℕ
  head =
      (16 + 12 * n) / 65536 / 256 ∷ (16 + 12 * n) / 65536 % 256 ∷ (16 + 12 * n) % 65536 / 256 ∷ (16 + 12 * n) % 65536 % 256 ∷ 1 ∷ q.flow
      ∷ q.columns.negative / 256 ∷ q.columns.negative % 256 ∷ q.columns.explicit / 256 ∷ q.columns.explicit % 256 ∷ q.columns.positive / 256 ∷ q.columns.positive % 256
      ∷ q.rows.negative / 256 ∷ q.rows.negative % 256 ∷ q.rows.explicit / 256 ∷ q.rows.explicit % 256 ∷ q.rows.positive / 256 ∷ q.rows.positive % 256
      ∷ n / 256 ∷ n % 256 ∷ []

  items_back : items_in bs ≡ q.items
  unfolding items_in file_of put put_counts
  items_back =
      let e : 6 * word_at bs 18 ≡ length q.items = omega (arith, counted, h.items) in
      ap (numbers bs 20) e ∙ numbers_past head (put_numbers q.items) (length q.items) ∙ numbers_back q.items h.numbers

  -- and it reads as what it was made of
  pub round_trip : read_of bs ≡ Some q
  unfolding read_of
  round_trip = rw accepted (λ i. Some (record { flow = flow_back i; columns = columns_back i; rows = rows_back i; items = items_back i }))

-- ---- "Refusal 12" is given for everything else: what is accepted is the file of what it reads as

drop_all : (n : ℕ) (d : List ℕ) → length d ≤ n → drop n d ≡ []
drop_all zero [] l = refl
drop_all zero (x ∷ d) l = absurd (not-suc-le-zero l)
drop_all (suc n) [] l = refl
drop_all (suc n) (x ∷ d) l = drop_all n d (le_of_suc-le-suc l)

bits_back : (w : ℕ) → w < 65536 → of_z w16 (signed_of w) ≡ w
unfolding signed_of
bits_back w h = go (ltb w 32768) refl
  where
    go : (t : Bool) → ltb w 32768 ≡ t → of_z w16 (signed_of w) ≡ w
    go true e = rw e refl
    go false e =
        let l = ltb-false w 32768 e in
        let f : pos w -ℤ pos 65536 ≡ negsuc (65535 - w) = sym (let g : negsuc (65535 - w) ≡ pos w -ℤ pos 65536 = omega signed in g) in
        rw e (ap (of_z w16) f ∙ (let g : 65536 - suc (65535 - w) ≡ w = omega arith in g))

module _ (bs : List ℕ) (small : (k : ℕ) → get_or bs k 0 < 256) where
  word_small : (i : ℕ) → word_at bs i < 65536
  unfolding word_at
  word_small i = let a = small i in let b = small (suc i) in omega arith

  put_back : (i : ℕ) → suc i < length bs → put (word_at bs i) (drop (suc (suc i)) bs) ≡ drop i bs
  unfolding word_at put
  put_back i h =
      let a = small i in
      let b = small (suc i) in
      let p : (256 * get_or bs i 0 + get_or bs (suc i) 0) / 256 ≡ get_or bs i 0 = omega arith in
      let q : (256 * get_or bs i 0 + get_or bs (suc i) 0) % 256 ≡ get_or bs (suc i) 0 = omega arith in
      (λ t. p t ∷ q t ∷ drop (suc (suc i)) bs) ∙ sym (drop-cons bs i 0 (omega arith) ∙ ap (λ (l : List ℕ). get_or bs i 0 ∷ l) (drop-cons bs (suc i) 0 h))

  numbers_put : (i m : ℕ) → length bs ≡ i + 2 * m → put_numbers (numbers bs i m) ≡ drop i bs
  unfolding numbers put_numbers
  numbers_put i zero h = sym (drop_all i bs (omega arith))
  numbers_put i (suc m) h =
      (λ t. put (bits_back (word_at bs i) (word_small i) t) (numbers_put (suc (suc i)) m (omega arith) t)) ∙ put_back i (omega arith)

  abbrev pub read_contents : Contents
  read_contents = record { flow = get_or bs 5 0; columns = counts_at bs 6; rows = counts_at bs 12; items = items_in bs }

  -- ---- from the end to the front
  module _ (g : good_file bs ≡ true) where
    long : length bs ≡ 20 + 12 * word_at bs 18
    long = good_length bs g

    items_put : put (word_at bs 18) (put_numbers (items_in bs)) ≡ drop 18 bs
    unfolding items_in
    items_put = let l = long in ap (put (word_at bs 18)) (numbers_put 20 (6 * word_at bs 18) (omega arith)) ∙ put_back 18 (omega arith)

    counts_put : (i : ℕ) → i + 5 < length bs → put_counts (counts_at bs i) (drop (i + 6) bs) ≡ drop i bs
    unfolding put_counts counts_at
    counts_put i h =
        let a : suc (suc (i + 4)) ≡ i + 6 = omega arith in
        let b : suc (suc (i + 2)) ≡ i + 4 = omega arith in
        let c : suc (suc i) ≡ i + 2 = omega arith in
        ap (λ (l : List ℕ). put (word_at bs i) (put (word_at bs (i + 2)) l)) (ap (λ (k : ℕ). put (word_at bs (i + 4)) (drop k bs)) (sym a) ∙ put_back (i + 4) (omega arith))
        ∙ ap (λ (l : List ℕ). put (word_at bs i) l) (ap (λ (k : ℕ). put (word_at bs (i + 2)) (drop k bs)) (sym b) ∙ put_back (i + 2) (omega arith))
        ∙ ap (λ (k : ℕ). put (word_at bs i) (drop k bs)) (sym c) ∙ put_back i (omega arith)

    pub only_files : file_of (word_at bs 18) read_contents ≡ bs
    unfolding file_of
    only_files =
        let l = long in
        let t = good_told bs g in
        let w = word_small 2 in
        let p : (16 + 12 * word_at bs 18) / 65536 ≡ word_at bs 0 = omega (arith, t) in
        let q : (16 + 12 * word_at bs 18) % 65536 ≡ word_at bs 2 = omega (arith, t) in
        let rest : 1 ∷ get_or bs 5 0 ∷ put_counts (counts_at bs 6) (put_counts (counts_at bs 12) (put (word_at bs 18) (put_numbers (items_in bs)))) ≡ drop 4 bs =
        ap (λ (x : List ℕ). 1 ∷ get_or bs 5 0 ∷ put_counts (counts_at bs 6) x) (ap (put_counts (counts_at bs 12)) items_put ∙ counts_put 12 (omega arith))
        ∙ ap (λ (x : List ℕ). 1 ∷ get_or bs 5 0 ∷ x) (counts_put 6 (omega arith))
        ∙ ap (λ (x : List ℕ). 1 ∷ x) (sym (drop-cons bs 5 0 (omega arith)))
        ∙ ap (λ (k : ℕ). k ∷ drop 5 bs) (sym (good_version bs g)) ∙ sym (drop-cons bs 4 0 (omega arith)) in
        (λ i. put (p i) (put (q i) (rest i))) ∙ ap (put (word_at bs 0)) (put_back 2 (omega arith)) ∙ put_back 0 (omega arith)
