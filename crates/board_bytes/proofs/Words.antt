-- The numbers of a file: how many they are, one more at their end, and those that a byte before moves.
use mathlib.Core.Path.{◌≡◌, refl, ap, ◌∙◌}
use mathlib.Core.List.{List, [], ◌∷◌, ◌++◌}
use Prim.Native.Nat.{ℕ, zero, suc, ◌+◌, ◌*◌, ◌<◌}
use native.Mathlib.Omega.{arith}
use lib.IntN.{ℤ}
use lib.ListN.{length, set, drop, take}
use Rattle.board_bytes.specs.File.{word_at, signed_of, numbers}

pub length_numbers : (bs : List ℕ) (i n : ℕ) → length (numbers bs i n) ≡ n
unfolding numbers
length_numbers bs i zero = refl
length_numbers bs i (suc n) = ap suc (length_numbers bs (suc (suc i)) n)

-- a turn of the loop: the numbers so far, and one store behind them
pub store_next : (bs : List ℕ) (d : List ℤ) (i n : ℕ) → n < length d
    → set (numbers bs i n ++ drop n d) n (signed_of (word_at bs (i + 2 * n))) ≡ numbers bs i (suc n) ++ drop (suc n) d
unfolding numbers
store_next bs [] i n h = absurd (omega arith)
store_next bs (x ∷ d) i zero h = let e : i + 2 * zero ≡ i = omega arith in ap (λ (k : ℕ). signed_of (word_at bs k) ∷ d) e
store_next bs (x ∷ d) i (suc n) h =
    let e : i + 2 * suc n ≡ suc (suc i) + 2 * n = omega arith in
    ap (λ (t : List ℤ). signed_of (word_at bs i) ∷ t)
    (ap (λ (k : ℕ). set (numbers bs (suc (suc i)) n ++ drop n d) n (signed_of (word_at bs k))) e ∙ store_next bs d (suc (suc i)) n (omega arith))

-- the numbers alone, out of the buffer that they were read into
pub take_numbers : (bs : List ℕ) (d : List ℤ) (i n : ℕ) → take n (numbers bs i n ++ d) ≡ numbers bs i n
unfolding numbers
take_numbers bs d i zero = refl
take_numbers bs d i (suc n) = ap (λ (t : List ℤ). signed_of (word_at bs i) ∷ t) (take_numbers bs d (suc (suc i)) n)

-- a byte before all others moves the numbers by one place
pub numbers_behind : (x : ℕ) (bs : List ℕ) (i n : ℕ) → numbers (x ∷ bs) (suc i) n ≡ numbers bs i n
unfolding numbers word_at
numbers_behind x bs i zero = refl
numbers_behind x bs i (suc n) = ap (λ (t : List ℤ). signed_of (word_at bs i) ∷ t) (numbers_behind x bs (suc (suc i)) n)

-- before the first turn
pub numbers_none : (bs : List ℕ) (i : ℕ) (d : List ℤ) → d ≡ numbers bs i 0 ++ drop 0 d
unfolding numbers
numbers_none bs i d = refl
