-- The four numbers of a record as they stand in a flat list, whatever they are: the words by which functions that move records in place say what they do.
-- That such numbers are a record, and its state, is said by the words of `intervals`.
use Rattle.std.specs.Prelude.{List, [], ◌∷◌, ◌++◌, ◌≡◌, ℕ, zero, suc, ◌+◌, ◌-◌, ◌*◌, ◌≤◌, length, drop, get_or, replicate, ℤ, pos}

pub record Four : Type 0 where
  pub track : ℤ
  pub start : ℤ
  pub end : ℤ
  pub state : ℤ

-- the numbers, one after the other
abbrev pub enc : List Four → List ℤ
enc [] = []
enc (x ∷ xs) = x.track ∷ x.start ∷ x.end ∷ x.state ∷ enc xs

-- a list of n numbers that begins with these and goes on with zeros
abbrev pub padded : List Four → ℕ → List ℤ
padded xs n = enc xs ++ replicate (n - 4 * length xs) (pos 0)

-- the four numbers from index `at` on
abbrev pub four_at : List ℤ → ℕ → Four
four_at l at = record { track = get_or l at (pos 0); start = get_or l (at + 1) (pos 0); end = get_or l (at + 2) (pos 0); state = get_or l (at + 3) (pos 0) }

-- the first n fours of a list
abbrev pub fours : ℕ → List ℤ → List Four
fours zero l = []
fours (suc n) l = four_at l 0 ∷ fours n (drop 4 l)

-- the list has n fours, and zeros behind them
pub record Laid (l : List ℤ) (n : ℕ) : Type 0 where
  pub fits : 4 * n ≤ length l
  pub zeros : drop (4 * n) l ≡ replicate (length l - 4 * n) (pos 0)
