-- Searches: the first line, or the first pair of lines, at which a test passes, by counting.
use Rattle.std.specs.Prelude.{Bool, cond, ℕ, zero, suc, ℤ, pos, ◌+ℤ◌, Option, Some, None}
use Rattle.theory_signed.specs.Parts.{gap}

-- the first line from z on at which the test passes; after n lines the search ends
unfoldable pub line_from : ℕ → (ℤ → Bool) → ℤ → ℤ
line_from zero ok z = z
line_from (suc n) ok z = let later = line_from n ok (z +ℤ pos 1) in cond (ok z) z later

-- the search ends at line 10000, from which on every line is free (`free_beyond`)
unfoldable pub first_line : (ℤ → Bool) → ℤ → ℤ
first_line ok z = line_from (gap z (pos 10000)) ok z

-- the first of n lines from p on at which the test passes
unfoldable pub among : ℕ → (ℤ → Bool) → ℤ → Option ℤ
among zero ok p = None
among (suc n) ok p = let later = among n ok (p +ℤ pos 1) in cond (ok p) (Some p) later

-- a primary and a secondary line
pub record Place : Type 0 where
  pub primary : ℤ
  pub secondary : ℤ

abbrev pub at : ℤ → ℤ → Place
at p s = record { primary = p; secondary = s }

abbrev pub or_else : {A B : Type 0} → Option A → (A → B) → B → B
or_else None f b = b
or_else (Some a) f b = f a

-- places p: how many primary lines are tried from p on. "then each next secondary line from the current grid start" g; after k secondary lines the search ends
unfoldable pub pair_from : ℕ → (ℤ → ℕ) → ℤ → (ℤ → ℤ → Bool) → ℤ → ℤ → Place
pair_from zero places g ok p s = at p s
pair_from (suc k) places g ok p s =
    let later = pair_from k places g ok g (s +ℤ pos 1) in or_else (among (places p) (λ q. ok q s) p) (λ q. at q s) later

-- "primary lines from the cursor's upward while the span ends at or before the current grid end": how many
unfoldable pub places_to : ℤ → ℕ → ℤ → ℕ
places_to e n p = gap (p +ℤ pos n) (e +ℤ pos 1)

unfoldable pub first_pair : (ℤ → ℕ) → ℤ → (ℤ → ℤ → Bool) → ℤ → ℤ → Place
first_pair places g ok p s = pair_from (suc (gap s (pos 10000))) places g ok p s
