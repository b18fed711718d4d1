-- A number of 16 bits as read back from its bits, and one turn of each of the two searches.
use mathlib.Core.Path.{◌≡◌}
use mathlib.Core.Bool.{true, false}
use mathlib.Core.List.{List}
use Prim.Native.Nat.{ℕ, suc, ◌*◌}
use lib.IntN.{ℤ}
use mir.Syntax.{w16}
use mir.Val.{to_z, of_z}
use Rattle.list_moves.specs.Fours.{four_at}
use Rattle.list_pieces.specs.Reach.{early_r, late_r, before_late, after_early}

abbrev pub ζ : ℤ → ℤ
ζ z = to_z w16 (of_z w16 z)

pub last_yes : (l : List ℤ) (t b : ℤ) (s i j : ℕ) → i ≡ suc j → late_r (four_at l (4 * j)) t b s ≡ true → before_late l t b s i ≡ before_late l t b s j
last_yes l t b s i j e h = rw (e, h)

pub last_no : (l : List ℤ) (t b : ℤ) (s i j : ℕ) → i ≡ suc j → late_r (four_at l (4 * j)) t b s ≡ false → before_late l t b s i ≡ i
last_no l t b s i j e h = rw (e, h)

pub first_yes : (l : List ℤ) (t b : ℤ) (s i j : ℕ) → i ≡ suc j → early_r (four_at l (4 * j)) t b s ≡ true → after_early l t b s i ≡ i
first_yes l t b s i j e h = rw (e, h)

pub first_no : (l : List ℤ) (t b : ℤ) (s i j : ℕ) → i ≡ suc j → early_r (four_at l (4 * j)) t b s ≡ false → after_early l t b s i ≡ after_early l t b s j
first_no l t b s i j e h = rw (e, h)
