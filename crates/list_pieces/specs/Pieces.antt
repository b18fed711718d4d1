-- What an enum of one to three records says: how many they are, and their numbers.
use Rattle.std.specs.Prelude.{ℕ, List, ℤ}
use Rattle.list_pieces.specs.declared.pieces.Pieces.{Pieces}
use Rattle.list_pieces.specs.declared.pieces.Pieces.TheVariants.{One, Two, Three}

abbrev pub count : Pieces → ℕ
count (One numbers) = 1
count (Two numbers) = 2
count (Three numbers) = 3

abbrev pub numbers : Pieces → List ℤ
numbers (One x) = x
numbers (Two x) = x
numbers (Three x) = x
