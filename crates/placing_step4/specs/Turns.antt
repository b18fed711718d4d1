-- What one item of step 4 leaves of the lists and the counts, said with a board, as for the other steps, and the cursor beside it.
use Rattle.std.specs.Prelude.{◌≡◌, Bool, List, ℕ, ℤ, Result, Ok, Err}
use Rattle.theory_walk.specs.Axis.{Both}
use Rattle.theory_walk.specs.Walk.{Run, going, stopped}
use Rattle.refusals.specs.declared.Refusal.{Refusal}
use Rattle.refusals.specs.Numbers.{numbered}
use Rattle.placing_search.specs.declared.Pair.{Pair}
use Rattle.placing_laying.specs.declared.Matrix.{Matrix}
use Rattle.placing_laying.specs.Ready.{Ready, Stopped}
use Rattle.placing_step4_choice.specs.Cursor.{place_of}

-- after the item i: the walk goes on with a board that the program's lists stand for and with the program's cursor, or stops there, and the item is
-- refused by a list's number
abbrev pub AfterTurn : Bool → Both ℕ → List ℤ → ℕ → Run → Result (Matrix × Pair) Refusal → List ℤ → List ℤ → List ℤ → Type 0
AfterTurn columns room old i (going b) r answers primary secondary =
    (m : Matrix) × ((q : Pair) × ((r ≡ Ok (m, q)) × (Ready columns room old b m answers primary secondary × (b.cursor ≡ place_of q))))
AfterTurn columns room old i (stopped n j) r answers primary secondary = (r ≡ Err (numbered n i)) × ((j ≡ i) × Stopped columns room old answers primary secondary)
