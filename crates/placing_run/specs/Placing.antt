-- What a checked request comes to, as the program answers it: the final counts of columns and rows, or a list's number and an item's index.
use Rattle.std.specs.Prelude.{Result, Ok, Err}
use Rattle.refusals.specs.declared.Refusal.{Refusal}
use Rattle.refusals.specs.Numbers.{numbered}
use Rattle.theory_walk.specs.Request.{Outcome, refused, answered}
use Rattle.placing_run.specs.declared.checked.Placed.{Placed}

-- the document's outcome as the answer
abbrev pub placing_of : Outcome → Result Placed Refusal
placing_of (refused n i) = Err (numbered n i)
placing_of (answered a c rs cs) = Ok (record { columns = c.columns; rows = c.rows })
