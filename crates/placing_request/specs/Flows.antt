-- "0 row, 1 column, 2 row dense, 3 column dense"
use Rattle.std.specs.Prelude.{ℕ, cond, eqb, Result, Ok, Err}
use Rattle.refusals.specs.declared.Refusal.{Refusal}
use Rattle.refusals.specs.declared.Refusal.TheVariants.{UnknownFlow}
use Rattle.placing_request.specs.declared.flow.Flow.{Flow}
use Rattle.placing_request.specs.declared.flow.Flow.TheVariants.{Row, Column, RowDense, ColumnDense}

abbrev pub flow_number : Flow → ℕ
flow_number Row = 0
flow_number Column = 1
flow_number RowDense = 2
flow_number ColumnDense = 3

-- the flow of a number, where it has one
abbrev pub flow_of : ℕ → Result Flow Refusal
flow_of n =
    cond (eqb n 0) (Ok Row)
    (cond (eqb n 1) (Ok Column)
    (cond (eqb n 2) (Ok RowDense)
    (cond (eqb n 3) (Ok ColumnDense) (Err UnknownFlow))))
