-- `place_definite_secondary_axis_items` meets its contract: the loop goes along what is left of the step. Assumes nothing.
use borrow.Author.Rules.{rules}
use mathlib.Core.Path.{◌≡◌}
use native.Mathlib.Omega.{arith}
use Rattle.std.specs.Prelude.{Err}
use Rattle.placing_step2.proofs.Step2.{turn_first, turn_next, turn_stops, turn_last}
use Rattle.placing_step2.proofs.place_definite_secondary_axis_items.Goals as goal

pub loop-i-init : goal.loop-i-init
loop-i-init c = turn_first

pub place_definite_secondary_axis_item-requires : goal.place_definite_secondary_axis_item-requires
place_definite_secondary_axis_item-requires c =
    let st = c.requires.stands_fresh in
    let l = c.loop-i.invariant st.0 st.1.0 st.1.1.0 st.1.1.1.0 st.1.1.1.1 in
    record {
      i_in_items = omega arith;
      i_in_bounds = omega arith;
      stands_at = (st.0, (st.1.0, (l.board, (l.ready, l.recorded))));
      onward = l.onward;
    }

pub loop-i-preserved : goal.loop-i-preserved
loop-i-preserved c = turn_next c.loop-i.invariant (omega arith) (omega arith) c.in_ok-matrix.ensures

pub returns : goal.returns
returns c = turn_last c.loop-i.invariant (omega arith)

pub returns-in_err-matrix : goal.returns-in_err-matrix
returns-in_err-matrix c =
    let r = c.in_err-matrix.field-0.0 in
    let e : c.from_residual.result ≡ Err r = search rules in
    rw e (turn_stops c.loop-i.invariant (omega arith) r _ _ _ c.in_err-matrix.ensures)
