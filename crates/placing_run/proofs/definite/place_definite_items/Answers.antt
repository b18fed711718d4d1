-- `place_definite_items` meets its contract: the loop goes along what is left of the step.
use Rattle.std.proofs.Common.{rules, Err}
use mathlib.Core.Path.{◌≡◌}
use mathlib.Core.Bool.{false}
use native.Mathlib.Omega.{arith}
use Rattle.placing_run.proofs.Step1.{going_none, going_on, going_stops, going_done}
use Rattle.placing_run.proofs.definite.place_definite_items.Goals as goal

pub loop-i-init : goal.loop-i-init
loop-i-init c = going_none c.args.run.columns c.args.run.items.numbers.now c.args.matrix c.args.answers.now c.args.primary.now c.args.secondary.now

pub place_definite_item-requires : goal.place_definite_item-requires
place_definite_item-requires c =
    let st = c.requires.stands in
    let l = c.loop-i.invariant.from false st.0 st.1.0 st.1.1.0 st.1.1.1 in
    record {
      i_in_items = omega arith;
      i_in_bounds = omega arith;
      stands = (st.0, (st.1.0, (l.board, l.ready)));
    }

pub loop-i-preserved : goal.loop-i-preserved
loop-i-preserved c = going_on c.loop-i.invariant (omega arith) c.in_ok-matrix.ensures

pub returns-in_err-matrix : goal.returns-in_err-matrix
returns-in_err-matrix c =
    let r = c.in_err-matrix.field-0.0 in
    let e : c.from_residual.result ≡ Err r = search rules in
    rw e (going_stops c.loop-i.invariant (omega arith) r _ _ _ c.in_err-matrix.ensures)

pub returns : goal.returns
returns c = going_done c.loop-i.invariant (omega arith)
