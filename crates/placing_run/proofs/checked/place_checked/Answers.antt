-- `place_checked` meets its contract: the flow names the primary axis, and what the run leaves is the document's outcome.
use Rattle.std.proofs.Common.{rules, Ok, Err}
use mathlib.Core.Path.{◌≡◌, sym, ◌∙◌}
use native.Mathlib.Omega.{arith}
use lib.ListN.{length, length-take}
use Rattle.theory_walk.specs.Request.{Request}
use Rattle.theory_walk.proofs.Checks.{Passed, checked_none}
use Rattle.placing_request.specs.Flows.{flow_number}
use Rattle.placing_request.specs.Items.{request_of}
use Rattle.placing_run.proofs.Outcomes.{passed_items, run_by_columns, run_by_rows}
use Rattle.placing_run.proofs.checked.place_checked.Goals.{Start}
use Rattle.placing_run.proofs.checked.place_checked.Goals as goal

-- the request, and what it has passed
module _ (s : Start) where
  abbrev req : Request
  req = request_of (flow_number s.args.flow) s.args.columns s.args.rows s.args.items.now (length s.args.answers.now) (length s.args.column_list.now) (length s.args.row_list.now)

  passed : Passed req
  passed = checked_none req s.requires

pub invariant_of-items : goal.invariant_of-items
invariant_of-items c = record { good = passed_items (req c) c.requires }

pub slice_bounds-answers-end : goal.slice_bounds-answers-end
slice_bounds-answers-end c = omega (arith, (passed (goal.at.slice_bounds-answers-end c).Start).answers)

pub slice_bounds-answers-end-2 : goal.slice_bounds-answers-end-2
slice_bounds-answers-end-2 c = simp length-take (omega (arith, (passed (goal.at.slice_bounds-answers-end-2 c).Start).answers))

pub place_items-requires : goal.place_items-requires
place_items-requires c = let p = passed (goal.at.place_items-requires c).Start in record {
  len_bound = p.few;
  answers_len = rw (c.len.ensures, length-take) (omega (arith, p.answers));
  sound = (p.counts.columns, p.counts.rows);
}

pub returns-in_err-matrix : goal.returns-in_err-matrix
returns-in_err-matrix c =
    let e : c.from_residual.result ≡ Err c.in_err-matrix.field-0.0 = search rules in
    let s = (goal.at.returns-in_err-matrix c).Start in
    let a = c.args in
    let run = rw (c.len.ensures, c.is_dense.ensures, c.if-run.true) at c.in_err-matrix.ensures in
    let k = run_by_columns (flow_number a.flow) a.columns a.rows a.items.now a.answers.now a.row_list.now a.column_list.now c.requires (passed s).answers (sym c.has_columns_primary.ensures ∙ c.if-run.true) (Err c.in_err-matrix.field-0.0) _ _ _ run in
    record { value = e ∙ k.answer; answers_after = rw c.len.ensures k.in_answers; row_list_after = k.in_rows; column_list_after = k.in_columns }

pub returns-in_ok-matrix : goal.returns-in_ok-matrix
returns-in_ok-matrix c =
    let s = (goal.at.returns-in_ok-matrix c).Start in
    let a = c.args in
    let run = rw (c.len.ensures, c.is_dense.ensures, c.if-run.true) at c.in_ok-matrix.ensures in
    let k = run_by_columns (flow_number a.flow) a.columns a.rows a.items.now a.answers.now a.row_list.now a.column_list.now c.requires (passed s).answers (sym c.has_columns_primary.ensures ∙ c.if-run.true) (Ok c.in_ok-matrix.matrix) _ _ _ run in
    record { value = k.answer; answers_after = rw c.len.ensures k.in_answers; row_list_after = k.in_rows; column_list_after = k.in_columns }

pub place_items-requires-else-run : goal.place_items-requires-else-run
place_items-requires-else-run c = let p = passed (goal.at.place_items-requires-else-run c).Start in record {
  len_bound = p.few;
  answers_len = rw (c.len.ensures, length-take) (omega (arith, p.answers));
  sound = (p.counts.rows, p.counts.columns);
}

pub returns-in_err-matrix-2 : goal.returns-in_err-matrix-2
returns-in_err-matrix-2 c =
    let e : c.from_residual-in_err-matrix-2.result ≡ Err c.in_err-matrix-2.field-0.0 = search rules in
    let s = (goal.at.returns-in_err-matrix-2 c).Start in
    let a = c.args in
    let run = rw (c.len.ensures, c.is_dense.ensures, c.if-run.false) at c.in_err-matrix-2.ensures in
    let k = run_by_rows (flow_number a.flow) a.columns a.rows a.items.now a.answers.now a.row_list.now a.column_list.now c.requires (passed s).answers (sym c.has_columns_primary.ensures ∙ c.if-run.false) (Err c.in_err-matrix-2.field-0.0) _ _ _ run in
    record { value = e ∙ k.answer; answers_after = rw c.len.ensures k.in_answers; row_list_after = k.in_rows; column_list_after = k.in_columns }

pub returns-in_ok-matrix-2 : goal.returns-in_ok-matrix-2
returns-in_ok-matrix-2 c =
    let s = (goal.at.returns-in_ok-matrix-2 c).Start in
    let a = c.args in
    let run = rw (c.len.ensures, c.is_dense.ensures, c.if-run.false) at c.in_ok-matrix-2.ensures in
    let k = run_by_rows (flow_number a.flow) a.columns a.rows a.items.now a.answers.now a.row_list.now a.column_list.now c.requires (passed s).answers (sym c.has_columns_primary.ensures ∙ c.if-run.false) (Ok c.in_ok-matrix-2.matrix) _ _ _ run in
    record { value = k.answer; answers_after = rw c.len.ensures k.in_answers; row_list_after = k.in_rows; column_list_after = k.in_columns }
