-- `place` meets its contract: a refusal by 1 to 6 leaves everything as it was, and a request that passes is placed.
use Rattle.std.proofs.Common.{rules, Err}
use mathlib.Core.Path.{◌≡◌, sym, ap, ◌∙◌}
use lib.ListN.{length}
use Rattle.refusals.specs.declared.Refusal.{Refusal}
use Rattle.theory_walk.specs.Request.{Request, checked}
use Rattle.theory_walk.proofs.Promises.{checks_refuse, refusal_unchanged}
use Rattle.placing_request.specs.Items.{request_of}
use Rattle.placing_run.specs.Placing.{placing_of}
use Rattle.hoarbale_placing.proofs.Placed.{Refused, check_passed, check_refused}
use Rattle.hoarbale_placing.proofs.place.Goals.{Start}
use Rattle.hoarbale_placing.proofs.place.Goals as goal

-- the request of the arguments
abbrev req : Start → Request
req s = request_of s.args.flow s.args.columns s.args.rows s.args.items.now (length s.args.answers.now) (length s.args.column_list.now) (length s.args.row_list.now)

-- what the `?` gives back is the check's own refusal
refused : (c : goal.After-from_residual) → Refused (checked (req (goal.at.returns-in_err-flow c).Start)) c.in_err-flow.field-0.0
refused c = check_refused (req (goal.at.returns-in_err-flow c).Start) c.in_err-flow.field-0.0 (search rules)

pub returns-in_err-flow : goal.returns-in_err-flow
returns-in_err-flow c =
    let q = req (goal.at.returns-in_err-flow c).Start in
    let r = c.in_err-flow.field-0.0 in
    let e : c.from_residual.result ≡ Err r = search rules in
    let x = refused c in
    let l = refusal_unchanged q _ x.is in
    record {
      value = e ∙ ap (λ (y : Refusal). Err y) x.refusal ∙ sym (ap placing_of (checks_refuse q _ _ x.is));
      answers_after = sym (l.in_answers c.args.answers.now);
      row_list_after = sym (l.in_rows c.args.row_list.now);
      column_list_after = sym (l.in_columns c.args.column_list.now);
    }

pub place_checked-requires : goal.place_checked-requires
place_checked-requires c =
    let q = req (goal.at.place_checked-requires c).Start in
    let p = check_passed c.args.flow (checked q) c.in_ok-flow.flow (search rules) in
    rw p.1 p.0

pub returns : goal.returns
returns c =
    let q = req (goal.at.returns c).Start in
    let p = check_passed c.args.flow (checked q) c.in_ok-flow.flow (search rules) in
    rw (p.1) at c.place_checked.ensures
