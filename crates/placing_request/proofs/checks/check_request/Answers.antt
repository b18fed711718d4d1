-- `check_request` meets its contract: each return by the tests that it has passed.
use Rattle.std.proofs.Common.{rules, Err}
use borrow.Author.Tests.{lt-ltb, le-ltb}
use mathlib.Core.Path.{◌≡◌, sym, ◌∙◌}
use mathlib.Core.Bool.{true, not, ◌&&◌}
use Prim.Native.Nat.{◌*◌, ◌/◌, ◌%◌}
use lib.ListN.{length}
use Rattle.grid_track_counts.specs.Counts.{counts_good}
use Rattle.theory_walk.specs.Request.{checked, length_good}
use Rattle.placing_request.proofs.Ladder.{flow_known, flow_unknown, items_wrong, items_right, first_wrong, second_wrong, both_right}
use Rattle.placing_request.proofs.checks.check_request.Goals.{then-not-are_good-via-then-not-are_good, then-not-are_good-via-else-not-are_good+then-not-are_good-2, then-not-length_is_good-via-then-not-length_is_good, then-not-length_is_good-via-else-not-length_is_good+then-not-length_is_good-2}
use Rattle.placing_request.proofs.checks.check_request.Goals as goal

pub returns-in_err-flow : goal.returns-in_err-flow
unfolding checked
returns-in_err-flow c =
    let e : c.from_residual.result ≡ Err c.in_err-flow.field-0.0 = search rules in
    let f = flow_unknown c.args.flow c.in_err-flow.field-0.0 (sym c.try_from.ensures ∙ c.in_err-flow.was) in
    rw (e, f.0, f.1)

pub returns-then-items-ne0 : goal.returns-then-items-ne0
unfolding checked
returns-then-items-ne0 c =
    let f = flow_known c.args.flow c.in_ok-flow.flow (sym c.try_from.ensures ∙ c.in_ok-flow.was) in
    rw (f.0, items_wrong (length c.args.items.now % 6) (length c.args.items.now / 6) c.then-items-ne0.either)

pub returns-then-not-are_good : goal.returns-then-not-are_good
unfolding checked
returns-then-not-are_good c =
    let f = flow_known c.args.flow c.in_ok-flow.flow (sym c.try_from.ensures ∙ c.in_ok-flow.was) in
    let g = counts_good c.args.columns in
    let h = counts_good c.args.rows in
    let k : not (g && h) ≡ true = elim c.then-not-are_good.branch [
      | then-not-are_good-via-then-not-are_good w ↦ first_wrong g h (sym c.are_good.ensures ∙ w.if-not-are_good.true)
      | then-not-are_good-via-else-not-are_good+then-not-are_good-2 w ↦ second_wrong g h (sym w.are_good-else-not-are_good.ensures ∙ w.if-not-are_good-2.true)
    ] in
    rw (f.0, items_right _ _ c.if-items-ne0.false c.if-n-gt2000.false, k)

pub returns-then-answers-n : goal.returns-then-answers-n
unfolding checked
returns-then-answers-n c =
    let f = flow_known c.args.flow c.in_ok-flow.flow (sym c.try_from.ensures ∙ c.in_ok-flow.was) in
    let g = both_right (counts_good c.args.columns) (counts_good c.args.rows) (sym c.if-not-are_good.ensures) (sym c.if-not-are_good-2.ensures) in
    rw (f.0, items_right _ _ c.if-items-ne0.false c.if-n-gt2000.false, g, lt-ltb c.args.answers (5 * (length c.args.items.now / 6)) c.if-answers-n.true)

pub returns-then-not-length_is_good : goal.returns-then-not-length_is_good
unfolding checked length_good
returns-then-not-length_is_good c =
    let f = flow_known c.args.flow c.in_ok-flow.flow (sym c.try_from.ensures ∙ c.in_ok-flow.was) in
    let g = both_right (counts_good c.args.columns) (counts_good c.args.rows) (sym c.if-not-are_good.ensures) (sym c.if-not-are_good-2.ensures) in
    let m = length_good c.args.column_list in
    let n = length_good c.args.row_list in
    let k : not (m && n) ≡ true = elim c.then-not-length_is_good.branch [
      | then-not-length_is_good-via-then-not-length_is_good w ↦ first_wrong m n (sym c.length_is_good.ensures ∙ w.if-not-length_is_good.true)
      | then-not-length_is_good-via-else-not-length_is_good+then-not-length_is_good-2 w ↦ second_wrong m n (sym w.length_is_good-else-not-length_is_good.ensures ∙ w.if-not-length_is_good-2.true)
    ] in
    rw (f.0, items_right _ _ c.if-items-ne0.false c.if-n-gt2000.false, g, le-ltb c.args.answers (5 * (length c.args.items.now / 6)) c.if-answers-n.false, k)

pub returns-in-Some : goal.returns-in-Some
unfolding checked length_good
returns-in-Some c =
    let f = flow_known c.args.flow c.in_ok-flow.flow (sym c.try_from.ensures ∙ c.in_ok-flow.was) in
    let g = both_right (counts_good c.args.columns) (counts_good c.args.rows) (sym c.if-not-are_good.ensures) (sym c.if-not-are_good-2.ensures) in
    let k = both_right (length_good c.args.column_list) (length_good c.args.row_list) (sym c.if-not-length_is_good.ensures) (sym c.if-not-length_is_good-2.ensures) in
    rw (f.0, items_right _ _ c.if-items-ne0.false c.if-n-gt2000.false, g, le-ltb c.args.answers (5 * (length c.args.items.now / 6)) c.if-answers-n.false, k, ← c.in-Some.ensures)

pub returns-in-None : goal.returns-in-None
unfolding checked length_good
returns-in-None c =
    let f = flow_known c.args.flow c.in_ok-flow.flow (sym c.try_from.ensures ∙ c.in_ok-flow.was) in
    let g = both_right (counts_good c.args.columns) (counts_good c.args.rows) (sym c.if-not-are_good.ensures) (sym c.if-not-are_good-2.ensures) in
    let k = both_right (length_good c.args.column_list) (length_good c.args.row_list) (sym c.if-not-length_is_good.ensures) (sym c.if-not-length_is_good-2.ensures) in
    rw (f.0, items_right _ _ c.if-items-ne0.false c.if-n-gt2000.false, g, le-ltb c.args.answers (5 * (length c.args.items.now / 6)) c.if-answers-n.false, k, ← c.in-None.ensures) (sym c.in_ok-flow.was ∙ c.try_from.ensures)
