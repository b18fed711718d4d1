-- `place_items` meets its contract: cleared lists stand for an empty board, and from there the run is the walk.
use Rattle.std.proofs.Common.{rules}
use mathlib.Core.Path.{◌≡◌, sym}
use native.Mathlib.Omega.{arith}
use lib.IntN.{pos}
use lib.ListN.{length, replicate}
use Rattle.theory_walk.specs.Axis.{laid}
use Rattle.placing_request.specs.Items.{axis_of}
use Rattle.placing_laying.specs.Ready.{Ready}
use Rattle.placing_step2.specs.Ends.{NoEnds}
use Rattle.placing_run.specs.Runs.{empty_board}
use Rattle.placing_run.proofs.Runs.{ready_empty, no_ends_empty, run_kept, run_cleared}
use Rattle.placing_run.proofs.run.place_items.Goals.{After-clear-2}
use Rattle.placing_run.proofs.run.place_items.Goals as goal

-- both lists are cleared
module _ (c : After-clear-2) where
  cleared_p : c.clear.new.list ≡ replicate (length c.args.primary.now) (pos 0)
  cleared_p = search rules

  cleared_s : c.clear-2.new.list ≡ replicate (length c.args.secondary.now) (pos 0)
  cleared_s = search rules

  ready : Ready c.args.run.columns (laid (axis_of c.args.run.columns) (length c.args.primary.now) (length c.args.secondary.now)) c.args.answers.now (empty_board c.args.run.columns c.args.primary_counts c.args.secondary_counts) (record { primary = c.args.primary_counts; secondary = c.args.secondary_counts; primary_used = 0; secondary_used = 0 }) c.args.answers.now c.clear.new.list c.clear-2.new.list
  ready = ready_empty c.args.run.columns c.args.primary_counts c.args.secondary_counts c.requires.sound.0 c.requires.sound.1 c.args.answers.now c.clear.new.list c.clear-2.new.list (length c.args.primary.now) (length c.args.secondary.now) cleared_p cleared_s

  no_ends : NoEnds c.args.run.columns (empty_board c.args.run.columns c.args.primary_counts c.args.secondary_counts)
  no_ends = no_ends_empty c.args.run.columns c.args.primary_counts c.args.secondary_counts c.requires.sound.0 c.requires.sound.1 c.args.answers.now c.clear.new.list c.clear-2.new.list (length c.args.primary.now) (length c.args.secondary.now) cleared_p cleared_s

pub walk_items-walked-requires : goal.walk_items-walked-requires
walk_items-walked-requires c =
    let f = (goal.at.walk_items-walked-requires c).After-clear-2 in
    let a = c.args in
    record {
      len_bound = c.requires.len_bound;
      in_bounds = omega (arith, c.requires.answers_len);
      stands_fresh = (laid (axis_of a.run.columns) (length a.primary.now) (length a.secondary.now), (a.answers.now, (empty_board a.run.columns a.primary_counts a.secondary_counts, (ready f, no_ends f))));
    }

pub returns-then-is_err : goal.returns-then-is_err
returns-then-is_err c =
    let f = (goal.at.returns-then-is_err c).After-clear-2 in
    let a = c.args in
    let room = laid (axis_of a.run.columns) (length a.primary.now) (length a.secondary.now) in
    let walked = c.walk_items-walked.ensures room a.answers.now (empty_board a.run.columns a.primary_counts a.secondary_counts) (ready f) (no_ends f) in
    run_cleared a.run.columns a.run.dense a.run.items.numbers.now a.primary_counts a.secondary_counts a.answers.now (length a.primary.now) (length a.secondary.now) c.walk_items-walked.result _ _ _ walked
    (sym c.if-is_err.ensures.value) _ _ _ (search rules) (search rules) (search rules)

pub returns-else-is_err : goal.returns-else-is_err
returns-else-is_err c =
    let f = (goal.at.returns-else-is_err c).After-clear-2 in
    let a = c.args in
    let room = laid (axis_of a.run.columns) (length a.primary.now) (length a.secondary.now) in
    let walked = c.walk_items-walked.ensures room a.answers.now (empty_board a.run.columns a.primary_counts a.secondary_counts) (ready f) (no_ends f) in
    run_kept a.run.columns a.run.dense a.run.items.numbers.now a.primary_counts a.secondary_counts a.answers.now (length a.primary.now) (length a.secondary.now) c.walk_items-walked.result _ _ _ walked
    (sym c.if-is_err.ensures.value)
