-- `walk_items` meets its contract: the walk is its three steps, and the first that stops ends it.
use Rattle.std.proofs.Common.{rules, Err}
use mathlib.Core.Path.{◌≡◌, refl, sym}
use native.Mathlib.Omega.{arith}
use Rattle.theory_walk.specs.Walk.{step1, step2, each, walk, last4, begin4}
use Rattle.placing_request.specs.Items.{axis_of, queued}
use Rattle.placing_laying.specs.Ready.{setting_for}
use Rattle.placing_step2.proofs.Step2.{no_ends}
use Rattle.placing_run.proofs.Runs.{step_done, ends_walk, same_run, walk_stop1, walk_stop2, walk_last}
use Rattle.placing_run.proofs.run.walk_items.Goals as goal

pub place_definite_items-requires : goal.place_definite_items-requires
place_definite_items-requires c = let st = c.requires.stands_fresh in record {
  in_bounds = c.requires.in_bounds;
  stands = (st.0, (st.1.0, (st.1.1.0, st.1.1.1.0)));
}

pub returns-in_err-fixed : goal.returns-in_err-fixed
returns-in_err-fixed c =
    let a = c.args in
    let r = c.in_err-fixed.field-0.0 in
    let e : c.from_residual.result ≡ Err r = search rules in
    let qs = queued a.run.items.numbers.now in
    rw e (λ room old b k ne.
    let w = setting_for a.run.columns a.run.dense room in
    ends_walk a.run.columns room old (each w (step1 w) qs b) (walk w (λ g. g) qs b) r _ _ _ (c.in_err-fixed.ensures a.run.dense room old b k) (walk_stop1 w (λ g. g) qs b))

-- after step 1: the board that it came to
pub place_definite_secondary_axis_items-requires : goal.place_definite_secondary_axis_items-requires
place_definite_secondary_axis_items-requires c =
    let st = c.requires.stands_fresh in
    let w = setting_for c.args.run.columns c.args.run.dense st.0 in
    let v = step_done (each w (step1 w) (queued c.args.run.items.numbers.now) st.1.1.0) (c.in_ok-fixed.ensures c.args.run.dense st.0 st.1.0 st.1.1.0 st.1.1.1.0) refl in
    record {
      in_bounds = omega arith;
      stands_fresh = (st.0, (st.1.0, (v.board, (v.ready, no_ends w (axis_of c.args.run.columns) (queued c.args.run.items.numbers.now) st.1.1.0 v.board st.1.1.1.1 v.is))));
    }

pub returns-in_err-found : goal.returns-in_err-found
returns-in_err-found c =
    let a = c.args in
    let r = c.in_err-found.field-0.0 in
    let e : c.from_residual-in_err-found.result ≡ Err r = search rules in
    let qs = queued a.run.items.numbers.now in
    rw e (λ room old b k ne.
    let w = setting_for a.run.columns a.run.dense room in
    let v = step_done (each w (step1 w) qs b) (c.in_ok-fixed.ensures a.run.dense room old b k) refl in
    let n = no_ends w (axis_of a.run.columns) qs b v.board ne v.is in
    ends_walk a.run.columns room old (each w (step2 w) qs v.board) (walk w (λ g. g) qs b) r _ _ _ (c.in_err-found.ensures room old v.board v.ready n) (λ number i. walk_stop2 w (λ g. g) qs b v.board number i v.is))

-- after step 2
pub place_remaining_items-requires : goal.place_remaining_items-requires
place_remaining_items-requires c =
    let st = c.requires.stands_fresh in
    let b = st.1.1.0 in
    let w = setting_for c.args.run.columns c.args.run.dense st.0 in
    let qs = queued c.args.run.items.numbers.now in
    let v = step_done (each w (step1 w) qs b) (c.in_ok-fixed.ensures c.args.run.dense st.0 st.1.0 b st.1.1.1.0) refl in
    let u = step_done (each w (step2 w) qs v.board) (c.in_ok-found.ensures st.0 st.1.0 v.board v.ready (no_ends w (axis_of c.args.run.columns) qs b v.board st.1.1.1.1 v.is)) refl in
    record {
      len_bound = c.requires.len_bound;
      in_bounds = omega arith;
      stands = (st.0, (st.1.0, (u.board, u.ready)));
    }

pub returns : goal.returns
returns c =
    let a = c.args in
    let qs = queued a.run.items.numbers.now in
    λ room old b k ne.
    let w = setting_for a.run.columns a.run.dense room in
    let v = step_done (each w (step1 w) qs b) (c.in_ok-fixed.ensures a.run.dense room old b k) refl in
    let u = step_done (each w (step2 w) qs v.board) (c.in_ok-found.ensures room old v.board v.ready (no_ends w (axis_of a.run.columns) qs b v.board ne v.is)) refl in
    same_run a.run.columns room old (last4 w qs (begin4 w (λ g. g) u.board)) (walk w (λ g. g) qs b) c.place_remaining_items.result _ _ _
    (c.place_remaining_items.ensures room old u.board u.ready)
    (sym (walk_last w (λ g. g) qs b v.board u.board v.is u.is))
