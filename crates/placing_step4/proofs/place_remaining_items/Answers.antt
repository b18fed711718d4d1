-- `place_remaining_items` meets its contract: the loop goes along what is left of the step, with the cursor.
use borrow.Author.Rules.{rules}
use mathlib.Core.Path.{◌≡◌}
use native.Mathlib.Omega.{arith}
use mir.Syntax.{w16}
use mir.Val.{to_z, of_z}
use Rattle.std.specs.Prelude.{Err}
use Rattle.grid_track_counts.specs.Counts.{grid_start}
use Rattle.theory_walk.specs.Search.{at}
use Rattle.placing_search.specs.declared.Pair.{Pair}
use Rattle.placing_step4_choice.specs.Cursor.{place_of}
use Rattle.placing_laying.proofs.Lays.{sound_primary, sound_secondary}
use Rattle.placing_step4.proofs.Step4.{once_is_near, near_all, going_none, going_on, going_stops, going_done}
use Rattle.placing_step4.proofs.place_remaining_items.Goals as goal

pub loop-i-init : goal.loop-i-init
loop-i-init c =
    let a = c.args in
    let k = c.requires.stands.1.1.1 in
    let once : Pair = record { primary = to_z w16 (of_z w16 c.implicit_start_line.result.0); secondary = to_z w16 (of_z w16 c.implicit_start_line-2.result.0) } in
    let e : place_of once ≡ at (grid_start a.matrix.primary) (grid_start a.matrix.secondary) = search rules in
    going_none a.run.columns a.run.dense a.run.items.numbers.now a.matrix once a.answers.now a.primary.now a.secondary.now (once_is_near a.matrix once (sound_primary k) (sound_secondary k) e) e

pub place_indefinitely_positioned_item-requires-clause-stands : goal.place_indefinitely_positioned_item-requires-clause-stands
place_indefinitely_positioned_item-requires-clause-stands c =
    let st = c.requires.stands in
    let l = c.loop-i.invariant.from_start st.0 st.1.0 st.1.1.0 st.1.1.1 in
    (st.0, (st.1.0, (l.board, l.ready)))

pub place_indefinitely_positioned_item-requires-clause-cursor_in : goal.place_indefinitely_positioned_item-requires-clause-cursor_in
place_indefinitely_positioned_item-requires-clause-cursor_in c =
    let st = c.requires.stands in
    let l = c.loop-i.invariant.from_start st.0 st.1.0 st.1.1.0 st.1.1.1 in
    near_all l.near (omega arith)

pub returns-in_err-matrix : goal.returns-in_err-matrix
returns-in_err-matrix c =
    let r = c.in_err-matrix.field-0.0 in
    let e : c.from_residual.result ≡ Err r = search rules in
    rw e (going_stops c.loop-i.invariant (omega arith) r _ _ _ c.in_err-matrix.ensures)

pub loop-i-preserved : goal.loop-i-preserved
loop-i-preserved c = going_on c.loop-i.invariant (omega arith) (c.args.run.items.good c.loop-i.i (omega arith)) c.in_ok-matrix.ensures

pub returns : goal.returns
returns c = going_done c.loop-i.invariant (omega arith)
