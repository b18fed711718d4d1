-- `lay` meets its contract: what it calls speaks of the limited lines, which are those of the contract; no refusal is room on both lists.
use Rattle.std.proofs.Common.{rules, Ok, Err}
use borrow.Author.Tests.{ltb-false}
use mathlib.Core.Path.{◌≡◌, refl, sym, ap, subst, ◌∙◌}
use mathlib.Core.Logic.{inl, inr}
use mathlib.Core.Bool.{◌||◌}
use mathlib.Core.List.{List}
use Prim.Native.Nat.{ℕ, ◌+◌, ◌*◌, ◌<◌}
use lib.IntN.{ℤ}
use lib.ListN.{length}
use lib.Seq.{sets}
use Rattle.theory_intervals.specs.Records.{Rec}
use Rattle.theory_intervals.specs.OverInt.{paint_list, flat}
use Rattle.theory_intervals.specs.Lists.{recs}
use Rattle.list_areas.specs.Areas.{area_of}
use Rattle.grid_coordinates.specs.declared.Lines.{Lines}
use Rattle.grid_coordinates.specs.Line.{limited, pressed}
use Rattle.grid_track_counts.specs.Counts.{grown}
use Rattle.theory_walk.specs.Axis.{laid}
use Rattle.theory_walk.specs.Walk.{bit}
use Rattle.placing_request.specs.Items.{axis_of}
use Rattle.refusals.specs.declared.Refusal.{Refusal}
use Rattle.placing_laying.specs.Laying.{on_primary, on_secondary, refusal, refusal_of, mark_of, short_of, answer_five}
use Rattle.placing_laying.specs.States.{state_number}
use Rattle.placing_laying.proofs.Laying.{pressed_limited, same_paint, neither, crowded, roomy, small_mark}
use Rattle.placing_laying.proofs.lay.Goals.{After-check_room, After-grown-2}
use Rattle.placing_laying.proofs.lay.Goals as goal

pub is_short-primary_short-requires-clause-limited : goal.is_short-primary_short-requires-clause-limited
is_short-primary_short-requires-clause-limited c = (pressed_limited _ _ c.into_limited_grid-p_pressed.ensures.0, pressed_limited _ _ c.into_limited_grid-s_pressed.ensures.0)

pub is_short-secondary_short-requires-clause-limited : goal.is_short-secondary_short-requires-clause-limited
is_short-secondary_short-requires-clause-limited c = (pressed_limited _ _ c.into_limited_grid-s_pressed.ensures.0, pressed_limited _ _ c.into_limited_grid-p_pressed.ensures.0)

-- once room is judged: what each list needs, and the refusal
module _ (c : After-check_room) where
  abbrev pl : Lines
  pl = c.into_limited_grid-p_pressed.result.lines

  abbrev sl : Lines
  sl = c.into_limited_grid-s_pressed.result.lines

  p_is : pl ≡ limited c.args.p
  p_is = c.into_limited_grid-p_pressed.ensures.0

  s_is : sl ≡ limited c.args.s
  s_is = c.into_limited_grid-s_pressed.ensures.0

  abbrev on_p : List (Rec ℤ)
  on_p = on_primary c.args.columns c.args.p c.args.s (state_number c.args.state) c.args.flags c.args.matrix c.args.i c.args.answers.now c.args.primary.now c.args.secondary.now

  abbrev on_s : List (Rec ℤ)
  on_s = on_secondary c.args.columns c.args.p c.args.s (state_number c.args.state) c.args.flags c.args.matrix c.args.i c.args.answers.now c.args.primary.now c.args.secondary.now

  -- as those say that are called: by the lines that limiting gave
  abbrev onto_p : List (Rec ℤ)
  onto_p = paint_list (area_of pl.start pl.end sl.start sl.end (state_number c.args.state)) (recs c.args.matrix.primary_used c.args.primary.now)

  abbrev onto_s : List (Rec ℤ)
  onto_s = paint_list (area_of sl.start sl.end pl.start pl.end (state_number c.args.state)) (recs c.args.matrix.secondary_used c.args.secondary.now)

  paint_p : onto_p ≡ on_p
  paint_p = same_paint (state_number c.args.state) (recs c.args.matrix.primary_used c.args.primary.now) p_is s_is

  paint_s : onto_s ≡ on_s
  paint_s = same_paint (state_number c.args.state) (recs c.args.matrix.secondary_used c.args.secondary.now) s_is p_is

  short_p : c.is_short-primary_short.result ≡ short_of (length c.args.primary.now) on_p
  short_p = c.is_short-primary_short.ensures ∙ ap (short_of (length c.args.primary.now)) paint_p

  short_s : c.is_short-secondary_short.result ≡ short_of (length c.args.secondary.now) on_s
  short_s = c.is_short-secondary_short.ensures ∙ ap (short_of (length c.args.secondary.now)) paint_s

  judged : refusal_of c.args.columns c.is_short-primary_short.result c.is_short-secondary_short.result ≡ refusal c.args.columns c.args.p c.args.s (state_number c.args.state) c.args.flags c.args.matrix c.args.i c.args.answers.now c.args.primary.now c.args.secondary.now
  judged j = refusal_of c.args.columns (short_p j) (short_s j)

  mark_is : c.mark_of-mark.result ≡ mark_of c.args.p c.args.s c.args.flags
  mark_is = c.mark_of-mark.ensures ∙ (λ j. bit 1 (c.into_limited_grid-p_pressed.ensures.1 j || c.into_limited_grid-s_pressed.ensures.1 j) + c.args.flags)

pub returns-in_err-check_room : goal.returns-in_err-check_room
returns-in_err-check_room c =
    let k = (goal.at.returns-in_err-check_room c).After-check_room in
    let r = c.in_err-check_room.field-0.0 in
    let e : c.from_residual.result ≡ Err r = search rules in
    let f = crowded (refusal_of c.args.columns c.is_short-primary_short.result c.is_short-secondary_short.result) c.args.i r (sym c.check_room.ensures ∙ c.in_err-check_room.was) in
    inr (
    record {
      number = refusal_of c.args.columns c.is_short-primary_short.result c.is_short-secondary_short.result;
      room = sym (judged k);
      some = f.0;
      result = e ∙ ap (λ (x : Refusal). Err x) f.1;
      answered = refl;
      onto_primary = refl;
      onto_secondary = refl;
    }
    )

pub paint_tile-on_primary-requires-clause-limited : goal.paint_tile-on_primary-requires-clause-limited
paint_tile-on_primary-requires-clause-limited c = (pressed_limited _ _ c.into_limited_grid-p_pressed.ensures.0, pressed_limited _ _ c.into_limited_grid-s_pressed.ensures.0)

pub paint_tile-on_primary-requires-clause-list_in_bounds : goal.paint_tile-on_primary-requires-clause-list_in_bounds
paint_tile-on_primary-requires-clause-list_in_bounds c =
    let n = roomy (refusal_of c.args.columns c.is_short-primary_short.result c.is_short-secondary_short.result) c.args.i tt (sym c.check_room.ensures ∙ c.in_ok-check_room.was) in
    ltb-false (length c.args.primary.now) _ (sym c.is_short-primary_short.ensures ∙ (neither c.args.columns c.is_short-primary_short.result c.is_short-secondary_short.result n).0)

pub paint_tile-on_secondary-requires-clause-limited : goal.paint_tile-on_secondary-requires-clause-limited
paint_tile-on_secondary-requires-clause-limited c = (pressed_limited _ _ c.into_limited_grid-s_pressed.ensures.0, pressed_limited _ _ c.into_limited_grid-p_pressed.ensures.0)

pub paint_tile-on_secondary-requires-clause-list_in_bounds : goal.paint_tile-on_secondary-requires-clause-list_in_bounds
paint_tile-on_secondary-requires-clause-list_in_bounds c =
    let n = roomy (refusal_of c.args.columns c.is_short-primary_short.result c.is_short-secondary_short.result) c.args.i tt (sym c.check_room.ensures ∙ c.in_ok-check_room.was) in
    ltb-false (length c.args.secondary.now) _ (sym c.is_short-secondary_short.ensures ∙ (neither c.args.columns c.is_short-primary_short.result c.is_short-secondary_short.result n).1)

pub put_answer-requires-clause-mark_bound : goal.put_answer-requires-clause-mark_bound
put_answer-requires-clause-mark_bound c =
    let k = (goal.at.put_answer-requires-clause-mark_bound c).After-check_room in
    subst (λ (n : ℕ). n < 32768) (sym (mark_is k)) (small_mark (pressed c.args.p || pressed c.args.s) c.args.flags c.requires.flags_value.1)

pub grown-requires-clause-limited : goal.grown-requires-clause-limited
grown-requires-clause-limited c = pressed_limited _ _ c.into_limited_grid-p_pressed.ensures.0

pub grown-requires-2-clause-limited : goal.grown-requires-2-clause-limited
grown-requires-2-clause-limited c = pressed_limited _ _ c.into_limited_grid-s_pressed.ensures.0

-- all is done: each part of the contract
pub returns : goal.returns
returns c =
    let k = (goal.at.returns c).After-check_room in
    let p = c.args.p in
    let s = c.args.s in
    let p_grown : c.grown.result ≡ grown c.args.matrix.primary (limited p) = c.grown.ensures ∙ ap (grown c.args.matrix.primary) (p_is k) in
    let s_grown : c.grown-2.result ≡ grown c.args.matrix.secondary (limited s) = c.grown-2.ensures ∙ ap (grown c.args.matrix.secondary) (s_is k) in
    let count_p : c.paint_tile-on_primary.result ≡ length (on_p k) = c.paint_tile-on_primary.ensures.value ∙ ap length (paint_p k) in
    let count_s : c.paint_tile-on_secondary.result ≡ length (on_s k) = c.paint_tile-on_secondary.ensures.value ∙ ap length (paint_s k) in
    inl (
    record {
      room = sym (judged k) ∙ roomy (refusal_of c.args.columns c.is_short-primary_short.result c.is_short-secondary_short.result) c.args.i tt (sym c.check_room.ensures ∙ c.in_ok-check_room.was);
      result = λ j. Ok (record { primary = p_grown j; secondary = s_grown j; primary_used = count_p j; secondary_used = count_s j });
      answered = c.put_answer.ensures ∙ (λ j. sets c.args.answers.now (5 * c.args.i) (answer_five (laid (axis_of c.args.columns) (p_is k j) (s_is k j)) (mark_is k j)));
      onto_primary = c.paint_tile-on_primary.ensures.list_after ∙ ap (flat (length c.args.primary.now)) (paint_p k);
      onto_secondary = c.paint_tile-on_secondary.ensures.list_after ∙ ap (flat (length c.args.secondary.now)) (paint_s k);
    }
    )
