-- `place_on_line` meets its contract.
use borrow.Author.Rules.{rules}
use mathlib.Core.Path.{◌≡◌, refl}
use mathlib.Core.Bool.{cond}
use native.Mathlib.Omega.{arith}
use Rattle.std.specs.Prelude.{Err}
use Rattle.theory_walk.specs.Search.{at}
use Rattle.placing_step4_choice.specs.Cursor.{place_of}
use Rattle.placing_laying.proofs.Lays.{primary_holds, secondary_holds, sound_primary, sound_secondary}
use Rattle.placing_laying.proofs.Steps.{in_order, span_in}
use Rattle.placing_step4.proofs.Step4.{pair_at, line_laid}
use Rattle.placing_step4.proofs.place_on_line.Goals as goal

pub invariant_of-records : goal.invariant_of-records
invariant_of-records c = record { holds = primary_holds c.requires.stands.1.1.1 }

pub settle_line-s-requires : goal.settle_line-s-requires
settle_line-s-requires c =
    let k = c.requires.stands.1.1.1 in
    record {
      sound = sound_secondary k;
      start_lt_end = in_order c.requires.good.0;
      le_span = span_in c.requires.good.1;
      cursor_in = c.requires.cursor_in;
    }

pub lay-requires : goal.lay-requires
lay-requires c =
    let k = c.requires.stands.1.1.1 in
    record {
      holds = (primary_holds k, secondary_holds k);
      sound = (sound_primary k, sound_secondary k);
      flags_value = (refl, omega arith);
      i_in_bounds = c.requires.i_in_bounds;
    }

pub returns-in_err-matrix : goal.returns-in_err-matrix
returns-in_err-matrix c =
    let a = c.args in
    let x = c.in_err-matrix.field-0.0 in
    let e : c.from_residual.result ≡ Err x = search rules in
    let s = c.settle_line-s in
    rw e (λ room old b k f. line_laid k a.run.dense a.cursor f a.once a.i a.p s.result a.m c.requires.good.0 c.requires.good.1 s.ensures
    (pair_at (cond a.run.dense (place_of a.once) (at a.p.end s.result.start))) refl _ _ _ _ c.in_err-matrix.ensures)

pub returns : goal.returns
returns c =
    let a = c.args in
    let s = c.settle_line-s in
    λ room old b k f.
    line_laid k a.run.dense a.cursor f a.once a.i a.p s.result a.m c.requires.good.0 c.requires.good.1 s.ensures c.next_cursor.result c.next_cursor.ensures _ _ _ _ c.in_ok-matrix.ensures
