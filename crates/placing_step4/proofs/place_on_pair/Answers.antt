-- `place_on_pair` meets its contract. Its sums fit since the place that is settled is the walk's, whatever board the lists stand for.
use borrow.Author.Rules.{rules}
use mathlib.Core.Path.{◌≡◌, refl}
use mathlib.Core.Bool.{cond}
use lib.IntN.{pos, ◌+ℤ◌}
use mir.Syntax.{w16}
use mir.Val.{SFits, to_z, of_z}
use Rattle.std.specs.Prelude.{Err}
use Rattle.theory_walk.specs.Axis.{from}
use Rattle.theory_walk.specs.Search.{at}
use Rattle.theory_walk.specs.Walk.{overwide}
use Rattle.placing_search.specs.declared.Pair.{Pair}
use Rattle.placing_step4_choice.specs.declared.Settled.{Settled}
use Rattle.placing_step4_choice.specs.Cursor.{place_of}
use Rattle.placing_laying.proofs.Lays.{primary_holds, secondary_holds, sound_primary, sound_secondary}
use Rattle.placing_laying.proofs.Steps.{span_in}
use Rattle.placing_step4.proofs.Step4.{mark_good, with_cursor, pair_inside, pair_at, pair_fits, pair_laid}
use Rattle.placing_step4.proofs.place_on_pair.Goals.{After-settle_pair-flags, After-lay}
use Rattle.placing_step4.proofs.place_on_pair.Goals as goal

pub invariant_of-records : goal.invariant_of-records
invariant_of-records c = record { holds = secondary_holds c.requires.stands.1.1.1 }

pub settle_pair-flags-requires : goal.settle_pair-flags-requires
settle_pair-flags-requires c =
    let k = c.requires.stands.1.1.1 in
    record {
      sound = sound_primary k;
      inside = pair_inside k;
      le_n = span_in c.requires.good.0;
      le_m = span_in c.requires.good.1;
      cursor_in = c.requires.cursor_in;
    }

-- the place that is settled
module _ (c : After-settle_pair-flags) where
  abbrev place : Pair
  place = c.settle_pair-flags.result.place

  sums : SFits w16 (place.primary +ℤ pos c.args.n) × SFits w16 (place.secondary +ℤ pos c.args.m)
  sums =
      let q = c.args.cursor in
      pair_fits (with_cursor c.requires.stands.1.1.1 (place_of q)) c.args.run.dense q refl c.args.n c.args.m c.requires.good.0 c.requires.good.1 c.requires.cursor_in place c.settle_pair-flags.ensures.0

pub spanned-p-requires-clause-sfits : goal.spanned-p-requires-clause-sfits
spanned-p-requires-clause-sfits c =
    let d = (goal.at.spanned-p-requires-clause-sfits c).After-settle_pair-flags in
    let e : to_z w16 (of_z w16 (place d).primary) ≡ (place d).primary = search rules in
    rw e (sums d).0

pub spanned-s-requires-clause-sfits : goal.spanned-s-requires-clause-sfits
spanned-s-requires-clause-sfits c =
    let d = (goal.at.spanned-s-requires-clause-sfits c).After-settle_pair-flags in
    let e : to_z w16 (of_z w16 (place d).secondary) ≡ (place d).secondary = search rules in
    rw e (sums d).1

pub lay-requires : goal.lay-requires
lay-requires c =
    let k = c.requires.stands.1.1.1 in
    record {
      holds = (primary_holds k, secondary_holds k);
      sound = (sound_primary k, sound_secondary k);
      flags_value = mark_good (overwide c.args.n c.args.matrix.primary) c.settle_pair-flags.result.flags c.settle_pair-flags.ensures.1;
      i_in_bounds = c.requires.i_in_bounds;
    }

-- the lines of the tile
module _ (c : After-lay) where
  abbrev settled : Settled
  settled = c.settle_pair-flags.result

  p-is : c.spanned-p.result ≡ from settled.place.primary c.args.n
  p-is = search rules

  s-is : c.spanned-s.result ≡ from settled.place.secondary c.args.m
  s-is = search rules

pub returns-in_err-matrix : goal.returns-in_err-matrix
returns-in_err-matrix c =
    let a = c.args in
    let d = (goal.at.returns-in_err-matrix c).After-lay in
    let x = c.in_err-matrix.field-0.0 in
    let e : c.from_residual.result ≡ Err x = search rules in
    rw e (λ room old b k f. pair_laid k a.run.dense a.cursor f a.once a.i c.spanned-p.result c.spanned-s.result a.n a.m (settled d).flags c.requires.good.0 c.requires.good.1 (settled d).place
    c.settle_pair-flags.ensures.0 c.settle_pair-flags.ensures.1 (p-is d) (s-is d) (pair_at (cond a.run.dense (place_of a.once) (at c.spanned-p.result.end c.spanned-s.result.start))) refl _ _ _ _ c.in_err-matrix.ensures)

pub returns : goal.returns
returns c =
    let a = c.args in
    let d = (goal.at.returns c).After-lay in
    λ room old b k f.
    pair_laid k a.run.dense a.cursor f a.once a.i c.spanned-p.result c.spanned-s.result a.n a.m (settled d).flags c.requires.good.0 c.requires.good.1 (settled d).place
    c.settle_pair-flags.ensures.0 c.settle_pair-flags.ensures.1 (p-is d) (s-is d) c.next_cursor.result c.next_cursor.ensures _ _ _ _ c.in_ok-matrix.ensures
