-- `place_definite_secondary_axis_item` meets its contract: an item that is not fixed in the secondary axis only is passed over, and any other is laid on
-- the first free primary line, which is `put` on the board. Assumes nothing.
use mathlib.Core.Path.{◌≡◌, refl, sym, ◌∙◌}
use mathlib.Core.List.{List}
use lib.IntN.{ℤ}
use native.Mathlib.Omega.{arith}
use Rattle.theory_walk.specs.declared.Placement.{Placement}
use Rattle.theory_walk.specs.declared.Placement.TheVariants.{Fixed, Spanned}
use Rattle.theory_walk.proofs.Range.{Good}
use Rattle.theory_walk.specs.Walk.{step2}
use Rattle.placing_laying.specs.Ready.{setting_for, primary_of, secondary_of}
use Rattle.placing_laying.proofs.Lays.{primary_holds, secondary_holds, sound_primary, sound_secondary, passed}
use Rattle.placing_laying.proofs.Steps.{both_good, in_order, span_in}
use Rattle.placing_step2.proofs.Step2.{pass_primary, pass_secondary, start_grid, step2_laid}
use Rattle.placing_step2.proofs.place_definite_secondary_axis_item.Goals.{In-Spanned}
use Rattle.placing_step2.proofs.place_definite_secondary_axis_item.Goals as goal

pub returns-in_default : goal.returns-in_default
returns-in_default c =
    let g = c.args in
    let l = g.run.items.numbers.now in
    let S-is = sym c.secondary_placement.ensures ∙ c.in_default.is in
    λ room old b k rec.
    passed g.i k (step2 (setting_for g.run.columns g.run.dense room) g.i (primary_of g.run.columns l g.i) (secondary_of g.run.columns l g.i) b)
    (pass_secondary (setting_for g.run.columns g.run.dense room) g.i (primary_of g.run.columns l g.i) (secondary_of g.run.columns l g.i) b c.in_default.field-0 S-is)

pub returns-in_default-primary_placement : goal.returns-in_default-primary_placement
returns-in_default-primary_placement c =
    let g = c.args in
    let l = g.run.items.numbers.now in
    let P-is = sym c.primary_placement.ensures ∙ c.in_default-primary_placement.is in
    λ room old b k rec.
    passed g.i k (step2 (setting_for g.run.columns g.run.dense room) g.i (primary_of g.run.columns l g.i) (secondary_of g.run.columns l g.i) b)
    (pass_primary (setting_for g.run.columns g.run.dense room) g.i (primary_of g.run.columns l g.i) (secondary_of g.run.columns l g.i) b c.in_default-primary_placement.field-0 P-is)

-- past both tests: the item's two placements, and that they are good
module _ (c : In-Spanned) where
  abbrev l : List ℤ
  l = c.args.run.items.numbers.now

  abbrev P : Placement
  P = primary_of c.args.run.columns l c.args.i

  abbrev S : Placement
  S = secondary_of c.args.run.columns l c.args.i

  P-is : P ≡ Spanned c.in-Spanned.span
  P-is = sym c.primary_placement.ensures ∙ c.in-Spanned.is

  S-is : S ≡ Fixed c.in-Fixed.s
  S-is = sym c.secondary_placement.ensures ∙ c.in-Fixed.is

  good : Good (Spanned c.in-Spanned.span) × Good (Fixed c.in-Fixed.s)
  good = both_good c.args.run.columns l c.args.i (Spanned c.in-Spanned.span) (Fixed c.in-Fixed.s) (c.args.run.items.good c.args.i c.requires.i_in_items) P-is S-is

pub invariant_of-records : goal.invariant_of-records
invariant_of-records c = record { holds = secondary_holds c.requires.stands_at.1.1.1.0 }

pub primary_lines-p-requires : goal.primary_lines-p-requires
primary_lines-p-requires c =
    let d = (goal.at.primary_lines-p-requires c).In-Spanned in
    let k = c.requires.stands_at.1.1.1 in
    record {
      i_in_items = omega arith;
      i_in_bounds = omega arith;
      onward = c.requires.onward;
      start_lt_end = in_order (good d).1;
      le_span = span_in (good d).0;
      sound = sound_primary k.0;
      primary_bound = (start_grid c.args.run.dense k.0 (l d) c.args.i k.1 c.in-Fixed.s.start).high;
    }

pub lay-requires : goal.lay-requires
lay-requires c =
    let k = c.requires.stands_at.1.1.1.0 in
    record {
      holds = (primary_holds k, secondary_holds k);
      sound = (sound_primary k, sound_secondary k);
      flags_value = (refl, omega arith);
      i_in_bounds = omega arith;
    }

pub returns : goal.returns
returns c =
    let v = (goal.at.returns c).In-Spanned in
    λ room old b k rec.
    step2_laid c.args.run.dense k (l v) c.args.i rec (P v) (S v) v.in-Spanned.span v.in-Fixed.s c.primary_lines-p.result (P-is v) (S-is v) (span_in (good v).0).0 (in_order (good v).1) c.primary_lines-p.ensures c.lay.ensures
