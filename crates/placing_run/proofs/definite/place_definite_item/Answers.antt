-- `place_definite_item` meets its contract: an item that is not fixed in both axes is passed over, and any other is laid, which is `put` on the board.
use mathlib.Core.Path.{refl, sym, ◌∙◌}
use native.Mathlib.Omega.{arith}
use Rattle.theory_walk.specs.Walk.{step1}
use Rattle.placing_laying.specs.Ready.{setting_for, primary_of, secondary_of}
use Rattle.placing_laying.proofs.Lays.{primary_holds, secondary_holds, sound_primary, sound_secondary, passed}
use Rattle.placing_run.proofs.Step1.{pass_primary, pass_secondary, step1_laid}
use Rattle.placing_run.proofs.definite.place_definite_item.Goals as goal

pub returns-in_default : goal.returns-in_default
returns-in_default c =
    let g = c.args in
    let l = g.run.items.numbers.now in
    λ dense room old b k.
    passed g.i k (step1 (setting_for g.run.columns dense room) g.i (primary_of g.run.columns l g.i) (secondary_of g.run.columns l g.i) b)
    (pass_primary (setting_for g.run.columns dense room) g.i (primary_of g.run.columns l g.i) (secondary_of g.run.columns l g.i) b c.in_default.field-0 (sym c.primary_placement.ensures ∙ c.in_default.is))

pub returns-in_default-secondary_placement : goal.returns-in_default-secondary_placement
returns-in_default-secondary_placement c =
    let g = c.args in
    let l = g.run.items.numbers.now in
    λ dense room old b k.
    passed g.i k (step1 (setting_for g.run.columns dense room) g.i (primary_of g.run.columns l g.i) (secondary_of g.run.columns l g.i) b)
    (pass_secondary (setting_for g.run.columns dense room) g.i (primary_of g.run.columns l g.i) (secondary_of g.run.columns l g.i) b c.in_default-secondary_placement.field-0
    (sym c.secondary_placement.ensures ∙ c.in_default-secondary_placement.is))

pub lay-requires : goal.lay-requires
lay-requires c =
    let k = c.requires.stands.1.1.1 in
    record {
      holds = (primary_holds k, secondary_holds k);
      sound = (sound_primary k, sound_secondary k);
      flags_value = (refl, omega arith);
      i_in_bounds = omega arith;
    }

pub returns : goal.returns
returns c =
    let g = c.args in
    let l = g.run.items.numbers.now in
    λ dense room old b k.
    step1_laid dense k g.i (primary_of g.run.columns l g.i) (secondary_of g.run.columns l g.i) c.in-Fixed.p c.in-Fixed-secondary_placement.s
    (sym c.primary_placement.ensures ∙ c.in-Fixed.is)
    (sym c.secondary_placement.ensures ∙ c.in-Fixed-secondary_placement.is)
    c.lay.ensures
