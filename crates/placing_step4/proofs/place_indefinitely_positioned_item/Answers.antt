-- `place_indefinitely_positioned_item` meets its contract: an item with fixed secondary lines stays, any other is laid by a line or by a pair.
use mathlib.Core.Path.{◌≡◌, sym, ap, ◌∙◌}
use Rattle.theory_walk.specs.declared.Placement.{Placement}
use Rattle.theory_walk.specs.declared.Placement.TheVariants.{Fixed, Spanned}
use Rattle.theory_walk.proofs.Range.{Good}
use Rattle.placing_laying.specs.Ready.{setting_for, primary_of, secondary_of}
use Rattle.placing_step4_choice.specs.Cursor.{place_of, span_of}
use Rattle.placing_laying.proofs.Steps.{both_good}
use Rattle.placing_step4.proofs.Step4.{stays, pass_fixed, by_line, by_pair}
use Rattle.placing_step4.proofs.place_indefinitely_positioned_item.Goals.{After-primary_placement-placement, After-span_of-n}
use Rattle.placing_step4.proofs.place_indefinitely_positioned_item.Goals as goal

pub returns-in_default : goal.returns-in_default
returns-in_default c =
    let g = c.args in
    let l = g.run.items.numbers.now in
    let S-is = sym c.secondary_placement.ensures ∙ c.in_default.is in
    λ room old b k e.
    stays g.i g.cursor k e _
    (pass_fixed (setting_for g.run.columns g.run.dense room) (place_of g.once) g.i b (primary_of g.run.columns l g.i) (secondary_of g.run.columns l g.i) c.in_default.field-0 S-is)

-- the placements of an item with a secondary span, whichever its primary one is
module _ (c : After-primary_placement-placement) where
  S-is : secondary_of c.args.run.columns c.args.run.items.numbers.now c.args.i ≡ Spanned c.in-Spanned.m
  S-is = sym c.secondary_placement.ensures ∙ c.in-Spanned.is

  good : (P : Placement) → primary_of c.args.run.columns c.args.run.items.numbers.now c.args.i ≡ P → Good P × Good (Spanned c.in-Spanned.m)
  good P e = both_good c.args.run.columns c.args.run.items.numbers.now c.args.i P (Spanned c.in-Spanned.m) (c.args.run.items.good c.args.i c.requires.i_in_items) e S-is

n-is : (c : After-span_of-n) → primary_of c.args.run.columns c.args.run.items.numbers.now c.args.i ≡ Spanned c.span_of-n.result
n-is c = let g = c.in_default-placement in sym c.primary_placement-placement.ensures ∙ g.is ∙ ap Spanned (sym (c.span_of-n.ensures ∙ ap span_of g.is))

pub place_on_pair-requires-clause-good : goal.place_on_pair-requires-clause-good
place_on_pair-requires-clause-good c =
    let d = goal.at.place_on_pair-requires-clause-good c in
    good d.After-primary_placement-placement (Spanned c.span_of-n.result) (n-is d.After-span_of-n)

pub returns-in_default-placement : goal.returns-in_default-placement
returns-in_default-placement c =
    let d = goal.at.returns-in_default-placement c in
    let g = c.args in
    let l = g.run.items.numbers.now in
    λ room old b k e.
    rw (by_pair (setting_for g.run.columns g.run.dense room) (place_of g.once) g.i b (primary_of g.run.columns l g.i) (secondary_of g.run.columns l g.i) c.span_of-n.result c.in-Spanned.m (n-is d.After-span_of-n) (S-is d.After-primary_placement-placement))
    (c.place_on_pair.ensures room old b k e)

pub place_on_line-requires-clause-good : goal.place_on_line-requires-clause-good
place_on_line-requires-clause-good c =
    good (goal.at.place_on_line-requires-clause-good c).After-primary_placement-placement (Fixed c.in-Fixed.p) (sym c.in-Fixed.ensures)

pub returns : goal.returns
returns c =
    let d = goal.at.returns c in
    let g = c.args in
    let l = g.run.items.numbers.now in
    λ room old b k e.
    rw (by_line (setting_for g.run.columns g.run.dense room) (place_of g.once) g.i b (primary_of g.run.columns l g.i) (secondary_of g.run.columns l g.i) c.in-Fixed.p c.in-Spanned.m (sym c.in-Fixed.ensures) (S-is d.After-primary_placement-placement))
    (c.place_on_line.ensures room old b k e)
