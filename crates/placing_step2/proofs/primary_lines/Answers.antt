-- `primary_lines`: the span's end fits, since no search passes 10000, and its lines are those of the place that the search found. Assumes nothing.
use borrow.Author.Rules.{rules}
use mathlib.Core.Path.{◌≡◌, ap}
use lib.IntN.{ℤ, pos}
use lib.Signed.{◌≤ℤ◌}
use mir.Syntax.{w16}
use mir.Val.{SFits, to_z, of_z}
use mir.Facts.{to_z-of_z}
use Rattle.theory_signed.proofs.Laws.{signed, fit16, rng}
use Rattle.grid_coordinates.specs.declared.Lines.{Lines}
use Rattle.grid_coordinates.specs.Line.{lines}
use Rattle.grid_track_counts.specs.Counts.{grid_start}
use Rattle.list_rules.specs.Held.{held}
use Rattle.placing_search.specs.Clear.{clear}
use Rattle.theory_walk.specs.Axis.{from}
use Rattle.theory_walk.specs.Search.{first_line}
use Rattle.placing_step2.specs.Ends.{start_of}
use Rattle.placing_step2.proofs.Step2.{line_high}
use Rattle.placing_step2.proofs.primary_lines.Goals as goal

pub spanned-requires-clause-sfits : goal.spanned-requires-clause-sfits
spanned-requires-clause-sfits c =
    let begins : to_z w16 (of_z w16 c.starting_line-start.result) ≤ℤ pos 10000 = search rules in
    let high : c.first_free_line-line.result ≤ℤ pos 10000 = rw c.first_free_line-line.ensures (line_high _ _ c.args.records.holds c.args.span c.args.s _ begins) in
    let fits = fit16 c.first_free_line-line.result c.first_free_line-line.type_inv in
    omega (signed, rng fits)

-- by the start and by the end
lines_are : (l : Lines) (a b : ℤ) → l.start ≡ a → l.end ≡ b → l ≡ lines a b
lines_are l a b p q = λ j. lines (p j) (q j)

pub returns : goal.returns
returns c =
    let place : to_z w16 (of_z w16 c.first_free_line-line.result) ≡ first_line (λ y. clear (held c.args.records) c.args.s (from y c.args.span)) (start_of c.args.run.columns c.args.run.dense c.args.run.items.numbers.now c.args.answers.now c.args.s.start c.args.i (grid_start c.args.counts)) = search rules in
    let begins = ap (λ (l : Lines). l.start) c.spanned.ensures in
    let ends = ap (λ (l : Lines). l.end) c.spanned.ensures in
    let fits : SFits w16 c.spanned.result.end = search rules in
    let read = to_z-of_z fits in
    lines_are _ _ _ (omega (signed, begins, place)) (omega (signed, ends, place, read))
