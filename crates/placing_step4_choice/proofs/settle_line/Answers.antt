-- `settle_line` meets its contract: no line from the start on passes 12000, so that a span can be added to it.
use borrow.Author.Rules.{rules}
use mathlib.Core.Path.{◌≡◌, subst, sym}
use mir.Syntax.{w16}
use mir.Val.{to_z, of_z}
use Rattle.theory_signed.proofs.Laws.{signed, fit16}
use Rattle.placing_step4_choice.specs.Cursor.{start_on}
use Rattle.placing_step4_choice.proofs.Near.{Near, start_near, line_near}
use Rattle.placing_step4_choice.proofs.settle_line.Goals as goal

pub spanned-requires-clause-sfits : goal.spanned-requires-clause-sfits
spanned-requires-clause-sfits c =
    let begins : to_z w16 (of_z w16 c.start_line-start.result) ≡ start_on c.args.dense c.args.cursor c.args.counts c.args.p.start = search rules in
    let near : Near (start_on c.args.dense c.args.cursor c.args.counts c.args.p.start) = start_near _ _ _ _ c.requires.sound c.requires.cursor_in in
    let line = subst Near (sym c.first_free_line-line.ensures) (line_near _ c.args.records.holds.keep c.args.p c.args.span _ (rw begins near)) in
    let fits = fit16 c.first_free_line-line.result c.first_free_line-line.type_inv in
    omega signed
