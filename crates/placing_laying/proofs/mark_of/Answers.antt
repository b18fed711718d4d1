-- `mark_of` meets its contract: no flag has bit 1, so that setting it adds 1.
use mathlib.Core.Logic.{inl, inr}
use Rattle.placing_laying.proofs.Laying.{marked, first_pressed, second_pressed}
use Rattle.placing_laying.proofs.mark_of.Goals as goal

pub returns-then-s_pressed : goal.returns-then-s_pressed
returns-then-s_pressed c =
    let a = c.args in
    marked _ a.flags c.requires
    (elim c.if-s_pressed.either [
      | inl e ↦ first_pressed a.p_pressed a.s_pressed e
      | inr e ↦ second_pressed a.p_pressed a.s_pressed e.1
    ])
