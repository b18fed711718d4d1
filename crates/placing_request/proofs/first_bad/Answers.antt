-- `first_bad`: the items passed are good, so the first bad one is that of the rest. Assumes nothing.
use mathlib.Core.Path.{sym, ◌∙◌}
use Rattle.placing_request.proofs.ItemLemmas.{bad_pass, bad_here, bad_none}
use Rattle.placing_request.proofs.first_bad.Goals as goal

pub returns-then-not-item_is_good : goal.returns-then-not-item_is_good
returns-then-not-item_is_good c =
    rw (c.loop-i.invariant, bad_here c.args.items.now c.loop-i.i c.loop-i-test.true (sym c.item_is_good.ensures ∙ c.if-not-item_is_good.true))

pub loop-i-preserved : goal.loop-i-preserved
loop-i-preserved c =
    c.loop-i.invariant ∙ bad_pass c.args.items.now c.loop-i.i c.loop-i-test.true (sym c.item_is_good.ensures ∙ c.if-not-item_is_good.false)

pub returns : goal.returns
returns c = rw (c.loop-i.invariant, bad_none c.args.items.now c.loop-i.i c.loop-i-test.false)
