-- `settle_pair` meets its contract: its test is whether the span is too wide for the grid.
use borrow.Author.Rules.{rules}
use Rattle.theory_walk.specs.Walk.{overwide}
use Rattle.placing_step4_choice.proofs.settle_pair.Goals as goal

pub returns-then-end-start : goal.returns-then-end-start
unfolding overwide
returns-then-end-start c = search rules

pub returns-else-end-start : goal.returns-else-end-start
unfolding overwide
returns-else-end-start c = search rules
