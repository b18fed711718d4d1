-- `repaint` meets its contract: the tracks on which the records get no more, then all.
use Rattle.list_painting.proofs.Whole.{asked, ready_one, roomy_one, ready_two, roomy_two, done}
use Rattle.list_painting.proofs.repaint.Goals as goal

pub sweep-n-requires-clause-ready : goal.sweep-n-requires-clause-ready
sweep-n-requires-clause-ready c = ready_one (asked c.args.area c.requires.holds)

pub sweep-n-requires-clause-roomy : goal.sweep-n-requires-clause-roomy
sweep-n-requires-clause-roomy c = roomy_one (asked c.args.area c.requires.holds)

pub sweep-requires-clause-ready : goal.sweep-requires-clause-ready
sweep-requires-clause-ready c = ready_two (asked c.args.area c.requires.holds) c.sweep-n.ensures.swept c.requires.total_value c.requires.total_in_bounds

pub sweep-requires-clause-roomy : goal.sweep-requires-clause-roomy
sweep-requires-clause-roomy c = roomy_two (asked c.args.area c.requires.holds) c.sweep-n.ensures.swept c.requires.total_value

pub returns-clause-value : goal.returns-clause-value
returns-clause-value c = (done (asked c.args.area c.requires.holds) c.sweep-n.ensures.swept c.requires.total_value c.sweep.ensures.swept).0

pub returns-clause-list_after : goal.returns-clause-list_after
returns-clause-list_after c = (done (asked c.args.area c.requires.holds) c.sweep-n.ensures.swept c.requires.total_value c.sweep.ensures.swept).1
