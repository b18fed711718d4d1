-- `paint_roomy` meets its contract: one sweep that paints all, with two places more for each track.
use mathlib.Core.Path.{ap}
use Prim.Native.Nat.{ℕ, ◌+◌, ◌*◌}
use native.Mathlib.Omega.{arith}
use Rattle.list_painting.proofs.Whole.{asked, ready_to, roomy_all, painted}
use Rattle.list_painting.proofs.paint_roomy.Goals as goal

pub paint_tracks-requires-clause-ready : goal.paint_tracks-requires-clause-ready
paint_tracks-requires-clause-ready c = ready_to (asked c.args.area c.requires.holds) _ (omega arith) c.requires.room

pub returns-then-behind-le32-clause-value : goal.returns-then-behind-le32-clause-value
returns-then-behind-le32-clause-value c = (painted (asked c.args.area c.requires.holds) c.paint_tracks.ensures).0

pub returns-then-behind-le32-clause-list_after : goal.returns-then-behind-le32-clause-list_after
returns-then-behind-le32-clause-list_after c = (painted (asked c.args.area c.requires.holds) c.paint_tracks.ensures).1

pub sweep-requires-clause-ready : goal.sweep-requires-clause-ready
sweep-requires-clause-ready c = ready_to (asked c.args.area c.requires.holds) _ (omega arith) (omega (arith, c.tracks-tracks.ensures, c.requires.room))

pub sweep-requires-clause-roomy : goal.sweep-requires-clause-roomy
sweep-requires-clause-roomy c = roomy_all (asked c.args.area c.requires.holds) _ (ap (λ (n : ℕ). c.args.used + 2 * n) c.tracks-tracks.ensures)

pub returns-clause-value : goal.returns-clause-value
returns-clause-value c = (painted (asked c.args.area c.requires.holds) c.sweep.ensures.swept).0

pub returns-clause-list_after : goal.returns-clause-list_after
returns-clause-list_after c = (painted (asked c.args.area c.requires.holds) c.sweep.ensures.swept).1
