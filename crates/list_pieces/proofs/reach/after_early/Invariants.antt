use mathlib.Core.Path.{◌≡◌}
use mir.Syntax.{w16}
use mir.Val.{of_z}
use Rattle.list_pieces.specs.Reach.{after_early}
use Rattle.list_pieces.proofs.reach.after_early.Given as goal

abbrev pub invariant-loop-i : goal.invariant-loop-i
invariant-loop-i l = after_early l.list l.fn.t l.stroke.start (of_z w16 l.stroke.state) l.n ≡ after_early l.list l.fn.t l.stroke.start (of_z w16 l.stroke.state) l.i
