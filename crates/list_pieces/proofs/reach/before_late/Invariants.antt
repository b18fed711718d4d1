use mathlib.Core.Path.{◌≡◌}
use mir.Syntax.{w16}
use mir.Val.{of_z}
use Rattle.list_pieces.specs.Reach.{before_late}
use Rattle.list_pieces.proofs.reach.before_late.Given as goal

abbrev pub invariant-loop-i : goal.invariant-loop-i
invariant-loop-i l = before_late l.list l.fn.t l.stroke.end (of_z w16 l.stroke.state) l.n ≡ before_late l.list l.fn.t l.stroke.end (of_z w16 l.stroke.state) l.i
