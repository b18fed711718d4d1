-- `after_early` meets its contract.
use mathlib.Core.Path.{◌≡◌, sym, ◌∙◌}
use Prim.Native.Nat.{◌+◌, ◌-◌}
use native.Mathlib.Omega.{arith}
use mir.Syntax.{w16}
use mir.Val.{of_z}
use mir.Facts.{to_z-of_z}
use Rattle.list_pieces.proofs.Bits.{first_yes}
use Rattle.list_pieces.proofs.reach.after_early.Goals as goal

pub returns-then-early-clause-value : goal.returns-then-early-clause-value
returns-then-early-clause-value c =
    let x = c.args in
    let i = c.loop-i.i in
    let e : i ≡ i - 1 + 1 = omega arith in
    sym (rw (to_z-of_z c.ranges.t) at c.loop-i.invariant ∙ first_yes x.list.now x.t x.stroke.start (of_z w16 x.stroke.state) i (i - 1) (omega arith) (rw (to_z-of_z c.ranges.t) at (sym c.if-early.ensures)) ∙ e)
