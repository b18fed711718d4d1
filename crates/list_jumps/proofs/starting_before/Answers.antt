-- `starting_before`: the record at hand is the last that starts before the line.
use Prim.Native.Nat.{◌-◌}
use native.Mathlib.Omega.{arith}
use mir.Facts.{to_z-of_z}
use Rattle.theory_signed.proofs.Laws.{signed}
use Rattle.list_jumps.proofs.LastOverlap.{starts_rise}
use Rattle.list_jumps.proofs.starting_before.Goals as goal

pub returns-then-number-end : goal.returns-then-number-end
returns-then-number-end c =
    let v = c.loop-k.invariant in
    record {
      order = omega arith;
      within = omega (arith, v.within);
      below = λ k b. let s = starts_rise c.requires k (c.loop-k.k - 1) (omega arith) (omega (arith, v.within)) in omega signed;
      above = λ k a b. rw (to_z-of_z c.ranges.end) at (v.above k (omega arith) b);
    }
