use Prim.Native.Nat.{◌-◌, ◌/◌}
use lib.ListN.{length}
use Rattle.list_rules.specs.Inner.{start_no}
use Rattle.list_tracks.proofs.Sorted.{Halving}
use Rattle.list_jumps.proofs.narrowed.Given as goal

abbrev pub invariant-loop-hi : goal.invariant-loop-hi
invariant-loop-hi l = Halving (start_no l.part) (length l.part / 4) l.end l.lo l.hi

abbrev pub decreases-loop-hi : goal.decreases-loop-hi
decreases-loop-hi l = l.hi - l.lo
