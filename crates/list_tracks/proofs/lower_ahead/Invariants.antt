use Prim.Native.Nat.{◌≤◌}
use Rattle.list_rules.specs.Inner.{track_no}
use Rattle.list_tracks.proofs.Sorted.{Halving}
use Rattle.list_tracks.proofs.lower_ahead.Given as goal

abbrev pub invariant-loop-k : goal.invariant-loop-k
invariant-loop-k l = (l.from ≤ l.k) × Halving (track_no l.records.list.now) l.records.used l.x l.k l.records.used
