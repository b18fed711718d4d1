use Rattle.std.proofs.Common.{◌≡◌, ◌≤◌, length}
use Rattle.test_boards.proofs.damaged.both_told.Given as goal

abbrev pub invariant-loop-n : goal.invariant-loop-n
invariant-loop-n l = (l.sum ≤ l.n) × (length l.file ≡ length l.initial.file)
