use Rattle.std.proofs.Common.{◌+◌, ◌≤◌}
use Rattle.test_boards.proofs.damaged.prefixes.Given as goal

abbrev pub invariant-loop-n : goal.invariant-loop-n
invariant-loop-n l = l.sum + l.from ≤ l.n
