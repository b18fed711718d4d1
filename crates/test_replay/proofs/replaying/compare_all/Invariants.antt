use Rattle.std.proofs.Common.{◌≤◌}
use Rattle.test_replay.proofs.replaying.compare_all.Given as goal

abbrev pub invariant-loop : goal.invariant-loop
invariant-loop l = l.tally.requests ≤ l.counter
