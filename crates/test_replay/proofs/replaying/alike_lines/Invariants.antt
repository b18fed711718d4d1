use Rattle.std.proofs.Common.{◌+◌, ◌*◌, ◌≤◌}
use Rattle.test_replay.proofs.replaying.alike_lines.Given as goal

abbrev pub invariant-loop-i : goal.invariant-loop-i
invariant-loop-i l = l.alike ≤ 4 * l.i

abbrev pub invariant-loop-j : goal.invariant-loop-j
invariant-loop-j l = l.alike ≤ 4 * l.i + l.j
