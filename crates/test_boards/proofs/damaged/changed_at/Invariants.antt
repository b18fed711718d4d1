use Rattle.std.proofs.Common.{◌≡◌, ◌<◌, length}
use Rattle.test_boards.proofs.damaged.changed_at.Given as goal

abbrev pub invariant-loop-v : goal.invariant-loop-v
invariant-loop-v l = (l.sum < l.v) × (length l.file ≡ length l.initial.file)
