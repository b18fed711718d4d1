use Rattle.std.proofs.Common.{◌≡◌, ◌++◌, drop}
use Rattle.board_bytes.specs.File.{numbers}
use Rattle.board_bytes.proofs.items.read_items.Given as goal

abbrev pub invariant-loop-i : goal.invariant-loop-i
invariant-loop-i l = l.item-items ≡ numbers l.bytes 20 l.i ++ drop l.i l.initial.item-items
