-- `is_short` meets its contract: where there is room however the tracks are cut, there is room.
use mathlib.Core.Path.{sym}
use Prim.Native.Nat.{◌*◌}
use borrow.Author.Tests.{le-ltb}
use lib.ListN.{length}
use Rattle.theory_intervals.specs.OverInt.{paint_list}
use Rattle.theory_intervals.specs.Lists.{recs}
use Rattle.list_areas.specs.Meant.{meant}
use Rattle.list_painting.proofs.Whole.{asked, room_enough}
use Rattle.list_painting.proofs.is_short.Goals as goal

pub returns-then-is_roomy : goal.returns-then-is_roomy
returns-then-is_roomy c =
    let l = c.args.records.list.now in
    sym (le-ltb (length l) (4 * length (paint_list (meant c.args.area) (recs c.args.records.used l))) (room_enough (asked c.args.area c.args.records.holds) (c.is_roomy.ensures c.if-is_roomy.true)))
