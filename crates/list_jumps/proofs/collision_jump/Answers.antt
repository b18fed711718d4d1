-- Two halving searches, for where the records of the crossed tracks stand.
use mathlib.Core.Path.{◌∙◌}
use mir.Facts.{to_z-of_z}
use Rattle.theory_signed.proofs.Laws.{signed}
use Rattle.list_jumps.specs.Calls.{collision_jump}
use Rattle.list_rules.specs.Held.{held}
use Rattle.list_rules.specs.Inner.{Crosses}
use Rattle.list_tracks.proofs.Sorted.{split_as, widened}
use Rattle.list_jumps.proofs.collision_jump.Goals.{After-lower-past}
use Rattle.list_jumps.proofs.collision_jump.Goals as goal

crossed : (a : After-lower-past) → Crosses a.args.records.list.now a.lower-first.result a.lower-past.result
crossed a =
    let z = a.args in
    record {
      used = z.records.used;
      low = z.track_start;
      high = z.track_end;
      holds = z.records.holds;
      order = omega signed;
      begins = split_as (widened a.ranges.track_start) a.lower-first.ensures.1;
      ends = split_as (widened a.ranges.track_end) a.lower-past.ensures.1;
    }

pub returns : goal.returns
unfolding crossed
returns c =
    let z = c.args in
    c.collision_between.ensures (crossed c.before.before)
    ∙ (λ i. collision_jump (held z.records) z.track_start z.track_end (to_z-of_z c.ranges.start i) (to_z-of_z c.ranges.end i))
