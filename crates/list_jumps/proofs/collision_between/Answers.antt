-- `jumps::collision_between`: by one look or by tracks, the same jump. Assumes nothing.
use native.Mathlib.Omega.{arith}
use mir.Facts.{to_z-of_z}
use Rattle.list_rules.proofs.ByIndex.{holds_front}
use Rattle.list_jumps.proofs.Crossed.{in_order}
use Rattle.list_jumps.proofs.collision_between.Goals as goal

pub overflow_add-first : goal.overflow_add-first
overflow_add-first c = omega (arith, in_order c.requires, (holds_front c.requires.holds).room, c.requires.ends.within)

pub returns-then-past-first : goal.returns-then-past-first
returns-then-past-first c x = let s = c.before.before in rw (to_z-of_z s.ranges.start, to_z-of_z s.ranges.end) at (c.collision_among.ensures x)

pub returns : goal.returns
returns c x = let s = c.before.before in rw (to_z-of_z s.ranges.start, to_z-of_z s.ranges.end) at (c.collision_by_tracks.ensures x)
