-- The search from where the loop stands finds what the search from the start finds.
use mathlib.Core.Path.{◌≡◌, sym, ◌∙◌}
use native.Mathlib.Omega.{arith}
use lib.IntN.{pos, ◌+ℤ◌}
use mir.Syntax.{w16}
use mir.Val.{SFits, to_z, of_z}
use mir.Facts.{to_z-of_z}
use Rattle.theory_signed.proofs.Laws.{signed, rng, fit16}
use Rattle.list_rules.specs.Held.{held}
use Rattle.list_rules.specs.Inner.{Crosses}
use Rattle.list_tracks.proofs.Sorted.{split_as, widened}
use Rattle.list_jumps.specs.Calls.{collision_jump}
use Rattle.placing_search.proofs.Turns.{clear_line, Further, line_here, line_on, sum_fits, sum_is}
use Rattle.placing_search.proofs.first_free_line.Goals.{After-collision_between, After-lower-past, At-loop-next, In-Some}
use Rattle.placing_search.proofs.first_free_line.Goals as goal

-- the records on the tracks
crossed : (c : After-lower-past) → Crosses c.args.records.list.now c.lower-first.result c.lower-past.result
crossed c =
    let z = c.args in
    let h = c.requires.start_lt_end in
    record {
      used = z.records.used;
      low = z.tracks.start;
      high = z.tracks.end;
      holds = z.records.holds;
      order = omega signed;
      begins = split_as (widened (fit16 z.tracks.start (omega arith))) c.lower-first.ensures.1;
      ends = split_as (widened (fit16 z.tracks.end (omega arith))) c.lower-past.ensures.1;
    }

pub overflow_add-line : goal.overflow_add-line
overflow_add-line c = sum_fits (to_z w16 c.loop-next.line-bits) c.args.span (omega arith) (omega (signed, rng c.ranges.start)) c.loop-next.invariant.1

pub collision_between-requires : goal.collision_between-requires
collision_between-requires c = crossed c.before.before

-- the sum that the call is given
after : (c : At-loop-next) → to_z w16 (of_z w16 (to_z w16 c.loop-next.line-bits +ℤ to_z w16 c.args.span)) ≡ to_z w16 c.loop-next.line-bits +ℤ pos c.args.span
after c = sum_is (to_z w16 c.loop-next.line-bits) c.args.span (omega arith) (omega (signed, rng c.ranges.start)) c.loop-next.invariant.1

jump_is : (c : After-collision_between)
    → c.collision_between.result ≡ collision_jump (held c.args.records) c.args.tracks.start c.args.tracks.end (to_z w16 c.loop-next.line-bits) (to_z w16 (of_z w16 (to_z w16 c.loop-next.line-bits +ℤ to_z w16 c.args.span)))
unfolding crossed
jump_is c = c.collision_between.ensures (crossed c.before.before.before)

-- a turn that goes on
on : (c : In-Some) → Further (clear_line (held c.args.records) c.args.tracks c.args.span) (to_z w16 c.loop-next.line-bits) c.in-Some.next
on c =
    let z = c.args in
    let p = to_z w16 c.loop-next.line-bits in
    line_on (held z.records) z.records.holds.keep z.tracks.start z.tracks.end z.span p
    (to_z w16 (of_z w16 (p +ℤ to_z w16 z.span))) c.in-Some.next (after c.before.before.before) (sym (jump_is c.before) ∙ c.in-Some.is)

fits : (c : In-Some) → SFits w16 c.in-Some.next
fits c = let t = on c in omega (signed, rng c.ranges.start)

pub loop-next-smaller : goal.loop-next-smaller
loop-next-smaller c = let t = on c in omega (signed, fits c)

pub loop-next-preserved : goal.loop-next-preserved
loop-next-preserved c =
    let t = on c in
    (omega (signed, fits c), omega (signed, fits c), rw (to_z-of_z (fits c)) (c.loop-next.invariant.2 ∙ t.same))

pub returns : goal.returns
returns c =
    let z = c.args in
    let p = to_z w16 c.loop-next.line-bits in
    let here = line_here (held z.records) z.records.holds.keep z.tracks.start z.tracks.end z.span p
    (to_z w16 (of_z w16 (p +ℤ to_z w16 z.span))) (after c.before.before.before) (sym (jump_is c.before) ∙ c.in_default.is) in
    sym (rw (to_z-of_z c.ranges.start) at (c.loop-next.invariant.2 ∙ here))
