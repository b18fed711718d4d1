-- The search from where the loop stands finds what the search from the start finds.
use mathlib.Core.Path.{◌≡◌, sym, ◌∙◌}
use native.Mathlib.Omega.{arith}
use lib.IntN.{pos, ◌+ℤ◌}
use mir.Syntax.{w16}
use mir.Val.{SFits, to_z, of_z}
use mir.Facts.{to_z-of_z}
use Rattle.theory_signed.proofs.Laws.{signed, rng}
use Rattle.list_rules.specs.Held.{held}
use Rattle.placing_search.proofs.Turns.{clear_stripe, Further, stripe_here, stripe_on, sum_fits, sum_is}
use Rattle.placing_search.proofs.first_free_stripe.Goals.{At-loop-after, In-Some}
use Rattle.placing_search.proofs.first_free_stripe.Goals as goal

pub overflow_add-track : goal.overflow_add-track
overflow_add-track c = sum_fits (to_z w16 c.loop-after.track-bits) c.args.span (omega arith) (omega (signed, rng c.ranges.start)) c.loop-after.invariant.1

-- the sum that the call is given
past : (c : At-loop-after) → to_z w16 (of_z w16 (to_z w16 c.loop-after.track-bits +ℤ to_z w16 c.args.span)) ≡ to_z w16 c.loop-after.track-bits +ℤ pos c.args.span
past c = sum_is (to_z w16 c.loop-after.track-bits) c.args.span (omega arith) (omega (signed, rng c.ranges.start)) c.loop-after.invariant.1

-- a turn that goes on
on : (c : In-Some) → Further (clear_stripe (held c.args.records) c.args.span) (to_z w16 c.loop-after.track-bits) c.in-Some.after
on c =
    let p = to_z w16 c.loop-after.track-bits in
    stripe_on (held c.args.records) c.args.records.holds.keep c.args.span p
    (to_z w16 (of_z w16 (p +ℤ to_z w16 c.args.span))) c.in-Some.after (past c.before.before) (sym c.occupied_track_jump.ensures ∙ c.in-Some.is)

fits : (c : In-Some) → SFits w16 c.in-Some.after
fits c = let t = on c in omega (signed, rng c.ranges.start)

pub loop-after-smaller : goal.loop-after-smaller
loop-after-smaller c = let t = on c in omega (signed, fits c)

pub loop-after-preserved : goal.loop-after-preserved
loop-after-preserved c =
    let t = on c in
    (omega (signed, fits c), omega (signed, fits c), rw (to_z-of_z (fits c)) (c.loop-after.invariant.2 ∙ t.same))

pub returns : goal.returns
returns c =
    let q = c.before.before in
    let p = to_z w16 c.loop-after.track-bits in
    let here = stripe_here (held c.args.records) c.args.records.holds.keep c.args.span p
    (to_z w16 (of_z w16 (p +ℤ to_z w16 c.args.span))) (past q) (sym c.occupied_track_jump.ensures ∙ c.in_default.is) in
    sym (rw (to_z-of_z c.ranges.start) at (c.loop-after.invariant.2 ∙ here))
