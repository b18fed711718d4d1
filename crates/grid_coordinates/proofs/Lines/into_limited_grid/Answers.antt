-- `Lines::into_limited_grid` meets its contract: the two clampings give the limited lines, and `!=` tells whether that changed one.
use Rattle.std.proofs.Common.{rules, arith, ◌≡◌, ◌∙◌, not, ◌&&◌, pos, ◌+ℤ◌, to_z-of_z, FitsSigned}
use Rattle.std.proofs.lemmas.Int.{ints}
use Rattle.std.specs.Int.{w16}
use Rattle.theory_signed.specs.Parts.{eq_z}
use Rattle.grid_coordinates.specs.Line.{lowest, highest, clamp_to, limited, pressed, limited_start}
use Rattle.grid_coordinates.proofs.Clamp.{clamped_by, equal_by}
use Rattle.grid_coordinates.proofs.Lines.into_limited_grid.Goals as goal

pub returns : goal.returns
unfolding limited pressed
returns c =
    let a = c.args.self in
    let r = c.clamp-start in
    let f : FitsSigned w16 a.start = search rules in
    let g : FitsSigned w16 a.end = search rules in
    let p : FitsSigned w16 r.result = search rules in
    let q : FitsSigned w16 c.clamp-end.result = search rules in
    let n : FitsSigned w16 (r.result +ℤ pos 1) = search rules in
    let start : r.result ≡ limited_start a.start = (simp to_z-of_z at r.ensures.value) ∙ clamped_by lowest (pos 9999) a.start (search rules) in
    let end : c.clamp-end.result ≡ clamp_to (r.result +ℤ pos 1) highest a.end =
    (simp to_z-of_z at c.clamp-end.ensures.value) ∙ clamped_by (r.result +ℤ pos 1) highest a.end (omega (arith, ints, r.ensures.upper_bound)) in
    let told : c.ne.result ≡ not (eq_z (limited a).start a.start && eq_z (limited a).end a.end) =
    rw (to_z-of_z p, to_z-of_z q, end, start, equal_by (limited_start a.start) a.start, equal_by (clamp_to (limited_start a.start +ℤ pos 1) highest a.end) a.end) at c.ne.ensures in
    (rw (to_z-of_z p, to_z-of_z q, end, start), told)
