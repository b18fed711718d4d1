use mathlib.Core.Path.{◌≡◌}
use mathlib.Core.Bool.{false}
use lib.Dec.{lit<}
use lib.IntN.{pos}
use mir.Syntax.{w16}
use mir.Facts.{to_z-of_z}
use Rattle.theory_signed.specs.Parts.{eq_z}
use Rattle.theory_signed.proofs.Laws.{signed, fit16, same, differ, eq_yes, eq_no}
use Rattle.theory_walk.specs.Request.{placing_of}
use Rattle.placing_request.proofs.ItemLemmas.{span_at}
use Rattle.placing_request.proofs.placing.Goals.{Else-kind-eq0}
use Rattle.placing_request.proofs.placing.Goals as goal

pub returns-then-kind-eq0 : goal.returns-then-kind-eq0
unfolding placing_of
returns-then-kind-eq0 c =
    let z = c.before in
    let e = same {b = pos 0} z.ranges.kind (fit16 (pos 0) (lit< tt)) c.if-kind-eq0.true in
    rw (to_z-of_z z.ranges.a, to_z-of_z z.ranges.b, eq_yes z.args.kind (pos 0) (omega signed))

-- the kind is not 0
other : (c : Else-kind-eq0) → eq_z c.args.kind (pos 0) ≡ false
other c = let e = differ w16 c.args.kind (pos 0) c.if-kind-eq0.false in eq_no c.args.kind (pos 0) (omega signed)

pub overflow_cast-result : goal.overflow_cast-result
overflow_cast-result c = omega (signed, span_at c.args.kind c.args.a c.args.b c.requires (other c))

pub returns-else-kind-eq0 : goal.returns-else-kind-eq0
unfolding placing_of
returns-else-kind-eq0 c = rw (to_z-of_z c.ranges.a, other c)
