-- `build` meets its contract.
use mathlib.Core.Path.{◌≡◌}
use mathlib.Core.Bool.{Bool, true, false, cond}
use mathlib.Core.List.{[], ◌∷◌, ◌++◌}
use native.Mathlib.Omega.{arith}
use mir.Syntax.{w16}
use mir.Val.{of_z}
use mir.Facts.{to_z-of_z}
use Rattle.theory_signed.proofs.Laws.{fit16}
use Rattle.list_moves.proofs.Parts.{same16}
use Rattle.list_pieces.specs.Reach.{four, left_of, Built}
use Rattle.list_pieces.proofs.Bits.{ζ}
use Rattle.list_pieces.proofs.Build.{built}
use Rattle.list_pieces.proofs.pieces.build.Goals.{After-left_of-2}
use Rattle.list_pieces.proofs.pieces.build.Goals as goal

-- what the callees say of the arguments as read back
whole : (told : After-left_of-2) (left right : Bool) → let x = told.args in let y = x.stroke in
    left ≡ left_of (ζ x.c) (of_z w16 (ζ x.v)) (ζ y.start) (of_z w16 (ζ y.state)) → right ≡ left_of (ζ y.end) (of_z w16 (ζ y.state)) (ζ x.d) (of_z w16 (ζ x.z))
    → Built x.t x.c x.v x.d x.z y.start y.end y.state
    (cond left (four (ζ x.t) (ζ x.c) (ζ y.start) (ζ x.v) ∷ []) []
    ++ (four (ζ x.t) (ζ told.start_of-start.result) (ζ told.end_of-end.result) (ζ y.state) ∷ cond right (four (ζ x.t) (ζ y.end) (ζ x.d) (ζ x.z) ∷ []) []))
whole told left right h k =
    let x = told.args in
    let y = x.stroke in
    let f = told.ranges in
    let T = to_z-of_z f.t in
    let C = to_z-of_z f.c in
    let V = to_z-of_z f.v in
    let D = to_z-of_z f.d in
    let Z = to_z-of_z f.z in
    let A = to_z-of_z (fit16 y.start (omega arith)) in
    let B = to_z-of_z (fit16 y.end (omega arith)) in
    let S = to_z-of_z (fit16 y.state (omega arith)) in
    let st = rw (C, V) at told.start_of-start.ensures in
    let en = rw (D, Z) at told.end_of-end.ensures in
    rw (same16 {z = told.start_of-start.result} told.start_of-start.type_inv, same16 {z = told.end_of-end.result} told.end_of-end.type_inv, T, C, V, D, Z, A, B, S, st, en) (built x.t x.c x.v x.d x.z y.start y.end y.state left right (rw (C, V, A, S) at h) (rw (B, S, D, Z) at k) V Z S)

pub returns-in-true-true-clause-built : goal.returns-in-true-true-clause-built
returns-in-true-true-clause-built c = whole c.before true true c.in-true-true.ensures c.in-true-true.ensures'

pub returns-in-true-false-clause-built : goal.returns-in-true-false-clause-built
returns-in-true-false-clause-built c = whole c.before true false c.in-true-false.ensures c.in-true-false.ensures'

pub returns-in-false-true-clause-built : goal.returns-in-false-true-clause-built
returns-in-false-true-clause-built c = whole c.before false true c.in-false-true.ensures c.in-false-true.ensures'

pub returns-in-false-false-clause-built : goal.returns-in-false-false-clause-built
returns-in-false-false-clause-built c = whole c.before false false c.in-false-false.ensures c.in-false-false.ensures'
