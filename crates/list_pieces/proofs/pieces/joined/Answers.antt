-- `joined` meets its contract.
use mathlib.Core.Path.{sym, ◌∙◌}
use mathlib.Core.Bool.{false}
use Prim.Native.Nat.{◌+◌, ◌-◌, ◌*◌}
use native.Mathlib.Omega.{arith}
use lib.IntN.{pos}
use lib.ListN.{get_or}
use mir.Facts.{to_z-of_z}
use Rattle.theory_signed.proofs.Laws.{fit16}
use Rattle.list_moves.proofs.Parts.{same16}
use Rattle.list_pieces.proofs.Build.{pieced, alone, built}
use Rattle.list_pieces.proofs.pieces.joined.Goals as goal

pub returns-then-i-j : goal.returns-then-i-j
returns-then-i-j c t on =
    let x = c.args in
    let y = x.stroke in
    let A = to_z-of_z (fit16 y.start (omega arith)) in
    let B = to_z-of_z (fit16 y.end (omega arith)) in
    let S = to_z-of_z (fit16 y.state (omega arith)) in
    rw (A, B) (alone x.list.now x.i x.j t y.start y.end y.state S (omega arith))

pub returns : goal.returns
returns c t on =
    let x = c.args in
    let y = x.stroke in
    let l = x.list.now in
    let i = x.i in
    let j = x.j in
    let u = get_or l (4 * i + 1) (pos 0) in
    let v = get_or l (4 * i + 3) (pos 0) in
    let d = get_or l (4 * (j - 1) + 2) (pos 0) in
    let z = get_or l (4 * (j - 1) + 3) (pos 0) in
    let C = to_z-of_z (fit16 u (omega arith)) in
    let V = to_z-of_z (fit16 v (omega arith)) in
    let D = to_z-of_z (fit16 d (omega arith)) in
    let Z = to_z-of_z (fit16 z (omega arith)) in
    let A = to_z-of_z (fit16 y.start (omega arith)) in
    let B = to_z-of_z (fit16 y.end (omega arith)) in
    let S = to_z-of_z (fit16 y.state (omega arith)) in
    let st = rw (C, V) at c.start_of.ensures in
    let en = rw (D, Z) at c.end_of.ensures in
    let h = rw (C, V, A, S) at (sym c.if-left_of.false ∙ c.left_of.ensures) in
    let k = rw (B, S, D, Z) at (sym c.if-left_of-2.false ∙ c.left_of-else-left_of.ensures) in
    rw (same16 {z = c.start_of.result} c.start_of.type_inv, same16 {z = c.end_of.result} c.end_of.type_inv, st, en)
    (pieced l i j t y.start y.end y.state (omega arith) (omega arith) on _ (built t u v d z y.start y.end y.state false false h k V Z S))
