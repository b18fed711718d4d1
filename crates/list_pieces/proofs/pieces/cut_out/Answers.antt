-- `cut_out` meets its contract.
use Prim.Native.Nat.{◌+◌, ◌-◌, ◌*◌}
use native.Mathlib.Omega.{arith}
use lib.IntN.{pos}
use lib.ListN.{get_or}
use mir.Facts.{to_z-of_z}
use Rattle.theory_signed.proofs.Laws.{fit16}
use Rattle.list_moves.specs.Fours.{fours}
use Rattle.list_pieces.specs.Pieces.{count, numbers}
use Rattle.list_pieces.proofs.Build.{pieced, alone}
use Rattle.list_pieces.proofs.pieces.cut_out.Goals as goal

pub returns-then-i-j-clause-pieced : goal.returns-then-i-j-clause-pieced
returns-then-i-j-clause-pieced c =
    let x = c.args in
    let y = x.stroke in
    let T = to_z-of_z c.ranges.t in
    let A = to_z-of_z (fit16 y.start (omega arith)) in
    let B = to_z-of_z (fit16 y.end (omega arith)) in
    let S = to_z-of_z (fit16 y.state (omega arith)) in
    rw (T, A, B, S) (alone x.list.now x.i x.j x.t y.start y.end y.state S (omega arith))

pub returns-clause-pieced : goal.returns-clause-pieced
returns-clause-pieced c =
    let x = c.args in
    let y = x.stroke in
    let l = x.list.now in
    let i = x.i in
    let j = x.j in
    let T = to_z-of_z c.ranges.t in
    let C = to_z-of_z (fit16 (get_or l (4 * i + 1) (pos 0)) (omega arith)) in
    let V = to_z-of_z (fit16 (get_or l (4 * i + 3) (pos 0)) (omega arith)) in
    let D = to_z-of_z (fit16 (get_or l (4 * (j - 1) + 2) (pos 0)) (omega arith)) in
    let Z = to_z-of_z (fit16 (get_or l (4 * (j - 1) + 3) (pos 0)) (omega arith)) in
    pieced l i j x.t y.start y.end y.state (omega arith) (omega arith) c.requires.on_track (fours (count c.build.result) (numbers c.build.result)) (rw (T, C, V, D, Z) at c.build.ensures.built)
