-- `paint_cut` meets its contract. What `cut_track` finds is found once (`found`); each goal below is read from it.
use mathlib.Core.Path.{◌≡◌, sym, subst}
use Prim.Native.Nat.{ℕ, ◌+◌, ◌-◌, ◌*◌, ◌≤◌}
use native.Mathlib.Omega.{arith}
use lib.IntN.{pos}
use lib.ListN.{length, replicate}
use lib.Seq.{paste}
use mir.Syntax.{w16}
use mir.Val.{of_z}
use mir.Facts.{to_z-of_z}
use Rattle.list_areas.proofs.Meant.{good_of}
use Rattle.list_pieces.specs.Reach.{Reaches}
use Rattle.list_pieces.specs.Pieces.{numbers}
use Rattle.list_pieces.specs.Passes.{InPlace}
use Rattle.list_sweeps.proofs.Moves.{s_apart}
use Rattle.list_in_place.proofs.InPlace.{p_few, grown_is, shrunk_is, placed}
use Rattle.list_in_place.proofs.paint_cut.Goals.{After-count-n}
use Rattle.list_in_place.proofs.paint_cut.Goals as goal

pub cut_track-found-requires-clause-apart : goal.cut_track-found-requires-clause-apart
cut_track-found-requires-clause-apart c = rw (to_z-of_z c.ranges.t) (s_apart c.requires.gapped.0 (good_of c.args.area) c.requires.late)

module _ (c : After-count-n) where
  found : let x = c.args in let r = c.cut_track-found.result in
      Reaches x.list.now x.count.before x.t x.area.stroke.start x.area.stroke.end (of_z w16 x.area.stroke.state) r.first r.past c.count-n.result (numbers r.pieces)
  found =
      let x = c.args in
      let r = c.cut_track-found.result in
      subst (λ (n : ℕ). Reaches x.list.now x.count.before x.t x.area.stroke.start x.area.stroke.end (of_z w16 x.area.stroke.state) r.first r.past n (numbers r.pieces)) (sym c.count-n.ensures)
      (rw (to_z-of_z c.ranges.t) at c.cut_track-found.ensures)

  few : c.count-n.result ≤ c.cut_track-found.result.past - c.cut_track-found.result.first + 2
  few = p_few c.requires.gapped.0 c.requires.gapped.1 (good_of c.args.area) c.requires.late found

  -- there is room for the records that there are afterwards
  fits : let r = c.cut_track-found.result in 4 * (r.first + c.count-n.result + (c.args.count.used - r.past)) ≤ length c.args.list.now
  fits = omega (arith, few, found.low, found.high)

pub returns-then-n-k : goal.returns-then-n-k
returns-then-n-k c =
    let k = (goal.at.returns-then-n-k c).After-count-n in
    let x = c.args in
    let r = c.cut_track-found.result in
    let n = c.count-n.result in
    let f = found k in
    let less = c.if-n-k.true in
    let e : r.first + n + (x.count.used - r.past) ≡ x.count.used - (r.past - r.first - n) = omega (arith, f.low, f.high, less) in
    let at : 4 * r.past - 4 * (r.past - r.first - n) ≡ 4 * (r.first + n) = omega (arith, f.low, less) in
    let good = good_of x.area in
    let y = rw c.numbers.ensures at c.put_in.ensures in
    let z : ℕ → Type 0 = λ (m : ℕ). c.wipe.new.list ≡ paste c.put_in.new.list (4 * m) (replicate (4 * x.count.used - 4 * m) (pos 0)) (4 * x.count.used - 4 * m) in
    subst (λ (m : ℕ). InPlace x.area.stroke.start x.area.stroke.end x.area.stroke.state x.t x.list.now x.count.before x.count.used c.wipe.new.list r.first m) e
    (placed c.requires.gapped.0 c.requires.gapped.1 good c.requires.late f (fits k) _ _ at c.move_down.ensures _ y _
    (shrunk_is c.requires.gapped.0 c.requires.gapped.1 good c.requires.late f (fits k) _ _ at c.move_down.ensures _ y (omega (arith, e, less)) _ (subst z (sym e) c.wipe.ensures)))

pub returns : goal.returns
returns c =
    let k = (goal.at.returns c).After-count-n in
    let x = c.args in
    let r = c.cut_track-found.result in
    let n = c.count-n.result in
    let f = found k in
    let more = c.if-n-k.false in
    let e : r.first + n + (x.count.used - r.past) ≡ x.count.used + (n - (r.past - r.first)) = omega (arith, f.low, f.high, more) in
    let at : 4 * r.past + 4 * (n - (r.past - r.first)) ≡ 4 * (r.first + n) = omega (arith, f.low, more) in
    let good = good_of x.area in
    let y = rw c.numbers-2.ensures at c.put_in-2.ensures in
    subst (λ (m : ℕ). InPlace x.area.stroke.start x.area.stroke.end x.area.stroke.state x.t x.list.now x.count.before x.count.used c.put_in-2.new.list r.first m) e
    (placed c.requires.gapped.0 c.requires.gapped.1 good c.requires.late f (fits k) _ _ at c.move_up.ensures _ y _
    (grown_is c.requires.gapped.0 c.requires.gapped.1 good c.requires.late f (fits k) _ _ at c.move_up.ensures _ y (omega (arith, e))))
