-- `step` meets its contract. What `cut_track` finds is found once (`found`); each goal below is read from it.
use mathlib.Core.Path.{◌≡◌, sym, subst}
use mathlib.Core.Bool.{true}
use Prim.Native.Nat.{ℕ, ◌+◌, ◌-◌, ◌≤◌}
use native.Mathlib.Omega.{arith}
use lib.ListN.{length}
use mir.Syntax.{w16}
use mir.Val.{of_z}
use mir.Facts.{to_z-of_z}
use Rattle.list_areas.proofs.Meant.{good_of}
use Rattle.list_pieces.specs.Reach.{Reaches}
use Rattle.list_pieces.specs.Pieces.{numbers}
use Rattle.list_sweeps.proofs.Moves.{s_apart, up_long, left_alone, fits, painted_up}
use Rattle.list_sweeps.proofs.step.Goals.{After-wanted}
use Rattle.list_sweeps.proofs.step.Goals as goal

pub cut_track-found-requires-clause-apart : goal.cut_track-found-requires-clause-apart
cut_track-found-requires-clause-apart c = rw (to_z-of_z c.ranges.t) (s_apart c.requires.gapped (good_of c.args.area) c.requires.late)

module _ (c : After-wanted) where
  found : let x = c.args in let r = c.cut_track-found.result in
      Reaches x.list.now x.gap.r x.t x.area.stroke.start x.area.stroke.end (of_z w16 x.area.stroke.state) r.first r.past c.count-n.result (numbers r.pieces)
  found =
      let x = c.args in
      let r = c.cut_track-found.result in
      subst (λ (n : ℕ). Reaches x.list.now x.gap.r x.t x.area.stroke.start x.area.stroke.end (of_z w16 x.area.stroke.state) r.first r.past n (numbers r.pieces)) (sym c.count-n.ensures)
      (rw (to_z-of_z c.ranges.t) at c.cut_track-found.ensures)

  long : length c.move_up.new.list ≡ length c.args.list.now
  long = up_long c.args.all c.requires.gapped (good_of c.args.area) c.requires.late found _ c.move_up.ensures c.wanted.result c.wanted.ensures

  -- a track that is painted has room for its records
  room : c.wanted.result ≡ true → c.cut_track-found.result.first + c.count-n.result ≤ c.args.gap.w - (c.args.gap.r - c.cut_track-found.result.past)
  room e = fits c.args.all c.requires.gapped (good_of c.args.area) c.requires.late found _ c.move_up.ensures c.wanted.result c.wanted.ensures e c.requires.top_len_bound

pub returns-then-not-wanted : goal.returns-then-not-wanted
returns-then-not-wanted c =
    left_alone c.args.all c.requires.gapped (good_of c.args.area) c.requires.late (found c.before) _ c.move_up.ensures c.wanted.result c.wanted.ensures c.if-not-wanted.true

pub overflow_sub-v-3 : goal.overflow_sub-v-3
overflow_sub-v-3 c = let h = room (goal.at.overflow_sub-v-3 c).After-wanted c.if-not-wanted.false in omega arith

pub put_in-requires : goal.put_in-requires
put_in-requires c =
    let k = (goal.at.put_in-requires c).After-wanted in
    let h = room k c.if-not-wanted.false in
    let u = long k in
    let m = (found k).long in
    rw c.numbers.ensures (omega arith)

pub overflow_sub-result : goal.overflow_sub-result
overflow_sub-result c = let h = room (goal.at.overflow_sub-result c).After-wanted c.if-not-wanted.false in omega arith

pub returns : goal.returns
returns c =
    let k = (goal.at.returns c).After-wanted in
    painted_up c.args.all c.requires.gapped (good_of c.args.area) c.requires.late (found k) _ c.move_up.ensures c.wanted.result c.wanted.ensures c.if-not-wanted.false c.requires.top_len_bound _
    (rw c.numbers.ensures at c.put_in.ensures)
