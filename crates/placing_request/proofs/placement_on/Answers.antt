-- `placement_on`: the three numbers as read are the item's on that axis. Assumes nothing.
use Rattle.std.proofs.Common.{rules}
use mathlib.Core.Path.{◌≡◌, refl, ap, ◌∙◌}
use mathlib.Core.Bool.{Bool, true, false}
use mathlib.Core.List.{List}
use Prim.Native.Nat.{ℕ, ◌+◌, ◌*◌}
use native.Mathlib.Omega.{arith}
use lib.IntN.{ℤ, pos}
use lib.ListN.{get_or}
use mir.Syntax.{w16}
use mir.Val.{SFits, to_z, of_z}
use mir.Facts.{to_z-of_z}
use Rattle.theory_walk.specs.Axis.{on}
use Rattle.theory_walk.specs.Request.{Half, half, good_half, good_item, placing_of, item_of}
use Rattle.theory_walk.proofs.Tests.{and_true}
use Rattle.placing_request.specs.Items.{item_at, axis_of}
use Rattle.placing_request.proofs.placement_on.Goals.{Joined-columns, then-columns, else-columns}
use Rattle.placing_request.proofs.placement_on.Goals as goal

half_good : (columns : Bool) (l : List ℤ) (i : ℕ) → good_item (item_at l i) ≡ true → good_half (on (axis_of columns) (item_at l i)) ≡ true
half_good true l i e = (and_true (good_half (item_at l i).columns) (good_half (item_at l i).rows) e).0
half_good false l i e = (and_true (good_half (item_at l i).columns) (good_half (item_at l i).rows) e).1

on_item : (columns : Bool) (l : List ℤ) (i : ℕ) → placing_of (on (axis_of columns) (item_at l i)) ≡ on (axis_of columns) (item_of (item_at l i))
unfolding item_of
on_item true l i = refl
on_item false l i = refl

columns_at : (columns : Bool) (l : List ℤ) (i at : ℕ) → columns ≡ true → at ≡ 6 * i → half (get_or l at (pos 0)) (get_or l (at + 1) (pos 0)) (get_or l (at + 2) (pos 0)) ≡ on (axis_of columns) (item_at l i)
columns_at columns l i at e f = rw (e, f) (let g : 6 * i + 0 ≡ 6 * i = omega arith in rw g)

rows_at : (columns : Bool) (l : List ℤ) (i at : ℕ) → columns ≡ false → at ≡ 6 * i + 3 → half (get_or l at (pos 0)) (get_or l (at + 1) (pos 0)) (get_or l (at + 2) (pos 0)) ≡ on (axis_of columns) (item_at l i)
rows_at columns l i at e f = rw (e, f) (let g : 6 * i + 3 + 1 ≡ 6 * i + 4 = omega arith in let h : 6 * i + 3 + 2 ≡ 6 * i + 5 = omega arith in rw (g, h))

-- the half that is read
read : (c : Joined-columns) → half (get_or c.args.items.now c.if-columns.at (pos 0)) (get_or c.args.items.now (c.if-columns.at + 1) (pos 0)) (get_or c.args.items.now (c.if-columns.at + 2) (pos 0)) ≡ on (axis_of c.args.columns) (item_at c.args.items.now c.args.i)
read c = elim c.if-columns.branch [
  | then-columns w ↦ columns_at _ _ _ _ w.if-columns.true w.at-is
  | else-columns w ↦ rows_at _ _ _ _ w.if-columns.false w.at-is
]

-- what is read back of a number's bits is the number
same_half : {k a b : ℤ} {h : Half} → half k a b ≡ h → SFits w16 k → SFits w16 a → SFits w16 b → half (to_z w16 (of_z w16 k)) (to_z w16 (of_z w16 a)) (to_z w16 (of_z w16 b)) ≡ h
same_half e f g i = rw (to_z-of_z f, to_z-of_z g, to_z-of_z i) e

pub placing-requires : goal.placing-requires
placing-requires c =
    rw (same_half (read (goal.at.placing-requires c).Joined-columns) (search rules) (search rules) (search rules)) (half_good c.args.columns c.args.items.now c.args.i c.requires.i_value)

pub returns : goal.returns
returns c =
    let e = same_half (read (goal.at.returns c).Joined-columns) (search rules) (search rules) (search rules) in
    c.placing.ensures ∙ ap placing_of e ∙ on_item c.args.columns c.args.items.now c.args.i
