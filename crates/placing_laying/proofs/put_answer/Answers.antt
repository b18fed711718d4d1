-- `put_answer` meets its contract: the part is written over by the five numbers of the answer.
use Rattle.std.proofs.Common.{rules}
use native.Mathlib.Omega.{arith}
use mathlib.Core.Path.{◌≡◌, ◌∙◌}
use mathlib.Core.Bool.{Bool, true, false}
use mathlib.Core.List.{List, [], ◌∷◌}
use Prim.Native.Nat.{ℕ, ◌+◌, ◌-◌, ◌*◌, ◌<◌}
use lib.IntN.{ℤ, pos}
use mir.Syntax.{w16}
use mir.Val.{SFits, to_z, of_z}
use mir.ValLaws.{to_z_pos}
use mir.Facts.{to_z-of_z}
use Rattle.grid_coordinates.specs.declared.Lines.{Lines}
use Rattle.theory_walk.specs.Axis.{laid}
use Rattle.placing_request.specs.Items.{axis_of}
use Rattle.placing_laying.proofs.Laying.{put_sets}
use Rattle.placing_laying.proofs.put_answer.Goals.{then-columns, else-columns}
use Rattle.placing_laying.proofs.put_answer.Goals as goal

-- what is read back of the numbers' bits are the numbers
same_five : {l : List ℤ} (q r : Lines × Lines) (m : ℕ) → q ≡ r
    → l ≡ (to_z w16 (of_z w16 q.0.start) ∷ to_z w16 (of_z w16 q.0.end) ∷ to_z w16 (of_z w16 q.1.start) ∷ to_z w16 (of_z w16 q.1.end) ∷ to_z w16 m ∷ [])
    → SFits w16 q.0.start → SFits w16 q.0.end → SFits w16 q.1.start → SFits w16 q.1.end → m < 32768 → l ≡ (r.0.start ∷ r.0.end ∷ r.1.start ∷ r.1.end ∷ pos m ∷ [])
same_five q r m j i e f g h k = let n : to_z w16 m ≡ pos m = to_z_pos w16 m (omega arith) in rw (← j) (i ∙ rw (to_z-of_z e, to_z-of_z f, to_z-of_z g, to_z-of_z h, n))

on_columns : (columns : Bool) (p s : Lines) → columns ≡ true → laid (axis_of columns) p s ≡ record { columns = p; rows = s }
on_columns columns p s e = rw e

on_rows : (columns : Bool) (p s : Lines) → columns ≡ false → laid (axis_of columns) p s ≡ record { columns = s; rows = p }
on_rows columns p s e = rw e

pub returns : goal.returns
returns c =
    let mark = c.requires.mark_bound in
    elim c.if-columns.branch [
      | then-columns w ↦
          let five = same_five _ _ c.args.mark w.t-11-is c.copy_from_slice.ensures.after (search rules) (search rules) (search rules) (search rules) mark in
          rw (on_columns c.args.columns c.args.p c.args.s w.if-columns.true)
          (put_sets (5 * c.args.i) (5 * c.args.i + 5 - 5 * c.args.i) c.args.answers.now _ _ five (omega arith) (omega arith))
      | else-columns w ↦
          let five = same_five _ _ c.args.mark w.t-11-is c.copy_from_slice.ensures.after (search rules) (search rules) (search rules) (search rules) mark in
          rw (on_rows c.args.columns c.args.p c.args.s w.if-columns.false)
          (put_sets (5 * c.args.i) (5 * c.args.i + 5 - 5 * c.args.i) c.args.answers.now _ _ five (omega arith) (omega arith))
    ]
