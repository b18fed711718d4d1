-- `furthest_end`: the ends looked at and those left give the largest together, and nothing left passes one that starts there itself. Assumes nothing.
use borrow.Author.Rules.{rules}
use mathlib.Core.Path.{◌≡◌, sym, ◌∙◌}
use Prim.Native.Nat.{◌-◌}
use native.Mathlib.Omega.{arith}
use mir.Facts.{to_z-of_z}
use Rattle.theory_signed.proofs.Laws.{fit16}
use Rattle.placing_step2.specs.Ends.{ends_before}
use Rattle.placing_step2.proofs.Onward.{further, beside_end}
use Rattle.placing_step2.proofs.Step2.{passed_by, goes_beside, ends_look}
use Rattle.placing_step2.proofs.furthest_end.Goals.{else-loop-j-test, then-loop-j-test+in-Some+then-starts_at}
use Rattle.placing_step2.proofs.furthest_end.Goals as goal

pub loop-j-preserved-in_default : goal.loop-j-preserved-in_default
loop-j-preserved-in_default c = passed_by _ _ _ _ _ _ _ _ c.loop-j-test.true c.loop-j.invariant (sym c.in_default.is ∙ c.counted_end.ensures)

pub loop-j-preserved : goal.loop-j-preserved
loop-j-preserved c =
    let is : c.map_or.result ≡ further c.loop-j.furthest c.in-Some.end = search rules in
    let all = goes_beside _ _ _ _ _ _ _ _ c.loop-j-test.true c.loop-j.invariant c.in-Some.end (sym c.in-Some.is ∙ c.counted_end.ensures) in
    rw (to_z-of_z (fit16 c.map_or.result c.map_or.type_inv), is) all

pub returns-clause-value : goal.returns-clause-value
unfolding ends_before
returns-clause-value c =
    let starts = to_z-of_z c.ranges.start in
    let none = to_z-of_z c.ranges.none in
    let fits = to_z-of_z (fit16 c.unwrap_or.result c.unwrap_or.type_inv) in
    elim c.loop-j-test.branch [
      | else-loop-j-test w ↦
          let e : c.loop-j.j ≡ 0 = omega arith in
          rw (fits, c.unwrap_or.ensures, w.furthest-is, none) (sym ((rw (e, starts, none) at c.loop-j.invariant) ∙ beside_end c.loop-j.furthest c.args.none))
      | then-loop-j-test+in-Some+then-starts_at w ↦
          let is : w.map_or.result ≡ further c.loop-j.furthest w.in-Some.end = search rules in
          let last = c.requires.onward (c.loop-j.j - 1) (omega arith) in
          let all = ends_look _ _ _ _ _ _ _ _ w.loop-j-test.true c.loop-j.invariant w.in-Some.end (sym w.in-Some.is ∙ w.counted_end.ensures) last (sym w.starts_at.ensures ∙ w.if-starts_at.true) in
          rw (fits, c.unwrap_or.ensures, w.furthest-is, to_z-of_z (fit16 w.map_or.result w.map_or.type_inv), is) (sym (rw (starts, none) at all))
    ]
