-- The front cannot be longer, so the answer is whether there are only zeros behind it.
use mathlib.Core.Path.{◌∙◌}
use Prim.Native.Nat.{◌*◌}
use Rattle.std.proofs.Common.{ap}
use Rattle.std.proofs.lemmas.List.{take_rest}
use Rattle.std.specs.Bool.{then_some}
use Rattle.std.specs.List.{list_all}
use Rattle.theory_intervals.specs.OverInt.{is_zero}
use Rattle.list_rules.proofs.ByIndex.{kept_is}
use Rattle.list_rules.proofs.kept.Goals as goal

pub returns : goal.returns
returns c =
    let n = c.front-n in
    let rest = take_rest c.args.list.now (4 * n.result) in
    c.then_some.ensures ∙ ap (λ b. then_some b n.result) (c.zeros.ensures ∙ ap (list_all is_zero) rest) ∙ kept_is n.ensures.front n.ensures.fact
