-- `hoarbale_place` meets its contract: it tells the door's answer by numbers.
use mathlib.Core.Path.{ap, ◌∙◌}
use Rattle.hoarbale_c.specs.Placing.{of_placing}
use Rattle.hoarbale_c.proofs.placing.hoarbale_place.Goals as goal

pub returns : goal.returns
returns c =
    let e = rw (c.into.ensures, c.into-2.ensures) at c.place.ensures in
    record {
      value = c.into-3.ensures ∙ ap of_placing e.value;
      answers_after = e.answers_after;
      row_list_after = e.row_list_after;
      column_list_after = e.column_list_after;
    }
