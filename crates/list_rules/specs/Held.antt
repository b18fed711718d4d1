-- What a list that keeps its rules holds.
use Rattle.std.specs.Prelude.{List, ℤ}
use Rattle.theory_intervals.specs.Records.{Rec}
use Rattle.theory_intervals.specs.Lists.{recs}
use Rattle.list_rules.specs.declared.records.Records.{Records}

abbrev pub held : Records → List (Rec ℤ)
held r = recs r.used r.list.now
