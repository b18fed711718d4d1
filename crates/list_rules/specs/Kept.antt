-- The rules check of a list.
use Rattle.std.specs.Prelude.{cond, List, ℤ, ℕ, Option, Some, None}
use Rattle.theory_intervals.specs.Lists.{used, kept}

-- whether a list keeps the list rules, and with how many records
unfoldable pub kept_of : List ℤ → Option ℕ
kept_of l = cond (kept l) (Some (used l)) None
