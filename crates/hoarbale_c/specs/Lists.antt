-- The answers of the list calls as structs of numbers.
use Rattle.std.specs.Prelude.{Option, Result, ℤ}
use Rattle.refusals.specs.declared.Refusal.{Refusal}
use Rattle.refusals.specs.Numbers.{number_of}
use Rattle.hoarbale_lists.specs.Lists.{jump_found, jump_line}
use Rattle.hoarbale_c.specs.declared.lists.NextLine.{NextLine}

abbrev pub of_jump : Result (Option ℤ) Refusal → NextLine
of_jump r = record { number = number_of r; found = jump_found r; line = jump_line r }
