-- The answers of the calls on lines as structs of numbers.
use Rattle.std.specs.Prelude.{ℕ, ℤ, pos, Option, Result, Ok, Err}
use Rattle.grid_coordinates.specs.declared.GridLine.{GridLine}
use Rattle.grid_coordinates.specs.declared.OriginZeroLine.{OriginZeroLine}
use Rattle.refusals.specs.declared.Refusal.{Refusal}
use Rattle.refusals.specs.Numbers.{number, number_of}
use Rattle.hoarbale_lines.specs.Lines.{zero_line, css_line, index_present, index_place}
use Rattle.hoarbale_c.specs.declared.lines.LineAnswer.{LineAnswer}
use Rattle.hoarbale_c.specs.declared.lines.PlaceInVector.{PlaceInVector}

-- a line, of either numbering
abbrev pub of_line : Result ℤ Refusal → LineAnswer
of_line (Ok z) = record { number = 0; line = z }
of_line (Err e) = record { number = number e; line = pos 0 }

abbrev pub of_zero : Result OriginZeroLine Refusal → LineAnswer
of_zero r = record { number = number_of r; line = zero_line r }

abbrev pub of_css : Result GridLine Refusal → LineAnswer
of_css r = record { number = number_of r; line = css_line r }

abbrev pub of_index : Result (Option ℕ) Refusal → PlaceInVector
of_index r = record { number = number_of r; present = index_present r; index = index_place r }
