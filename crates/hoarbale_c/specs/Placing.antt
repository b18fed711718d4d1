-- The placement call's counts and answer as structs of numbers.
use Rattle.grid_track_counts.specs.declared.TrackCounts.{TrackCounts}
use Rattle.std.specs.Prelude.{Result}
use Rattle.refusals.specs.declared.Refusal.{Refusal}
use Rattle.placing_run.specs.declared.checked.Placed.{Placed}
use Rattle.hoarbale_placing.specs.Placing.{placing_number, placing_index, placing_columns, placing_rows}
use Rattle.hoarbale_c.specs.declared.placing.Counts.{Counts}
use Rattle.hoarbale_c.specs.declared.placing.PlaceAnswer.{PlaceAnswer}

abbrev pub to_tracks : Counts → TrackCounts
to_tracks c = record { negative = c.negative; explicit = c.explicit; positive = c.positive }

abbrev pub of_tracks : TrackCounts → Counts
of_tracks c = record { negative = c.negative; explicit = c.explicit; positive = c.positive }

abbrev pub of_placing : Result Placed Refusal → PlaceAnswer
of_placing r = record { number = placing_number r; index = placing_index r; columns = of_tracks (placing_columns r); rows = of_tracks (placing_rows r) }
