-- The area that an `Area` of the code is.
use Rattle.std.specs.Prelude.{ℤ}
use Rattle.theory_intervals.specs.Records as Re
use Rattle.list_areas.specs.Areas.{area_of}
use Rattle.list_areas.specs.declared.Area.{Area}

abbrev pub meant : Area → Re.Area ℤ
meant x = area_of x.track_start x.track_end x.stroke.start x.stroke.end x.stroke.state
