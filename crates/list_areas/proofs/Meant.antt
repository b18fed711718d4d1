-- What the type of an area says of its numbers.
use mathlib.Core.Path.{◌≡◌}
use mathlib.Core.Bool.{true}
use lib.Signed.{lt_z}
use Rattle.list_areas.specs.declared.Area.{Area}
use Rattle.list_areas.proofs.Good.{Good, good, tracks}

pub good_of : (x : Area) → Good x.stroke.start x.stroke.end x.stroke.state
good_of x = good x.track_start x.track_end x.stroke.start x.stroke.end x.stroke.state x.fits

pub tracks_of : (x : Area) → lt_z x.track_start x.track_end ≡ true
tracks_of x = tracks x.track_start x.track_end x.stroke.start x.stroke.end x.stroke.state x.fits
