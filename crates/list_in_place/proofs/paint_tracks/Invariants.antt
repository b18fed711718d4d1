use Rattle.list_in_place.proofs.InPlace.{TInv}
use Rattle.list_in_place.proofs.paint_tracks.Given as goal

abbrev pub invariant-loop-t : goal.invariant-loop-t
invariant-loop-t l = TInv l.initial.list l.used l.area.track_start l.area.track_end l.area.stroke.start l.area.stroke.end l.area.stroke.state l.list l.count.before l.count.used l.t
