use Rattle.list_sweeps.proofs.Count.{CInv}
use Rattle.list_painting.proofs.count_painted.Given as goal

abbrev pub invariant-loop-track : goal.invariant-loop-track
invariant-loop-track l = CInv l.records.list.now l.records.used l.area.track_start l.area.track_end l.area.stroke.start l.area.stroke.end l.area.stroke.state l.track l.left l.more l.less
