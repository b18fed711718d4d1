use Rattle.list_sweeps.proofs.Sweeping.{SInv}
use Rattle.list_sweeps.proofs.sweep.Given as goal

abbrev pub invariant-loop-t : goal.invariant-loop-t
invariant-loop-t l = SInv l.all l.initial.list l.initial.gap.r l.initial.gap.w l.top l.area.track_start l.area.track_end l.area.stroke.start l.area.stroke.end l.area.stroke.state l.list l.gap.r l.gap.w l.t
