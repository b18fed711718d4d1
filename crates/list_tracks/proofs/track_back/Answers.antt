-- The record before k is on a lower track, and record k is not.
use Rattle.theory_signed.proofs.Laws.{signed}
use Rattle.list_tracks.proofs.Sorted.{split_between}
use Rattle.list_tracks.proofs.track_back.Goals as goal

pub returns : goal.returns
returns c = split_between c.requires.front c.loop-k.k c.loop-k.invariant.0 (omega signed) c.loop-k.invariant.1
