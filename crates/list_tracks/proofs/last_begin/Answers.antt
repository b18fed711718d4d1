-- The first record is on the last one's track, or the track begins behind it.
use Prim.Native.Nat.{◌≤◌, ◌<◌}
use native.Mathlib.Omega.{arith}
use native.Mathlib.Decide.{dec_lt}
use Rattle.theory_signed.proofs.Laws.{signed}
use Rattle.list_tracks.proofs.Sorted.{sorted}
use Rattle.list_tracks.proofs.last_begin.Goals.{After-track_back}
use Rattle.list_tracks.proofs.last_begin.Goals as goal

pub returns-then-number : goal.returns-then-number
returns-then-number c =
    let z = c.requires in
    (omega arith, record { within = omega arith; below = z.by_index; above = λ i a b. let s = sorted z.front c.args.from i a b in omega signed })

pub track_back-requires-clause-list_bound : goal.track_back-requires-clause-list_bound
track_back-requires-clause-list_bound c = let s = sorted c.requires.front 0 c.args.from (omega arith) c.requires.from_lt_to in omega signed

-- the track begins behind the first record
behind : (c : After-track_back) → Dec (c.args.from < c.track_back.result) → c.args.from ≤ c.track_back.result
behind c (yes h) = omega arith
behind c (no h) = let s = c.track_back.ensures.above c.args.from (omega arith) c.requires.from_lt_to in absurd (omega signed)

pub returns : goal.returns
returns c = (behind c (dec_lt c.args.from c.track_back.result), c.track_back.ensures)
