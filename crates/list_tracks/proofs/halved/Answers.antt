-- The records are in order by their tracks, and so are their fours.
use mathlib.Core.Path.{ap}
use Prim.Native.Nat.{ℕ, ◌+◌, ◌*◌}
use native.Mathlib.Omega.{arith}
use lib.Signed.{lt_z}
use Rattle.std.proofs.Common.{rules, of_calls, ◌≡◌, get_or, pos}
use Rattle.std.proofs.lemmas.Fn.{always_returns_same}
use Rattle.theory_intervals.proofs.Lists.{holds_room}
use Rattle.list_rules.specs.Inner.{track_no}
use Rattle.list_rules.proofs.ByIndex.{holds_front}
use Rattle.list_tracks.proofs.Sorted.{sorted, found}
use Rattle.list_tracks.proofs.Fours.{parted, passed}
use Rattle.list_tracks.proofs.halved.Goals as goal

pub offset_bounds-fours-from : goal.offset_bounds-fours-from
offset_bounds-fours-from c = omega (arith, holds_room c.args.records.holds)

pub slice_bounds-partition_point-end : goal.slice_bounds-partition_point-end
slice_bounds-partition_point-end c = let e = c.as_chunks.ensures.front_len in omega (arith, holds_room c.args.records.holds)

pub returns : goal.returns
returns c =
    let z = c.args in
    let l = z.records.list.now in
    let fours = c.as_chunks.ensures in
    let room = holds_room z.records.holds in
    let few = c.requires.from_le_used in
    let number : (k : ℕ) → get_or l (4 * k + 0) (pos 0) ≡ track_no l k = λ k. (let e : 4 * k + 0 ≡ 4 * k = omega arith in ap (λ (m : ℕ). get_or l m (pos 0)) e) in
    let point = c.partition_point.ensures.partitioned (λ y. lt_z (get_or y 0 (pos 0)) z.x) (always_returns_same _ _ _ (λ a r f k. search (rules, of_calls)))
    (parted l c.as_chunks.result.0.now fours.front fours.front_len 0 (omega arith) (track_no l) number z.from z.records.used z.x room few (sorted (holds_front z.records.holds))) in
    let bound = c.partition_point.ensures.bound in
    let halves = passed l c.as_chunks.result.0.now fours.front fours.front_len 0 (omega arith) (track_no l) number z.from z.records.used z.x room few c.partition_point.result bound point c.requires.by_index in
    (omega arith, found l halves (omega arith))
