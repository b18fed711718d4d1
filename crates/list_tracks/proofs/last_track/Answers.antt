-- `tracks::last_track`: the part from where the last track begins. Assumes nothing.
use mathlib.Core.Path.{refl}
use native.Mathlib.Omega.{arith}
use Rattle.list_tracks.proofs.last_track.Goals as goal

pub last_begin-a-requires : goal.last_begin-a-requires
last_begin-a-requires c = c.requires

pub overflow_mul-result : goal.overflow_mul-result
overflow_mul-result c = omega (arith, c.requires.front.room, c.last_begin-a.ensures.1.within)

pub overflow_mul-result-2 : goal.overflow_mul-result-2
overflow_mul-result-2 c = omega (arith, c.requires.front.room)

pub offset_bounds-list-a : goal.offset_bounds-list-a
offset_bounds-list-a c = omega (arith, c.requires.front.room, c.last_begin-a.ensures.1.within)

pub slice_bounds-result-count : goal.slice_bounds-result-count
slice_bounds-result-count c = omega (arith, c.last_begin-a.ensures.1.within)

pub slice_bounds-result-start : goal.slice_bounds-result-start
slice_bounds-result-start c = omega (arith, c.last_begin-a.ensures.1.within)

pub slice_bounds-result-end : goal.slice_bounds-result-end
slice_bounds-result-end c = omega (arith, c.requires.front.room)

pub returns : goal.returns
returns c =
    let a = c.before in
    record { at = a.last_begin-a.result; low = a.last_begin-a.ensures.0; begins = a.last_begin-a.ensures.1; cut = refl }
