-- The checks at their limits, as a table.
use mathlib.Core.Path.{◌≡◌, refl}
use mathlib.Core.List.{List, [], ◌∷◌, map}
use lib.IntN.{ℤ, pos}
use lib.ListN.{replicate}
use Rattle.theory_intervals.specs.OverInt.{span}
use Rattle.grid_coordinates.specs.Line.{limited, pressed, clamp_to}
use Rattle.grid_track_counts.specs.Counts.{grown, counts_good}
use Rattle.theory_walk.specs.Search.{line_from, first_line, among, pair_from, places_to, first_pair}
use Rattle.theory_walk.specs.Walk.{free, tile_of, laid_on, records_on, short, judged, put, choose1, step1, ends_on, largest, largest_or, start2, choose2, step2, moved, start4, choose_line, overwide, pair_of, untested, choose_pair, step4, each, begin4, last4, walk}
use Rattle.theory_walk.specs.Request.{refused, answered, halves, good_half, bad_from, placing_of, item_of, length_good, checked, setting_of, up_to, queue, run_of, numbers, answer_of, answers_of, told, outcome}
use Rattle.theory_walk.proofs.Case.{counts, request, Case, case}

abbrev none : List ℤ
none = []

-- an item that breaks its rules: 0..0
abbrev bad : List ℤ
bad = replicate 6 (pos 0)

abbrev limits : List Case
limits =
    -- 2: not a multiple of 6; 2001 items; 2000 are not too many
    case (request 0 (counts 0 0 0 0 0 0) (replicate 5 (pos 0)) 0 0 0) (refused 2 0)
    ∷ case (request 0 (counts 0 0 0 0 0 0) (replicate 7 (pos 0)) 9 0 0) (refused 2 0)
    ∷ case (request 0 (counts 0 0 0 0 0 0) (replicate 12006 (pos 0)) 10005 0 0) (refused 2 0)
    ∷ case (request 0 (counts 0 0 0 0 0 0) (replicate 12000 (pos 0)) 10000 0 0) (refused 6 0)
    ∷ case (request 0 (counts 0 0 0 0 0 0) (replicate 12000 (pos 0)) 9999 0 0) (refused 4 0)
    -- 1 before 2, 2 before 3, 3 before 4, 4 before 5, 5 before 6
    ∷ case (request 4 (counts 10001 0 0 0 0 0) (replicate 5 (pos 0)) 0 2 2) (refused 1 0)
    ∷ case (request 3 (counts 10001 0 0 0 0 0) (replicate 5 (pos 0)) 0 2 2) (refused 2 0)
    ∷ case (request 3 (counts 10001 0 0 0 0 0) bad 0 2 2) (refused 3 0)
    ∷ case (request 3 (counts 0 5000 5001 0 0 0) bad 0 2 2) (refused 3 0)
    ∷ case (request 3 (counts 0 0 0 0 10001 0) bad 0 2 2) (refused 3 0)
    ∷ case (request 3 (counts 10000 5000 5000 10000 10000 0) bad 4 2 2) (refused 4 0)
    ∷ case (request 3 (counts 10000 5000 5000 10000 10000 0) bad 5 2 4) (refused 5 0)
    ∷ case (request 3 (counts 10000 5000 5000 10000 10000 0) bad 5 4 1048580) (refused 5 0)
    ∷ case (request 3 (counts 10000 5000 5000 10000 10000 0) bad 5 1048576 1048576) (refused 6 0)
    -- a list of no places is of a good length, and has room for nothing
    ∷ case (request 0 (counts 0 0 0 0 0 0) none 0 0 0) (answered none (counts 0 0 0 0 0 0) none none)
    ∷ case (request 0 (counts 0 1 0 0 1 0) (pos 1 ∷ pos 1 ∷ pos 0 ∷ pos 1 ∷ pos 1 ∷ pos 0 ∷ []) 5 0 0) (refused 7 0)
    ∷ case (request 0 (counts 0 1 0 0 1 0) (pos 1 ∷ pos 1 ∷ pos 0 ∷ pos 1 ∷ pos 1 ∷ pos 0 ∷ []) 5 4 0) (refused 8 0)
    -- the index of 7 is the item's own, and step 1 comes first
    ∷ case (request 0 (counts 0 1 0 0 1 0) (pos 1 ∷ pos 1 ∷ pos 0 ∷ pos 1 ∷ pos 1 ∷ pos 0 ∷ pos 0 ∷ pos 0 ∷ pos 1 ∷ pos 0 ∷ pos 0 ∷ pos 1 ∷ []) 10 0 0) (refused 7 1)
    ∷ []

at_limits : map (λ (c : Case). outcome c.given) limits ≡ map (λ (c : Case). c.expected) limits
unfolding limited pressed grown line_from first_line among pair_from places_to first_pair free tile_of laid_on records_on short judged put choose1 step1 ends_on largest largest_or start2 choose2 step2 moved start4 choose_line overwide pair_of untested choose_pair step4 each begin4 last4 walk halves good_half bad_from placing_of item_of counts_good length_good checked setting_of up_to queue run_of numbers answer_of answers_of told outcome clamp_to span
at_limits = refl
