-- Requests that tell document 01's walk from other readings of it: above each, the mistakes that would give another outcome.
use mathlib.Core.Path.{◌≡◌, refl}
use mathlib.Core.List.{List, [], ◌∷◌, map}
use lib.IntN.{pos, negsuc}
use Rattle.theory_intervals.specs.OverInt.{span}
use Rattle.grid_coordinates.specs.Line.{limited, pressed, clamp_to}
use Rattle.grid_track_counts.specs.Counts.{grown, counts_good}
use Rattle.theory_walk.specs.Search.{line_from, first_line, among, pair_from, places_to, first_pair}
use Rattle.theory_walk.specs.Walk.{free, tile_of, laid_on, records_on, short, judged, put, choose1, step1, ends_on, largest, largest_or, start2, choose2, step2, moved, start4, choose_line, overwide, pair_of, untested, choose_pair, step4, each, begin4, last4, walk}
use Rattle.theory_walk.specs.Request.{refused, answered, halves, good_half, bad_from, placing_of, item_of, length_good, checked, setting_of, up_to, queue, run_of, numbers, answer_of, answers_of, told, outcome}
use Rattle.theory_walk.proofs.Case.{counts, request, Case, case}

abbrev telling : List Case
telling =
    -- states alike; no flag 2; no flag 1
    case (request 0 (counts 1 2 1 0 3 0) (pos 1 ∷ pos 1 ∷ pos 0 ∷ pos 1 ∷ pos 1 ∷ pos 0 ∷ pos 0 ∷ pos 10000 ∷ pos 10001 ∷ pos 0 ∷ pos 10000 ∷ pos 10003 ∷ pos 0 ∷ pos 2 ∷ pos 6 ∷ pos 1 ∷ pos 1 ∷ pos 0 ∷ []) 15 12 24)
    (answered (negsuc 0 ∷ pos 0 ∷ pos 0 ∷ pos 1 ∷ pos 0 ∷ pos 9999 ∷ pos 10000 ∷ pos 9999 ∷ pos 10000 ∷ pos 3 ∷ pos 2 ∷ pos 6 ∷ pos 0 ∷ pos 1 ∷ pos 0 ∷ []) (counts 1 2 9998 0 3 9997) (pos 0 ∷ negsuc 0 ∷ pos 0 ∷ pos 2 ∷ pos 0 ∷ pos 2 ∷ pos 6 ∷ pos 2 ∷ pos 9999 ∷ pos 9999 ∷ pos 10000 ∷ pos 1 ∷ []) (negsuc 0 ∷ pos 0 ∷ pos 1 ∷ pos 2 ∷ pos 2 ∷ pos 0 ∷ pos 1 ∷ pos 2 ∷ pos 3 ∷ pos 0 ∷ pos 1 ∷ pos 2 ∷ pos 4 ∷ pos 0 ∷ pos 1 ∷ pos 2 ∷ pos 5 ∷ pos 0 ∷ pos 1 ∷ pos 2 ∷ pos 9999 ∷ pos 9999 ∷ pos 10000 ∷ pos 1 ∷ [])) ∷
    -- grid end as before step 4; step 2 from line 0; overwide by one; do not merge
    case (request 0 (counts 1 0 1 1 2 0) (pos 0 ∷ negsuc 0 ∷ pos 0 ∷ pos 1 ∷ pos 1 ∷ pos 0 ∷ pos 1 ∷ pos 2 ∷ pos 0 ∷ pos 0 ∷ negsuc 0 ∷ pos 2 ∷ pos 0 ∷ pos 1 ∷ pos 2 ∷ pos 1 ∷ pos 1 ∷ pos 0 ∷ pos 1 ∷ pos 3 ∷ pos 0 ∷ pos 1 ∷ pos 3 ∷ pos 0 ∷ []) 20 32 16)
    (answered (negsuc 0 ∷ pos 0 ∷ pos 2 ∷ pos 3 ∷ pos 0 ∷ negsuc 0 ∷ pos 1 ∷ negsuc 0 ∷ pos 2 ∷ pos 0 ∷ pos 1 ∷ pos 2 ∷ pos 2 ∷ pos 3 ∷ pos 0 ∷ negsuc 0 ∷ pos 2 ∷ pos 3 ∷ pos 6 ∷ pos 0 ∷ []) (counts 1 0 2 1 2 4) (negsuc 0 ∷ negsuc 0 ∷ pos 1 ∷ pos 2 ∷ pos 0 ∷ negsuc 0 ∷ pos 1 ∷ pos 2 ∷ pos 1 ∷ negsuc 0 ∷ pos 1 ∷ pos 2 ∷ pos 2 ∷ negsuc 0 ∷ pos 0 ∷ pos 2 ∷ pos 2 ∷ pos 1 ∷ pos 2 ∷ pos 2 ∷ pos 3 ∷ negsuc 0 ∷ pos 2 ∷ pos 2 ∷ pos 4 ∷ negsuc 0 ∷ pos 2 ∷ pos 2 ∷ pos 5 ∷ negsuc 0 ∷ pos 2 ∷ pos 2 ∷ []) (negsuc 0 ∷ negsuc 0 ∷ pos 6 ∷ pos 2 ∷ pos 0 ∷ negsuc 0 ∷ pos 2 ∷ pos 2 ∷ pos 0 ∷ pos 3 ∷ pos 6 ∷ pos 2 ∷ pos 1 ∷ pos 2 ∷ pos 6 ∷ pos 2 ∷ [])) ∷
    -- limited area tested, fixed primary; plus 1 never; step 2 from line 0; states alike; no flag 2; no flag 1; merge unlike states; do not merge
    case (request 1 (counts 1 0 0 1 0 0) (pos 0 ∷ pos 3 ∷ pos 5 ∷ pos 0 ∷ pos 10000 ∷ pos 10001 ∷ pos 1 ∷ pos 2 ∷ pos 0 ∷ pos 0 ∷ pos 9999 ∷ pos 10000 ∷ pos 0 ∷ pos 0 ∷ pos 2 ∷ pos 0 ∷ pos 10001 ∷ pos 10003 ∷ pos 1 ∷ pos 2 ∷ pos 0 ∷ pos 0 ∷ pos 10002 ∷ pos 10004 ∷ pos 1 ∷ pos 3 ∷ pos 0 ∷ pos 0 ∷ pos 9998 ∷ pos 9999 ∷ pos 0 ∷ pos 2 ∷ pos 5 ∷ pos 1 ∷ pos 3 ∷ pos 0 ∷ []) 30 28 44)
    (answered (pos 3 ∷ pos 5 ∷ pos 9999 ∷ pos 10000 ∷ pos 3 ∷ pos 5 ∷ pos 7 ∷ pos 9999 ∷ pos 10000 ∷ pos 0 ∷ pos 0 ∷ pos 2 ∷ pos 9999 ∷ pos 10000 ∷ pos 3 ∷ pos 5 ∷ pos 7 ∷ pos 9999 ∷ pos 10000 ∷ pos 1 ∷ pos 6 ∷ pos 9 ∷ pos 9998 ∷ pos 9999 ∷ pos 0 ∷ pos 2 ∷ pos 5 ∷ negsuc 0 ∷ pos 2 ∷ pos 0 ∷ []) (counts 1 0 9 1 0 10000) (negsuc 0 ∷ pos 2 ∷ pos 5 ∷ pos 2 ∷ pos 0 ∷ pos 2 ∷ pos 5 ∷ pos 2 ∷ pos 1 ∷ pos 2 ∷ pos 5 ∷ pos 2 ∷ pos 9998 ∷ pos 6 ∷ pos 9 ∷ pos 2 ∷ pos 9999 ∷ pos 0 ∷ pos 2 ∷ pos 1 ∷ pos 9999 ∷ pos 3 ∷ pos 5 ∷ pos 1 ∷ pos 9999 ∷ pos 5 ∷ pos 7 ∷ pos 2 ∷ []) (pos 0 ∷ pos 9999 ∷ pos 10000 ∷ pos 1 ∷ pos 1 ∷ pos 9999 ∷ pos 10000 ∷ pos 1 ∷ pos 2 ∷ negsuc 0 ∷ pos 2 ∷ pos 2 ∷ pos 3 ∷ negsuc 0 ∷ pos 2 ∷ pos 2 ∷ pos 3 ∷ pos 9999 ∷ pos 10000 ∷ pos 1 ∷ pos 4 ∷ negsuc 0 ∷ pos 2 ∷ pos 2 ∷ pos 4 ∷ pos 9999 ∷ pos 10000 ∷ pos 1 ∷ pos 5 ∷ pos 9999 ∷ pos 10000 ∷ pos 2 ∷ pos 6 ∷ pos 9998 ∷ pos 10000 ∷ pos 2 ∷ pos 7 ∷ pos 9998 ∷ pos 9999 ∷ pos 2 ∷ pos 8 ∷ pos 9998 ∷ pos 9999 ∷ pos 2 ∷ [])) ∷
    -- 8 before 7; next line from line 0; grid end as before step 4
    case (request 3 (counts 1 3 0 1 0 0) (pos 1 ∷ pos 1 ∷ pos 0 ∷ pos 0 ∷ pos 0 ∷ pos 3 ∷ pos 1 ∷ pos 3 ∷ pos 0 ∷ pos 1 ∷ pos 2 ∷ pos 0 ∷ pos 0 ∷ pos 0 ∷ pos 1 ∷ pos 1 ∷ pos 2 ∷ pos 0 ∷ pos 1 ∷ pos 1 ∷ pos 0 ∷ pos 1 ∷ pos 3 ∷ pos 0 ∷ []) 20 20 16)
    (refused 7 3) ∷
    -- counts by unlimited start
    case (request 3 (counts 2 4 0 1 3 1) (pos 1 ∷ pos 1 ∷ pos 0 ∷ pos 0 ∷ pos 4 ∷ pos 7 ∷ pos 0 ∷ negsuc 10000 ∷ negsuc 9996 ∷ pos 1 ∷ pos 1 ∷ pos 0 ∷ pos 0 ∷ negsuc 0 ∷ pos 3 ∷ pos 1 ∷ pos 4 ∷ pos 0 ∷ []) 15 32 32)
    (answered (negsuc 9999 ∷ negsuc 9998 ∷ pos 4 ∷ pos 7 ∷ pos 0 ∷ negsuc 9999 ∷ negsuc 9996 ∷ negsuc 0 ∷ pos 0 ∷ pos 1 ∷ negsuc 0 ∷ pos 3 ∷ negsuc 0 ∷ pos 3 ∷ pos 0 ∷ []) (counts 10000 4 0 1 3 4) (negsuc 0 ∷ negsuc 9999 ∷ negsuc 9996 ∷ pos 2 ∷ negsuc 0 ∷ negsuc 0 ∷ pos 3 ∷ pos 2 ∷ pos 0 ∷ negsuc 0 ∷ pos 3 ∷ pos 2 ∷ pos 1 ∷ negsuc 0 ∷ pos 3 ∷ pos 2 ∷ pos 2 ∷ negsuc 0 ∷ pos 3 ∷ pos 2 ∷ pos 4 ∷ negsuc 9999 ∷ negsuc 9998 ∷ pos 2 ∷ pos 5 ∷ negsuc 9999 ∷ negsuc 9998 ∷ pos 2 ∷ pos 6 ∷ negsuc 9999 ∷ negsuc 9998 ∷ pos 2 ∷ []) (negsuc 9999 ∷ negsuc 0 ∷ pos 0 ∷ pos 2 ∷ negsuc 9999 ∷ pos 4 ∷ pos 7 ∷ pos 2 ∷ negsuc 9998 ∷ negsuc 0 ∷ pos 0 ∷ pos 2 ∷ negsuc 9997 ∷ negsuc 0 ∷ pos 0 ∷ pos 2 ∷ negsuc 0 ∷ negsuc 0 ∷ pos 3 ∷ pos 2 ∷ pos 0 ∷ negsuc 0 ∷ pos 3 ∷ pos 2 ∷ pos 1 ∷ negsuc 0 ∷ pos 3 ∷ pos 2 ∷ pos 2 ∷ negsuc 0 ∷ pos 3 ∷ pos 2 ∷ [])) ∷
    -- counts by unlimited start
    case (request 2 (counts 1 1 0 0 0 1) (pos 0 ∷ negsuc 9998 ∷ negsuc 9997 ∷ pos 0 ∷ pos 0 ∷ pos 1 ∷ pos 0 ∷ negsuc 10000 ∷ negsuc 9998 ∷ pos 0 ∷ pos 2 ∷ pos 5 ∷ pos 0 ∷ negsuc 9997 ∷ negsuc 9994 ∷ pos 0 ∷ pos 3 ∷ pos 6 ∷ []) 15 28 20)
    (answered (negsuc 9998 ∷ negsuc 9997 ∷ pos 0 ∷ pos 1 ∷ pos 2 ∷ negsuc 9999 ∷ negsuc 9998 ∷ pos 2 ∷ pos 5 ∷ pos 3 ∷ negsuc 9997 ∷ negsuc 9994 ∷ pos 3 ∷ pos 6 ∷ pos 2 ∷ []) (counts 10000 1 0 0 0 6) (pos 0 ∷ negsuc 9998 ∷ negsuc 9997 ∷ pos 1 ∷ pos 2 ∷ negsuc 9999 ∷ negsuc 9998 ∷ pos 1 ∷ pos 3 ∷ negsuc 9999 ∷ negsuc 9998 ∷ pos 1 ∷ pos 3 ∷ negsuc 9997 ∷ negsuc 9994 ∷ pos 1 ∷ pos 4 ∷ negsuc 9999 ∷ negsuc 9998 ∷ pos 1 ∷ pos 4 ∷ negsuc 9997 ∷ negsuc 9994 ∷ pos 1 ∷ pos 5 ∷ negsuc 9997 ∷ negsuc 9994 ∷ pos 1 ∷ []) (negsuc 9999 ∷ pos 2 ∷ pos 5 ∷ pos 1 ∷ negsuc 9998 ∷ pos 0 ∷ pos 1 ∷ pos 1 ∷ negsuc 9997 ∷ pos 3 ∷ pos 6 ∷ pos 1 ∷ negsuc 9996 ∷ pos 3 ∷ pos 6 ∷ pos 1 ∷ negsuc 9995 ∷ pos 3 ∷ pos 6 ∷ pos 1 ∷ [])) ∷
    -- merge unlike states
    case (request 0 (counts 1 3 1 0 1 1) (pos 0 ∷ negsuc 9998 ∷ negsuc 9995 ∷ pos 0 ∷ pos 1 ∷ pos 3 ∷ pos 0 ∷ negsuc 9998 ∷ negsuc 9997 ∷ pos 1 ∷ pos 1 ∷ pos 0 ∷ pos 0 ∷ negsuc 9999 ∷ negsuc 9998 ∷ pos 0 ∷ pos 2 ∷ pos 5 ∷ []) 15 20 20)
    (answered (negsuc 9998 ∷ negsuc 9995 ∷ pos 1 ∷ pos 3 ∷ pos 2 ∷ negsuc 9998 ∷ negsuc 9997 ∷ pos 0 ∷ pos 1 ∷ pos 0 ∷ negsuc 9999 ∷ negsuc 9998 ∷ pos 2 ∷ pos 5 ∷ pos 2 ∷ []) (counts 10000 3 1 0 1 4) (pos 0 ∷ negsuc 9998 ∷ negsuc 9997 ∷ pos 2 ∷ pos 1 ∷ negsuc 9998 ∷ negsuc 9995 ∷ pos 1 ∷ pos 2 ∷ negsuc 9999 ∷ negsuc 9995 ∷ pos 1 ∷ pos 3 ∷ negsuc 9999 ∷ negsuc 9998 ∷ pos 1 ∷ pos 4 ∷ negsuc 9999 ∷ negsuc 9998 ∷ pos 1 ∷ []) (negsuc 9999 ∷ pos 2 ∷ pos 5 ∷ pos 1 ∷ negsuc 9998 ∷ pos 0 ∷ pos 1 ∷ pos 2 ∷ negsuc 9998 ∷ pos 1 ∷ pos 3 ∷ pos 1 ∷ negsuc 9997 ∷ pos 1 ∷ pos 3 ∷ pos 1 ∷ negsuc 9996 ∷ pos 1 ∷ pos 3 ∷ pos 1 ∷ [])) ∷
    -- step 2 looks at step 1 too; step 2 grid start read once
    case (request 1 (counts 1 1 0 1 0 1) (pos 0 ∷ pos 0 ∷ pos 1 ∷ pos 1 ∷ pos 1 ∷ pos 0 ∷ pos 0 ∷ pos 1 ∷ pos 3 ∷ pos 0 ∷ negsuc 9999 ∷ negsuc 9997 ∷ pos 1 ∷ pos 2 ∷ pos 0 ∷ pos 0 ∷ negsuc 9998 ∷ negsuc 9996 ∷ pos 0 ∷ pos 0 ∷ pos 2 ∷ pos 0 ∷ negsuc 9997 ∷ negsuc 9996 ∷ []) 20 24 24)
    (answered (pos 0 ∷ pos 1 ∷ negsuc 9999 ∷ negsuc 9998 ∷ pos 0 ∷ pos 1 ∷ pos 3 ∷ negsuc 9999 ∷ negsuc 9997 ∷ pos 2 ∷ pos 3 ∷ pos 5 ∷ negsuc 9998 ∷ negsuc 9996 ∷ pos 0 ∷ pos 0 ∷ pos 2 ∷ negsuc 9997 ∷ negsuc 9996 ∷ pos 2 ∷ []) (counts 1 1 4 10000 0 1) (negsuc 9999 ∷ pos 0 ∷ pos 1 ∷ pos 2 ∷ negsuc 9999 ∷ pos 1 ∷ pos 3 ∷ pos 1 ∷ negsuc 9998 ∷ pos 1 ∷ pos 3 ∷ pos 1 ∷ negsuc 9998 ∷ pos 3 ∷ pos 5 ∷ pos 2 ∷ negsuc 9997 ∷ pos 0 ∷ pos 2 ∷ pos 1 ∷ negsuc 9997 ∷ pos 3 ∷ pos 5 ∷ pos 2 ∷ []) (pos 0 ∷ negsuc 9999 ∷ negsuc 9998 ∷ pos 2 ∷ pos 0 ∷ negsuc 9997 ∷ negsuc 9996 ∷ pos 1 ∷ pos 1 ∷ negsuc 9999 ∷ negsuc 9996 ∷ pos 1 ∷ pos 2 ∷ negsuc 9999 ∷ negsuc 9997 ∷ pos 1 ∷ pos 3 ∷ negsuc 9998 ∷ negsuc 9996 ∷ pos 2 ∷ pos 4 ∷ negsuc 9998 ∷ negsuc 9996 ∷ pos 2 ∷ [])) ∷
    -- next line from line 0; span may pass the grid end by one
    case (request 2 (counts 1 3 0 1 0 1) (pos 1 ∷ pos 3 ∷ pos 0 ∷ pos 1 ∷ pos 2 ∷ pos 0 ∷ pos 0 ∷ pos 1 ∷ pos 3 ∷ pos 1 ∷ pos 2 ∷ pos 0 ∷ pos 1 ∷ pos 2 ∷ pos 0 ∷ pos 1 ∷ pos 1 ∷ pos 0 ∷ []) 15 16 16)
    (answered (negsuc 0 ∷ pos 2 ∷ negsuc 0 ∷ pos 1 ∷ pos 0 ∷ pos 1 ∷ pos 3 ∷ pos 1 ∷ pos 3 ∷ pos 0 ∷ negsuc 0 ∷ pos 1 ∷ pos 1 ∷ pos 2 ∷ pos 0 ∷ []) (counts 1 3 0 1 0 3) (negsuc 0 ∷ negsuc 0 ∷ pos 2 ∷ pos 2 ∷ pos 0 ∷ negsuc 0 ∷ pos 2 ∷ pos 2 ∷ pos 1 ∷ negsuc 0 ∷ pos 3 ∷ pos 2 ∷ pos 2 ∷ pos 1 ∷ pos 3 ∷ pos 2 ∷ []) (negsuc 0 ∷ negsuc 0 ∷ pos 2 ∷ pos 2 ∷ pos 0 ∷ negsuc 0 ∷ pos 2 ∷ pos 2 ∷ pos 1 ∷ negsuc 0 ∷ pos 3 ∷ pos 2 ∷ pos 2 ∷ pos 1 ∷ pos 3 ∷ pos 2 ∷ [])) ∷
    -- span may pass the grid end by one
    case (request 0 (counts 2 2 1 2 2 0) (pos 1 ∷ pos 2 ∷ pos 0 ∷ pos 1 ∷ pos 4 ∷ pos 0 ∷ pos 1 ∷ pos 1 ∷ pos 0 ∷ pos 1 ∷ pos 1 ∷ pos 0 ∷ pos 1 ∷ pos 3 ∷ pos 0 ∷ pos 1 ∷ pos 3 ∷ pos 0 ∷ pos 1 ∷ pos 4 ∷ pos 0 ∷ pos 0 ∷ pos 10000 ∷ pos 10002 ∷ pos 1 ∷ pos 3 ∷ pos 0 ∷ pos 1 ∷ pos 2 ∷ pos 0 ∷ []) 25 28 36)
    (answered (negsuc 1 ∷ pos 0 ∷ negsuc 1 ∷ pos 2 ∷ pos 0 ∷ pos 0 ∷ pos 1 ∷ negsuc 1 ∷ negsuc 0 ∷ pos 0 ∷ pos 0 ∷ pos 3 ∷ negsuc 0 ∷ pos 2 ∷ pos 0 ∷ negsuc 1 ∷ pos 2 ∷ pos 9999 ∷ pos 10000 ∷ pos 1 ∷ negsuc 1 ∷ pos 1 ∷ pos 2 ∷ pos 4 ∷ pos 0 ∷ []) (counts 2 2 1 2 2 9998) (negsuc 1 ∷ negsuc 1 ∷ pos 1 ∷ pos 2 ∷ negsuc 0 ∷ negsuc 1 ∷ pos 3 ∷ pos 2 ∷ pos 0 ∷ negsuc 1 ∷ pos 3 ∷ pos 2 ∷ pos 1 ∷ negsuc 1 ∷ pos 3 ∷ pos 2 ∷ pos 2 ∷ negsuc 1 ∷ pos 1 ∷ pos 2 ∷ pos 3 ∷ negsuc 1 ∷ pos 1 ∷ pos 2 ∷ pos 9999 ∷ negsuc 1 ∷ pos 2 ∷ pos 2 ∷ []) (negsuc 1 ∷ negsuc 1 ∷ pos 4 ∷ pos 2 ∷ negsuc 1 ∷ pos 9999 ∷ pos 10000 ∷ pos 2 ∷ negsuc 0 ∷ negsuc 1 ∷ pos 4 ∷ pos 2 ∷ negsuc 0 ∷ pos 9999 ∷ pos 10000 ∷ pos 2 ∷ pos 0 ∷ negsuc 1 ∷ pos 4 ∷ pos 2 ∷ pos 0 ∷ pos 9999 ∷ pos 10000 ∷ pos 2 ∷ pos 1 ∷ negsuc 0 ∷ pos 2 ∷ pos 2 ∷ pos 1 ∷ pos 9999 ∷ pos 10000 ∷ pos 2 ∷ pos 2 ∷ negsuc 0 ∷ pos 2 ∷ pos 2 ∷ [])) ∷
    -- plus 1 never
    case (request 0 (counts 0 1 1 2 0 0) (pos 1 ∷ pos 1 ∷ pos 0 ∷ pos 1 ∷ pos 3 ∷ pos 0 ∷ pos 1 ∷ pos 2 ∷ pos 0 ∷ pos 0 ∷ pos 1 ∷ pos 4 ∷ pos 0 ∷ negsuc 2 ∷ negsuc 1 ∷ pos 1 ∷ pos 3 ∷ pos 0 ∷ []) 15 36 12)
    (answered (pos 0 ∷ pos 1 ∷ negsuc 1 ∷ pos 1 ∷ pos 0 ∷ pos 0 ∷ pos 2 ∷ pos 1 ∷ pos 4 ∷ pos 0 ∷ negsuc 2 ∷ negsuc 1 ∷ negsuc 0 ∷ pos 2 ∷ pos 0 ∷ []) (counts 3 1 1 2 0 4) (negsuc 1 ∷ pos 0 ∷ pos 1 ∷ pos 2 ∷ negsuc 0 ∷ negsuc 2 ∷ negsuc 1 ∷ pos 2 ∷ negsuc 0 ∷ pos 0 ∷ pos 1 ∷ pos 2 ∷ pos 0 ∷ negsuc 2 ∷ negsuc 1 ∷ pos 2 ∷ pos 0 ∷ pos 0 ∷ pos 1 ∷ pos 2 ∷ pos 1 ∷ negsuc 2 ∷ negsuc 1 ∷ pos 2 ∷ pos 1 ∷ pos 0 ∷ pos 2 ∷ pos 2 ∷ pos 2 ∷ pos 0 ∷ pos 2 ∷ pos 2 ∷ pos 3 ∷ pos 0 ∷ pos 2 ∷ pos 2 ∷ []) (negsuc 2 ∷ negsuc 0 ∷ pos 2 ∷ pos 2 ∷ pos 0 ∷ negsuc 1 ∷ pos 4 ∷ pos 2 ∷ pos 1 ∷ pos 1 ∷ pos 4 ∷ pos 2 ∷ [])) ∷
    -- limited area tested, fixed primary; cursor keeps primary start; cursor keeps limited primary end; overwide by one
    case (request 1 (counts 1 3 1 1 1 0) (pos 0 ∷ negsuc 0 ∷ pos 1 ∷ pos 1 ∷ pos 1 ∷ pos 0 ∷ pos 1 ∷ pos 3 ∷ pos 0 ∷ pos 1 ∷ pos 1 ∷ pos 0 ∷ pos 0 ∷ pos 1 ∷ pos 3 ∷ pos 1 ∷ pos 3 ∷ pos 0 ∷ pos 1 ∷ pos 3 ∷ pos 0 ∷ pos 1 ∷ pos 3 ∷ pos 0 ∷ pos 1 ∷ pos 3 ∷ pos 0 ∷ pos 0 ∷ pos 10001 ∷ pos 10002 ∷ pos 1 ∷ pos 2 ∷ pos 0 ∷ pos 0 ∷ pos 10001 ∷ pos 10002 ∷ []) 30 24 52)
    (answered (negsuc 0 ∷ pos 1 ∷ negsuc 0 ∷ pos 0 ∷ pos 0 ∷ pos 3 ∷ pos 6 ∷ negsuc 0 ∷ pos 0 ∷ pos 0 ∷ pos 1 ∷ pos 3 ∷ negsuc 0 ∷ pos 2 ∷ pos 0 ∷ pos 6 ∷ pos 9 ∷ negsuc 0 ∷ pos 2 ∷ pos 0 ∷ pos 6 ∷ pos 9 ∷ pos 9999 ∷ pos 10000 ∷ pos 1 ∷ pos 7 ∷ pos 9 ∷ pos 9999 ∷ pos 10000 ∷ pos 1 ∷ []) (counts 1 3 6 1 1 9999) (negsuc 0 ∷ negsuc 0 ∷ pos 9 ∷ pos 2 ∷ pos 0 ∷ pos 1 ∷ pos 3 ∷ pos 2 ∷ pos 0 ∷ pos 6 ∷ pos 9 ∷ pos 2 ∷ pos 1 ∷ pos 1 ∷ pos 3 ∷ pos 2 ∷ pos 1 ∷ pos 6 ∷ pos 9 ∷ pos 2 ∷ pos 9999 ∷ pos 6 ∷ pos 9 ∷ pos 2 ∷ []) (negsuc 0 ∷ negsuc 0 ∷ pos 0 ∷ pos 2 ∷ pos 0 ∷ negsuc 0 ∷ pos 0 ∷ pos 2 ∷ pos 1 ∷ negsuc 0 ∷ pos 2 ∷ pos 2 ∷ pos 2 ∷ negsuc 0 ∷ pos 2 ∷ pos 2 ∷ pos 3 ∷ negsuc 0 ∷ pos 0 ∷ pos 2 ∷ pos 4 ∷ negsuc 0 ∷ pos 0 ∷ pos 2 ∷ pos 5 ∷ negsuc 0 ∷ pos 0 ∷ pos 2 ∷ pos 6 ∷ negsuc 0 ∷ pos 2 ∷ pos 2 ∷ pos 6 ∷ pos 9999 ∷ pos 10000 ∷ pos 2 ∷ pos 7 ∷ negsuc 0 ∷ pos 2 ∷ pos 2 ∷ pos 7 ∷ pos 9999 ∷ pos 10000 ∷ pos 2 ∷ pos 8 ∷ negsuc 0 ∷ pos 2 ∷ pos 2 ∷ pos 8 ∷ pos 9999 ∷ pos 10000 ∷ pos 2 ∷ [])) ∷
    -- step 2 grid start read once
    case (request 0 (counts 0 1 0 2 2 0) (pos 0 ∷ negsuc 10002 ∷ negsuc 10000 ∷ pos 0 ∷ pos 10000 ∷ pos 10003 ∷ pos 0 ∷ pos 6 ∷ pos 8 ∷ pos 0 ∷ negsuc 10002 ∷ negsuc 9998 ∷ pos 0 ∷ pos 5 ∷ pos 7 ∷ pos 1 ∷ pos 2 ∷ pos 0 ∷ pos 1 ∷ pos 4 ∷ pos 0 ∷ pos 0 ∷ negsuc 10002 ∷ negsuc 10000 ∷ pos 1 ∷ pos 1 ∷ pos 0 ∷ pos 0 ∷ pos 1 ∷ pos 4 ∷ pos 0 ∷ pos 2 ∷ pos 4 ∷ pos 0 ∷ pos 9999 ∷ pos 10003 ∷ []) 30 36 48)
    (answered (negsuc 9999 ∷ negsuc 9998 ∷ pos 9999 ∷ pos 10000 ∷ pos 3 ∷ pos 6 ∷ pos 8 ∷ negsuc 9999 ∷ negsuc 9998 ∷ pos 3 ∷ pos 5 ∷ pos 7 ∷ negsuc 9998 ∷ negsuc 9996 ∷ pos 0 ∷ negsuc 9999 ∷ negsuc 9995 ∷ negsuc 9999 ∷ negsuc 9998 ∷ pos 1 ∷ negsuc 9999 ∷ negsuc 9998 ∷ pos 1 ∷ pos 4 ∷ pos 0 ∷ pos 2 ∷ pos 4 ∷ pos 9999 ∷ pos 10000 ∷ pos 3 ∷ []) (counts 10000 1 7 10000 2 9998) (negsuc 9999 ∷ negsuc 9999 ∷ negsuc 9995 ∷ pos 2 ∷ negsuc 9999 ∷ pos 6 ∷ pos 8 ∷ pos 1 ∷ negsuc 9998 ∷ pos 5 ∷ pos 7 ∷ pos 2 ∷ negsuc 9997 ∷ pos 5 ∷ pos 7 ∷ pos 2 ∷ pos 1 ∷ negsuc 9999 ∷ negsuc 9998 ∷ pos 2 ∷ pos 2 ∷ negsuc 9999 ∷ negsuc 9998 ∷ pos 2 ∷ pos 3 ∷ negsuc 9999 ∷ negsuc 9998 ∷ pos 2 ∷ pos 9999 ∷ negsuc 9999 ∷ negsuc 9998 ∷ pos 1 ∷ pos 9999 ∷ pos 2 ∷ pos 4 ∷ pos 1 ∷ []) (negsuc 9999 ∷ negsuc 9999 ∷ negsuc 9998 ∷ pos 2 ∷ negsuc 9999 ∷ pos 1 ∷ pos 4 ∷ pos 2 ∷ negsuc 9999 ∷ pos 9999 ∷ pos 10000 ∷ pos 1 ∷ negsuc 9998 ∷ negsuc 9999 ∷ negsuc 9998 ∷ pos 2 ∷ negsuc 9997 ∷ negsuc 9999 ∷ negsuc 9998 ∷ pos 2 ∷ negsuc 9996 ∷ negsuc 9999 ∷ negsuc 9998 ∷ pos 2 ∷ pos 2 ∷ pos 9999 ∷ pos 10000 ∷ pos 1 ∷ pos 3 ∷ pos 9999 ∷ pos 10000 ∷ pos 1 ∷ pos 5 ∷ negsuc 9998 ∷ negsuc 9996 ∷ pos 2 ∷ pos 6 ∷ negsuc 9999 ∷ negsuc 9998 ∷ pos 1 ∷ pos 6 ∷ negsuc 9998 ∷ negsuc 9996 ∷ pos 2 ∷ pos 7 ∷ negsuc 9999 ∷ negsuc 9998 ∷ pos 1 ∷ [])) ∷
    -- fixed lines: a = b
    case (request 3 (counts 0 3 1 0 1 0) (pos 0 ∷ pos 2 ∷ pos 2 ∷ pos 0 ∷ pos 2 ∷ pos 5 ∷ pos 1 ∷ pos 3 ∷ pos 0 ∷ pos 1 ∷ pos 2 ∷ pos 0 ∷ pos 0 ∷ pos 10001 ∷ pos 10003 ∷ pos 1 ∷ pos 3 ∷ pos 0 ∷ pos 1 ∷ pos 3 ∷ pos 0 ∷ pos 0 ∷ pos 2 ∷ pos 4 ∷ []) 20 36 20)
    (refused 6 0) ∷
    -- step 2 looks at step 1 too
    case (request 0 (counts 1 3 1 0 1 0) (pos 0 ∷ negsuc 0 ∷ pos 1 ∷ pos 0 ∷ negsuc 0 ∷ pos 0 ∷ pos 0 ∷ pos 0 ∷ pos 3 ∷ pos 0 ∷ pos 0 ∷ pos 3 ∷ pos 1 ∷ pos 2 ∷ pos 0 ∷ pos 1 ∷ pos 1 ∷ pos 0 ∷ pos 1 ∷ pos 1 ∷ pos 0 ∷ pos 1 ∷ pos 1 ∷ pos 0 ∷ pos 0 ∷ pos 1 ∷ pos 2 ∷ pos 1 ∷ pos 2 ∷ pos 0 ∷ pos 1 ∷ pos 1 ∷ pos 0 ∷ pos 0 ∷ pos 0 ∷ pos 1 ∷ []) 30 32 36)
    (answered (negsuc 0 ∷ pos 1 ∷ negsuc 0 ∷ pos 0 ∷ pos 2 ∷ pos 0 ∷ pos 3 ∷ pos 0 ∷ pos 3 ∷ pos 2 ∷ pos 1 ∷ pos 3 ∷ negsuc 0 ∷ pos 0 ∷ pos 0 ∷ pos 3 ∷ pos 4 ∷ negsuc 0 ∷ pos 0 ∷ pos 0 ∷ pos 1 ∷ pos 2 ∷ pos 3 ∷ pos 5 ∷ pos 0 ∷ negsuc 0 ∷ pos 0 ∷ pos 0 ∷ pos 1 ∷ pos 0 ∷ []) (counts 1 3 1 1 1 4) (negsuc 0 ∷ negsuc 0 ∷ pos 1 ∷ pos 1 ∷ negsuc 0 ∷ pos 1 ∷ pos 4 ∷ pos 2 ∷ pos 0 ∷ negsuc 0 ∷ pos 0 ∷ pos 2 ∷ pos 0 ∷ pos 0 ∷ pos 3 ∷ pos 1 ∷ pos 1 ∷ pos 0 ∷ pos 3 ∷ pos 1 ∷ pos 2 ∷ pos 0 ∷ pos 3 ∷ pos 1 ∷ pos 3 ∷ pos 1 ∷ pos 2 ∷ pos 2 ∷ pos 4 ∷ pos 1 ∷ pos 2 ∷ pos 2 ∷ []) (negsuc 0 ∷ negsuc 0 ∷ pos 0 ∷ pos 1 ∷ negsuc 0 ∷ pos 0 ∷ pos 1 ∷ pos 2 ∷ pos 0 ∷ negsuc 0 ∷ pos 3 ∷ pos 1 ∷ pos 1 ∷ negsuc 0 ∷ pos 0 ∷ pos 2 ∷ pos 1 ∷ pos 0 ∷ pos 3 ∷ pos 1 ∷ pos 1 ∷ pos 3 ∷ pos 5 ∷ pos 2 ∷ pos 2 ∷ negsuc 0 ∷ pos 0 ∷ pos 2 ∷ pos 2 ∷ pos 0 ∷ pos 3 ∷ pos 1 ∷ pos 3 ∷ negsuc 0 ∷ pos 0 ∷ pos 2 ∷ [])) ∷
    -- dense cursor read afresh; next line from the cursor; grid start as before step 4
    case (request 2 (counts 2 1 0 2 4 1) (pos 0 ∷ negsuc 10002 ∷ negsuc 9998 ∷ pos 1 ∷ pos 1 ∷ pos 0 ∷ pos 1 ∷ pos 3 ∷ pos 0 ∷ pos 1 ∷ pos 2 ∷ pos 0 ∷ pos 1 ∷ pos 3 ∷ pos 0 ∷ pos 0 ∷ negsuc 1 ∷ negsuc 0 ∷ []) 15 16 24)
    (answered (negsuc 9999 ∷ negsuc 9998 ∷ negsuc 1 ∷ negsuc 0 ∷ pos 1 ∷ negsuc 9999 ∷ negsuc 9996 ∷ negsuc 0 ∷ pos 1 ∷ pos 0 ∷ negsuc 1 ∷ pos 1 ∷ negsuc 1 ∷ negsuc 0 ∷ pos 0 ∷ []) (counts 10000 1 0 2 4 1) (negsuc 1 ∷ negsuc 9999 ∷ negsuc 9998 ∷ pos 2 ∷ negsuc 1 ∷ negsuc 1 ∷ pos 1 ∷ pos 2 ∷ negsuc 0 ∷ negsuc 9999 ∷ negsuc 9996 ∷ pos 2 ∷ pos 0 ∷ negsuc 9999 ∷ negsuc 9996 ∷ pos 2 ∷ []) (negsuc 9999 ∷ negsuc 1 ∷ pos 1 ∷ pos 2 ∷ negsuc 9998 ∷ negsuc 0 ∷ pos 1 ∷ pos 2 ∷ negsuc 9997 ∷ negsuc 0 ∷ pos 1 ∷ pos 2 ∷ negsuc 1 ∷ negsuc 1 ∷ negsuc 0 ∷ pos 2 ∷ negsuc 0 ∷ negsuc 1 ∷ negsuc 0 ∷ pos 2 ∷ pos 0 ∷ negsuc 1 ∷ negsuc 0 ∷ pos 2 ∷ [])) ∷
    -- plus 1 at the cursor too
    case (request 0 (counts 0 3 0 1 0 1) (pos 0 ∷ pos 2 ∷ pos 4 ∷ pos 0 ∷ pos 9999 ∷ pos 10001 ∷ pos 0 ∷ negsuc 0 ∷ pos 2 ∷ pos 1 ∷ pos 2 ∷ pos 0 ∷ pos 0 ∷ negsuc 0 ∷ pos 2 ∷ pos 0 ∷ pos 9998 ∷ pos 10001 ∷ pos 1 ∷ pos 2 ∷ pos 0 ∷ pos 0 ∷ pos 9998 ∷ pos 9999 ∷ pos 1 ∷ pos 3 ∷ pos 0 ∷ pos 0 ∷ pos 9998 ∷ pos 9999 ∷ pos 0 ∷ pos 0 ∷ pos 3 ∷ pos 1 ∷ pos 1 ∷ pos 0 ∷ []) 30 24 56)
    (answered (pos 2 ∷ pos 4 ∷ pos 9999 ∷ pos 10000 ∷ pos 3 ∷ negsuc 0 ∷ pos 2 ∷ negsuc 0 ∷ pos 1 ∷ pos 0 ∷ negsuc 0 ∷ pos 2 ∷ pos 9998 ∷ pos 10000 ∷ pos 3 ∷ pos 2 ∷ pos 4 ∷ pos 9998 ∷ pos 9999 ∷ pos 0 ∷ pos 4 ∷ pos 7 ∷ pos 9998 ∷ pos 9999 ∷ pos 0 ∷ pos 0 ∷ pos 3 ∷ pos 1 ∷ pos 2 ∷ pos 0 ∷ []) (counts 1 3 4 1 0 10000) (negsuc 0 ∷ negsuc 0 ∷ pos 2 ∷ pos 2 ∷ pos 0 ∷ negsuc 0 ∷ pos 2 ∷ pos 2 ∷ pos 1 ∷ pos 0 ∷ pos 3 ∷ pos 2 ∷ pos 9998 ∷ negsuc 0 ∷ pos 2 ∷ pos 1 ∷ pos 9998 ∷ pos 2 ∷ pos 7 ∷ pos 2 ∷ pos 9999 ∷ negsuc 0 ∷ pos 4 ∷ pos 1 ∷ []) (negsuc 0 ∷ negsuc 0 ∷ pos 1 ∷ pos 2 ∷ negsuc 0 ∷ pos 9998 ∷ pos 10000 ∷ pos 1 ∷ pos 0 ∷ negsuc 0 ∷ pos 2 ∷ pos 2 ∷ pos 0 ∷ pos 9998 ∷ pos 10000 ∷ pos 1 ∷ pos 1 ∷ negsuc 0 ∷ pos 2 ∷ pos 2 ∷ pos 1 ∷ pos 9998 ∷ pos 10000 ∷ pos 1 ∷ pos 2 ∷ pos 1 ∷ pos 2 ∷ pos 2 ∷ pos 2 ∷ pos 9998 ∷ pos 9999 ∷ pos 2 ∷ pos 2 ∷ pos 9999 ∷ pos 10000 ∷ pos 1 ∷ pos 3 ∷ pos 9998 ∷ pos 9999 ∷ pos 2 ∷ pos 3 ∷ pos 9999 ∷ pos 10000 ∷ pos 1 ∷ pos 4 ∷ pos 9998 ∷ pos 9999 ∷ pos 2 ∷ pos 5 ∷ pos 9998 ∷ pos 9999 ∷ pos 2 ∷ pos 6 ∷ pos 9998 ∷ pos 9999 ∷ pos 2 ∷ [])) ∷
    -- fixed lines: a = b
    case (request 3 (counts 1 2 1 0 1 1) (pos 0 ∷ pos 0 ∷ pos 3 ∷ pos 0 ∷ pos 2 ∷ pos 2 ∷ pos 0 ∷ pos 2 ∷ pos 2 ∷ pos 0 ∷ pos 0 ∷ pos 3 ∷ []) 10 12 20)
    (refused 6 0) ∷
    -- plus 1 at the cursor too
    case (request 1 (counts 1 1 0 1 0 1) (pos 0 ∷ pos 10001 ∷ pos 10004 ∷ pos 0 ∷ pos 2 ∷ pos 5 ∷ pos 1 ∷ pos 2 ∷ pos 0 ∷ pos 1 ∷ pos 1 ∷ pos 0 ∷ pos 1 ∷ pos 1 ∷ pos 0 ∷ pos 0 ∷ pos 0 ∷ pos 1 ∷ pos 1 ∷ pos 1 ∷ pos 0 ∷ pos 0 ∷ pos 3 ∷ pos 5 ∷ []) 20 28 16)
    (answered (pos 9999 ∷ pos 10000 ∷ pos 2 ∷ pos 5 ∷ pos 3 ∷ negsuc 0 ∷ pos 1 ∷ negsuc 0 ∷ pos 0 ∷ pos 0 ∷ negsuc 0 ∷ pos 0 ∷ pos 0 ∷ pos 1 ∷ pos 0 ∷ negsuc 0 ∷ pos 0 ∷ pos 3 ∷ pos 5 ∷ pos 0 ∷ []) (counts 1 1 9999 1 0 5) (negsuc 0 ∷ negsuc 0 ∷ pos 1 ∷ pos 2 ∷ pos 0 ∷ negsuc 0 ∷ pos 0 ∷ pos 2 ∷ pos 2 ∷ pos 9999 ∷ pos 10000 ∷ pos 1 ∷ pos 3 ∷ negsuc 0 ∷ pos 0 ∷ pos 2 ∷ pos 3 ∷ pos 9999 ∷ pos 10000 ∷ pos 1 ∷ pos 4 ∷ negsuc 0 ∷ pos 0 ∷ pos 2 ∷ pos 4 ∷ pos 9999 ∷ pos 10000 ∷ pos 1 ∷ []) (negsuc 0 ∷ negsuc 0 ∷ pos 1 ∷ pos 2 ∷ negsuc 0 ∷ pos 3 ∷ pos 5 ∷ pos 2 ∷ pos 0 ∷ negsuc 0 ∷ pos 0 ∷ pos 2 ∷ pos 9999 ∷ pos 2 ∷ pos 5 ∷ pos 1 ∷ [])) ∷
    -- step 2 keyed on every row spanned
    case (request 0 (counts 0 2 1 0 2 1) (pos 1 ∷ pos 2 ∷ pos 0 ∷ pos 0 ∷ pos 0 ∷ pos 3 ∷ pos 1 ∷ pos 2 ∷ pos 0 ∷ pos 0 ∷ negsuc 0 ∷ pos 1 ∷ pos 1 ∷ pos 1 ∷ pos 0 ∷ pos 1 ∷ pos 2 ∷ pos 0 ∷ pos 1 ∷ pos 1 ∷ pos 0 ∷ pos 1 ∷ pos 3 ∷ pos 0 ∷ pos 1 ∷ pos 2 ∷ pos 0 ∷ pos 0 ∷ pos 2 ∷ pos 4 ∷ pos 0 ∷ negsuc 0 ∷ pos 2 ∷ pos 0 ∷ negsuc 0 ∷ pos 2 ∷ []) 30 40 36)
    (answered (pos 2 ∷ pos 4 ∷ pos 0 ∷ pos 3 ∷ pos 0 ∷ pos 4 ∷ pos 6 ∷ negsuc 0 ∷ pos 1 ∷ pos 0 ∷ pos 4 ∷ pos 5 ∷ pos 1 ∷ pos 3 ∷ pos 0 ∷ pos 5 ∷ pos 6 ∷ pos 1 ∷ pos 4 ∷ pos 0 ∷ negsuc 0 ∷ pos 1 ∷ pos 2 ∷ pos 4 ∷ pos 0 ∷ negsuc 0 ∷ pos 2 ∷ negsuc 0 ∷ pos 2 ∷ pos 2 ∷ []) (counts 1 2 4 1 2 2) (negsuc 0 ∷ negsuc 0 ∷ pos 2 ∷ pos 1 ∷ negsuc 0 ∷ pos 4 ∷ pos 6 ∷ pos 2 ∷ pos 0 ∷ negsuc 0 ∷ pos 2 ∷ pos 1 ∷ pos 0 ∷ pos 2 ∷ pos 6 ∷ pos 2 ∷ pos 1 ∷ negsuc 0 ∷ pos 2 ∷ pos 1 ∷ pos 1 ∷ pos 2 ∷ pos 6 ∷ pos 2 ∷ pos 2 ∷ negsuc 0 ∷ pos 1 ∷ pos 2 ∷ pos 2 ∷ pos 2 ∷ pos 6 ∷ pos 2 ∷ pos 3 ∷ negsuc 0 ∷ pos 1 ∷ pos 2 ∷ pos 3 ∷ pos 5 ∷ pos 6 ∷ pos 2 ∷ []) (negsuc 0 ∷ negsuc 0 ∷ pos 2 ∷ pos 1 ∷ negsuc 0 ∷ pos 2 ∷ pos 4 ∷ pos 2 ∷ pos 0 ∷ negsuc 0 ∷ pos 2 ∷ pos 1 ∷ pos 0 ∷ pos 2 ∷ pos 4 ∷ pos 2 ∷ pos 1 ∷ negsuc 0 ∷ pos 2 ∷ pos 1 ∷ pos 2 ∷ pos 0 ∷ pos 3 ∷ pos 2 ∷ pos 3 ∷ pos 0 ∷ pos 3 ∷ pos 2 ∷ pos 4 ∷ negsuc 0 ∷ pos 3 ∷ pos 2 ∷ pos 5 ∷ negsuc 0 ∷ pos 4 ∷ pos 2 ∷ [])) ∷
    -- counts: explicit plus positive 10001
    case (request 0 (counts 1 1 1 1 0 10001) (pos 0 ∷ pos 10000 ∷ pos 10002 ∷ pos 0 ∷ pos 3 ∷ pos 5 ∷ pos 1 ∷ pos 2 ∷ pos 0 ∷ pos 0 ∷ pos 2 ∷ pos 5 ∷ []) 10 20 12)
    (refused 3 0) ∷
    -- limited area tested, step 2
    case (request 3 (counts 0 1 1 1 1 0) (pos 0 ∷ pos 9997 ∷ pos 9998 ∷ pos 1 ∷ pos 2 ∷ pos 0 ∷ pos 0 ∷ pos 10000 ∷ pos 10002 ∷ pos 0 ∷ negsuc 0 ∷ pos 1 ∷ pos 1 ∷ pos 1 ∷ pos 0 ∷ pos 1 ∷ pos 3 ∷ pos 0 ∷ pos 0 ∷ pos 9999 ∷ pos 10002 ∷ pos 1 ∷ pos 3 ∷ pos 0 ∷ pos 1 ∷ pos 2 ∷ pos 0 ∷ pos 1 ∷ pos 3 ∷ pos 0 ∷ pos 0 ∷ pos 10001 ∷ pos 10004 ∷ pos 1 ∷ pos 2 ∷ pos 0 ∷ []) 30 40 20)
    (answered (pos 9997 ∷ pos 9998 ∷ negsuc 0 ∷ pos 1 ∷ pos 0 ∷ pos 9999 ∷ pos 10000 ∷ negsuc 0 ∷ pos 1 ∷ pos 3 ∷ pos 0 ∷ pos 1 ∷ negsuc 0 ∷ pos 2 ∷ pos 0 ∷ pos 9999 ∷ pos 10000 ∷ pos 1 ∷ pos 4 ∷ pos 1 ∷ pos 1 ∷ pos 3 ∷ negsuc 0 ∷ pos 2 ∷ pos 0 ∷ pos 9999 ∷ pos 10000 ∷ negsuc 0 ∷ pos 1 ∷ pos 1 ∷ []) (counts 0 1 9999 1 1 3) (negsuc 0 ∷ pos 0 ∷ pos 3 ∷ pos 2 ∷ negsuc 0 ∷ pos 9997 ∷ pos 9998 ∷ pos 2 ∷ negsuc 0 ∷ pos 9999 ∷ pos 10000 ∷ pos 2 ∷ pos 0 ∷ pos 0 ∷ pos 3 ∷ pos 2 ∷ pos 0 ∷ pos 9997 ∷ pos 9998 ∷ pos 2 ∷ pos 0 ∷ pos 9999 ∷ pos 10000 ∷ pos 2 ∷ pos 1 ∷ pos 0 ∷ pos 3 ∷ pos 2 ∷ pos 1 ∷ pos 9999 ∷ pos 10000 ∷ pos 2 ∷ pos 2 ∷ pos 9999 ∷ pos 10000 ∷ pos 2 ∷ pos 3 ∷ pos 9999 ∷ pos 10000 ∷ pos 2 ∷ []) (pos 0 ∷ negsuc 0 ∷ pos 2 ∷ pos 2 ∷ pos 1 ∷ negsuc 0 ∷ pos 2 ∷ pos 2 ∷ pos 2 ∷ negsuc 0 ∷ pos 2 ∷ pos 2 ∷ pos 9997 ∷ negsuc 0 ∷ pos 1 ∷ pos 2 ∷ pos 9999 ∷ negsuc 0 ∷ pos 4 ∷ pos 2 ∷ [])) ∷
    -- span with b
    case (request 3 (counts 0 3 1 1 2 1) (pos 1 ∷ pos 2 ∷ pos 0 ∷ pos 1 ∷ pos 3 ∷ pos 0 ∷ pos 1 ∷ pos 2 ∷ pos 1 ∷ pos 1 ∷ pos 1 ∷ pos 0 ∷ pos 1 ∷ pos 3 ∷ pos 0 ∷ pos 1 ∷ pos 3 ∷ pos 0 ∷ []) 15 16 12)
    (refused 6 1) ∷
    -- cursor keeps primary start; overwide never further; no flag 4
    case (request 1 (counts 1 0 0 0 2 0) (pos 0 ∷ pos 9997 ∷ pos 10001 ∷ pos 0 ∷ pos 0 ∷ pos 3 ∷ pos 1 ∷ pos 3 ∷ pos 0 ∷ pos 1 ∷ pos 3 ∷ pos 0 ∷ pos 1 ∷ pos 1 ∷ pos 0 ∷ pos 1 ∷ pos 4 ∷ pos 0 ∷ pos 1 ∷ pos 2 ∷ pos 0 ∷ pos 1 ∷ pos 3 ∷ pos 0 ∷ pos 0 ∷ negsuc 9999 ∷ negsuc 9998 ∷ pos 1 ∷ pos 3 ∷ pos 0 ∷ pos 1 ∷ pos 3 ∷ pos 0 ∷ pos 0 ∷ negsuc 9999 ∷ negsuc 9996 ∷ []) 30 40 48)
    (answered (pos 9997 ∷ pos 10000 ∷ pos 0 ∷ pos 3 ∷ pos 3 ∷ negsuc 9998 ∷ negsuc 9995 ∷ pos 0 ∷ pos 3 ∷ pos 0 ∷ negsuc 9997 ∷ negsuc 9996 ∷ pos 0 ∷ pos 4 ∷ pos 4 ∷ negsuc 9995 ∷ negsuc 9993 ∷ pos 0 ∷ pos 3 ∷ pos 0 ∷ negsuc 9999 ∷ negsuc 9998 ∷ pos 0 ∷ pos 3 ∷ pos 0 ∷ negsuc 9994 ∷ negsuc 9991 ∷ negsuc 9999 ∷ negsuc 9996 ∷ pos 0 ∷ []) (counts 10000 0 10000 10000 2 2) (negsuc 9999 ∷ negsuc 9994 ∷ negsuc 9991 ∷ pos 2 ∷ negsuc 9998 ∷ negsuc 9994 ∷ negsuc 9991 ∷ pos 2 ∷ negsuc 9997 ∷ negsuc 9994 ∷ negsuc 9991 ∷ pos 2 ∷ pos 0 ∷ negsuc 9999 ∷ negsuc 9993 ∷ pos 2 ∷ pos 0 ∷ pos 9997 ∷ pos 10000 ∷ pos 1 ∷ pos 1 ∷ negsuc 9999 ∷ negsuc 9993 ∷ pos 2 ∷ pos 1 ∷ pos 9997 ∷ pos 10000 ∷ pos 1 ∷ pos 2 ∷ negsuc 9999 ∷ negsuc 9993 ∷ pos 2 ∷ pos 2 ∷ pos 9997 ∷ pos 10000 ∷ pos 1 ∷ pos 3 ∷ negsuc 9997 ∷ negsuc 9996 ∷ pos 2 ∷ []) (negsuc 9999 ∷ pos 0 ∷ pos 3 ∷ pos 2 ∷ negsuc 9998 ∷ pos 0 ∷ pos 3 ∷ pos 2 ∷ negsuc 9997 ∷ pos 0 ∷ pos 4 ∷ pos 2 ∷ negsuc 9996 ∷ pos 0 ∷ pos 3 ∷ pos 2 ∷ negsuc 9995 ∷ pos 0 ∷ pos 3 ∷ pos 2 ∷ negsuc 9994 ∷ negsuc 9999 ∷ negsuc 9996 ∷ pos 2 ∷ negsuc 9994 ∷ pos 0 ∷ pos 3 ∷ pos 2 ∷ negsuc 9993 ∷ negsuc 9999 ∷ negsuc 9996 ∷ pos 2 ∷ negsuc 9992 ∷ negsuc 9999 ∷ negsuc 9996 ∷ pos 2 ∷ pos 9997 ∷ pos 0 ∷ pos 3 ∷ pos 1 ∷ pos 9998 ∷ pos 0 ∷ pos 3 ∷ pos 1 ∷ pos 9999 ∷ pos 0 ∷ pos 3 ∷ pos 1 ∷ [])) ∷
    -- fixed lines: a from -20001
    case (request 1 (counts 1 1 0 0 1 0) (pos 0 ∷ pos 0 ∷ pos 3 ∷ pos 1 ∷ pos 2 ∷ pos 0 ∷ pos 0 ∷ pos 1 ∷ pos 4 ∷ pos 0 ∷ pos 0 ∷ pos 2 ∷ pos 0 ∷ pos 3 ∷ pos 4 ∷ pos 1 ∷ pos 1 ∷ pos 0 ∷ pos 1 ∷ pos 1 ∷ pos 0 ∷ pos 1 ∷ pos 2 ∷ pos 0 ∷ pos 1 ∷ pos 3 ∷ pos 0 ∷ pos 0 ∷ negsuc 20000 ∷ pos 3 ∷ pos 0 ∷ pos 2 ∷ pos 4 ∷ pos 0 ∷ pos 0 ∷ pos 3 ∷ []) 30 32 44)
    (refused 6 4) ∷
    -- span 0
    case (request 0 (counts 0 3 1 1 1 1) (pos 0 ∷ pos 3 ∷ pos 5 ∷ pos 1 ∷ pos 1 ∷ pos 0 ∷ pos 0 ∷ negsuc 0 ∷ pos 1 ∷ pos 1 ∷ pos 3 ∷ pos 0 ∷ pos 1 ∷ pos 0 ∷ pos 0 ∷ pos 0 ∷ pos 3 ∷ pos 6 ∷ pos 1 ∷ pos 2 ∷ pos 0 ∷ pos 0 ∷ pos 2 ∷ pos 4 ∷ []) 20 32 32)
    (refused 6 2) ∷
    -- span 0
    case (request 2 (counts 0 3 1 0 0 1) (pos 1 ∷ pos 1 ∷ pos 0 ∷ pos 1 ∷ pos 3 ∷ pos 0 ∷ pos 1 ∷ pos 3 ∷ pos 0 ∷ pos 1 ∷ pos 2 ∷ pos 0 ∷ pos 0 ∷ pos 3 ∷ pos 6 ∷ pos 0 ∷ pos 2 ∷ pos 3 ∷ pos 0 ∷ pos 3 ∷ pos 5 ∷ pos 1 ∷ pos 0 ∷ pos 0 ∷ pos 0 ∷ pos 1 ∷ pos 2 ∷ pos 0 ∷ pos 0 ∷ pos 1 ∷ pos 1 ∷ pos 1 ∷ pos 0 ∷ pos 1 ∷ pos 2 ∷ pos 0 ∷ []) 30 20 44)
    (refused 6 3) ∷
    -- overwide always one further; no flag 4
    case (request 1 (counts 1 3 0 0 1 1) (pos 0 ∷ negsuc 10000 ∷ negsuc 9999 ∷ pos 1 ∷ pos 2 ∷ pos 0 ∷ pos 1 ∷ pos 1 ∷ pos 0 ∷ pos 1 ∷ pos 3 ∷ pos 0 ∷ pos 1 ∷ pos 3 ∷ pos 0 ∷ pos 1 ∷ pos 3 ∷ pos 0 ∷ []) 15 12 16)
    (answered (negsuc 9999 ∷ negsuc 9998 ∷ pos 0 ∷ pos 2 ∷ pos 1 ∷ negsuc 9999 ∷ negsuc 9998 ∷ pos 0 ∷ pos 3 ∷ pos 4 ∷ negsuc 9998 ∷ negsuc 9995 ∷ pos 0 ∷ pos 3 ∷ pos 0 ∷ []) (counts 10000 3 0 0 1 2) (pos 0 ∷ negsuc 9999 ∷ negsuc 9995 ∷ pos 2 ∷ pos 1 ∷ negsuc 9999 ∷ negsuc 9995 ∷ pos 2 ∷ pos 2 ∷ negsuc 9999 ∷ negsuc 9995 ∷ pos 2 ∷ []) (negsuc 9999 ∷ pos 0 ∷ pos 3 ∷ pos 2 ∷ negsuc 9998 ∷ pos 0 ∷ pos 3 ∷ pos 2 ∷ negsuc 9997 ∷ pos 0 ∷ pos 3 ∷ pos 2 ∷ negsuc 9996 ∷ pos 0 ∷ pos 3 ∷ pos 2 ∷ [])) ∷
    -- counts: explicit plus positive 10001
    case (request 1 (counts 1 2 1 1 0 10001) (pos 0 ∷ negsuc 0 ∷ pos 2 ∷ pos 1 ∷ pos 0 ∷ pos 0 ∷ pos 0 ∷ pos 1 ∷ pos 4 ∷ pos 0 ∷ pos 0 ∷ pos 2 ∷ pos 0 ∷ negsuc 0 ∷ pos 0 ∷ pos 0 ∷ negsuc 0 ∷ pos 2 ∷ []) 15 28 28)
    (refused 3 0) ∷
    -- span 10001
    case (request 3 (counts 1 0 1 1 1 0) (pos 1 ∷ pos 10001 ∷ pos 0 ∷ pos 0 ∷ pos 2 ∷ pos 4 ∷ pos 1 ∷ pos 2 ∷ pos 0 ∷ pos 0 ∷ pos 1 ∷ pos 4 ∷ []) 10 20 12)
    (refused 6 0) ∷
    -- 6 before 5
    case (request 2 (counts 1 2 0 0 1 1) (pos 1 ∷ pos 3 ∷ pos 0 ∷ pos 0 ∷ negsuc 20000 ∷ pos 3 ∷ pos 0 ∷ pos 9998 ∷ pos 10000 ∷ pos 0 ∷ negsuc 0 ∷ pos 2 ∷ pos 1 ∷ pos 3 ∷ pos 0 ∷ pos 1 ∷ pos 1 ∷ pos 0 ∷ pos 0 ∷ pos 9997 ∷ pos 10000 ∷ pos 1 ∷ pos 1 ∷ pos 0 ∷ pos 0 ∷ pos 9997 ∷ pos 9999 ∷ pos 1 ∷ pos 1 ∷ pos 0 ∷ []) 25 24 2)
    (refused 5 0) ∷
    -- counts: negative 10001
    case (request 3 (counts 10001 3 1 0 0 1) (pos 1 ∷ pos 3 ∷ pos 0 ∷ pos 0 ∷ pos 0 ∷ pos 3 ∷ pos 0 ∷ pos 2 ∷ pos 3 ∷ pos 1 ∷ pos 1 ∷ pos 0 ∷ []) 10 4 16)
    (refused 3 0) ∷
    -- fixed lines: b to 20001
    case (request 3 (counts 10000 3 1 0 1 1) (pos 1 ∷ pos 1 ∷ pos 0 ∷ pos 0 ∷ pos 20000 ∷ pos 20001 ∷ pos 1 ∷ pos 1 ∷ pos 0 ∷ pos 0 ∷ negsuc 0 ∷ pos 0 ∷ pos 1 ∷ pos 3 ∷ pos 0 ∷ pos 0 ∷ pos 3 ∷ pos 4 ∷ pos 1 ∷ pos 2 ∷ pos 0 ∷ pos 0 ∷ pos 1 ∷ pos 2 ∷ pos 0 ∷ pos 0 ∷ pos 3 ∷ pos 1 ∷ pos 2 ∷ pos 0 ∷ []) 25 20 32)
    (refused 6 0) ∷
    -- counts: negative 10001
    case (request 0 (counts 10001 3 0 1 3 0) (pos 1 ∷ pos 2 ∷ pos 0 ∷ pos 0 ∷ pos 0 ∷ pos 1 ∷ pos 0 ∷ pos 1 ∷ pos 4 ∷ pos 0 ∷ pos 1 ∷ pos 3 ∷ pos 0 ∷ pos 2 ∷ pos 5 ∷ pos 1 ∷ pos 1 ∷ pos 0 ∷ pos 0 ∷ pos 0 ∷ pos 3 ∷ pos 0 ∷ pos 1 ∷ pos 3 ∷ []) 19 16 36)
    (refused 3 0) ∷
    -- limited area tested, step 2
    case (request 2 (counts 0 3 1 1 1 1) (pos 1 ∷ pos 2 ∷ pos 0 ∷ pos 1 ∷ pos 2 ∷ pos 0 ∷ pos 1 ∷ pos 3 ∷ pos 0 ∷ pos 0 ∷ pos 10001 ∷ pos 10004 ∷ pos 1 ∷ pos 3 ∷ pos 0 ∷ pos 1 ∷ pos 2 ∷ pos 0 ∷ pos 1 ∷ pos 3 ∷ pos 0 ∷ pos 0 ∷ pos 9999 ∷ pos 10002 ∷ pos 0 ∷ pos 1 ∷ pos 4 ∷ pos 1 ∷ pos 3 ∷ pos 0 ∷ pos 1 ∷ pos 1 ∷ pos 0 ∷ pos 0 ∷ pos 10001 ∷ pos 10002 ∷ []) 30 24 44)
    (answered (pos 0 ∷ pos 2 ∷ negsuc 0 ∷ pos 1 ∷ pos 0 ∷ pos 0 ∷ pos 3 ∷ pos 9999 ∷ pos 10000 ∷ pos 1 ∷ pos 2 ∷ pos 5 ∷ negsuc 0 ∷ pos 1 ∷ pos 0 ∷ pos 3 ∷ pos 6 ∷ pos 9999 ∷ pos 10000 ∷ pos 1 ∷ pos 1 ∷ pos 4 ∷ pos 1 ∷ pos 4 ∷ pos 0 ∷ pos 0 ∷ pos 1 ∷ pos 9999 ∷ pos 10000 ∷ pos 1 ∷ []) (counts 0 3 3 1 1 9999) (negsuc 0 ∷ pos 0 ∷ pos 5 ∷ pos 2 ∷ pos 0 ∷ pos 0 ∷ pos 5 ∷ pos 2 ∷ pos 1 ∷ pos 1 ∷ pos 4 ∷ pos 2 ∷ pos 2 ∷ pos 1 ∷ pos 4 ∷ pos 2 ∷ pos 3 ∷ pos 1 ∷ pos 4 ∷ pos 2 ∷ pos 9999 ∷ pos 0 ∷ pos 6 ∷ pos 2 ∷ []) (pos 0 ∷ negsuc 0 ∷ pos 1 ∷ pos 2 ∷ pos 0 ∷ pos 9999 ∷ pos 10000 ∷ pos 2 ∷ pos 1 ∷ negsuc 0 ∷ pos 4 ∷ pos 2 ∷ pos 1 ∷ pos 9999 ∷ pos 10000 ∷ pos 2 ∷ pos 2 ∷ negsuc 0 ∷ pos 4 ∷ pos 2 ∷ pos 2 ∷ pos 9999 ∷ pos 10000 ∷ pos 2 ∷ pos 3 ∷ negsuc 0 ∷ pos 4 ∷ pos 2 ∷ pos 3 ∷ pos 9999 ∷ pos 10000 ∷ pos 2 ∷ pos 4 ∷ negsuc 0 ∷ pos 1 ∷ pos 2 ∷ pos 4 ∷ pos 9999 ∷ pos 10000 ∷ pos 2 ∷ pos 5 ∷ pos 9999 ∷ pos 10000 ∷ pos 2 ∷ [])) ∷
    -- overwide always one further
    case (request 0 (counts 0 0 1 2 3 0) (pos 1 ∷ pos 4 ∷ pos 0 ∷ pos 1 ∷ pos 2 ∷ pos 0 ∷ pos 0 ∷ negsuc 9999 ∷ negsuc 9995 ∷ pos 1 ∷ pos 4 ∷ pos 0 ∷ pos 1 ∷ pos 2 ∷ pos 0 ∷ pos 1 ∷ pos 4 ∷ pos 0 ∷ pos 1 ∷ pos 1 ∷ pos 0 ∷ pos 1 ∷ pos 1 ∷ pos 0 ∷ pos 1 ∷ pos 2 ∷ pos 0 ∷ pos 1 ∷ pos 4 ∷ pos 0 ∷ []) 25 36 52)
    (answered (pos 0 ∷ pos 4 ∷ negsuc 1 ∷ pos 0 ∷ pos 4 ∷ negsuc 9999 ∷ negsuc 9995 ∷ negsuc 0 ∷ pos 3 ∷ pos 0 ∷ negsuc 9995 ∷ negsuc 9993 ∷ negsuc 0 ∷ pos 3 ∷ pos 0 ∷ negsuc 9993 ∷ negsuc 9992 ∷ negsuc 0 ∷ pos 0 ∷ pos 0 ∷ negsuc 9992 ∷ negsuc 9990 ∷ negsuc 0 ∷ pos 3 ∷ pos 0 ∷ []) (counts 10000 0 4 2 3 0) (negsuc 1 ∷ pos 0 ∷ pos 4 ∷ pos 2 ∷ negsuc 0 ∷ negsuc 9999 ∷ negsuc 9990 ∷ pos 2 ∷ negsuc 0 ∷ pos 0 ∷ pos 4 ∷ pos 2 ∷ pos 0 ∷ negsuc 9999 ∷ negsuc 9993 ∷ pos 2 ∷ pos 0 ∷ negsuc 9992 ∷ negsuc 9990 ∷ pos 2 ∷ pos 1 ∷ negsuc 9999 ∷ negsuc 9993 ∷ pos 2 ∷ pos 1 ∷ negsuc 9992 ∷ negsuc 9990 ∷ pos 2 ∷ pos 2 ∷ negsuc 9999 ∷ negsuc 9993 ∷ pos 2 ∷ pos 2 ∷ negsuc 9992 ∷ negsuc 9990 ∷ pos 2 ∷ []) (negsuc 9999 ∷ negsuc 0 ∷ pos 3 ∷ pos 2 ∷ negsuc 9998 ∷ negsuc 0 ∷ pos 3 ∷ pos 2 ∷ negsuc 9997 ∷ negsuc 0 ∷ pos 3 ∷ pos 2 ∷ negsuc 9996 ∷ negsuc 0 ∷ pos 3 ∷ pos 2 ∷ negsuc 9995 ∷ negsuc 0 ∷ pos 3 ∷ pos 2 ∷ negsuc 9994 ∷ negsuc 0 ∷ pos 3 ∷ pos 2 ∷ negsuc 9993 ∷ negsuc 0 ∷ pos 0 ∷ pos 2 ∷ negsuc 9992 ∷ negsuc 0 ∷ pos 3 ∷ pos 2 ∷ negsuc 9991 ∷ negsuc 0 ∷ pos 3 ∷ pos 2 ∷ pos 0 ∷ negsuc 1 ∷ pos 0 ∷ pos 2 ∷ pos 1 ∷ negsuc 1 ∷ pos 0 ∷ pos 2 ∷ pos 2 ∷ negsuc 1 ∷ pos 0 ∷ pos 2 ∷ pos 3 ∷ negsuc 1 ∷ pos 0 ∷ pos 2 ∷ [])) ∷
    -- fixed lines: b to 20001
    case (request 3 (counts 1 3 1 0 0 0) (pos 0 ∷ pos 20000 ∷ pos 20001 ∷ pos 1 ∷ pos 3 ∷ pos 0 ∷ pos 0 ∷ pos 10000 ∷ pos 10002 ∷ pos 0 ∷ pos 1 ∷ pos 3 ∷ pos 0 ∷ pos 9999 ∷ pos 10000 ∷ pos 0 ∷ pos 2 ∷ pos 4 ∷ pos 1 ∷ pos 3 ∷ pos 0 ∷ pos 1 ∷ pos 3 ∷ pos 0 ∷ pos 1 ∷ pos 1 ∷ pos 0 ∷ pos 1 ∷ pos 1 ∷ pos 0 ∷ pos 0 ∷ pos 9998 ∷ pos 10000 ∷ pos 0 ∷ pos 2 ∷ pos 5 ∷ []) 30 20 28)
    (refused 6 0) ∷
    -- span 10001
    case (request 3 (counts 1 3 0 1 2 0) (pos 0 ∷ negsuc 9997 ∷ negsuc 9994 ∷ pos 1 ∷ pos 2 ∷ pos 0 ∷ pos 1 ∷ pos 2 ∷ pos 0 ∷ pos 1 ∷ pos 10001 ∷ pos 0 ∷ pos 0 ∷ negsuc 9999 ∷ negsuc 9997 ∷ pos 0 ∷ pos 1 ∷ pos 3 ∷ pos 1 ∷ pos 2 ∷ pos 0 ∷ pos 1 ∷ pos 2 ∷ pos 0 ∷ pos 0 ∷ negsuc 9997 ∷ negsuc 9994 ∷ pos 0 ∷ pos 1 ∷ pos 4 ∷ []) 25 8 48)
    (refused 6 1) ∷
    -- step 2 keyed on limited start
    case (request 0 (counts 0 2 0 1 2 1) (pos 0 ∷ pos 0 ∷ pos 1 ∷ pos 1 ∷ pos 3 ∷ pos 0 ∷ pos 0 ∷ pos 1 ∷ pos 4 ∷ pos 1 ∷ pos 1 ∷ pos 0 ∷ pos 0 ∷ pos 1 ∷ pos 4 ∷ pos 0 ∷ pos 10000 ∷ pos 10002 ∷ pos 1 ∷ pos 3 ∷ pos 0 ∷ pos 0 ∷ pos 10000 ∷ pos 10003 ∷ pos 1 ∷ pos 1 ∷ pos 0 ∷ pos 0 ∷ pos 9998 ∷ pos 9999 ∷ pos 1 ∷ pos 3 ∷ pos 0 ∷ pos 0 ∷ pos 10000 ∷ pos 10003 ∷ []) 30 24 32)
    (answered (pos 0 ∷ pos 1 ∷ negsuc 0 ∷ pos 2 ∷ pos 0 ∷ pos 1 ∷ pos 4 ∷ negsuc 0 ∷ pos 0 ∷ pos 0 ∷ pos 1 ∷ pos 4 ∷ pos 9999 ∷ pos 10000 ∷ pos 3 ∷ pos 0 ∷ pos 3 ∷ pos 9999 ∷ pos 10000 ∷ pos 1 ∷ pos 0 ∷ pos 1 ∷ pos 9998 ∷ pos 9999 ∷ pos 0 ∷ pos 0 ∷ pos 3 ∷ pos 9999 ∷ pos 10000 ∷ pos 1 ∷ []) (counts 0 2 2 1 2 9998) (negsuc 0 ∷ pos 0 ∷ pos 4 ∷ pos 2 ∷ pos 0 ∷ pos 0 ∷ pos 1 ∷ pos 2 ∷ pos 1 ∷ pos 0 ∷ pos 1 ∷ pos 2 ∷ pos 9998 ∷ pos 0 ∷ pos 1 ∷ pos 2 ∷ pos 9999 ∷ pos 0 ∷ pos 3 ∷ pos 2 ∷ pos 9999 ∷ pos 3 ∷ pos 4 ∷ pos 1 ∷ []) (pos 0 ∷ negsuc 0 ∷ pos 2 ∷ pos 2 ∷ pos 0 ∷ pos 9998 ∷ pos 10000 ∷ pos 2 ∷ pos 1 ∷ negsuc 0 ∷ pos 0 ∷ pos 2 ∷ pos 1 ∷ pos 9999 ∷ pos 10000 ∷ pos 2 ∷ pos 2 ∷ negsuc 0 ∷ pos 0 ∷ pos 2 ∷ pos 2 ∷ pos 9999 ∷ pos 10000 ∷ pos 2 ∷ pos 3 ∷ negsuc 0 ∷ pos 0 ∷ pos 2 ∷ pos 3 ∷ pos 9999 ∷ pos 10000 ∷ pos 1 ∷ [])) ∷
    -- next line from the cursor
    case (request 0 (counts 0 2 1 2 0 0) (pos 1 ∷ pos 4 ∷ pos 0 ∷ pos 1 ∷ pos 2 ∷ pos 0 ∷ pos 1 ∷ pos 1 ∷ pos 0 ∷ pos 0 ∷ negsuc 9999 ∷ negsuc 9995 ∷ pos 0 ∷ pos 5 ∷ pos 9 ∷ pos 1 ∷ pos 4 ∷ pos 0 ∷ pos 0 ∷ pos 3 ∷ pos 5 ∷ pos 1 ∷ pos 3 ∷ pos 0 ∷ pos 1 ∷ pos 3 ∷ pos 0 ∷ pos 1 ∷ pos 1 ∷ pos 0 ∷ pos 0 ∷ negsuc 0 ∷ pos 1 ∷ pos 0 ∷ negsuc 9999 ∷ negsuc 9996 ∷ []) 30 52 48)
    (answered (negsuc 0 ∷ pos 3 ∷ negsuc 9995 ∷ negsuc 9993 ∷ pos 0 ∷ pos 1 ∷ pos 2 ∷ negsuc 9999 ∷ negsuc 9995 ∷ pos 0 ∷ pos 5 ∷ pos 9 ∷ negsuc 9995 ∷ negsuc 9991 ∷ pos 0 ∷ pos 3 ∷ pos 5 ∷ negsuc 9994 ∷ negsuc 9991 ∷ pos 0 ∷ negsuc 0 ∷ pos 2 ∷ negsuc 9993 ∷ negsuc 9992 ∷ pos 0 ∷ negsuc 0 ∷ pos 1 ∷ negsuc 9999 ∷ negsuc 9996 ∷ pos 2 ∷ []) (counts 1 2 7 10000 0 0) (negsuc 9999 ∷ negsuc 0 ∷ pos 1 ∷ pos 1 ∷ negsuc 9999 ∷ pos 1 ∷ pos 2 ∷ pos 2 ∷ negsuc 9998 ∷ negsuc 0 ∷ pos 1 ∷ pos 1 ∷ negsuc 9998 ∷ pos 1 ∷ pos 2 ∷ pos 2 ∷ negsuc 9997 ∷ negsuc 0 ∷ pos 1 ∷ pos 1 ∷ negsuc 9997 ∷ pos 1 ∷ pos 2 ∷ pos 2 ∷ negsuc 9996 ∷ pos 1 ∷ pos 2 ∷ pos 2 ∷ negsuc 9995 ∷ negsuc 0 ∷ pos 3 ∷ pos 2 ∷ negsuc 9995 ∷ pos 5 ∷ pos 9 ∷ pos 2 ∷ negsuc 9994 ∷ negsuc 0 ∷ pos 9 ∷ pos 2 ∷ negsuc 9993 ∷ negsuc 0 ∷ pos 2 ∷ pos 2 ∷ negsuc 9993 ∷ pos 3 ∷ pos 9 ∷ pos 2 ∷ negsuc 9992 ∷ pos 3 ∷ pos 9 ∷ pos 2 ∷ []) (negsuc 0 ∷ negsuc 9999 ∷ negsuc 9996 ∷ pos 1 ∷ negsuc 0 ∷ negsuc 9995 ∷ negsuc 9992 ∷ pos 2 ∷ pos 0 ∷ negsuc 9999 ∷ negsuc 9996 ∷ pos 1 ∷ pos 0 ∷ negsuc 9995 ∷ negsuc 9992 ∷ pos 2 ∷ pos 1 ∷ negsuc 9999 ∷ negsuc 9992 ∷ pos 2 ∷ pos 2 ∷ negsuc 9995 ∷ negsuc 9993 ∷ pos 2 ∷ pos 3 ∷ negsuc 9994 ∷ negsuc 9991 ∷ pos 2 ∷ pos 4 ∷ negsuc 9994 ∷ negsuc 9991 ∷ pos 2 ∷ pos 5 ∷ negsuc 9995 ∷ negsuc 9991 ∷ pos 2 ∷ pos 6 ∷ negsuc 9995 ∷ negsuc 9991 ∷ pos 2 ∷ pos 7 ∷ negsuc 9995 ∷ negsuc 9991 ∷ pos 2 ∷ pos 8 ∷ negsuc 9995 ∷ negsuc 9991 ∷ pos 2 ∷ [])) ∷
    -- 5 before 4
    case (request 2 (counts 0 1 1 0 2 1) (pos 1 ∷ pos 3 ∷ pos 0 ∷ pos 0 ∷ pos 2 ∷ pos 5 ∷ pos 0 ∷ pos 10000 ∷ pos 10002 ∷ pos 0 ∷ negsuc 0 ∷ pos 0 ∷ []) 9 17 16)
    (refused 4 0) ∷
    -- step 2 keyed on limited start
    case (request 1 (counts 0 1 0 1 1 0) (pos 0 ∷ pos 9998 ∷ pos 10001 ∷ pos 0 ∷ negsuc 0 ∷ pos 2 ∷ pos 1 ∷ pos 1 ∷ pos 0 ∷ pos 0 ∷ pos 1 ∷ pos 4 ∷ pos 0 ∷ pos 10002 ∷ pos 10004 ∷ pos 1 ∷ pos 1 ∷ pos 0 ∷ pos 0 ∷ pos 9998 ∷ pos 10001 ∷ pos 0 ∷ pos 0 ∷ pos 1 ∷ pos 0 ∷ pos 10002 ∷ pos 10005 ∷ pos 1 ∷ pos 1 ∷ pos 0 ∷ pos 0 ∷ pos 10002 ∷ pos 10004 ∷ pos 1 ∷ pos 3 ∷ pos 0 ∷ []) 30 36 12)
    (answered (pos 9998 ∷ pos 10000 ∷ negsuc 0 ∷ pos 2 ∷ pos 3 ∷ pos 0 ∷ pos 1 ∷ pos 1 ∷ pos 4 ∷ pos 0 ∷ pos 9999 ∷ pos 10000 ∷ negsuc 0 ∷ pos 0 ∷ pos 1 ∷ pos 9998 ∷ pos 10000 ∷ pos 0 ∷ pos 1 ∷ pos 3 ∷ pos 9999 ∷ pos 10000 ∷ negsuc 0 ∷ pos 0 ∷ pos 1 ∷ pos 9999 ∷ pos 10000 ∷ negsuc 0 ∷ pos 2 ∷ pos 1 ∷ []) (counts 0 1 9999 1 1 3) (negsuc 0 ∷ pos 9998 ∷ pos 9999 ∷ pos 1 ∷ negsuc 0 ∷ pos 9999 ∷ pos 10000 ∷ pos 2 ∷ pos 0 ∷ pos 9998 ∷ pos 9999 ∷ pos 1 ∷ pos 0 ∷ pos 9999 ∷ pos 10000 ∷ pos 2 ∷ pos 1 ∷ pos 0 ∷ pos 1 ∷ pos 2 ∷ pos 1 ∷ pos 9998 ∷ pos 9999 ∷ pos 1 ∷ pos 1 ∷ pos 9999 ∷ pos 10000 ∷ pos 2 ∷ pos 2 ∷ pos 0 ∷ pos 1 ∷ pos 2 ∷ pos 3 ∷ pos 0 ∷ pos 1 ∷ pos 2 ∷ []) (pos 0 ∷ pos 1 ∷ pos 4 ∷ pos 2 ∷ pos 9998 ∷ negsuc 0 ∷ pos 2 ∷ pos 1 ∷ pos 9999 ∷ negsuc 0 ∷ pos 2 ∷ pos 2 ∷ [])) ∷
    -- grid start as before step 4
    case (request 3 (counts 0 1 1 0 1 1) (pos 0 ∷ negsuc 0 ∷ pos 1 ∷ pos 1 ∷ pos 2 ∷ pos 0 ∷ pos 1 ∷ pos 2 ∷ pos 0 ∷ pos 1 ∷ pos 3 ∷ pos 0 ∷ pos 1 ∷ pos 1 ∷ pos 0 ∷ pos 0 ∷ negsuc 0 ∷ pos 2 ∷ pos 1 ∷ pos 1 ∷ pos 0 ∷ pos 1 ∷ pos 2 ∷ pos 0 ∷ []) 20 16 16)
    (answered (negsuc 0 ∷ pos 1 ∷ pos 0 ∷ pos 2 ∷ pos 0 ∷ negsuc 0 ∷ pos 1 ∷ pos 0 ∷ pos 3 ∷ pos 4 ∷ pos 1 ∷ pos 2 ∷ negsuc 0 ∷ pos 2 ∷ pos 0 ∷ pos 2 ∷ pos 3 ∷ negsuc 0 ∷ pos 1 ∷ pos 0 ∷ []) (counts 1 1 2 1 1 2) (negsuc 0 ∷ pos 1 ∷ pos 3 ∷ pos 2 ∷ pos 0 ∷ negsuc 0 ∷ pos 3 ∷ pos 2 ∷ pos 1 ∷ negsuc 0 ∷ pos 2 ∷ pos 2 ∷ pos 2 ∷ negsuc 0 ∷ pos 1 ∷ pos 2 ∷ []) (negsuc 0 ∷ pos 0 ∷ pos 3 ∷ pos 2 ∷ pos 0 ∷ pos 0 ∷ pos 3 ∷ pos 2 ∷ pos 1 ∷ negsuc 0 ∷ pos 2 ∷ pos 2 ∷ pos 2 ∷ negsuc 0 ∷ pos 1 ∷ pos 2 ∷ [])) ∷
    -- dense cursor read afresh
    case (request 3 (counts 0 4 1 1 2 0) (pos 1 ∷ pos 1 ∷ pos 0 ∷ pos 0 ∷ negsuc 19999 ∷ negsuc 19995 ∷ pos 1 ∷ pos 3 ∷ pos 0 ∷ pos 1 ∷ pos 4 ∷ pos 0 ∷ pos 1 ∷ pos 4 ∷ pos 0 ∷ pos 0 ∷ negsuc 2 ∷ negsuc 1 ∷ []) 15 20 32)
    (answered (pos 0 ∷ pos 1 ∷ negsuc 9999 ∷ negsuc 9998 ∷ pos 1 ∷ pos 1 ∷ pos 4 ∷ negsuc 9999 ∷ negsuc 9995 ∷ pos 0 ∷ pos 0 ∷ pos 4 ∷ negsuc 2 ∷ negsuc 1 ∷ pos 0 ∷ []) (counts 0 4 1 10000 2 0) (negsuc 9999 ∷ pos 0 ∷ pos 4 ∷ pos 2 ∷ negsuc 9998 ∷ pos 1 ∷ pos 4 ∷ pos 2 ∷ negsuc 9997 ∷ pos 1 ∷ pos 4 ∷ pos 2 ∷ negsuc 9996 ∷ pos 1 ∷ pos 4 ∷ pos 2 ∷ negsuc 2 ∷ pos 0 ∷ pos 4 ∷ pos 2 ∷ []) (pos 0 ∷ negsuc 9999 ∷ negsuc 9998 ∷ pos 2 ∷ pos 0 ∷ negsuc 2 ∷ negsuc 1 ∷ pos 2 ∷ pos 1 ∷ negsuc 9999 ∷ negsuc 9995 ∷ pos 2 ∷ pos 1 ∷ negsuc 2 ∷ negsuc 1 ∷ pos 2 ∷ pos 2 ∷ negsuc 9999 ∷ negsuc 9995 ∷ pos 2 ∷ pos 2 ∷ negsuc 2 ∷ negsuc 1 ∷ pos 2 ∷ pos 3 ∷ negsuc 9999 ∷ negsuc 9995 ∷ pos 2 ∷ pos 3 ∷ negsuc 2 ∷ negsuc 1 ∷ pos 2 ∷ [])) ∷
    -- overwide never further
    case (request 1 (counts 0 0 1 1 0 1) (pos 1 ∷ pos 2 ∷ pos 0 ∷ pos 1 ∷ pos 1 ∷ pos 0 ∷ pos 1 ∷ pos 2 ∷ pos 0 ∷ pos 1 ∷ pos 3 ∷ pos 0 ∷ pos 1 ∷ pos 1 ∷ pos 0 ∷ pos 0 ∷ negsuc 0 ∷ pos 0 ∷ pos 1 ∷ pos 2 ∷ pos 0 ∷ pos 1 ∷ pos 1 ∷ pos 0 ∷ []) 20 12 20)
    (answered (pos 0 ∷ pos 2 ∷ negsuc 0 ∷ pos 0 ∷ pos 0 ∷ pos 1 ∷ pos 3 ∷ negsuc 0 ∷ pos 2 ∷ pos 4 ∷ pos 3 ∷ pos 4 ∷ negsuc 0 ∷ pos 0 ∷ pos 0 ∷ pos 3 ∷ pos 5 ∷ pos 0 ∷ pos 1 ∷ pos 0 ∷ []) (counts 0 0 5 1 0 2) (negsuc 0 ∷ pos 0 ∷ pos 4 ∷ pos 2 ∷ pos 0 ∷ pos 1 ∷ pos 5 ∷ pos 2 ∷ pos 1 ∷ pos 1 ∷ pos 3 ∷ pos 2 ∷ []) (pos 0 ∷ negsuc 0 ∷ pos 0 ∷ pos 2 ∷ pos 1 ∷ negsuc 0 ∷ pos 2 ∷ pos 2 ∷ pos 2 ∷ negsuc 0 ∷ pos 2 ∷ pos 2 ∷ pos 3 ∷ negsuc 0 ∷ pos 1 ∷ pos 2 ∷ pos 4 ∷ pos 0 ∷ pos 1 ∷ pos 2 ∷ [])) ∷
    -- span with b
    case (request 1 (counts 0 1 1 1 2 1) (pos 1 ∷ pos 3 ∷ pos 0 ∷ pos 0 ∷ pos 1 ∷ pos 4 ∷ pos 1 ∷ pos 2 ∷ pos 1 ∷ pos 1 ∷ pos 1 ∷ pos 0 ∷ []) 10 16 20)
    (refused 6 1) ∷
    -- fixed lines: a from -20001
    case (request 2 (counts 0 0 1 0 1 0) (pos 0 ∷ negsuc 20000 ∷ pos 3 ∷ pos 1 ∷ pos 2 ∷ pos 0 ∷ pos 1 ∷ pos 2 ∷ pos 0 ∷ pos 0 ∷ pos 10000 ∷ pos 10002 ∷ pos 1 ∷ pos 1 ∷ pos 0 ∷ pos 1 ∷ pos 1 ∷ pos 0 ∷ pos 0 ∷ pos 1 ∷ pos 4 ∷ pos 0 ∷ pos 10001 ∷ pos 10003 ∷ pos 0 ∷ pos 2 ∷ pos 4 ∷ pos 1 ∷ pos 2 ∷ pos 0 ∷ pos 1 ∷ pos 2 ∷ pos 0 ∷ pos 0 ∷ pos 10001 ∷ pos 10002 ∷ []) 30 8 32)
    (refused 6 0) ∷
    -- step 2 keyed on every row spanned
    case (request 1 (counts 1 3 0 1 0 0) (pos 0 ∷ pos 0 ∷ pos 3 ∷ pos 1 ∷ pos 3 ∷ pos 0 ∷ pos 0 ∷ pos 1 ∷ pos 4 ∷ pos 1 ∷ pos 1 ∷ pos 0 ∷ pos 0 ∷ negsuc 0 ∷ pos 1 ∷ pos 0 ∷ negsuc 9997 ∷ negsuc 9994 ∷ pos 1 ∷ pos 1 ∷ pos 0 ∷ pos 1 ∷ pos 3 ∷ pos 0 ∷ pos 0 ∷ pos 0 ∷ pos 3 ∷ pos 1 ∷ pos 1 ∷ pos 0 ∷ pos 1 ∷ pos 3 ∷ pos 0 ∷ pos 0 ∷ negsuc 10001 ∷ negsuc 9998 ∷ []) 30 36 48)
    (answered (pos 0 ∷ pos 3 ∷ negsuc 9994 ∷ negsuc 9991 ∷ pos 0 ∷ pos 1 ∷ pos 4 ∷ negsuc 9997 ∷ negsuc 9996 ∷ pos 0 ∷ negsuc 0 ∷ pos 1 ∷ negsuc 9997 ∷ negsuc 9994 ∷ pos 2 ∷ negsuc 0 ∷ pos 0 ∷ negsuc 9994 ∷ negsuc 9991 ∷ pos 0 ∷ pos 0 ∷ pos 3 ∷ negsuc 9991 ∷ negsuc 9990 ∷ pos 0 ∷ pos 0 ∷ pos 3 ∷ negsuc 9999 ∷ negsuc 9998 ∷ pos 1 ∷ []) (counts 1 3 1 10000 0 0) (negsuc 9999 ∷ pos 0 ∷ pos 3 ∷ pos 2 ∷ negsuc 9997 ∷ negsuc 0 ∷ pos 1 ∷ pos 1 ∷ negsuc 9997 ∷ pos 1 ∷ pos 4 ∷ pos 2 ∷ negsuc 9996 ∷ negsuc 0 ∷ pos 1 ∷ pos 1 ∷ negsuc 9995 ∷ negsuc 0 ∷ pos 1 ∷ pos 1 ∷ negsuc 9994 ∷ negsuc 0 ∷ pos 3 ∷ pos 2 ∷ negsuc 9993 ∷ negsuc 0 ∷ pos 3 ∷ pos 2 ∷ negsuc 9992 ∷ negsuc 0 ∷ pos 3 ∷ pos 2 ∷ negsuc 9991 ∷ pos 0 ∷ pos 3 ∷ pos 2 ∷ []) (negsuc 0 ∷ negsuc 9997 ∷ negsuc 9994 ∷ pos 1 ∷ negsuc 0 ∷ negsuc 9994 ∷ negsuc 9991 ∷ pos 2 ∷ pos 0 ∷ negsuc 9999 ∷ negsuc 9998 ∷ pos 2 ∷ pos 0 ∷ negsuc 9997 ∷ negsuc 9994 ∷ pos 1 ∷ pos 0 ∷ negsuc 9994 ∷ negsuc 9990 ∷ pos 2 ∷ pos 1 ∷ negsuc 9999 ∷ negsuc 9998 ∷ pos 2 ∷ pos 1 ∷ negsuc 9997 ∷ negsuc 9996 ∷ pos 2 ∷ pos 1 ∷ negsuc 9994 ∷ negsuc 9990 ∷ pos 2 ∷ pos 2 ∷ negsuc 9999 ∷ negsuc 9998 ∷ pos 2 ∷ pos 2 ∷ negsuc 9997 ∷ negsuc 9996 ∷ pos 2 ∷ pos 2 ∷ negsuc 9994 ∷ negsuc 9990 ∷ pos 2 ∷ pos 3 ∷ negsuc 9997 ∷ negsuc 9996 ∷ pos 2 ∷ [])) ∷
    -- 6 before 5
    case (request 0 (counts 0 1 1 0 0 1) (pos 0 ∷ pos 3 ∷ pos 5 ∷ pos 1 ∷ pos 2 ∷ pos 0 ∷ pos 1 ∷ pos 2 ∷ pos 1 ∷ pos 1 ∷ pos 3 ∷ pos 0 ∷ []) 10 20 2)
    (refused 5 0) ∷
    -- limited area tested, pairs; cursor keeps limited primary end
    case (request 1 (counts 0 1 1 0 0 1) (pos 1 ∷ pos 2 ∷ pos 0 ∷ pos 0 ∷ pos 10001 ∷ pos 10004 ∷ pos 1 ∷ pos 2 ∷ pos 0 ∷ pos 0 ∷ negsuc 19999 ∷ negsuc 19995 ∷ pos 0 ∷ pos 4 ∷ pos 7 ∷ pos 1 ∷ pos 4 ∷ pos 0 ∷ pos 1 ∷ pos 1 ∷ pos 0 ∷ pos 1 ∷ pos 2 ∷ pos 0 ∷ pos 1 ∷ pos 3 ∷ pos 0 ∷ pos 1 ∷ pos 1 ∷ pos 0 ∷ []) 25 24 32)
    (answered (pos 0 ∷ pos 2 ∷ pos 9999 ∷ pos 10000 ∷ pos 1 ∷ pos 1 ∷ pos 3 ∷ negsuc 9999 ∷ negsuc 9998 ∷ pos 1 ∷ pos 4 ∷ pos 7 ∷ pos 0 ∷ pos 4 ∷ pos 0 ∷ pos 1 ∷ pos 2 ∷ negsuc 9999 ∷ negsuc 9998 ∷ pos 1 ∷ pos 1 ∷ pos 4 ∷ negsuc 9999 ∷ negsuc 9998 ∷ pos 1 ∷ []) (counts 0 1 6 10000 0 10000) (negsuc 9999 ∷ pos 1 ∷ pos 4 ∷ pos 2 ∷ pos 0 ∷ pos 4 ∷ pos 7 ∷ pos 2 ∷ pos 1 ∷ pos 4 ∷ pos 7 ∷ pos 2 ∷ pos 2 ∷ pos 4 ∷ pos 7 ∷ pos 2 ∷ pos 3 ∷ pos 4 ∷ pos 7 ∷ pos 2 ∷ pos 9999 ∷ pos 0 ∷ pos 2 ∷ pos 2 ∷ []) (pos 0 ∷ pos 9999 ∷ pos 10000 ∷ pos 2 ∷ pos 1 ∷ negsuc 9999 ∷ negsuc 9998 ∷ pos 2 ∷ pos 1 ∷ pos 9999 ∷ pos 10000 ∷ pos 2 ∷ pos 2 ∷ negsuc 9999 ∷ negsuc 9998 ∷ pos 2 ∷ pos 3 ∷ negsuc 9999 ∷ negsuc 9998 ∷ pos 2 ∷ pos 4 ∷ pos 0 ∷ pos 4 ∷ pos 2 ∷ pos 5 ∷ pos 0 ∷ pos 4 ∷ pos 2 ∷ pos 6 ∷ pos 0 ∷ pos 4 ∷ pos 2 ∷ [])) ∷
    -- 3 before 1
    case (request 4 (counts 0 3 1 0 2 9999) (pos 0 ∷ pos 2 ∷ pos 4 ∷ pos 1 ∷ pos 1 ∷ pos 0 ∷ pos 0 ∷ pos 3 ∷ pos 4 ∷ pos 1 ∷ pos 2 ∷ pos 0 ∷ pos 1 ∷ pos 3 ∷ pos 0 ∷ pos 1 ∷ pos 1 ∷ pos 0 ∷ pos 1 ∷ pos 1 ∷ pos 0 ∷ pos 1 ∷ pos 3 ∷ pos 0 ∷ pos 0 ∷ pos 2 ∷ pos 5 ∷ pos 1 ∷ pos 3 ∷ pos 0 ∷ pos 1 ∷ pos 3 ∷ pos 0 ∷ pos 1 ∷ pos 3 ∷ pos 0 ∷ []) 30 48 32)
    (refused 1 0) ∷
    -- 3 before 1
    case (request 4 (counts 1 1 1 0 2 9999) (pos 1 ∷ pos 3 ∷ pos 0 ∷ pos 1 ∷ pos 1 ∷ pos 0 ∷ pos 0 ∷ negsuc 9998 ∷ negsuc 9996 ∷ pos 1 ∷ pos 3 ∷ pos 0 ∷ pos 0 ∷ negsuc 9997 ∷ negsuc 9995 ∷ pos 0 ∷ pos 3 ∷ pos 4 ∷ pos 1 ∷ pos 2 ∷ pos 0 ∷ pos 0 ∷ pos 3 ∷ pos 6 ∷ []) 20 32 36)
    (refused 1 0) ∷
    -- limited area tested, pairs
    case (request 1 (counts 1 1 0 2 3 1) (pos 1 ∷ pos 2 ∷ pos 0 ∷ pos 0 ∷ negsuc 19999 ∷ negsuc 19995 ∷ pos 1 ∷ pos 1 ∷ pos 0 ∷ pos 1 ∷ pos 2 ∷ pos 0 ∷ pos 0 ∷ pos 10003 ∷ pos 10004 ∷ pos 1 ∷ pos 4 ∷ pos 0 ∷ []) 15 20 12)
    (answered (pos 0 ∷ pos 2 ∷ negsuc 9999 ∷ negsuc 9998 ∷ pos 1 ∷ pos 0 ∷ pos 1 ∷ negsuc 9999 ∷ negsuc 9998 ∷ pos 1 ∷ pos 9999 ∷ pos 10000 ∷ negsuc 1 ∷ pos 2 ∷ pos 1 ∷ []) (counts 1 1 9999 10000 3 1) (negsuc 9999 ∷ pos 0 ∷ pos 2 ∷ pos 2 ∷ negsuc 1 ∷ pos 9999 ∷ pos 10000 ∷ pos 2 ∷ negsuc 0 ∷ pos 9999 ∷ pos 10000 ∷ pos 2 ∷ pos 0 ∷ pos 9999 ∷ pos 10000 ∷ pos 2 ∷ pos 1 ∷ pos 9999 ∷ pos 10000 ∷ pos 2 ∷ []) (pos 0 ∷ negsuc 9999 ∷ negsuc 9998 ∷ pos 2 ∷ pos 1 ∷ negsuc 9999 ∷ negsuc 9998 ∷ pos 2 ∷ pos 9999 ∷ negsuc 1 ∷ pos 2 ∷ pos 2 ∷ [])) ∷
    -- 5 before 4
    case (request 3 (counts 1 1 1 1 1 1) (pos 0 ∷ pos 1 ∷ pos 3 ∷ pos 0 ∷ pos 9997 ∷ pos 9998 ∷ pos 1 ∷ pos 2 ∷ pos 0 ∷ pos 0 ∷ pos 10000 ∷ pos 10001 ∷ pos 1 ∷ pos 3 ∷ pos 0 ∷ pos 1 ∷ pos 3 ∷ pos 0 ∷ pos 1 ∷ pos 1 ∷ pos 0 ∷ pos 0 ∷ pos 10001 ∷ pos 10004 ∷ pos 1 ∷ pos 3 ∷ pos 0 ∷ pos 0 ∷ pos 9999 ∷ pos 10002 ∷ pos 1 ∷ pos 1 ∷ pos 0 ∷ pos 1 ∷ pos 2 ∷ pos 0 ∷ []) 29 28 2)
    (refused 4 0) ∷
    -- 8 before 7
    case (request 2 (counts 1 0 1 1 0 1) (pos 0 ∷ pos 3 ∷ pos 6 ∷ pos 0 ∷ pos 9998 ∷ pos 10001 ∷ pos 0 ∷ pos 2 ∷ pos 3 ∷ pos 0 ∷ pos 10002 ∷ pos 10003 ∷ []) 10 4 8)
    (refused 7 0) ∷
    -- smallest end
    case (request 0 (counts 0 2 1 0 3 1) (pos 1 ∷ pos 1 ∷ pos 0 ∷ pos 0 ∷ negsuc 9999 ∷ negsuc 9998 ∷ pos 1 ∷ pos 2 ∷ pos 0 ∷ pos 1 ∷ pos 2 ∷ pos 0 ∷ pos 0 ∷ pos 3 ∷ pos 5 ∷ pos 0 ∷ negsuc 9999 ∷ negsuc 9996 ∷ pos 1 ∷ pos 3 ∷ pos 0 ∷ pos 0 ∷ negsuc 10000 ∷ negsuc 9998 ∷ pos 1 ∷ pos 1 ∷ pos 0 ∷ pos 0 ∷ negsuc 9999 ∷ negsuc 9998 ∷ pos 0 ∷ negsuc 0 ∷ pos 1 ∷ pos 1 ∷ pos 2 ∷ pos 0 ∷ []) 30 28 40)
    (answered (pos 0 ∷ pos 1 ∷ negsuc 9999 ∷ negsuc 9998 ∷ pos 0 ∷ pos 1 ∷ pos 3 ∷ negsuc 9999 ∷ negsuc 9997 ∷ pos 0 ∷ pos 3 ∷ pos 5 ∷ negsuc 9999 ∷ negsuc 9996 ∷ pos 2 ∷ pos 5 ∷ pos 8 ∷ negsuc 9999 ∷ negsuc 9998 ∷ pos 1 ∷ pos 8 ∷ pos 9 ∷ negsuc 9999 ∷ negsuc 9998 ∷ pos 0 ∷ negsuc 0 ∷ pos 1 ∷ negsuc 9998 ∷ negsuc 9996 ∷ pos 0 ∷ []) (counts 1 2 7 10000 3 1) (negsuc 9999 ∷ pos 0 ∷ pos 3 ∷ pos 2 ∷ negsuc 9999 ∷ pos 3 ∷ pos 5 ∷ pos 1 ∷ negsuc 9999 ∷ pos 5 ∷ pos 9 ∷ pos 2 ∷ negsuc 9998 ∷ negsuc 0 ∷ pos 3 ∷ pos 2 ∷ negsuc 9998 ∷ pos 3 ∷ pos 5 ∷ pos 1 ∷ negsuc 9997 ∷ negsuc 0 ∷ pos 1 ∷ pos 2 ∷ negsuc 9997 ∷ pos 3 ∷ pos 5 ∷ pos 1 ∷ []) (negsuc 0 ∷ negsuc 9998 ∷ negsuc 9996 ∷ pos 2 ∷ pos 0 ∷ negsuc 9999 ∷ negsuc 9996 ∷ pos 2 ∷ pos 1 ∷ negsuc 9999 ∷ negsuc 9997 ∷ pos 2 ∷ pos 2 ∷ negsuc 9999 ∷ negsuc 9997 ∷ pos 2 ∷ pos 3 ∷ negsuc 9999 ∷ negsuc 9996 ∷ pos 1 ∷ pos 4 ∷ negsuc 9999 ∷ negsuc 9996 ∷ pos 1 ∷ pos 5 ∷ negsuc 9999 ∷ negsuc 9998 ∷ pos 2 ∷ pos 6 ∷ negsuc 9999 ∷ negsuc 9998 ∷ pos 2 ∷ pos 7 ∷ negsuc 9999 ∷ negsuc 9998 ∷ pos 2 ∷ pos 8 ∷ negsuc 9999 ∷ negsuc 9998 ∷ pos 2 ∷ [])) ∷
    -- smallest end
    case (request 1 (counts 0 2 0 0 1 1) (pos 0 ∷ negsuc 10001 ∷ negsuc 9998 ∷ pos 0 ∷ pos 0 ∷ pos 2 ∷ pos 0 ∷ negsuc 10001 ∷ negsuc 9998 ∷ pos 1 ∷ pos 2 ∷ pos 0 ∷ pos 0 ∷ negsuc 9997 ∷ negsuc 9995 ∷ pos 1 ∷ pos 1 ∷ pos 0 ∷ pos 0 ∷ negsuc 9999 ∷ negsuc 9996 ∷ pos 1 ∷ pos 1 ∷ pos 0 ∷ pos 0 ∷ negsuc 9997 ∷ negsuc 9994 ∷ pos 0 ∷ pos 3 ∷ pos 6 ∷ pos 0 ∷ negsuc 9999 ∷ negsuc 9997 ∷ pos 1 ∷ pos 1 ∷ pos 0 ∷ []) 30 40 40)
    (answered (negsuc 9999 ∷ negsuc 9998 ∷ pos 0 ∷ pos 2 ∷ pos 3 ∷ negsuc 9999 ∷ negsuc 9998 ∷ pos 2 ∷ pos 4 ∷ pos 1 ∷ negsuc 9997 ∷ negsuc 9995 ∷ pos 0 ∷ pos 1 ∷ pos 0 ∷ negsuc 9999 ∷ negsuc 9996 ∷ pos 6 ∷ pos 7 ∷ pos 0 ∷ negsuc 9997 ∷ negsuc 9994 ∷ pos 3 ∷ pos 6 ∷ pos 2 ∷ negsuc 9999 ∷ negsuc 9997 ∷ pos 7 ∷ pos 8 ∷ pos 0 ∷ []) (counts 10000 2 0 0 1 7) (pos 0 ∷ negsuc 9999 ∷ negsuc 9998 ∷ pos 1 ∷ pos 0 ∷ negsuc 9997 ∷ negsuc 9995 ∷ pos 2 ∷ pos 1 ∷ negsuc 9999 ∷ negsuc 9998 ∷ pos 1 ∷ pos 2 ∷ negsuc 9999 ∷ negsuc 9998 ∷ pos 2 ∷ pos 3 ∷ negsuc 9999 ∷ negsuc 9998 ∷ pos 2 ∷ pos 3 ∷ negsuc 9997 ∷ negsuc 9994 ∷ pos 1 ∷ pos 4 ∷ negsuc 9997 ∷ negsuc 9994 ∷ pos 1 ∷ pos 5 ∷ negsuc 9997 ∷ negsuc 9994 ∷ pos 1 ∷ pos 6 ∷ negsuc 9999 ∷ negsuc 9996 ∷ pos 2 ∷ pos 7 ∷ negsuc 9999 ∷ negsuc 9997 ∷ pos 2 ∷ []) (negsuc 9999 ∷ pos 0 ∷ pos 2 ∷ pos 1 ∷ negsuc 9999 ∷ pos 2 ∷ pos 4 ∷ pos 2 ∷ negsuc 9999 ∷ pos 6 ∷ pos 8 ∷ pos 2 ∷ negsuc 9998 ∷ pos 6 ∷ pos 8 ∷ pos 2 ∷ negsuc 9997 ∷ pos 0 ∷ pos 1 ∷ pos 2 ∷ negsuc 9997 ∷ pos 3 ∷ pos 6 ∷ pos 1 ∷ negsuc 9997 ∷ pos 6 ∷ pos 7 ∷ pos 2 ∷ negsuc 9996 ∷ pos 0 ∷ pos 1 ∷ pos 2 ∷ negsuc 9996 ∷ pos 3 ∷ pos 6 ∷ pos 1 ∷ negsuc 9995 ∷ pos 3 ∷ pos 6 ∷ pos 1 ∷ [])) ∷
    -- newest end
    case (request 1 (counts 0 2 1 1 3 0) (pos 1 ∷ pos 1 ∷ pos 0 ∷ pos 0 ∷ pos 0 ∷ pos 2 ∷ pos 0 ∷ negsuc 10000 ∷ negsuc 9997 ∷ pos 0 ∷ pos 1 ∷ pos 2 ∷ pos 0 ∷ negsuc 9997 ∷ negsuc 9996 ∷ pos 1 ∷ pos 1 ∷ pos 0 ∷ pos 0 ∷ negsuc 10000 ∷ negsuc 9998 ∷ pos 1 ∷ pos 3 ∷ pos 0 ∷ pos 0 ∷ negsuc 10001 ∷ negsuc 10000 ∷ pos 1 ∷ pos 1 ∷ pos 0 ∷ pos 0 ∷ negsuc 9999 ∷ negsuc 9996 ∷ pos 1 ∷ pos 1 ∷ pos 0 ∷ []) 30 36 28)
    (answered (negsuc 9997 ∷ negsuc 9996 ∷ pos 0 ∷ pos 2 ∷ pos 0 ∷ negsuc 9999 ∷ negsuc 9997 ∷ pos 1 ∷ pos 2 ∷ pos 3 ∷ negsuc 9997 ∷ negsuc 9996 ∷ negsuc 0 ∷ pos 0 ∷ pos 0 ∷ negsuc 9999 ∷ negsuc 9998 ∷ pos 2 ∷ pos 5 ∷ pos 1 ∷ negsuc 9999 ∷ negsuc 9998 ∷ negsuc 0 ∷ pos 0 ∷ pos 1 ∷ negsuc 9999 ∷ negsuc 9996 ∷ pos 5 ∷ pos 6 ∷ pos 0 ∷ []) (counts 10000 2 1 1 3 3) (negsuc 0 ∷ negsuc 9999 ∷ negsuc 9998 ∷ pos 2 ∷ negsuc 0 ∷ negsuc 9997 ∷ negsuc 9996 ∷ pos 2 ∷ pos 0 ∷ negsuc 9997 ∷ negsuc 9996 ∷ pos 2 ∷ pos 1 ∷ negsuc 9999 ∷ negsuc 9997 ∷ pos 1 ∷ pos 1 ∷ negsuc 9997 ∷ negsuc 9996 ∷ pos 2 ∷ pos 2 ∷ negsuc 9999 ∷ negsuc 9998 ∷ pos 2 ∷ pos 3 ∷ negsuc 9999 ∷ negsuc 9998 ∷ pos 2 ∷ pos 4 ∷ negsuc 9999 ∷ negsuc 9998 ∷ pos 2 ∷ pos 5 ∷ negsuc 9999 ∷ negsuc 9996 ∷ pos 2 ∷ []) (negsuc 9999 ∷ negsuc 0 ∷ pos 0 ∷ pos 2 ∷ negsuc 9999 ∷ pos 1 ∷ pos 2 ∷ pos 1 ∷ negsuc 9999 ∷ pos 2 ∷ pos 6 ∷ pos 2 ∷ negsuc 9998 ∷ pos 1 ∷ pos 2 ∷ pos 1 ∷ negsuc 9998 ∷ pos 5 ∷ pos 6 ∷ pos 2 ∷ negsuc 9997 ∷ negsuc 0 ∷ pos 2 ∷ pos 2 ∷ negsuc 9997 ∷ pos 5 ∷ pos 6 ∷ pos 2 ∷ [])) ∷
    []

pub told_apart : map (λ (c : Case). outcome c.given) telling ≡ map (λ (c : Case). c.expected) telling
unfolding limited pressed grown line_from first_line among pair_from places_to first_pair free tile_of laid_on records_on short judged put choose1 step1 ends_on largest largest_or start2 choose2 step2 moved start4 choose_line overwide pair_of untested choose_pair step4 each begin4 last4 walk halves good_half bad_from placing_of item_of counts_good length_good checked setting_of up_to queue run_of numbers answer_of answers_of told outcome clamp_to span
told_apart = refl
