-- Document 01, "Boards worked through (starred: one small table proved)": a row is what the definitions give and what the document says, both as
-- numbers; one statement proves the table.
use mathlib.Core.Path.{◌≡◌, refl}
use mathlib.Core.Bool.{cond}
use mathlib.Core.List.{List, [], ◌∷◌, ◌++◌, map}
use Prim.Native.Nat.{ℕ, ◌*◌, ◌/◌}
use lib.ListN.{length, replicate}
use lib.IntN.{ℤ, pos, negsuc}
use Rattle.grid_coordinates.specs.Line.{clamp_to, lines, limited, pressed, origin_zero_of}
use Rattle.theory_intervals.specs.Records.{Area, area}
use Rattle.theory_intervals.specs.OverInt.{span}
use Rattle.grid_track_counts.specs.declared.TrackCounts.{TrackCounts}
use Rattle.grid_track_counts.specs.Counts.{grown, counts_good}
use Rattle.theory_walk.specs.Search.{line_from, first_line, among, pair_from, places_to, first_pair}
use Rattle.theory_walk.specs.Walk as W
use Rattle.theory_walk.specs.Walk.{tile_of, laid_on, records_on, short, judged, put, choose1, step1, ends_on, largest, largest_or, start2, choose2, step2, moved, start4, choose_line, overwide, pair_of, untested, choose_pair, step4, each, begin4, last4, walk}
use Rattle.theory_walk.specs.Request as Q
use Rattle.theory_walk.specs.Request.{halves, good_half, bad_from, item_of, length_good, checked, setting_of, up_to, queue, run_of, numbers, answer_of, answers_of, outcome, answers_left, rows_left, columns_left}
use Rattle.placing_request.specs.Items.{request_of}
use Rattle.placing_run.specs.Placing.{placing_of}
use Rattle.hoarbale_placing.specs.Placing.{placing_number, placing_index, placing_columns, placing_rows}
use Rattle.hoarbale_lines.specs.Lines.{origin_zero_answer, zero_line}
use Rattle.hoarbale_lists.specs.Lists.{checked_of, paint_answer, paint_left, collision_answer, jump_found, jump_line}
use Rattle.hoarbale_placing.specs.Series.{series}
use Rattle.refusals.specs.Numbers.{number_of}

pub record Row : Type 0 where
  pub given : List ℤ
  pub told : List ℤ

abbrev pub three : TrackCounts → List ℤ
three t = pos t.negative ∷ pos t.explicit ∷ pos t.positive ∷ []

-- case 2: lines limited, and whether that changed one (1)
unfoldable pub limiting : ℤ → ℤ → List ℤ → Row
limiting a b told = let l = limited (lines a b) in record { given = l.start ∷ l.end ∷ pos (cond (pressed (lines a b)) 1 0) ∷ []; told = told }

-- case 3: a CSS line with explicit count 3: the refusal's number and the origin-zero line
unfoldable pub css : ℤ → List ℤ → Row
css n told = let r = origin_zero_answer n 3 in record { given = pos (number_of r) ∷ zero_line r ∷ []; told = told }

-- an area of track 0
abbrev pub on : ℕ → ℕ → ℕ → Area ℤ
on a b s = area (pos 0) (pos 1) (pos a) (pos b) s

-- case 10: the last area of a series on a list of n numbers: the refusal's number and the list
unfoldable pub painting : ℕ → List (Area ℤ) → Area ℤ → List ℤ → Row
painting n xs x told = let l = series n xs in record { given = pos (number_of (paint_answer l x)) ∷ paint_left l x; told = told }

-- case 11: the collision jump over track 0: the refusal's number, whether there is a line to go on from (1), and that line
unfoldable pub jumping : List ℤ → ℤ → ℤ → List ℤ → Row
jumping l a b told = let r = collision_answer l (pos 0) (pos 1) a b in record { given = pos (number_of r) ∷ pos (cond (jump_found r) 1 0) ∷ jump_line r ∷ []; told = told }

-- cases 1, 4, 5, 7, 8 and 9: flow; columns; rows; items, six numbers each; lengths of the row and the column list, all buffers zero: the refusal's number
-- and index, the columns and the rows that come back, and what is left of the answer buffer, of the row list and of the column list. Where the document
-- names some of these numbers, the others are what its rules make of them
unfoldable pub placed : ℕ → TrackCounts → TrackCounts → List ℤ → ℕ → ℕ → List ℤ → Row
placed f columns rows items n m told =
    let answers = replicate (5 * (length items / 6)) (pos 0) in
    let q = request_of f columns rows items (length answers) m n in
    let o = outcome q in
    let r = placing_of o in
    record {
      given = pos (placing_number r) ∷ pos (placing_index r) ∷ three (placing_columns r) ++ three (placing_rows r) ++ answers_left q answers o ++ rows_left q (replicate n (pos 0)) o ++ columns_left q (replicate m (pos 0)) o;
      told = told;
    }

abbrev pub counts : ℕ → ℕ → ℕ → TrackCounts
counts a b c = record { negative = a; explicit = b; positive = c }

-- three numbers of an item, for its columns and then for its rows: fixed lines, or a span; and an item of two spans
abbrev pub fixed : ℤ → ℤ → List ℤ
fixed a b = pos 0 ∷ a ∷ b ∷ []

abbrev pub tracks : ℕ → List ℤ
tracks n = pos 1 ∷ pos n ∷ pos 0 ∷ []

abbrev pub spans : ℕ → ℕ → List ℤ
spans a b = tracks a ++ tracks b

-- five numbers of an answer, and four of a record
abbrev pub five : ℤ → ℤ → ℤ → ℤ → ℕ → List ℤ
five a b c d m = a ∷ b ∷ c ∷ d ∷ pos m ∷ []

abbrev pub four : ℤ → ℤ → ℤ → ℕ → List ℤ
four t a b s = t ∷ a ∷ b ∷ pos s ∷ []

-- "Records 2..5 and 7..9"
abbrev pub taken : List ℤ
taken = pos 0 ∷ pos 2 ∷ pos 5 ∷ pos 1 ∷ pos 0 ∷ pos 7 ∷ pos 9 ∷ pos 1 ∷ []

abbrev pub free : List ℤ
free = pos 0 ∷ pos 0 ∷ pos 0 ∷ pos 0 ∷ []

-- no refusal: number and index 0, then the counts
abbrev pub fine : TrackCounts → TrackCounts → List ℤ
fine columns rows = pos 0 ∷ pos 0 ∷ three columns ++ three rows

unfoldable pub table : List Row
table =
    -- 1
    placed 0 (counts 1 2 3) (counts 0 0 0) ([]) 4 4 (fine (counts 1 2 3) (counts 0 0 0) ++ free ++ free)
    -- 2
    ∷ limiting (negsuc 19999) (negsuc 19998) (negsuc 9999 ∷ negsuc 9998 ∷ pos 1 ∷ [])
    ∷ limiting (pos 9999) (pos 10001) (pos 9999 ∷ pos 10000 ∷ pos 1 ∷ [])
    ∷ limiting (negsuc 11999) (pos 12000) (negsuc 9999 ∷ pos 10000 ∷ pos 1 ∷ [])
    -- 3
    ∷ css (pos 1) (pos 0 ∷ pos 0 ∷ [])
    ∷ css (pos 4) (pos 0 ∷ pos 3 ∷ [])
    ∷ css (negsuc 0) (pos 0 ∷ pos 3 ∷ [])
    ∷ css (negsuc 4) (pos 0 ∷ negsuc 0 ∷ [])
    ∷ css (pos 32767) (pos 0 ∷ pos 10000 ∷ [])
    ∷ css (pos 0) (pos 11 ∷ pos 0 ∷ [])
    -- 4
    ∷ placed 0 (counts 0 2 0) (counts 0 2 0) (spans 1 1 ++ spans 1 1 ++ spans 1 1) 12 12
    (fine (counts 0 2 0) (counts 0 2 0)
    ++ five (pos 0) (pos 1) (pos 0) (pos 1) 0 ++ five (pos 1) (pos 2) (pos 0) (pos 1) 0 ++ five (pos 0) (pos 1) (pos 1) (pos 2) 0
    ++ four (pos 0) (pos 0) (pos 2) 2 ++ four (pos 1) (pos 0) (pos 1) 2 ++ free
    ++ four (pos 0) (pos 0) (pos 2) 2 ++ four (pos 1) (pos 0) (pos 1) 2 ++ free)
    -- 5, and "under flow 2"
    ∷ placed 0 (counts 0 3 0) (counts 0 1 0) (spans 2 1 ++ spans 2 1 ++ spans 1 1) 12 16
    (fine (counts 0 3 0) (counts 0 1 1)
    ++ five (pos 0) (pos 2) (pos 0) (pos 1) 0 ++ five (pos 0) (pos 2) (pos 1) (pos 2) 0 ++ five (pos 2) (pos 3) (pos 1) (pos 2) 0
    ++ four (pos 0) (pos 0) (pos 2) 2 ++ four (pos 1) (pos 0) (pos 3) 2 ++ free
    ++ four (pos 0) (pos 0) (pos 2) 2 ++ four (pos 1) (pos 0) (pos 2) 2 ++ four (pos 2) (pos 1) (pos 2) 2 ++ free)
    ∷ placed 2 (counts 0 3 0) (counts 0 1 0) (spans 2 1 ++ spans 2 1 ++ spans 1 1) 12 16
    (fine (counts 0 3 0) (counts 0 1 1)
    ++ five (pos 0) (pos 2) (pos 0) (pos 1) 0 ++ five (pos 0) (pos 2) (pos 1) (pos 2) 0 ++ five (pos 2) (pos 3) (pos 0) (pos 1) 0
    ++ four (pos 0) (pos 0) (pos 3) 2 ++ four (pos 1) (pos 0) (pos 2) 2 ++ free
    ++ four (pos 0) (pos 0) (pos 2) 2 ++ four (pos 1) (pos 0) (pos 2) 2 ++ four (pos 2) (pos 0) (pos 1) 2 ++ free)
    -- 7
    ∷ placed 0 (counts 0 2 0) (counts 0 1 0) (fixed (pos 0) (pos 1) ++ fixed (pos 0) (pos 1) ++ spans 3 1) 8 16
    (fine (counts 0 2 1) (counts 0 1 0)
    ++ five (pos 0) (pos 1) (pos 0) (pos 1) 2 ++ five (pos 0) (pos 3) (pos 0) (pos 1) 4
    ++ four (pos 0) (pos 0) (pos 3) 2 ++ free
    ++ four (pos 0) (pos 0) (pos 1) 2 ++ four (pos 1) (pos 0) (pos 1) 2 ++ four (pos 2) (pos 0) (pos 1) 2 ++ free)
    -- 8
    ∷ placed 0 (counts 0 4 0) (counts 0 2 0)
    (fixed (pos 0) (pos 1) ++ fixed (pos 0) (pos 1) ++ tracks 1 ++ fixed (pos 0) (pos 2) ++ tracks 1 ++ fixed (pos 1) (pos 2) ++ tracks 1 ++ fixed (pos 0) (pos 1)) 16 20
    (fine (counts 0 4 0) (counts 0 2 0)
    ++ five (pos 0) (pos 1) (pos 0) (pos 1) 2 ++ five (pos 1) (pos 2) (pos 0) (pos 2) 0 ++ five (pos 0) (pos 1) (pos 1) (pos 2) 0 ++ five (pos 2) (pos 3) (pos 0) (pos 1) 0
    ++ four (pos 0) (pos 0) (pos 1) 1 ++ four (pos 0) (pos 1) (pos 3) 2 ++ four (pos 1) (pos 0) (pos 2) 2 ++ free
    ++ four (pos 0) (pos 0) (pos 1) 1 ++ four (pos 0) (pos 1) (pos 2) 2 ++ four (pos 1) (pos 0) (pos 2) 2 ++ four (pos 2) (pos 0) (pos 1) 2 ++ free)
    -- 9
    ∷ placed 2 (counts 0 1 0) (counts 0 0 0) (fixed (negsuc 1) (negsuc 0) ++ tracks 1 ++ spans 1 1) 12 12
    (fine (counts 2 1 0) (counts 0 0 1)
    ++ five (negsuc 1) (negsuc 0) (pos 0) (pos 1) 0 ++ five (pos 0) (pos 1) (pos 0) (pos 1) 0
    ++ four (pos 0) (negsuc 1) (negsuc 0) 2 ++ four (pos 0) (pos 0) (pos 1) 2 ++ free
    ++ four (negsuc 1) (pos 0) (pos 1) 2 ++ four (pos 0) (pos 0) (pos 1) 2 ++ free)
    -- 10
    ∷ painting 12 (on 0 2 1 ∷ []) (on 2 4 1) (pos 0 ∷ pos 0 ∷ pos 0 ∷ pos 4 ∷ pos 1 ∷ free ++ free)
    ∷ painting 12 (on 0 2 1 ∷ on 2 4 1 ∷ []) (on 1 3 2) (pos 0 ∷ pos 0 ∷ pos 0 ∷ pos 1 ∷ pos 1 ∷ pos 0 ∷ pos 1 ∷ pos 3 ∷ pos 2 ∷ pos 0 ∷ pos 3 ∷ pos 4 ∷ pos 1 ∷ [])
    ∷ painting 12 (on 0 2 1 ∷ on 2 4 1 ∷ on 1 3 2 ∷ []) (on 1 3 1) (pos 0 ∷ pos 0 ∷ pos 0 ∷ pos 4 ∷ pos 1 ∷ free ++ free)
    ∷ painting 8 (on 0 2 1 ∷ on 2 4 1 ∷ []) (on 1 3 2) (pos 7 ∷ pos 0 ∷ pos 0 ∷ pos 4 ∷ pos 1 ∷ free)
    ∷ painting 8 (on 0 2 1 ∷ on 2 4 1 ∷ on 1 3 2 ∷ []) (on 1 3 1) (pos 0 ∷ pos 0 ∷ pos 0 ∷ pos 4 ∷ pos 1 ∷ free)
    -- 11
    ∷ jumping taken (pos 0) (pos 3) (pos 0 ∷ pos 1 ∷ pos 5 ∷ [])
    ∷ jumping taken (pos 0) (pos 8) (pos 0 ∷ pos 1 ∷ pos 9 ∷ [])
    ∷ jumping taken (pos 5) (pos 7) (pos 0 ∷ pos 0 ∷ pos 0 ∷ [])
    ∷ []

pub agrees : map (λ (r : Row). r.given) table ≡ map (λ (r : Row). r.told) table
unfolding table limiting css placed painting jumping limited pressed clamp_to origin_zero_answer origin_zero_of checked_of paint_answer paint_left collision_answer span grown counts_good line_from first_line among pair_from places_to first_pair W.free tile_of laid_on records_on short judged put choose1 step1 ends_on largest largest_or start2 choose2 step2 moved start4 choose_line overwide pair_of untested choose_pair step4 each begin4 last4 walk halves good_half bad_from Q.placing_of item_of length_good checked setting_of up_to queue run_of numbers answer_of answers_of Q.told outcome answers_left rows_left columns_left
agrees = refl
