-- The definitions at small lists: each line computes.
use mathlib.Core.Path.{◌≡◌, refl}
use mathlib.Core.Bool.{true, false}
use mathlib.Core.List.{[], ◌∷◌}
use Prim.Native.Nat.{ℕ}
use lib.IntN.{ℤ, pos, negsuc}
use Rattle.theory_intervals.specs.Records.{Rec, rec, Area, area}
use Rattle.theory_intervals.specs.Lists.{rules, kept, used, good_length, on_track}
use Rattle.theory_intervals.specs.OverInt.{span, cell_of, keeps, state_at, fit, painted, decode, is_flat, flat}

-- a record and an area of small numbers
abbrev r : ℕ → ℕ → ℕ → ℕ → Rec ℤ
r t a b s = rec (pos t) (pos a) (pos b) s

abbrev w : ℕ → ℕ → ℕ → ℕ → ℕ → Area ℤ
w t u a b s = area (pos t) (pos u) (pos a) (pos b) s

-- ---- the rules: records that touch and differ in state; a gap; two tracks
good_list : keeps (r 1 0 4 1 ∷ r 1 4 6 2 ∷ r 1 7 9 2 ∷ r 3 0 1 1 ∷ []) ≡ true
good_list = refl

below_zero : keeps (rec (negsuc 1) (negsuc 4) (negsuc 2) 2 ∷ rec (negsuc 0) (negsuc 6) (pos 3) 1 ∷ r 0 0 1 1 ∷ []) ≡ true
below_zero = refl

touching_alike : keeps (r 1 0 4 1 ∷ r 1 4 6 1 ∷ []) ≡ false
touching_alike = refl

overlapping : keeps (r 1 0 4 1 ∷ r 1 3 6 2 ∷ []) ≡ false
overlapping = refl

out_of_order : keeps (r 1 5 6 1 ∷ r 1 0 3 2 ∷ []) ≡ false
out_of_order = refl

tracks_out_of_order : keeps (r 2 0 3 2 ∷ r 1 5 6 1 ∷ []) ≡ false
tracks_out_of_order = refl

empty_record : keeps (r 1 5 5 1 ∷ []) ≡ false
empty_record = refl

no_state : keeps (r 1 5 6 0 ∷ []) ≡ false
no_state = refl

third_state : keeps (r 1 5 6 3 ∷ []) ≡ false
third_state = refl

-- a track may end where the next begins with the same state
next_track : keeps (r 1 0 4 1 ∷ r 2 4 6 1 ∷ []) ≡ true
next_track = refl

-- ---- cells
first_cell : cell_of (r 1 2 4 1 ∷ []) (pos 1) (pos 2) ≡ 1
first_cell = refl

end_left_out : cell_of (r 1 2 4 1 ∷ []) (pos 1) (pos 4) ≡ 0
end_left_out = refl

other_track : cell_of (r 1 2 4 1 ∷ []) (pos 2) (pos 3) ≡ 0
other_track = refl

newest_wins : state_at (w 0 2 3 5 1 ∷ w 1 3 0 4 2 ∷ []) (pos 1) (pos 3) ≡ 1
newest_wins = refl

no_cells : fit (w 0 2 3 3 1) ≡ false
no_cells = refl

-- ---- painting: two that touch, a hole in the one record, the hole filled again
two : painted (w 0 1 2 4 1 ∷ w 0 1 0 2 1 ∷ []) ≡ r 0 0 4 1 ∷ []
unfolding span
two = refl

hole : painted (w 0 1 1 3 2 ∷ w 0 1 2 4 1 ∷ w 0 1 0 2 1 ∷ []) ≡ r 0 0 1 1 ∷ r 0 1 3 2 ∷ r 0 3 4 1 ∷ []
unfolding span
hole = refl

filled : painted (w 0 1 1 3 1 ∷ w 0 1 1 3 2 ∷ w 0 1 2 4 1 ∷ w 0 1 0 2 1 ∷ []) ≡ r 0 0 4 1 ∷ []
unfolding span
filled = refl

over_all : painted (w 0 3 0 9 2 ∷ w 0 1 3 5 1 ∷ w 2 5 1 2 1 ∷ []) ≡ r 0 0 9 2 ∷ r 1 0 9 2 ∷ r 2 0 9 2 ∷ r 3 1 2 1 ∷ r 4 1 2 1 ∷ []
unfolding span
over_all = refl

across_zero : painted (area (negsuc 0) (pos 1) (negsuc 2) (pos 5) 1 ∷ area (pos 0) (pos 2) (negsuc 4) (negsuc 0) 2 ∷ [])
    ≡ rec (negsuc 0) (negsuc 2) (pos 5) 1 ∷ rec (pos 0) (negsuc 4) (negsuc 2) 2 ∷ rec (pos 0) (negsuc 2) (pos 5) 1 ∷ rec (pos 1) (negsuc 4) (negsuc 0) 2 ∷ []
unfolding span
across_zero = refl

-- ---- flat lists
flat_one : flat 8 (r 0 0 9 1 ∷ []) ≡ pos 0 ∷ pos 0 ∷ pos 9 ∷ pos 1 ∷ pos 0 ∷ pos 0 ∷ pos 0 ∷ pos 0 ∷ []
flat_one = refl

unflat : decode (pos 0 ∷ pos 0 ∷ pos 9 ∷ pos 1 ∷ pos 0 ∷ pos 0 ∷ pos 0 ∷ pos 0 ∷ []) ≡ r 0 0 9 1 ∷ []
unflat = refl

not_flat : is_flat (pos 0 ∷ pos 0 ∷ pos 9 ∷ pos 1 ∷ pos 0 ∷ pos 5 ∷ pos 0 ∷ pos 0 ∷ []) ≡ false
not_flat = refl

-- ---- a list with all its rules: tracks -10000..9999, lines -10000..10000, zeros behind
to_the_edge : rules (rec (negsuc 9999) (negsuc 9999) (pos 10000) 1 ∷ rec (pos 9999) (pos 9999) (pos 10000) 2 ∷ []) ≡ true
to_the_edge = refl

track_too_low : rules (rec (negsuc 10000) (pos 0) (pos 1) 1 ∷ []) ≡ false
track_too_low = refl

track_too_high : rules (rec (pos 10000) (pos 0) (pos 1) 1 ∷ []) ≡ false
track_too_high = refl

start_too_low : rules (rec (pos 0) (negsuc 10000) (pos 1) 1 ∷ []) ≡ false
start_too_low = refl

end_too_high : rules (rec (pos 0) (pos 0) (pos 10001) 1 ∷ []) ≡ false
end_too_high = refl

one_kept : kept (pos 0 ∷ pos 0 ∷ pos 9 ∷ pos 1 ∷ pos 0 ∷ pos 0 ∷ pos 0 ∷ pos 0 ∷ []) ≡ true
one_kept = refl

one_used : used (pos 0 ∷ pos 0 ∷ pos 9 ∷ pos 1 ∷ pos 0 ∷ pos 0 ∷ pos 0 ∷ pos 0 ∷ []) ≡ 1
one_used = refl

-- a place that is not zero behind the records; a record behind unused places
not_kept : kept (pos 0 ∷ pos 0 ∷ pos 9 ∷ pos 1 ∷ pos 0 ∷ pos 5 ∷ pos 0 ∷ pos 0 ∷ []) ≡ false
not_kept = refl

behind_unused : kept (pos 0 ∷ pos 0 ∷ pos 0 ∷ pos 0 ∷ pos 0 ∷ pos 0 ∷ pos 9 ∷ pos 1 ∷ []) ≡ false
behind_unused = refl

state_below_zero : kept (pos 0 ∷ pos 0 ∷ pos 9 ∷ negsuc 0 ∷ []) ≡ false
state_below_zero = refl

no_places : good_length [] ≡ true
no_places = refl

three_places : good_length (pos 0 ∷ pos 0 ∷ pos 0 ∷ []) ≡ false
three_places = refl

of_one_track : on_track (pos 1) (r 0 0 9 2 ∷ r 1 0 3 2 ∷ r 1 5 9 2 ∷ r 3 1 2 1 ∷ []) ≡ r 1 0 3 2 ∷ r 1 5 9 2 ∷ []
of_one_track = refl
