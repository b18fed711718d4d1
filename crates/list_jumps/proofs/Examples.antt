-- Worked boards of document 01 on the list calls, computed by the definitions.
use Rattle.std.specs.Prelude.{None, Some}
use mathlib.Core.Path.{◌≡◌, refl}
use mathlib.Core.List.{List, [], ◌∷◌}
use lib.IntN.{ℤ, pos, negsuc}
use Rattle.theory_intervals.specs.OverInt.{span, decode}
use Rattle.list_rules.specs.Kept.{kept_of}
use Rattle.list_jumps.specs.Calls.{collision_jump, occupied_jump}
use Rattle.list_tracks.specs.Tracks.{records_of_track}

-- 11: records 2..5 and 7..9
abbrev two : List ℤ
two = pos 0 ∷ pos 2 ∷ pos 5 ∷ pos 1 ∷ pos 0 ∷ pos 7 ∷ pos 9 ∷ pos 1 ∷ pos 0 ∷ pos 0 ∷ pos 0 ∷ pos 0 ∷ []

pub record Table : Type 0 where
  pub kept : kept_of two ≡ Some 2
  pub to_5 : collision_jump (decode two) (pos 0) (pos 1) (pos 0) (pos 3) ≡ Some (pos 5)
  pub to_9 : collision_jump (decode two) (pos 0) (pos 1) (pos 0) (pos 8) ≡ Some (pos 9)
  pub free : collision_jump (decode two) (pos 0) (pos 1) (pos 5) (pos 7) ≡ None
  pub past : occupied_jump (decode two) (negsuc 2) (pos 4) ≡ Some (pos 1)
  pub none : occupied_jump (decode two) (pos 1) (pos 4) ≡ None
  -- touching records of one state are no two records; of unlike states they are
  pub alike : kept_of (pos 0 ∷ pos 0 ∷ pos 2 ∷ pos 1 ∷ pos 0 ∷ pos 2 ∷ pos 4 ∷ pos 1 ∷ []) ≡ None
  pub unlike : kept_of (pos 0 ∷ pos 0 ∷ pos 2 ∷ pos 1 ∷ pos 0 ∷ pos 2 ∷ pos 4 ∷ pos 2 ∷ []) ≡ Some 2
  -- a state that only looks like one, and numbers behind a zero
  pub minus : kept_of (pos 0 ∷ pos 0 ∷ pos 2 ∷ negsuc 0 ∷ []) ≡ None
  pub behind : kept_of (pos 0 ∷ pos 0 ∷ pos 0 ∷ pos 0 ∷ pos 0 ∷ pos 0 ∷ pos 2 ∷ pos 1 ∷ []) ≡ None
  pub columns : records_of_track [] two 0 (pos 0) ≡ pos 0 ∷ pos 2 ∷ pos 5 ∷ pos 1 ∷ pos 0 ∷ pos 7 ∷ pos 9 ∷ pos 1 ∷ []
  pub rows : records_of_track [] two 1 (pos 0) ≡ []

pub table : Table
unfolding kept_of span
table = record { kept = refl; to_5 = refl; to_9 = refl; free = refl; past = refl; none = refl; alike = refl; unlike = refl; minus = refl; behind = refl; columns = refl; rows = refl }
