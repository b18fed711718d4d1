-- The list call of document 01 that gives the records of a track.
use Rattle.std.specs.Prelude.{◌≡◌, cond, List, [], ◌∷◌, ℕ, suc, ◌+◌, ◌*◌, ◌≤◌, eqb, length, take, drop, ℤ, Option, Some, None}
use Rattle.std.specs.Int.Signed.{lt_z}
use Rattle.theory_intervals.specs.Records.{Rec, rec}
use Rattle.theory_intervals.specs.OverInt.{encode, decode}
use Rattle.theory_intervals.specs.Lists.{recs, good_length, on_track}
use Rattle.list_rules.specs.Kept.{kept_of}

-- ---- "Records of a track: axis 0 column list, 1 row list"

-- "the part of the named list holding that track's records", of a list for which the rules check gave this answer
abbrev pub part_of : List ℤ → ℤ → Option ℕ → List ℤ
part_of l t (Some n) = encode (on_track t (recs n l))
part_of l t None = []

-- "Empty if the track has none, .. or the named list's length or records break the rules"
abbrev pub track_of : List ℤ → ℤ → List ℤ
track_of l t = cond (good_length l) (part_of l t (kept_of l)) []

-- "Empty if .. the axis is not 0 or 1"
abbrev pub records_of_track : List ℤ → List ℤ → ℕ → ℤ → List ℤ
records_of_track rows cols axis t = cond (eqb axis 0) (track_of cols t) (cond (eqb axis 1) (track_of rows t) [])

-- ---- where the part stands in the named list, for a caller that cannot be given a part

-- how many records are on tracks before t
abbrev pub before : ℤ → List (Rec ℤ) → ℕ
before t [] = 0
before t (rec u a b s ∷ rs) = cond (lt_z u t) (suc (before t rs)) (before t rs)

-- the place of its first number: behind the records of the tracks before t, or 0 where it is empty
abbrev pub start_of : ℤ → List (Rec ℤ) → List ℤ → ℕ
start_of t rs [] = 0
start_of t rs (z ∷ part) = 4 * before t rs

-- a part that holds the records of track t is the `count` numbers of l from the place `start` on
pub record Stands (l : List ℤ) (t : ℤ) (part : List ℤ) (start count : ℕ) : Type 0 where
  pub first : start ≡ start_of t (decode l) part
  pub long : count ≡ length part
  pub inside : start + count ≤ length l
  pub is : take count (drop start l) ≡ part

-- the list that an axis names
abbrev pub named : List ℤ → List ℤ → ℕ → List ℤ
named rows cols axis = cond (eqb axis 0) cols rows
