-- Occupancy lists as lists of records, the state that a record or a painted area gives to a cell, and the list rules. Z is the type of tracks and
-- lines, given with its test `ltb` for 'below'; `ok` tests which numbers are states.
use Rattle.std.specs.Prelude.{Bool, true, not, cond, ◌&&◌, ◌||◌, List, [], ◌∷◌, ℕ, eqb}

-- "records of four numbers: track line, start, end, state"
pub data Rec (Z : Type 0) : Type 0 where
  rec : Z → Z → Z → ℕ → Rec Z

-- "An area on a list is two track lines and two lines along the track": tracks from the first to the second, lines from the third to the fourth, the
-- second and the fourth left out; and the state that it is painted with
pub data Area (Z : Type 0) : Type 0 where
  area : Z → Z → Z → Z → ℕ → Area Z

module _ {Z : Type 0} (ltb : Z → Z → Bool) where
  -- neither is below the other
  abbrev pub same : Z → Z → Bool
  same x y = not (ltb x y) && not (ltb y x)

  -- a ≤ x < b
  abbrev pub between : Z → Z → Z → Bool
  between a b x = not (ltb x a) && ltb x b

  -- "A record gives its state to the cells of its own track from its start to its end; a cell in no record has none": none is 0
  abbrev pub cell_of : List (Rec Z) → Z → Z → ℕ
  cell_of [] t p = 0
  cell_of (rec u a b s ∷ rs) t p = cond (same t u && between a b p) s (cell_of rs t p)

  -- the state of a cell after a history of paints, newest first: "later paint overwrites"
  abbrev pub state_at : List (Area Z) → Z → Z → ℕ
  state_at [] t p = 0
  state_at (area t₁ t₂ a b s ∷ h) t p = cond (between t₁ t₂ t && between a b p) s (state_at h t p)

  -- a record on track u from c with state v may stand behind one on track t to b with state s: "Sorted by track, then start. Within a track, records
  -- are disjoint, and touching ones differ in state"
  abbrev pub follows : Z → Z → ℕ → Z → Z → ℕ → Bool
  follows t b s u c v = ltb t u || (same t u && (ltb b c || (same b c && not (eqb s v))))

  module _ (ok : ℕ → Bool) where
    -- the rules of a list that stands behind a record on track t to b with state s
    abbrev pub behind : Z → Z → ℕ → List (Rec Z) → Bool
    behind t b s [] = true
    behind t b s (rec u c d v ∷ rs) = follows t b s u c v && (ltb c d && (ok v && behind u d v rs))

    -- the rules of a list: each record has "start < end" and a state, and may stand behind the one before it
    abbrev pub keeps : List (Rec Z) → Bool
    keeps [] = true
    keeps (rec t a b s ∷ rs) = ltb a b && (ok s && behind t b s rs)

    -- an area that has cells, and a state to give them
    abbrev pub fit : Area Z → Bool
    fit (area t₁ t₂ a b s) = ltb t₁ t₂ && (ltb a b && ok s)

    abbrev pub fits : List (Area Z) → Bool
    fits [] = true
    fits (x ∷ h) = fit x && fits h
