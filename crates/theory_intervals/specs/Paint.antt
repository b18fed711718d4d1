-- The list that the paint of an area makes of a list. It is the only list that keeps the rules and has the cells that the paint asks for (`unique`,
-- `paint_list_keeps` and `paint_list_cell` in proofs/), so nothing here need be believed beyond that; it is here to be counted and to compute.
--
-- A record is a run of points in reading order, by track and then by line along it: from the point (track, start) to the point (track, end). So the
-- tracks are one line, and to paint a track of an area is to paint one run on it.
use Rattle.std.specs.Prelude.{Bool, true, false, cond, List, [], ◌∷◌, map, ℕ, eqb}
use Rattle.theory_intervals.specs.Records.{Rec, rec, Area, area}

-- a run gives its state to the points from its first to its second, the second left out
pub data Run (X : Type 0) : Type 0 where
  run : X → X → ℕ → Run X

module _ {X : Type 0} (ltb : X → X → Bool) where
  -- a run in front of a list: one run with the list's first where they touch and have one state
  abbrev pub put : X → X → ℕ → List (Run X) → List (Run X)
  put a b s [] = run a b s ∷ []
  put a b s (run c d u ∷ rs) = cond (ltb b c) (run a b s ∷ run c d u ∷ rs) (cond (eqb s u) (run a d s ∷ rs) (run a b s ∷ run c d u ∷ rs))

  -- the points from b on
  abbrev pub after : X → List (Run X) → List (Run X)
  after b [] = []
  after b (run c d s ∷ rs) = let later = after b rs in cond (ltb b d) (run (cond (ltb b c) c b) d s ∷ rs) later

  -- the points below a, in front of the list k
  abbrev pub before : X → List (Run X) → List (Run X) → List (Run X)
  before a [] k = k
  before a (run c d s ∷ rs) k = let joined = put c (cond (ltb a d) a d) s (before a rs k) in cond (ltb c a) joined k

  -- the points from a to b get the state s
  abbrev pub paint : List (Run X) → X → X → ℕ → List (Run X)
  paint rs a b s = before a rs (put a b s (after b rs))

-- ---- points in reading order: a track, and a line along it

pub data Point (Z : Type 0) : Type 0 where
  pt : Z → Z → Point Z

abbrev pub track_of : {Z : Type 0} → Point Z → Z
track_of (pt t p) = t

abbrev pub pos_of : {Z : Type 0} → Point Z → Z
pos_of (pt t p) = p

abbrev pub to_run : {Z : Type 0} → Rec Z → Run (Point Z)
to_run (rec t a b s) = run (pt t a) (pt t b) s

abbrev pub to_rec : {Z : Type 0} → Run (Point Z) → Rec Z
to_rec (run x y s) = rec (track_of x) (pos_of x) (pos_of y) s

module _ {Z : Type 0} (ltb : Z → Z → Bool) where
  abbrev pub lex : Point Z → Point Z → Bool
  lex (pt t p) (pt u q) = cond (ltb t u) true (cond (ltb u t) false (ltb p q))

module _ {Z : Type 0} (ltb : Z → Z → Bool) where
  -- the tracks of the list, one after another
  abbrev pub paint_tracks : List Z → Z → Z → ℕ → List (Run (Point Z)) → List (Run (Point Z))
  paint_tracks [] a b s rs = rs
  paint_tracks (t ∷ ts) a b s rs = paint (lex ltb) (paint_tracks ts a b s rs) (pt t a) (pt t b) s

  -- `span t₁ t₂` is the list of the tracks from t₁ to t₂, t₂ left out
  module _ (span : Z → Z → List Z) where
    abbrev pub paint_list : Area Z → List (Rec Z) → List (Rec Z)
    paint_list (area t₁ t₂ a b s) rs = map to_rec (paint_tracks (span t₁ t₂) a b s (map to_run rs))

    -- the list that a history of paints makes of an empty one, newest first
    abbrev pub painted : List (Area Z) → List (Rec Z)
    painted [] = []
    painted (x ∷ h) = paint_list x (painted h)
