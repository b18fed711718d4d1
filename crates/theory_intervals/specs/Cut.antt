-- How painting one track changes a list: the runs that the paint reaches are replaced by a few, and the others stay. These are the words by which
-- the functions that paint in place say what they do; that they paint is proved (`is_cut`, `split`, `count`, `sw_all` in proofs/).
use Rattle.std.specs.Prelude.{Bool, true, false, not, cond, ◌||◌, List, [], ◌∷◌, ◌++◌, ℕ, eqb, leb, ℤ, length}
use Rattle.std.specs.Int.Signed.{lt_z}
use Rattle.theory_intervals.specs.Paint.{Run, run, paint, Point, pt, lex, paint_tracks}

module _ {X : Type 0} (ltb : X → X → Bool) where
  -- a run that ends at q with state v may stand before one that starts at x with state s
  abbrev pub gapb : X → ℕ → X → ℕ → Bool
  gapb q v x s = cond (ltb q x) true (cond (ltb x q) false (not (eqb v s)))

  -- what is left of the first run below x, and where the painted run starts
  abbrev pub lrem : X → ℕ → List (Run X) → List (Run X)
  lrem x s [] = []
  lrem x s (run p q v ∷ ms) = cond (ltb p x) (cond (eqb v s) [] (run p x v ∷ [])) []

  abbrev pub lstart : X → ℕ → List (Run X) → X
  lstart x s [] = x
  lstart x s (run p q v ∷ ms) = cond (ltb p x) (cond (eqb v s) p x) x

  -- what is left of the last run from y on, and where the painted run ends
  abbrev pub rtail : X → ℕ → List (Run X) → List (Run X)
  rtail y s [] = []
  rtail y s (run p q v ∷ []) = cond (ltb y q) (cond (eqb s v) [] (run y q v ∷ [])) []
  rtail y s (r ∷ r' ∷ ms) = rtail y s (r' ∷ ms)

  abbrev pub rend : X → ℕ → List (Run X) → X
  rend y s [] = y
  rend y s (run p q v ∷ []) = cond (ltb y q) (cond (eqb s v) q y) y
  rend y s (r ∷ r' ∷ ms) = rend y s (r' ∷ ms)

module _ {X : Type 0} (ltb : X → X → Bool) where
  -- what the runs ms become that the paint of x..y with the state s reaches
  abbrev pub new : X → X → ℕ → List (Run X) → List (Run X)
  new x y s ms = lrem ltb x s ms ++ (run (lstart ltb x s ms) (rend ltb y s ms) s ∷ rtail ltb y s ms)

  -- the paint of x..y with the state s reaches a run
  abbrev pub meets : X → X → ℕ → X → X → ℕ → Bool
  meets x y s p q v = cond (gapb ltb q v x s) false (not (gapb ltb y s p v))

-- the runs that it reaches
abbrev pub hit : {X : Type 0} → (X → X → Bool) → X → X → ℕ → List (Run X) → List (Run X)
hit ltb x y s [] = []
hit ltb x y s (run p q v ∷ rs) = cond (meets ltb x y s p q v) (run p q v ∷ hit ltb x y s rs) (hit ltb x y s rs)

-- ---- at the integers: the lines a..b of track t, or of some tracks, with the state s

abbrev pub lx : Point ℤ → Point ℤ → Bool
lx = lex lt_z

abbrev pub Rn : Type 0
Rn = Run (Point ℤ)

abbrev pub P : ℤ → ℤ → ℕ → ℤ → List Rn → List Rn
P a b s t rs = paint lx rs (pt t a) (pt t b) s

abbrev pub PT : ℤ → ℤ → ℕ → List ℤ → List Rn → List Rn
PT a b s ts rs = paint_tracks lt_z ts a b s rs

-- the runs that the paint of track t reaches, and what they become
abbrev pub H : ℤ → ℤ → ℕ → ℤ → List Rn → List Rn
H a b s t rs = hit lx (pt t a) (pt t b) s rs

abbrev pub N : ℤ → ℤ → ℕ → ℤ → List Rn → List Rn
N a b s t rs = new lx (pt t a) (pt t b) s (H a b s t rs)

-- a sweep over the tracks, last first: each is painted, or, with `all` false, each on which the runs get no more
abbrev pub sw : Bool → ℤ → ℤ → ℕ → List ℤ → List Rn → List Rn
sw all a b s [] rs = rs
sw all a b s (t ∷ ts) rs =
    let B = sw all a b s ts rs in
    cond (all || leb (length (N a b s t B)) (length (H a b s t B))) (P a b s t B) B
