-- The inner words of painting an area: what a step and a sweep over its tracks require and leave. None of the promises rests on these words.
use Rattle.std.specs.Prelude.{◌≡◌, Bool, false, cond, ◌||◌, List, [], ◌∷◌, ◌++◌, ℕ, ◌+◌, ◌-◌, ◌*◌, ◌≤◌, leb, ℤ, length, drop}
use Rattle.std.specs.Int.Signed.{lt_z}
use Rattle.std.specs.Int.{w16}
use Rattle.std.proofs.Common.{of_z}
use Rattle.theory_intervals.specs.OverInt.{span}
use Rattle.theory_intervals.specs.Cut.{Rn, P, H, N, sw}
use Rattle.theory_intervals.proofs.Tracks.{K}
use Rattle.list_moves.specs.Fours.{Four, fours, Laid}
use Rattle.list_pieces.specs.Reach.{runs, Stored}

-- the records are on track t or a later one
pub data Above (t : ℤ) : List Four → Type 0 where
  nil : Above t []
  cons : {r : Four} {rs : List Four} → lt_z r.track t ≡ false → Above t rs → Above t (r ∷ rs)

-- the records 0..r, then a gap, then the records w..top: together a list of records that keeps the rules
pub record Gapped (l : List ℤ) (r w top : ℕ) : Type 0 where
  pub low : r ≤ w
  pub high : w ≤ top
  pub room : 4 * top ≤ length l
  pub keep : K (runs (fours r l ++ fours (top - w) (drop (4 * w) l)))
  pub stored : Stored (fours r l ++ fours (top - w) (drop (4 * w) l))

-- the runs of such a list
abbrev pub held : List ℤ → ℕ → ℕ → ℕ → List Rn
held l r w top = runs (fours r l ++ fours (top - w) (drop (4 * w) l))

-- one track of a sweep: with `all` false it is painted only where the runs get no more
abbrev pub stepped : Bool → ℤ → ℤ → ℕ → ℤ → List Rn → List Rn
stepped all a b s t rs = cond (all || leb (length (N a b s t rs)) (length (H a b s t rs))) (P a b s t rs) rs

-- what a step leaves of a list with the gap r..w: one with the gap r'..w', and all from w on as it was
pub record Stepped (all : Bool) (a b s t : ℤ) (l : List ℤ) (r w top : ℕ) (x : List ℤ) (r' w' : ℕ) : Type 0 where
  pub gapped : Gapped x r' w' top
  pub long : length x ≡ length l
  pub tail : drop (4 * w) x ≡ drop (4 * w) l
  pub is : held x r' w' top ≡ stepped all a b (of_z w16 s) t (held l r w top)
  pub above : Above t (fours (top - w') (drop (4 * w') x))
  pub down : w' ≤ w

-- what a step in place leaves of used records, r of them not behind the track: n records, r' of them before the track
pub record InPlace (a b s t : ℤ) (l : List ℤ) (r used : ℕ) (x : List ℤ) (r' n : ℕ) : Type 0 where
  pub gapped : Gapped x r' r' n
  pub laid : Laid x n
  pub long : length x ≡ length l
  pub is : held x r' r' n ≡ P a b (of_z w16 s) t (held l r r used)
  pub above : Above t (fours (n - r') (drop (4 * r') x))
  pub few : n ≤ used + 2

-- what a sweep requires: the records, and room up to `top`
pub record Ready (l : List ℤ) (used top : ℕ) : Type 0 where
  pub laid : Laid l used
  pub low : used ≤ top
  pub room : 4 * top ≤ length l
  pub keep : K (runs (fours used l))
  pub stored : Stored (fours used l)

-- the sweep of the tracks from any track on has at most `top` runs
pub record Roomy (all : Bool) (a b s t₁ t₂ : ℤ) (top : ℕ) (rs : List Rn) : Type 0 where
  pub at : (t : ℤ) → lt_z t t₁ ≡ false → length (sw all a b (of_z w16 s) (span t t₂) rs) ≤ top

-- what it leaves
pub record Swept (all : Bool) (a b s t₁ t₂ : ℤ) (l : List ℤ) (used : ℕ) (x : List ℤ) (n : ℕ) : Type 0 where
  pub laid : Laid x n
  pub long : length x ≡ length l
  pub is : runs (fours n x) ≡ sw all a b (of_z w16 s) (span t₁ t₂) (runs (fours used l))
  pub stored : Stored (fours n x)

-- of the first n records the last k are on tracks from t on
pub record Tail (l : List ℤ) (n k : ℕ) (t : ℤ) : Type 0 where
  pub few : k ≤ n
  pub above : Above t (fours k (drop (4 * (n - k)) l))
