-- A loop over the items: what is left to do, from the board now, is what the whole step does.
use mathlib.Core.Path.{◌≡◌, refl}
use mathlib.Core.List.{List, [], ◌∷◌, ◌++◌}
use Prim.Native.Nat.{ℕ}
use Rattle.theory_walk.specs.declared.Placement.{Placement}
use Rattle.theory_walk.specs.Axis.{other, on}
use Rattle.theory_walk.specs.Walk.{Queued, Board, Setting, Run, going, stopped, and_then, each}

pub each_next : (w : Setting) (f : ℕ → Placement → Placement → Board → Run) (q : Queued) (qs : List Queued) (t b : Board)
    → f q.index (on w.axis q.item) (on (other w.axis) q.item) t ≡ going b → each w f (q ∷ qs) t ≡ each w f qs b
unfolding each
each_next w f q qs t b e = rw e

pub each_stop : (w : Setting) (f : ℕ → Placement → Placement → Board → Run) (q : Queued) (qs : List Queued) (t : Board) (n i : ℕ)
    → f q.index (on w.axis q.item) (on (other w.axis) q.item) t ≡ stopped n i → each w f (q ∷ qs) t ≡ stopped n i
unfolding each
each_stop w f q qs t n i e = rw e

pub each_end : (w : Setting) (f : ℕ → Placement → Placement → Board → Run) (t : Board) → each w f [] t ≡ going t
unfolding each
each_end w f t = refl

-- a step over two lists of items, one after the other
pub each_append : (w : Setting) (f : ℕ → Placement → Placement → Board → Run) (xs ys : List Queued) (t : Board) → each w f (xs ++ ys) t ≡ and_then (each w f xs t) (λ b. each w f ys b)
unfolding each
each_append w f [] ys t = refl
each_append w f (q ∷ qs) ys t = go (f q.index (on w.axis q.item) (on (other w.axis) q.item) t) (λ b. each_append w f qs ys b)
  where
    go : (r : Run) → ((b : Board) → each w f (qs ++ ys) b ≡ and_then (each w f qs b) (λ c. each w f ys c))
        → and_then r (λ b. each w f (qs ++ ys) b) ≡ and_then (and_then r (λ b. each w f qs b)) (λ c. each w f ys c)
    go (going b) h = h b
    go (stopped n i) h = refl
