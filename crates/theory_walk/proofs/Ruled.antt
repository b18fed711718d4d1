-- The walk keeps the rules of specs/Rules, and nothing else does.
use mathlib.Core.Path.{◌≡◌, refl, sym, ap, ◌∙◌}
use mathlib.Core.Bool.{Bool, true, false, cond}
use mathlib.Core.List.{List, [], ◌∷◌, ◌++◌}
use mathlib.Core.Logic.{◌⊎◌, inl, inr}
use Prim.Native.Nat.{ℕ}
use Rattle.grid_track_counts.specs.declared.TrackCounts.{TrackCounts}
use Rattle.theory_walk.specs.declared.Placement.{Placement}
use Rattle.theory_walk.specs.declared.Placement.TheVariants.{Fixed, Spanned}
use Rattle.theory_walk.specs.Axis.{col, row, other, Both, on}
use Rattle.theory_walk.specs.Search.{Place}
use Rattle.theory_walk.specs.Walk.{Queued, Board, Setting, Choice, Run, going, stopped, laid_on, short, judged, put, choose1, step1, choose2, step2, choose_line, choose_pair, step4, and_then, each, begin4, last4, walk}
use Rattle.theory_walk.specs.Rules.{Rule, Rule1, Rule2, Rule4, takes, finds, finds_line, finds_pair, lays_untested, mine1, mine2, mine4, Turn, passes, lays, full7, full8, Through, done, goes, stops, Walked, stops1, stops2, ends, Short, rows_short, columns_short, Lacks, Full, in1, in2, in4}
use Rattle.theory_walk.proofs.Tests.{clash}
use Rattle.theory_walk.proofs.FreeLaws.{Tiled, choose1_rule, choose2_rule, choose_line_rule, choose_pair_rule, rule1_only, rule2_only, rule4_line_only, rule4_pair_only}
use Rattle.theory_walk.proofs.WalkLaws.{never, stay, Kept, Growing, kept_step1, kept_step2, kept_step4, kept_begin4, kept1, kept2}
use Rattle.theory_walk.proofs.Loops.{each_next, each_stop}

-- ---- one item

module _ (w : Setting) (mine : Placement → Placement → Bool) (R : Rule) (i : ℕ) (p s : Placement) (t : Board) where
  -- a tile that keeps its rule is laid, or there is no room for it
  turn_put : (h : Choice) → R t p s h → Turn w mine R i p s t (put w i h t)
  unfolding put judged
  turn_put h k = go (short w row (laid_on i h t)) (short w col (laid_on i h t)) refl refl
    where
      go : (x y : Bool) → short w row (laid_on i h t) ≡ x → short w col (laid_on i h t) ≡ y → Turn w mine R i p s t (cond x (stopped 7 i) (cond y (stopped 8 i) (going (laid_on i h t))))
      go true y e f = full7 h k e
      go false true e f = full8 h k e f
      go false false e f = lays h k e f

  -- where only one tile keeps the rule, this is the only turn
  put_only : (h : Choice) → mine p s ≡ true → ((g : Choice) → R t p s g → h ≡ g) → {r : Run} → Turn w mine R i p s t r → put w i h t ≡ r
  unfolding put judged
  put_only h m only (passes e) = clash m e
  put_only h m only (lays g k e f) = rw (only g k, e, f)
  put_only h m only (full7 g k e) = rw (only g k, e)
  put_only h m only (full8 g k e f) = rw (only g k, e, f)

module _ (w : Setting) (i : ℕ) (t : Board) where
  pub turn1 : (p s : Placement) → Turn w mine1 (Rule1 w) i p s t (step1 w i p s t)
  unfolding step1
  turn1 (Fixed p) (Fixed s) = turn_put w mine1 (Rule1 w) i (Fixed p) (Fixed s) t (choose1 w p s t) (choose1_rule w p s t)
  turn1 (Fixed p) (Spanned m) = passes refl
  turn1 (Spanned n) (Fixed s) = passes refl
  turn1 (Spanned n) (Spanned m) = passes refl

  module _ (g : Tiled t.tiles) where
    pub turn2 : (p s : Placement) → Turn w mine2 (Rule2 w) i p s t (step2 w i p s t)
    unfolding step2
    turn2 (Fixed p) (Fixed s) = passes refl
    turn2 (Fixed p) (Spanned m) = passes refl
    turn2 (Spanned n) (Fixed s) = turn_put w mine2 (Rule2 w) i (Spanned n) (Fixed s) t (choose2 w n s t) (choose2_rule w n s t g)
    turn2 (Spanned n) (Spanned m) = passes refl

    pub turn4 : (once : Place) (p s : Placement) → Turn w mine4 (Rule4 w once) i p s t (step4 w once i p s t)
    unfolding step4
    turn4 once (Fixed p) (Fixed s) = passes refl
    turn4 once (Fixed p) (Spanned m) = turn_put w mine4 (Rule4 w once) i (Fixed p) (Spanned m) t (choose_line w once p m t) (choose_line_rule w once p m t g)
    turn4 once (Spanned n) (Fixed s) = passes refl
    turn4 once (Spanned n) (Spanned m) = turn_put w mine4 (Rule4 w once) i (Spanned n) (Spanned m) t (choose_pair w once n m t) (choose_pair_rule w once n m t g)

-- a step lays the tiles of its own items only
own1 : {w : Setting} {t : Board} {p s : Placement} {h : Choice} → Rule1 w t p s h → mine1 p s ≡ true
own1 takes = refl

own2 : {w : Setting} {t : Board} {p s : Placement} {h : Choice} → Rule2 w t p s h → mine2 p s ≡ true
own2 (finds f) = refl

own4 : {w : Setting} {once : Place} {t : Board} {p s : Placement} {h : Choice} → Rule4 w once t p s h → mine4 p s ≡ true
own4 (finds_line f) = refl
own4 (finds_pair e f) = refl
own4 (lays_untested e) = refl

pass_only : {w : Setting} {mine : Placement → Placement → Bool} {R : Rule} {i : ℕ} {p s : Placement} {t : Board} → mine p s ≡ false → ((h : Choice) → R t p s h → mine p s ≡ true)
    → {r : Run} → Turn w mine R i p s t r → going t ≡ r
pass_only m own (passes e) = refl
pass_only m own (lays h k e f) = clash (own h k) m
pass_only m own (full7 h k e) = clash (own h k) m
pass_only m own (full8 h k e f) = clash (own h k) m

module _ (w : Setting) (i : ℕ) (t : Board) where
  only1 : (p s : Placement) (r : Run) → Turn w mine1 (Rule1 w) i p s t r → step1 w i p s t ≡ r
  unfolding step1
  only1 (Fixed p) (Fixed s) r k = put_only w mine1 (Rule1 w) i (Fixed p) (Fixed s) t (choose1 w p s t) refl (λ h f. rule1_only w t p s h f) k
  only1 (Fixed p) (Spanned m) r k = pass_only refl (λ h f. own1 f) k
  only1 (Spanned n) (Fixed s) r k = pass_only refl (λ h f. own1 f) k
  only1 (Spanned n) (Spanned m) r k = pass_only refl (λ h f. own1 f) k

  module _ (g : Tiled t.tiles) where
    only2 : (p s : Placement) (r : Run) → Turn w mine2 (Rule2 w) i p s t r → step2 w i p s t ≡ r
    unfolding step2
    only2 (Fixed p) (Fixed s) r k = pass_only refl (λ h f. own2 f) k
    only2 (Fixed p) (Spanned m) r k = pass_only refl (λ h f. own2 f) k
    only2 (Spanned n) (Fixed s) r k = put_only w mine2 (Rule2 w) i (Spanned n) (Fixed s) t (choose2 w n s t) refl (λ h f. rule2_only w t n s h g f) k
    only2 (Spanned n) (Spanned m) r k = pass_only refl (λ h f. own2 f) k

    only4 : (once : Place) (p s : Placement) (r : Run) → Turn w mine4 (Rule4 w once) i p s t r → step4 w once i p s t ≡ r
    unfolding step4
    only4 once (Fixed p) (Fixed s) r k = pass_only refl (λ h f. own4 f) k
    only4 once (Fixed p) (Spanned m) r k = put_only w mine4 (Rule4 w once) i (Fixed p) (Spanned m) t (choose_line w once p m t) refl (λ h f. rule4_line_only w once t p m h g f) k
    only4 once (Spanned n) (Fixed s) r k = pass_only refl (λ h f. own4 f) k
    only4 once (Spanned n) (Spanned m) r k = put_only w mine4 (Rule4 w once) i (Spanned n) (Spanned m) t (choose_pair w once n m t) refl (λ h f. rule4_pair_only w once t n m h g f) k

-- ---- a step over the items

module _ (w : Setting) (mine : Placement → Placement → Bool) (R : Rule) (f : ℕ → Placement → Placement → Board → Run)
    (keep : (i : ℕ) (p s : Placement) (t b : Board) → Kept t → f i p s t ≡ going b → Kept b)
    (turn : (i : ℕ) (t : Board) → Kept t → (p s : Placement) → Turn w mine R i p s t (f i p s t))
    (only : (i : ℕ) (t : Board) → Kept t → (p s : Placement) (r : Run) → Turn w mine R i p s t r → f i p s t ≡ r) where
  each_through : (qs : List Queued) (t : Board) → Kept t → Through w mine R qs t (each w f qs t)
  unfolding each
  each_through [] t k = done
  each_through (q ∷ qs) t k =
      go (λ u h. each_through qs u h) (f q.index (on w.axis q.item) (on (other w.axis) q.item) t) refl
      (turn q.index t k (on w.axis q.item) (on (other w.axis) q.item))
    where
      go : ((u : Board) → Kept u → Through w mine R qs u (each w f qs u)) → (r : Run) → f q.index (on w.axis q.item) (on (other w.axis) q.item) t ≡ r
          → Turn w mine R q.index (on w.axis q.item) (on (other w.axis) q.item) t r → Through w mine R (q ∷ qs) t (and_then r (λ u. each w f qs u))
      go rest (going u) e d = goes d (rest u (keep q.index (on w.axis q.item) (on (other w.axis) q.item) t u k e))
      go rest (stopped n i) e d = stops d

  each_only : {qs : List Queued} {t : Board} {r : Run} → Kept t → Through w mine R qs t r → each w f qs t ≡ r
  unfolding each
  each_only k done = refl
  each_only k (goes {q} {qs} {t} {u} d rest) =
      let e = only q.index t k (on w.axis q.item) (on (other w.axis) q.item) (going u) d in
      each_next w f q qs t u e ∙ each_only (keep q.index (on w.axis q.item) (on (other w.axis) q.item) t u k e) rest
  each_only k (stops {q} {qs} {t} {n} {i} d) = each_stop w f q qs t n i (only q.index t k (on w.axis q.item) (on (other w.axis) q.item) (stopped n i) d)

-- ---- the whole walk

module _ (w : Setting) (qs : List Queued) where
  through1 : (t : Board) → Kept t → Through w mine1 (Rule1 w) qs t (each w (step1 w) qs t)
  through1 t k = each_through w mine1 (Rule1 w) (step1 w) (kept_step1 w) (λ i x _ p s. turn1 w i x p s) (λ i x _ p s r d. only1 w i x p s r d) qs t k

  through2 : (t : Board) → Kept t → Through w mine2 (Rule2 w) qs t (each w (step2 w) qs t)
  through2 t k = each_through w mine2 (Rule2 w) (step2 w) (kept_step2 w) (λ i x h p s. turn2 w i x h.tiles p s) (λ i x h p s r d. only2 w i x h.tiles p s r d) qs t k

  through4 : (once : Place) (t : Board) → Kept t → Through w mine4 (Rule4 w once) qs t (each w (step4 w once) qs t)
  through4 once t k = each_through w mine4 (Rule4 w once) (step4 w once) (kept_step4 w once) (λ i x h p s. turn4 w i x h.tiles once p s) (λ i x h p s r d. only4 w i x h.tiles once p s r d) qs t k

  each_only1 : {t : Board} {r : Run} → Kept t → Through w mine1 (Rule1 w) qs t r → each w (step1 w) qs t ≡ r
  each_only1 k d = each_only w mine1 (Rule1 w) (step1 w) (kept_step1 w) (λ i x _ p s. turn1 w i x p s) (λ i x _ p s r d. only1 w i x p s r d) k d

  each_only2 : {t : Board} {r : Run} → Kept t → Through w mine2 (Rule2 w) qs t r → each w (step2 w) qs t ≡ r
  each_only2 k d = each_only w mine2 (Rule2 w) (step2 w) (kept_step2 w) (λ i x h p s. turn2 w i x h.tiles p s) (λ i x h p s r d. only2 w i x h.tiles p s r d) k d

  each_only4 : (once : Place) {t : Board} {r : Run} → Kept t → Through w mine4 (Rule4 w once) qs t r → each w (step4 w once) qs t ≡ r
  each_only4 once k d = each_only w mine4 (Rule4 w once) (step4 w once) (kept_step4 w once) (λ i x h p s. turn4 w i x h.tiles once p s) (λ i x h p s r d. only4 w i x h.tiles once p s r d) k d

  module _ (growth : Both TrackCounts → Both TrackCounts) (G : Growing growth) (t : Board) (k : Kept t) where
    -- THE WALK KEEPS THE RULES
    pub walk_ruled : Walked w growth qs t (walk w growth qs t)
    unfolding walk last4
    walk_ruled = go (each w (step1 w) qs t) refl (through1 t k)
      where
        go₂ : (b₁ : Board) → Through w mine1 (Rule1 w) qs t (going b₁) → (r : Run) → Kept b₁ → each w (step2 w) qs b₁ ≡ r → Through w mine2 (Rule2 w) qs b₁ r
            → Walked w growth qs t (and_then r (λ b₂. last4 w qs (begin4 w growth b₂)))
        go₂ b₁ d₁ (going b₂) k₁ e d = ends d₁ d (through4 (begin4 w growth b₂).cursor (begin4 w growth b₂) (kept_begin4 w growth G qs b₂ (kept2 w qs b₁ b₂ k₁ e)))
        go₂ b₁ d₁ (stopped n i) k₁ e d = stops2 d₁ d

        go : (r : Run) → each w (step1 w) qs t ≡ r → Through w mine1 (Rule1 w) qs t r
            → Walked w growth qs t (and_then r (λ b₁. and_then (each w (step2 w) qs b₁) (λ b₂. last4 w qs (begin4 w growth b₂))))
        go (going b₁) e d = let k₁ = kept1 w qs t b₁ k e in go₂ b₁ d (each w (step2 w) qs b₁) k₁ refl (through2 b₁ k₁)
        go (stopped n i) e d = stops1 d

    -- AND NOTHING ELSE DOES
    pub walk_only : {r : Run} → Walked w growth qs t r → walk w growth qs t ≡ r
    unfolding walk last4
    walk_only (stops1 d) = rw (each_only1 k d)
    walk_only (stops2 {b₁} d₁ d₂) =
        let e₁ = each_only1 k d₁ in
        rw (e₁, each_only2 (kept1 w qs t b₁ k e₁) d₂)
    walk_only (ends {b₁} {b₂} d₁ d₂ d₄) =
        let e₁ = each_only1 k d₁ in
        let k₁ = kept1 w qs t b₁ k e₁ in
        let e₂ = each_only2 k₁ d₂ in
        let k₂ = kept_begin4 w growth G qs b₂ (kept2 w qs b₁ b₂ k₁ e₂) in
        rw (e₁, e₂, each_only4 (begin4 w growth b₂).cursor k₂ d₄)

-- ---- a run stops exactly where a tile lacks room

module _ {w : Setting} {mine : Placement → Placement → Bool} {R : Rule} where
  lacks_of : {qs : List Queued} {t : Board} {r : Run} (n i : ℕ) → Through w mine R qs t r → r ≡ stopped n i → Lacks w mine R qs t n i
  lacks_of n i done e = never (sym e)
  lacks_of n i (goes {q} d rest) e =
      let l = lacks_of n i rest e in
      record { xs = q ∷ l.xs; item = l.item; ys = l.ys; order = ap (λ (z : List Queued). q ∷ z) l.order; before = l.before; reached = goes d l.reached; choice = l.choice; settled = l.settled; index = l.index; lacks = l.lacks }
  lacks_of n i (stops {q} {qs} {t} d) e = go d e
    where
      go : {r : Run} → Turn w mine R q.index (on w.axis q.item) (on (other w.axis) q.item) t r → r ≡ stopped n i → Lacks w mine R (q ∷ qs) t n i
      go (passes m) z = never (sym z)
      go (lays h k x y) z = never (sym z)
      go (full7 h k x) z =
          let m : 7 ≡ n = cc in
          let j : q.index ≡ i = cc in
          record { xs = []; item = q; ys = qs; order = refl; before = t; reached = done; choice = h; settled = k; index = j; lacks = rw (← m) (rows_short x) }
      go (full8 h k x y) z =
          let m : 8 ≡ n = cc in
          let j : q.index ≡ i = cc in
          record { xs = []; item = q; ys = qs; order = refl; before = t; reached = done; choice = h; settled = k; index = j; lacks = rw (← m) (columns_short x y) }

  then : {xs ys : List Queued} {t u : Board} {r x : Run} → Through w mine R xs t x → x ≡ going u → Through w mine R ys u r → Through w mine R (xs ++ ys) t r
  then done e d = rw (stay e) d
  then (goes h rest) e d = goes h (then rest e d)
  then (stops h) e d = never e

  of_lacks : {qs : List Queued} {t : Board} {n i : ℕ} → Lacks w mine R qs t n i → Through w mine R qs t (stopped n i)
  of_lacks {n} l = rw (l.order, ← l.index) (then l.reached refl (stops (go l.lacks)))
    where
      go : {m : ℕ} → Short w (laid_on l.item.index l.choice l.before) m → Turn w mine R l.item.index (on w.axis l.item.item) (on (other w.axis) l.item.item) l.before (stopped m l.item.index)
      go (rows_short x) = full7 l.choice l.settled x
      go (columns_short x y) = full8 l.choice l.settled x y

pub walked_full : {w : Setting} {growth : Both TrackCounts → Both TrackCounts} {qs : List Queued} {t : Board} {r : Run} (n i : ℕ) → Walked w growth qs t r → r ≡ stopped n i → Full w growth qs t n i
walked_full n i (stops1 d) e = in1 (lacks_of n i d e)
walked_full n i (stops2 d₁ d₂) e = in2 d₁ (lacks_of n i d₂ e)
walked_full n i (ends d₁ d₂ d₄) e = in4 d₁ d₂ (lacks_of n i d₄ e)

pub full_walked : {w : Setting} {growth : Both TrackCounts → Both TrackCounts} {qs : List Queued} {t : Board} {n i : ℕ} → Full w growth qs t n i → Walked w growth qs t (stopped n i)
full_walked (in1 l) = stops1 (of_lacks l)
full_walked (in2 d₁ l) = stops2 d₁ (of_lacks l)
full_walked (in4 d₁ d₂ l) = ends d₁ d₂ (of_lacks l)

-- the number is 7 or 8
short_number : {w : Setting} {b : Board} {n : ℕ} → Short w b n → (n ≡ 7) ⊎ (n ≡ 8)
short_number (rows_short x) = inl refl
short_number (columns_short x y) = inr refl

pub full_number : {w : Setting} {growth : Both TrackCounts → Both TrackCounts} {qs : List Queued} {t : Board} {n i : ℕ} → Full w growth qs t n i → (n ≡ 7) ⊎ (n ≡ 8)
full_number (in1 l) = short_number l.lacks
full_number (in2 d l) = short_number l.lacks
full_number (in4 d e l) = short_number l.lacks
