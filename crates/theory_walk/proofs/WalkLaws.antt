-- What holds of a board through a whole run.
use mathlib.Core.Path.{◌≡◌, refl, ap, ◌∙◌}
use mathlib.Core.Bool.{Bool, true, false, cond}
use mathlib.Core.Logic.{◌≢◌}
use mathlib.Core.List.{List, [], ◌∷◌}
use Prim.Native.Nat.{ℕ, suc, ◌+◌, ◌*◌, ◌≤◌}
use native.Mathlib.Omega.{arith}
use borrow.Author.Tests.{ltb-false}
use lib.ListN.{length}
use Rattle.grid_track_counts.specs.declared.TrackCounts.{TrackCounts}
use Rattle.grid_track_counts.specs.Counts.{Sound, Grows}
use Rattle.grid_track_counts.proofs.Promises.{grown_sound, grown_grows, grown_covers, grown_least}
use Rattle.theory_walk.specs.declared.Placement.{Placement}
use Rattle.theory_walk.specs.declared.Placement.TheVariants.{Fixed, Spanned}
use Rattle.theory_walk.specs.Axis.{col, row, other, Both, on, Extent, pressed_area, limited_area, grown_both}
use Rattle.theory_walk.specs.Search.{Place}
use Rattle.theory_walk.specs.Walk.{Queued, Tile, Board, Setting, Choice, Run, going, stopped, bit, free, tile_of, laid_on, short, judged, put, choose1, step1, choose2, step2, choose_line, choose_pair, step4, and_then, each, begin4, last4, walk, records_on}
use Rattle.theory_walk.specs.Rules.{Rule1, Rule2, Rule4, takes, finds, finds_line, finds_pair, lays_untested}
use Rattle.theory_walk.proofs.Tests.{Every, nil, more}
use Rattle.theory_walk.proofs.LinesLaws.{area_limited, area_not_pressed, Each, CoversArea, GrowsBoth, covers_grows, grows_trans, grows_refl}
use Rattle.theory_walk.proofs.FreeLaws.{Tiled, choose1_rule, choose2_rule, choose_line_rule, choose_pair_rule}

-- ---- runs

pub never : {A : Type 0} {n i : ℕ} {b : Board} → stopped n i ≡ going b → A
never e = absurd (let z : ◌≡◌ {A = ℕ} 0 1 = cc in omega arith)

pub stay : {a b : Board} → going a ≡ going b → a ≡ b
stay e = cc

pub put_going : (w : Setting) (i : ℕ) (h : Choice) (t b : Board) → put w i h t ≡ going b → laid_on i h t ≡ b
unfolding put judged
put_going w i h t b e = go (short w row (laid_on i h t)) (short w col (laid_on i h t)) e
  where
    go : (x y : Bool) → cond x (stopped 7 i) (cond y (stopped 8 i) (going (laid_on i h t))) ≡ going b → laid_on i h t ≡ b
    go true y e = never e
    go false true e = never e
    go false false e = stay e

pub record Went (r : Run) (f : Board → Run) (b : Board) : Type 0 where
  pub middle : Board
  pub first : r ≡ going middle
  pub second : f middle ≡ going b

pub went : (r : Run) (f : Board → Run) (b : Board) → and_then r f ≡ going b → Went r f b
went (going t) f b e = record { middle = t; first = refl; second = e }
went (stopped n i) f b e = never e

-- what each item of a step keeps, with its count, the whole step keeps
module _ (w : Setting) (f : ℕ → Placement → Placement → Board → Run) (Q : ℕ → Placement → Placement → Type 0) (P : ℕ → Board → Type 0)
    (item : (k i : ℕ) (p s : Placement) (t b : Board) → Q i p s → P k t → f i p s t ≡ going b → P (suc k) b) where
  abbrev pub Fit : Queued → Type 0
  Fit q = Q q.index (on w.axis q.item) (on (other w.axis) q.item)

  pub each_keeps : (qs : List Queued) (k : ℕ) (t b : Board) → Every Fit qs → P k t → each w f qs t ≡ going b → P (length qs + k) b
  unfolding each
  each_keeps [] k t b g h e = let z : 0 + k ≡ k = omega arith in rw (z, ← (stay e)) h
  each_keeps (q ∷ qs) k t b (more g gs) h e =
      let v = went (f q.index (on w.axis q.item) (on (other w.axis) q.item) t) (λ u. each w f qs u) b e in
      let z : suc (length qs) + k ≡ length qs + suc k = omega arith in
      rw z (each_keeps qs (suc k) v.middle b gs (item k q.index (on w.axis q.item) (on (other w.axis) q.item) t v.middle g h v.first) v.second)

-- ---- the board

-- each tile whose mark is 0, neither pressed nor overwide nor fixed in both axes, overlaps no earlier tile
pub data Clear : List Tile → Type 0 where
  none : Clear []
  next : {t : Tile} {ts : List Tile} → (t.mark ≡ 0 → free ts t.area ≡ true) → Clear ts → Clear (t ∷ ts)

pub record Kept (b : Board) : Type 0 where
  pub tiles : Tiled b.tiles
  pub counts : Each Sound b.counts
  pub covered : Every (λ (t : Tile). CoversArea b.counts t.area) b.tiles
  pub clear : Clear b.tiles

-- what a choice must be for that
abbrev pub Fair : Board → Choice → Type 0
Fair t h = h.flags ≡ 0 → free t.tiles h.area ≡ true

pub grows_both : (c : Both TrackCounts) (a : Extent) → GrowsBoth c (grown_both c a)
grows_both c a = record { columns = grown_grows c.columns a.columns; rows = grown_grows c.rows a.rows }

pub covered_grows : (c d : Both TrackCounts) → GrowsBoth c d → {ts : List Tile} → Every (λ (t : Tile). CoversArea c t.area) ts → Every (λ (t : Tile). CoversArea d t.area) ts
covered_grows c d g nil = nil
covered_grows c d g (more {x = t} h hs) =
    more (record { columns = covers_grows c.columns d.columns t.area.columns g.columns h.columns; rows = covers_grows c.rows d.rows t.area.rows g.rows h.rows })
    (covered_grows c d g hs)

pub kept_laid : (i : ℕ) (h : Choice) (t : Board) → Fair t h → Kept t → Kept (laid_on i h t)
unfolding laid_on tile_of
kept_laid i h t fair k =
    let a = limited_area h.area in
    let l = area_limited h.area in
    let c = t.counts in
    record {
      tiles = more l k.tiles;
      counts = record { columns = grown_sound c.columns a.columns k.counts.columns l.columns; rows = grown_sound c.rows a.rows k.counts.rows l.rows };
      covered = more (record { columns = grown_covers c.columns a.columns; rows = grown_covers c.rows a.rows }) (covered_grows c (grown_both c a) (grows_both c a) k.covered);
      clear = next (λ e. unpressed (pressed_area h.area) refl e) k.clear;
    }
  where
    unpressed : (x : Bool) → pressed_area h.area ≡ x → bit 1 x + h.flags ≡ 0 → free t.tiles (limited_area h.area) ≡ true
    unpressed true e z = absurd (let o : ⊥ = omega arith in o)
    unpressed false e z = rw (area_not_pressed h.area e) (fair (omega arith))

-- ---- the steps keep the board

fair1 : {w : Setting} {t : Board} {p s : Placement} {h : Choice} → Rule1 w t p s h → Fair t h
fair1 takes = λ e. absurd (let o : ⊥ = omega arith in o)

fair2 : {w : Setting} {t : Board} {p s : Placement} {h : Choice} → Rule2 w t p s h → Fair t h
fair2 (finds f) = λ _. f.passes

fair4 : {w : Setting} {once : Place} {t : Board} {p s : Placement} {h : Choice} → Rule4 w once t p s h → Fair t h
fair4 (finds_line f) = λ _. f.passes
fair4 (finds_pair e f) = λ _. f.passes
fair4 (lays_untested e) = λ z. absurd (let o : ⊥ = omega arith in o)

module _ (w : Setting) where
  pub kept_step1 : (i : ℕ) (p s : Placement) (t b : Board) → Kept t → step1 w i p s t ≡ going b → Kept b
  unfolding step1 choose1
  kept_step1 i (Fixed p) (Fixed s) t b k e =
      let h = choose1 w p s t in
      rw (← (put_going w i h t b e)) (kept_laid i h t (fair1 (choose1_rule w p s t)) k)
  kept_step1 i (Fixed p) (Spanned m) t b k e = rw (← (stay e)) k
  kept_step1 i (Spanned n) (Fixed s) t b k e = rw (← (stay e)) k
  kept_step1 i (Spanned n) (Spanned m) t b k e = rw (← (stay e)) k

  pub kept_step2 : (i : ℕ) (p s : Placement) (t b : Board) → Kept t → step2 w i p s t ≡ going b → Kept b
  unfolding step2
  kept_step2 i (Fixed p) (Fixed s) t b k e = rw (← (stay e)) k
  kept_step2 i (Fixed p) (Spanned m) t b k e = rw (← (stay e)) k
  kept_step2 i (Spanned n) (Fixed s) t b k e =
      let h = choose2 w n s t in rw (← (put_going w i h t b e)) (kept_laid i h t (fair2 (choose2_rule w n s t k.tiles)) k)
  kept_step2 i (Spanned n) (Spanned m) t b k e = rw (← (stay e)) k

  module _ (once : Place) where
    pub kept_step4 : (i : ℕ) (p s : Placement) (t b : Board) → Kept t → step4 w once i p s t ≡ going b → Kept b
    unfolding step4
    kept_step4 i (Fixed p) (Fixed s) t b k e = rw (← (stay e)) k
    kept_step4 i (Fixed p) (Spanned m) t b k e =
        let h = choose_line w once p m t in rw (← (put_going w i h t b e)) (kept_laid i h t (fair4 (choose_line_rule w once p m t k.tiles)) k)
    kept_step4 i (Spanned n) (Fixed s) t b k e = rw (← (stay e)) k
    kept_step4 i (Spanned n) (Spanned m) t b k e =
        let h = choose_pair w once n m t in rw (← (put_going w i h t b e)) (kept_laid i h t (fair4 (choose_pair_rule w once n m t k.tiles)) k)

-- ---- the whole run

pub anyone : (qs : List Queued) → Every (λ (q : Queued). Unit {0}) qs
anyone [] = nil
anyone (q ∷ qs) = more tt (anyone qs)

module _ (w : Setting) (qs : List Queued) where
  pub kept1 : (t b : Board) → Kept t → each w (step1 w) qs t ≡ going b → Kept b
  kept1 t b k e = each_keeps w (step1 w) (λ _ _ _. Unit {0}) (λ _ x. Kept x) (λ _ i p s x y _ h f. kept_step1 w i p s x y h f) qs 0 t b (anyone qs) k e

  pub kept2 : (t b : Board) → Kept t → each w (step2 w) qs t ≡ going b → Kept b
  kept2 t b k e = each_keeps w (step2 w) (λ _ _ _. Unit {0}) (λ _ x. Kept x) (λ _ i p s x y _ h f. kept_step2 w i p s x y h f) qs 0 t b (anyone qs) k e

-- what a growth before step 4 must be: the counts stay in their limits, and only grow
pub record Growing (growth : Both TrackCounts → Both TrackCounts) : Type 0 where
  pub sound : (c : Both TrackCounts) → Each Sound c → Each Sound (growth c)
  pub grows : (c : Both TrackCounts) → GrowsBoth c (growth c)

-- today's: none
pub no_growth : Growing (λ c. c)
no_growth = record { sound = λ c h. h; grows = λ c. record { columns = grows_refl c.columns; rows = grows_refl c.rows } }

module _ (w : Setting) (growth : Both TrackCounts → Both TrackCounts) (G : Growing growth) (qs : List Queued) where
  pub kept_begin4 : (t : Board) → Kept t → Kept (begin4 w growth t)
  unfolding begin4
  kept_begin4 t k = record { tiles = k.tiles; counts = G.sound t.counts k.counts; covered = covered_grows t.counts (growth t.counts) (G.grows t.counts) k.covered; clear = k.clear }

  -- a run that starts from a good board ends in one
  pub walk_kept : (t b : Board) → Kept t → walk w growth qs t ≡ going b → Kept b
  unfolding walk last4
  walk_kept t b k e =
      let v = went (each w (step1 w) qs t) (λ b₁. and_then (each w (step2 w) qs b₁) (λ b₂. last4 w qs (begin4 w growth b₂))) b e in
      let u = went (each w (step2 w) qs v.middle) (λ b₂. last4 w qs (begin4 w growth b₂)) b v.second in
      let k₂ = kept2 w qs v.middle u.middle (kept1 w qs t v.middle k v.first) u.first in
      let c = begin4 w growth u.middle in
      each_keeps w (step4 w c.cursor) (λ _ _ _. Unit {0}) (λ _ x. Kept x) (λ _ i p s x y _ h f. kept_step4 w c.cursor i p s x y h f) qs 0 c b (anyone qs) (kept_begin4 u.middle k₂) u.second

-- ---- the lists have room

pub record Roomy (w : Setting) (b : Board) : Type 0 where
  pub rows : 4 * length (records_on row b.tiles) ≤ w.room.rows
  pub columns : 4 * length (records_on col b.tiles) ≤ w.room.columns

pub put_room : (w : Setting) (i : ℕ) (h : Choice) (t b : Board) → put w i h t ≡ going b → Roomy w b
unfolding put judged short
put_room w i h t b e = go (short w row c) (short w col c) refl refl e
  where
    c : Board
    c = laid_on i h t

    go : (x y : Bool) → short w row c ≡ x → short w col c ≡ y → cond x (stopped 7 i) (cond y (stopped 8 i) (going c)) ≡ going b → Roomy w b
    go true y f g k = never k
    go false true f g k = never k
    go false false f g k = rw (← (stay k)) (record { rows = ltb-false w.room.rows (4 * length (records_on row c.tiles)) f; columns = ltb-false w.room.columns (4 * length (records_on col c.tiles)) g })

-- ---- an item is passed over, or one tile is laid

-- "State is 1 for step 1, else 2"
pub record Stated (w : Setting) (step state : ℕ) : Type 0 where
  pub first : step ≡ 1 → state ≡ w.fixed_state
  pub others : step ≢ 1 → state ≡ w.auto_state

pub data Move (w : Setting) (i : ℕ) (t b : Board) : Type 0 where
  stays : t ≡ b → Move w i t b
  lays : (h : Choice) → Stated w h.step h.state → Roomy w b → laid_on i h t ≡ b → Move w i t b

move_put : (w : Setting) (i : ℕ) (h : Choice) (t b : Board) → Stated w h.step h.state → put w i h t ≡ going b → Move w i t b
move_put w i h t b st e = lays h st (put_room w i h t b e) (put_going w i h t b e)

module _ (w : Setting) where
  pub move1 : (i : ℕ) (p s : Placement) (t b : Board) → step1 w i p s t ≡ going b → Move w i t b
  unfolding step1 choose1
  move1 i (Fixed p) (Fixed s) t b e = move_put w i (choose1 w p s t) t b (record { first = λ _. refl; others = λ n. absurd (n refl) }) e
  move1 i (Fixed p) (Spanned m) t b e = stays (stay e)
  move1 i (Spanned n) (Fixed s) t b e = stays (stay e)
  move1 i (Spanned n) (Spanned m) t b e = stays (stay e)

  pub move2 : (i : ℕ) (p s : Placement) (t b : Board) → step2 w i p s t ≡ going b → Move w i t b
  unfolding step2 choose2
  move2 i (Fixed p) (Fixed s) t b e = stays (stay e)
  move2 i (Fixed p) (Spanned m) t b e = stays (stay e)
  move2 i (Spanned n) (Fixed s) t b e = move_put w i (choose2 w n s t) t b (record { first = λ n. absurd (let z : ⊥ = omega arith in z); others = λ _. refl }) e
  move2 i (Spanned n) (Spanned m) t b e = stays (stay e)

  pub move4 : (once : Place) (i : ℕ) (p s : Placement) (t b : Board) → step4 w once i p s t ≡ going b → Move w i t b
  unfolding step4 choose_line choose_pair
  move4 once i (Fixed p) (Fixed s) t b e = stays (stay e)
  move4 once i (Fixed p) (Spanned m) t b e = move_put w i (choose_line w once p m t) t b (record { first = λ n. absurd (let z : ⊥ = omega arith in z); others = λ _. refl }) e
  move4 once i (Spanned n) (Fixed s) t b e = stays (stay e)
  move4 once i (Spanned n) (Spanned m) t b e = move_put w i (choose_pair w once n m t) t b (record { first = λ n. absurd (let z : ⊥ = omega arith in z); others = λ _. refl }) e

  -- whatever laying a tile keeps, the run keeps, if the growth before step 4 keeps it
  module _ (growth : Both TrackCounts → Both TrackCounts) (I : ℕ → Type 0) (P : Board → Type 0) (lay : (i : ℕ) (h : Choice) (t : Board) → I i → Stated w h.step h.state → Roomy w (laid_on i h t) → P t → P (laid_on i h t)) (grow : (t : Board) → P t → P (begin4 w growth t)) where
    moved_keeps : {i : ℕ} {t b : Board} → I i → P t → Move w i t b → P b
    moved_keeps j h (stays e) = rw (← e) h
    moved_keeps {i} {t} j h (lays x st m e) = rw (← e) (lay i x t j st (rw e m) h)

    pub walk_keeps : (qs : List Queued) (t b : Board) → Every (λ (q : Queued). I q.index) qs → P t → walk w growth qs t ≡ going b → P b
    unfolding walk last4
    walk_keeps qs t b g k e =
        let v = went (each w (step1 w) qs t) (λ b₁. and_then (each w (step2 w) qs b₁) (λ b₂. last4 w qs (begin4 w growth b₂))) b e in
        let u = went (each w (step2 w) qs v.middle) (λ b₂. last4 w qs (begin4 w growth b₂)) b v.second in
        let k₁ = each_keeps w (step1 w) (λ i _ _. I i) (λ _ x. P x) (λ _ i p s x y j h f. moved_keeps j h (move1 i p s x y f)) qs 0 t v.middle g k v.first in
        let k₂ = each_keeps w (step2 w) (λ i _ _. I i) (λ _ x. P x) (λ _ i p s x y j h f. moved_keeps j h (move2 i p s x y f)) qs 0 v.middle u.middle g k₁ u.first in
        let c = begin4 w growth u.middle in
        each_keeps w (step4 w c.cursor) (λ i _ _. I i) (λ _ x. P x) (λ _ i p s x y j h f. moved_keeps j h (move4 c.cursor i p s x y f)) qs 0 c b g (grow u.middle k₂) u.second

-- ---- THE COUNTS only grow, cover every recorded line, and are the least that do

pub record Least (c₀ : Both TrackCounts) (b : Board) : Type 0 where
  pub grows : GrowsBoth c₀ b.counts
  pub covers : Every (λ (t : Tile). CoversArea b.counts t.area) b.tiles
  pub least : (d : Both TrackCounts) → GrowsBoth c₀ d → Every (λ (t : Tile). CoversArea d t.area) b.tiles → GrowsBoth b.counts d

pub grows_both_trans : (a b c : Both TrackCounts) → GrowsBoth a b → GrowsBoth b c → GrowsBoth a c
grows_both_trans a b c f g = record { columns = grows_trans a.columns b.columns c.columns f.columns g.columns; rows = grows_trans a.rows b.rows c.rows f.rows g.rows }

pub least_laid : (c₀ : Both TrackCounts) (i : ℕ) (h : Choice) (t : Board) → Least c₀ t → Least c₀ (laid_on i h t)
unfolding laid_on tile_of
least_laid c₀ i h t k =
    let a = limited_area h.area in
    let c = t.counts in
    record {
      grows = grows_both_trans c₀ c (grown_both c a) k.grows (grows_both c a);
      covers = more (record { columns = grown_covers c.columns a.columns; rows = grown_covers c.rows a.rows }) (covered_grows c (grown_both c a) (grows_both c a) k.covers);
      least = λ d g e. under d g e;
    }
  where
    under : (d : Both TrackCounts) → GrowsBoth c₀ d → Every (λ (x : Tile). CoversArea d x.area) (tile_of i h ∷ t.tiles) → GrowsBoth (grown_both t.counts (limited_area h.area)) d
    under d g (more o os) =
        let q = k.least d g os in
        record { columns = grown_least t.counts.columns d.columns (limited_area h.area).columns q.columns o.columns; rows = grown_least t.counts.rows d.rows (limited_area h.area).rows q.rows o.rows }

-- on a board with no tiles the counts are their own least
pub least_none : (t : Board) → t.tiles ≡ [] → Least t.counts t
least_none t z = record { grows = record { columns = grows_refl t.counts.columns; rows = grows_refl t.counts.rows }; covers = rw z nil; least = λ d g _. g }

pub counts_least : (w : Setting) (qs : List Queued) (c₀ : Both TrackCounts) (t b : Board) → Least c₀ t → walk w (λ c. c) qs t ≡ going b → Least c₀ b
unfolding begin4
counts_least w qs c₀ t b k e = walk_keeps w (λ c. c) (λ _. Unit {0}) (λ x. Least c₀ x) (λ i h x _ _ _ y. least_laid c₀ i h x y) (λ x y. record { grows = y.grows; covers = y.covers; least = y.least }) qs t b (anyone qs) k e

-- and so they are the only ones
pub grows_same : (c d : TrackCounts) → Grows c d → Grows d c → c ≡ d
grows_same c d f g =
    let n : c.negative ≡ d.negative = omega arith in
    let x : c.explicit ≡ d.explicit = omega arith in
    let p : c.positive ≡ d.positive = omega arith in
    ap (λ (y : ℕ). record { negative = y; explicit = c.explicit; positive = c.positive }) n
    ∙ ap (λ (y : ℕ). record { negative = d.negative; explicit = y; positive = c.positive }) x
    ∙ ap (λ (y : ℕ). record { negative = d.negative; explicit = d.explicit; positive = y }) p

-- ---- the states

abbrev pub WithStates : Setting → List Tile → Type 0
WithStates w = Every (λ (t : Tile). Stated w t.step t.state)

pub states_kept : (w : Setting) (growth : Both TrackCounts → Both TrackCounts) (qs : List Queued) (t b : Board) → WithStates w t.tiles → walk w growth qs t ≡ going b → WithStates w b.tiles
unfolding begin4 laid_on tile_of
states_kept w growth qs t b k e = walk_keeps w growth (λ _. Unit {0}) (λ x. WithStates w x.tiles) (λ i h x _ st _ y. more st y) (λ x y. y) qs t b (anyone qs) k e

-- ---- the room

pub walk_roomy : (w : Setting) (growth : Both TrackCounts → Both TrackCounts) (qs : List Queued) (t b : Board) → Roomy w t → walk w growth qs t ≡ going b → Roomy w b
unfolding begin4
walk_roomy w growth qs t b k e = walk_keeps w growth (λ _. Unit {0}) (λ x. Roomy w x) (λ i h x _ _ m _. m) (λ x y. record { rows = y.rows; columns = y.columns }) qs t b (anyone qs) k e
