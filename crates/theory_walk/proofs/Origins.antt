-- Where each tile of a board comes from: an item, and the board as it stood before it, on which the tile keeps its step's rule. And what its mark says.
use mathlib.Core.Path.{◌≡◌, refl, sym, ap, ◌∙◌, subst}
use mathlib.Core.Bool.{Bool, true, false}
use mathlib.Core.List.{List, [], ◌∷◌}
use Prim.Native.Nat.{ℕ, ◌+◌, ◌/◌, ◌%◌}
use lib.Dec.{eqb}
use Rattle.grid_coordinates.specs.declared.Lines.{Lines}
use Rattle.grid_coordinates.specs.Line.{limited}
use Rattle.grid_track_counts.specs.declared.TrackCounts.{TrackCounts}
use Rattle.theory_walk.specs.declared.Placement.{Placement}
use Rattle.theory_walk.specs.declared.Placement.TheVariants.{Fixed}
use Rattle.theory_walk.specs.Axis.{Axis, col, row, other, Both, on, laid, limited_area, pressed_area}
use Rattle.theory_walk.specs.Search.{Place}
use Rattle.theory_walk.specs.Walk.{Item, Queued, Tile, Board, Setting, Choice, Run, going, bit, free, tile_of, laid_on, step1, step2, step4, and_then, each, begin4, last4, walk}
use Rattle.theory_walk.specs.Rules.{Rule, takes, finds, finds_line, finds_pair, lays_untested, mine1, wide, Settled, by1, by2, by4, Turn, passes, lays, full7, full8}
use Rattle.theory_walk.proofs.Tests.{Every, nil, more, Mem, top, under}
use Rattle.theory_walk.proofs.WalkLaws.{Clear, none, next, Kept, Least, least_none, least_laid, no_growth, kept_step1, kept_step2, kept_step4, kept_begin4, stay, never, Went, went, each_keeps}
use Rattle.theory_walk.proofs.Ruled.{turn1, turn2, turn4}

-- ---- the mark: "the sum of 1 pressed (limiting changed a line), 2 both axes fixed, 4 overwide"

flags_are : {w : Setting} {once : Place} {t : Board} {p s : Placement} {h : Choice} → Settled w once t p s h → h.flags ≡ bit 2 (mine1 p s) + bit 4 (wide w t p s)
flags_are (by1 takes) = refl
flags_are (by2 (finds f)) = refl
flags_are (by4 (finds_line f)) = refl
flags_are (by4 (finds_pair e f)) = rw e
flags_are (by4 (lays_untested e)) = rw e

pub mark_is : {w : Setting} {once : Place} {t : Board} {p s : Placement} (i : ℕ) (h : Choice) → Settled w once t p s h
    → (tile_of i h).mark ≡ bit 1 (pressed_area h.area) + (bit 2 (mine1 p s) + bit 4 (wide w t p s))
unfolding tile_of
mark_is i h k = ap (λ (n : ℕ). bit 1 (pressed_area h.area) + n) (flags_are k)

-- "Each flag is a bit, tested by itself"
pub mark_bits : (a b c : Bool) → (eqb ((bit 1 a + (bit 2 b + bit 4 c)) % 2) 1 ≡ a) × (eqb ((bit 1 a + (bit 2 b + bit 4 c)) / 2 % 2) 1 ≡ b) × (eqb ((bit 1 a + (bit 2 b + bit 4 c)) / 4 % 2) 1 ≡ c)
mark_bits true true true = (refl, refl, refl)
mark_bits true true false = (refl, refl, refl)
mark_bits true false true = (refl, refl, refl)
mark_bits true false false = (refl, refl, refl)
mark_bits false true true = (refl, refl, refl)
mark_bits false true false = (refl, refl, refl)
mark_bits false false true = (refl, refl, refl)
mark_bits false false false = (refl, refl, refl)

-- ---- each tile's origin

-- c₀: the counts that the run was given; qs: its items; x: the tile; ts: the tiles laid before it
pub record Origin (w : Setting) (once : Place) (c₀ : Both TrackCounts) (qs : List Queued) (x : Tile) (ts : List Tile) : Type 0 where
  pub before : Board
  pub tiles : before.tiles ≡ ts
  pub counts : Least c₀ before
  pub item : Queued
  pub queued : Mem item qs
  pub choice : Choice
  pub settled : Settled w once before (on w.axis item.item) (on (other w.axis) item.item) choice
  pub tile : x ≡ tile_of item.index choice

pub data Origins (w : Setting) (once : Place) (c₀ : Both TrackCounts) (qs : List Queued) : List Tile → Type 0 where
  empty : Origins w once c₀ qs []
  after : {x : Tile} {ts : List Tile} → Origin w once c₀ qs x ts → Origins w once c₀ qs ts → Origins w once c₀ qs (x ∷ ts)

-- an item of the queue with this index and these placements
record Of (w : Setting) (qs : List Queued) (i : ℕ) (p s : Placement) : Type 0 where
  pub item : Queued
  pub queued : Mem item qs
  pub index : item.index ≡ i
  pub primary : on w.axis item.item ≡ p
  pub secondary : on (other w.axis) item.item ≡ s

every_of : (w : Setting) (all qs : List Queued) → ((q : Queued) → Mem q qs → Mem q all) → Every (λ (q : Queued). Of w all q.index (on w.axis q.item) (on (other w.axis) q.item)) qs
every_of w all [] f = nil
every_of w all (q ∷ qs) f = more (record { item = q; queued = f q top; index = refl; primary = refl; secondary = refl }) (every_of w all qs (λ x m. f x (under m)))

module _ (w : Setting) (once : Place) (c₀ : Both TrackCounts) (qs : List Queued) where
  record So (b : Board) : Type 0 where
    pub origins : Origins w once c₀ qs b.tiles
    pub least : Least c₀ b
    pub kept : Kept b

  so_turn : {mine : Placement → Placement → Bool} {R : Rule} {i : ℕ} {p s : Placement} {t b : Board} → ((h : Choice) → R t p s h → Settled w once t p s h)
      → Of w qs i p s → So t → Kept b → {r : Run} → Turn w mine R i p s t r → r ≡ going b → So b
  unfolding laid_on
  so_turn by o k kept (passes e) f = rw (← (stay f)) k
  so_turn {i} {t} by o k kept (lays h d x y) f =
      rw (← (stay f))
      (record {
        origins = after {x = tile_of i h} (record { before = t; tiles = refl; counts = k.least; item = o.item; queued = o.queued; choice = h; settled = rw (o.primary, o.secondary) (by h d); tile = rw o.index }) k.origins;
        least = least_laid c₀ i h t k.least;
        kept = rw (stay f) kept;
      })
  so_turn by o k kept (full7 h d x) f = never f
  so_turn by o k kept (full8 h d x y) f = never f

  -- each step keeps it
  so1 : (i : ℕ) (p s : Placement) (t b : Board) → Of w qs i p s → So t → step1 w i p s t ≡ going b → So b
  so1 i p s t b o k e = so_turn (λ h d. by1 d) o k (kept_step1 w i p s t b k.kept e) (turn1 w i t p s) e

  so2 : (i : ℕ) (p s : Placement) (t b : Board) → Of w qs i p s → So t → step2 w i p s t ≡ going b → So b
  so2 i p s t b o k e = so_turn (λ h d. by2 d) o k (kept_step2 w i p s t b k.kept e) (turn2 w i t k.kept.tiles p s) e

  so4 : (i : ℕ) (p s : Placement) (t b : Board) → Of w qs i p s → So t → step4 w once i p s t ≡ going b → So b
  so4 i p s t b o k e = so_turn (λ h d. by4 d) o k (kept_step4 w once i p s t b k.kept e) (turn4 w i t k.kept.tiles once p s) e

none_yet : {w : Setting} {once : Place} {c₀ : Both TrackCounts} {qs : List Queued} (ts : List Tile) → ts ≡ [] → Origins w once c₀ qs ts
none_yet ts z = rw z empty

-- EVERY TILE of a run that starts on a board with no tiles; once: the lines read once before step 4
pub walk_origins : (w : Setting) (qs : List Queued) (t b : Board) → t.tiles ≡ [] → Kept t → walk w (λ c. c) qs t ≡ going b → (once : Place) × Origins w once t.counts qs b.tiles
unfolding walk last4 begin4
walk_origins w qs t b z k e = (c.cursor, s₄.origins)
  where
    v : Went (each w (step1 w) qs t) (λ b₁. and_then (each w (step2 w) qs b₁) (λ b₂. last4 w qs (begin4 w (λ c. c) b₂))) b
    v = went (each w (step1 w) qs t) (λ b₁. and_then (each w (step2 w) qs b₁) (λ b₂. last4 w qs (begin4 w (λ c. c) b₂))) b e

    u : Went (each w (step2 w) qs v.middle) (λ b₂. last4 w qs (begin4 w (λ c. c) b₂)) b
    u = went (each w (step2 w) qs v.middle) (λ b₂. last4 w qs (begin4 w (λ c. c) b₂)) b v.second

    c : Board
    c = begin4 w (λ c. c) u.middle

    S : Board → Type 0
    S = So w c.cursor t.counts qs

    s₀ : S t
    s₀ = record { origins = none_yet t.tiles z; least = least_none t z; kept = k }

    s₁ : S v.middle
    s₁ = each_keeps w (step1 w) (Of w qs) (λ _ x. S x) (λ _ i p s x y o h f. so1 w c.cursor t.counts qs i p s x y o h f) qs 0 t v.middle (every_of w qs qs (λ q m. m)) s₀ v.first

    s₂ : S u.middle
    s₂ = each_keeps w (step2 w) (Of w qs) (λ _ x. S x) (λ _ i p s x y o h f. so2 w c.cursor t.counts qs i p s x y o h f) qs 0 v.middle u.middle (every_of w qs qs (λ q m. m)) s₁ u.first

    s₃ : S c
    s₃ = record { origins = s₂.origins; least = record { grows = s₂.least.grows; covers = s₂.least.covers; least = s₂.least.least }; kept = kept_begin4 w (λ c. c) no_growth qs u.middle s₂.kept }

    s₄ : S b
    s₄ = each_keeps w (step4 w c.cursor) (Of w qs) (λ _ x. S x) (λ _ i p s x y o h f. so4 w c.cursor t.counts qs i p s x y o h f) qs 0 c b (every_of w qs qs (λ q m. m)) s₃ u.second

-- ---- of one tile

-- ts are the tiles that were laid before x
pub data Before (x : Tile) (ts : List Tile) : List Tile → Type 0 where
  last : Before x ts (x ∷ ts)
  earlier : {y : Tile} {us : List Tile} → Before x ts us → Before x ts (y ∷ us)

pub origin_of : {w : Setting} {once : Place} {c₀ : Both TrackCounts} {qs : List Queued} {x : Tile} {ts us : List Tile} → Origins w once c₀ qs us → Before x ts us → Origin w once c₀ qs x ts
origin_of empty m = elim m [ ]
origin_of (after o os) last = o
origin_of (after o os) (earlier m) = origin_of os m

pub clear_of : {x : Tile} {ts us : List Tile} → Clear us → Before x ts us → x.mark ≡ 0 → free ts x.area ≡ true
clear_of none m = elim m [ ]
clear_of (next f c) last = f
clear_of (next f c) (earlier m) = clear_of c m

-- "Items fixed in both axes take their lines", limited
settled_fixed : {w : Setting} {once : Place} {t : Board} {p s : Lines} {h : Choice} → Settled w once t (Fixed p) (Fixed s) h → h.area ≡ laid w.axis p s
settled_fixed (by1 takes) = refl
settled_fixed (by2 f) = elim f [ ]
settled_fixed (by4 f) = elim f [ ]

pub fixed_takes : {w : Setting} {once : Place} {c₀ : Both TrackCounts} {qs : List Queued} {x : Tile} {ts : List Tile} (o : Origin w once c₀ qs x ts) (c d : Lines)
    → o.item.item ≡ record { columns = Fixed c; rows = Fixed d } → x.area ≡ record { columns = limited c; rows = limited d }
unfolding tile_of
fixed_takes {w} {once} o c d e =
    ap (λ (y : Tile). y.area) o.tile
    ∙ ap limited_area (go w.axis refl (subst (λ (y : Item). Settled w once o.before (on w.axis y) (on (other w.axis) y) o.choice) e o.settled))
  where
    go : (a : Axis) → w.axis ≡ a → Settled w once o.before (on a (record { columns = Fixed c; rows = Fixed d })) (on (other a) (record { columns = Fixed c; rows = Fixed d })) o.choice → o.choice.area ≡ record { columns = c; rows = d }
    go col i k = settled_fixed k ∙ rw i
    go row i k = settled_fixed k ∙ rw i

-- "Mark: the sum of 1 pressed (limiting changed a line), 2 both axes fixed, 4 overwide"
pub origin_mark : {w : Setting} {once : Place} {c₀ : Both TrackCounts} {qs : List Queued} {x : Tile} {ts : List Tile} (o : Origin w once c₀ qs x ts)
    → x.mark ≡ bit 1 (pressed_area o.choice.area) + (bit 2 (mine1 (on w.axis o.item.item) (on (other w.axis) o.item.item)) + bit 4 (wide w o.before (on w.axis o.item.item) (on (other w.axis) o.item.item)))
origin_mark o = ap (λ (y : Tile). y.mark) o.tile ∙ mark_is o.item.index o.choice o.settled

pub origin_index : {w : Setting} {once : Place} {c₀ : Both TrackCounts} {qs : List Queued} {x : Tile} {ts : List Tile} (o : Origin w once c₀ qs x ts) → o.item.index ≡ x.index
unfolding tile_of
origin_index o = sym (ap (λ (y : Tile). y.index) o.tile)
