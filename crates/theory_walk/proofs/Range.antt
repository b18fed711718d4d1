-- "With 2000 items no searched line passes 22000, so all sums fit 16 bits."
use mathlib.Core.Path.{◌≡◌, refl}
use mathlib.Core.Bool.{Bool, true, false, cond, ◌&&◌}
use mathlib.Core.List.{List, [], ◌∷◌}
use Prim.Native.Nat.{ℕ, suc, ◌+◌, ◌≤◌, ◌<◌}
use lib.Dec.{eqb}
use lib.IntN.{ℤ, pos, negsuc, ◌+ℤ◌}
use lib.ListN.{length}
use lib.Signed.{lt_z, ◌≤ℤ◌, ◌<ℤ◌}
use mir.Syntax.{w16}
use mir.Val.{SFits}
use Rattle.theory_signed.specs.Parts.{eq_z}
use Rattle.theory_signed.proofs.Laws.{signed, sum}
use Rattle.grid_coordinates.specs.declared.Lines.{Lines}
use Rattle.grid_track_counts.specs.declared.TrackCounts.{TrackCounts}
use Rattle.grid_track_counts.specs.Counts.{grid_start, grid_end, Sound}
use Rattle.theory_walk.specs.declared.Placement.{Placement}
use Rattle.theory_walk.specs.declared.Placement.TheVariants.{Fixed, Spanned}
use Rattle.theory_walk.specs.Axis.{Axis, col, row, other, on, laid, from, Extent}
use Rattle.theory_walk.specs.Search.{first_line, Place, at}
use Rattle.theory_walk.specs.Walk.{Queued, Tile, Board, Setting, Choice, going, free_at, free_across, free_pair, ends_on, largest, largest_or, laid_on, start2, choose1, choose2, start4, choose_line, overwide, pair_of, untested, choose_pair, moved, step4, each}
use Rattle.theory_walk.specs.Rules.{FirstLine, Tried, here, later}
use Rattle.theory_walk.proofs.Tests.{Every, nil, more}
use Rattle.theory_walk.proofs.SearchLaws.{first_line_high, pair_high}
use Rattle.theory_walk.proofs.LinesLaws.{in_grid_on, each_on, start_low, start_high, end_high}
use Rattle.theory_walk.proofs.FreeLaws.{Tiled, beyond_primary, beyond_secondary, step2_first, line_first, pair_first, fits_is}
use Rattle.theory_walk.proofs.WalkLaws.{Kept, kept_step4, put_going, each_keeps, stay}

-- the item rules
pub data Good : Placement → Type 0 where
  lines_good : {l : Lines} → negsuc 19999 ≤ℤ l.start → l.start <ℤ l.end → l.end ≤ℤ pos 20000 → Good (Fixed l)
  span_good : {n : ℕ} → 1 ≤ n → n ≤ 10000 → Good (Spanned n)

-- lines that are searched or taken
pub record Within (l : Lines) : Type 0 where
  pub low : negsuc 19999 ≤ℤ l.start
  pub high : l.end ≤ℤ pos 22000

pub record WithinArea (a : Extent) : Type 0 where
  pub columns : Within a.columns
  pub rows : Within a.rows

within_laid : (x : Axis) (p s : Lines) → Within p → Within s → WithinArea (laid x p s)
within_laid col p s f g = record { columns = f; rows = g }
within_laid row p s f g = record { columns = g; rows = f }

-- every line that a search looks at lies between its start and what it finds
pub looked : (ok : ℤ → Bool) (z r : ℤ) (n : ℕ) → FirstLine ok z r → negsuc 19999 ≤ℤ z → (r +ℤ pos n) ≤ℤ pos 22000 → (y : ℤ) → z ≤ℤ y → y ≤ℤ r → Within (from y n)
looked ok z r n f a b y c d = record { low = omega signed; high = omega signed }

-- ---- step 1

pub within1 : (w : Setting) (p s : Lines) (t : Board) → Good (Fixed p) → Good (Fixed s) → WithinArea (choose1 w p s t).area
unfolding choose1
within1 w p s t (lines_good e f g) (lines_good h i j) =
    within_laid w.axis p s (record { low = e; high = omega signed }) (record { low = h; high = omega signed })

-- ---- step 2

-- from -10000 to 10000
pub record Grid (z : ℤ) : Type 0 where
  pub low : negsuc 9999 ≤ℤ z
  pub high : z ≤ℤ pos 10000

grid_cond : (t : Bool) (a b : ℤ) → Grid a → Grid b → Grid (cond t a b)
grid_cond true a b f g = f
grid_cond false a b f g = g

grid_largest : (z : ℤ) (ys : List ℤ) → Grid z → Every Grid ys → Grid (largest z ys)
unfolding largest
grid_largest z [] f g = f
grid_largest z (y ∷ ys) f (more g gs) = grid_cond (lt_z z (largest y ys)) (largest y ys) z (grid_largest y ys g gs) f

grid_largest_or : (g : ℤ) (ys : List ℤ) → Grid g → Every Grid ys → Grid (largest_or g ys)
unfolding largest_or
grid_largest_or g [] f h = f
grid_largest_or g (z ∷ zs) f (more h hs) = grid_largest z zs h hs

every_cond : (t : Bool) (z : ℤ) (ys : List ℤ) → Grid z → Every Grid ys → Every Grid (cond t (z ∷ ys) ys)
every_cond true z ys f g = more f g
every_cond false z ys f g = g

grid_ends : (p : Axis) (c : ℤ) {ts : List Tile} → Tiled ts → Every Grid (ends_on p c ts)
unfolding ends_on
grid_ends p c nil = nil
grid_ends p c (more {x = t} {xs = ts} g gs) =
    let l = in_grid_on p t.area g in
    let e : Grid (on p t.area).end = record { low = omega signed; high = l.high } in
    every_cond (eqb t.step 2 && eq_z (on (other p) t.area).start c) (on p t.area).end (ends_on p c ts) e (grid_ends p c gs)

grid_start_lem : (x : Axis) (t : Board) → Kept t → Grid (grid_start (on x t.counts))
grid_start_lem x t k =
    let s : Sound (on x t.counts) = each_on x t.counts k.counts in
    record { low = start_low (on x t.counts) s; high = let h = start_high (on x t.counts) in omega signed }

pub start2_grid : (w : Setting) (c : ℤ) (t : Board) → Kept t → Grid (start2 w c t)
unfolding start2
start2_grid w c t k =
    let g = grid_start (on w.axis t.counts) in
    let h = grid_start_lem w.axis t k in
    grid_cond w.dense g (largest_or g (ends_on w.axis c t.tiles)) h (grid_largest_or g (ends_on w.axis c t.tiles) h (grid_ends w.axis c k.tiles))

pub within2 : (w : Setting) (n : ℕ) (s : Lines) (t : Board) → Kept t → Good (Spanned n) → Good (Fixed s) → WithinArea (choose2 w n s t).area
unfolding choose2
within2 w n s t k (span_good a b) (lines_good e f g) =
    let z = start2 w s.start t in
    let ok = free_at w t n s in
    let r = first_line ok z in
    let i = start2_grid w s.start t k in
    let u = (step2_first w t k.tiles n s).since in
    let v = first_line_high ok (λ y h. beyond_primary w.axis (from y n) s k.tiles h) z (pos 10000) i.high (omega signed) in
    within_laid w.axis (from r n) s (record { low = omega signed; high = omega signed }) (record { low = e; high = omega signed })

-- every primary line that step 2 looks at
pub looked2 : (w : Setting) (n : ℕ) (s : Lines) (t : Board) → Kept t → Good (Spanned n) → (y : ℤ) → start2 w s.start t ≤ℤ y → y ≤ℤ first_line (free_at w t n s) (start2 w s.start t) → Within (from y n)
looked2 w n s t k (span_good a b) y e f =
    let z = start2 w s.start t in
    let ok = free_at w t n s in
    let i = start2_grid w s.start t k in
    let v = first_line_high ok (λ x h. beyond_primary w.axis (from x n) s k.tiles h) z (pos 10000) i.high (omega signed) in
    record { low = omega signed; high = omega signed }

-- ---- step 4

-- THE CURSOR after k items of step 4: its secondary line is at most 10000 + k
pub record CursorIn (k : ℕ) (q : Place) : Type 0 where
  pub p_low : negsuc 19999 ≤ℤ q.primary
  pub p_high : q.primary ≤ℤ pos 20000
  pub s_low : negsuc 9999 ≤ℤ q.secondary
  pub s_high : q.secondary ≤ℤ pos (10000 + k)

cursor_more : (k : ℕ) (q : Place) → CursorIn k q → CursorIn (suc k) q
cursor_more k q c = omega signed

cursor_cond : (b : Bool) (k : ℕ) (x y : Place) → CursorIn k x → CursorIn k y → CursorIn k (cond b x y)
cursor_cond true k x y f g = f
cursor_cond false k x y f g = g

-- a start of a secondary search
record Start (k : ℕ) (z : ℤ) : Type 0 where
  pub low : negsuc 9999 ≤ℤ z
  pub high : z ≤ℤ pos (10001 + k)

start_cond : (b : Bool) (k : ℕ) (x y : ℤ) → Start k x → Start k y → Start k (cond b x y)
start_cond true k x y f g = f
start_cond false k x y f g = g

module _ (w : Setting) (once : Place) (k : ℕ) (t : Board) (b : Kept t) (q : CursorIn k t.cursor) (o : CursorIn 0 once) where
  start4_in : (a : ℤ) → Start k (start4 w a t)
  unfolding start4
  start4_in a =
      let g = grid_start_lem (other w.axis) t b in
      let s = t.cursor.secondary in
      let s₁ : Start k (grid_start (on (other w.axis) t.counts)) = record { low = g.low; high = omega signed } in
      let s₂ : Start k (s +ℤ pos 1) = record { low = omega signed; high = omega signed } in
      let s₃ : Start k s = record { low = q.s_low; high = omega signed } in
      start_cond w.dense k (grid_start (on (other w.axis) t.counts)) (cond (lt_z a t.cursor.primary) (s +ℤ pos 1) s) s₁ (start_cond (lt_z a t.cursor.primary) k (s +ℤ pos 1) s s₂ s₃)

  -- fixed primary
  module _ (p : Lines) (m : ℕ) (f : Good (Fixed p)) (g : Good (Spanned m)) where
    abbrev ok : ℤ → Bool
    ok = free_across w t p m

    abbrev r : ℤ
    r = first_line ok (start4 w p.start t)

    line_in : Start k r
    line_in =
        let s = start4_in p.start in
        let u = (line_first w t b.tiles p m).since in
        let v = first_line_high ok (λ y h. beyond_secondary w.axis p (from y m) b.tiles h) (start4 w p.start t) (pos (10001 + k)) s.high (omega signed) in
        record { low = omega signed; high = v }

    pub within_line : k < 2000 → WithinArea (choose_line w once p m t).area
    unfolding choose_line
    within_line h = go f g
      where
        go : Good (Fixed p) → Good (Spanned m) → WithinArea (laid w.axis p (from r m))
        go (lines_good c d e) (span_good i j) =
            let l = line_in in
            within_laid w.axis p (from r m) (record { low = c; high = omega signed }) (record { low = omega signed; high = omega signed })

    -- every secondary line that it looks at
    pub looked_line : k < 2000 → (y : ℤ) → start4 w p.start t ≤ℤ y → y ≤ℤ r → Within (from y m)
    looked_line h y i j = go g
      where
        go : Good (Spanned m) → Within (from y m)
        go (span_good d e) =
            let l = line_in in
            let s = start4_in p.start in
            record { low = omega signed; high = omega signed }

    cursor_line : CursorIn (suc k) (choose_line w once p m t).cursor
    unfolding choose_line moved
    cursor_line = go f
      where
        go : Good (Fixed p) → CursorIn (suc k) (cond w.dense once (at p.end r))
        go (lines_good c d e) =
            let l = line_in in
            let u : CursorIn (suc k) once = omega signed in
            cursor_cond w.dense (suc k) once (at p.end r) u (record { p_low = omega signed; p_high = e; s_low = l.low; s_high = omega signed })

  -- neither fixed
  module _ (n m : ℕ) (f : Good (Spanned n)) (g : Good (Spanned m)) where
    abbrev c : TrackCounts
    c = on w.axis t.counts

    record PairIn (r : Place) : Type 0 where
      pub p_low : negsuc 19999 ≤ℤ r.primary
      pub p_end : (r.primary +ℤ pos n) ≤ℤ pos 10000
      pub s_in : Start k r.secondary

    untested_in : n ≤ 10000 → PairIn (untested w t)
    unfolding untested
    untested_in h =
        let v = grid_start_lem w.axis t b in
        let v₀ = start_high c in
        let s = t.cursor.secondary in
        let s₂ : Start k (s +ℤ pos 1) = record { low = omega signed; high = omega signed } in
        let s₃ : Start k s = record { low = q.s_low; high = omega signed } in
        record { p_low = omega signed; p_end = omega signed; s_in = start_cond (eq_z t.cursor.primary (grid_start c)) k s (s +ℤ pos 1) s₃ s₂ }

    found_in : overwide n c ≡ false → PairIn (pair_of w n m t)
    found_in e =
        let v = pair_first w t b.tiles n m e in
        let fits = fits_is w t b.tiles n e in
        let hi = pair_high n (grid_end c) (grid_start c) (free_pair w t n m) (λ y x h. beyond_secondary w.axis (from y n) (from x m) b.tiles h) fits t.cursor.primary t.cursor.secondary (pos (10001 + k)) (pair_of w n m t) v (omega signed) (omega signed) in
        go (pair_of w n m t).primary (pair_of w n m t).secondary v.tried hi
      where
        go : (y x : ℤ) → Tried n (grid_end c) (grid_start c) t.cursor.primary t.cursor.secondary y x → x ≤ℤ pos (10001 + k) → PairIn (at y x)
        go y x (here i j) h =
            let u = end_high c (each_on w.axis t.counts b.counts) in
            record { p_low = omega signed; p_end = omega signed; s_in = record { low = q.s_low; high = h } }
        go y x (later i j l) h =
            let u = end_high c (each_on w.axis t.counts b.counts) in
            let v = grid_start_lem w.axis t b in
            record { p_low = omega signed; p_end = omega signed; s_in = record { low = omega signed; high = h } }

    pair_in : PairIn (cond (overwide n c) (untested w t) (pair_of w n m t))
    pair_in = go f
      where
        by : n ≤ 10000 → (x : Bool) → overwide n c ≡ x → PairIn (cond x (untested w t) (pair_of w n m t))
        by h true e = untested_in h
        by h false e = found_in e

        go : Good (Spanned n) → PairIn (cond (overwide n c) (untested w t) (pair_of w n m t))
        go (span_good i j) = by j (overwide n c) refl

    pub within_pair : k < 2000 → WithinArea (choose_pair w once n m t).area
    unfolding choose_pair
    within_pair h = go g
      where
        r : Place
        r = cond (overwide n c) (untested w t) (pair_of w n m t)

        go : Good (Spanned m) → WithinArea (laid w.axis (from r.primary n) (from r.secondary m))
        go (span_good i j) =
            let v = pair_in in
            within_laid w.axis (from r.primary n) (from r.secondary m) (record { low = v.p_low; high = omega signed }) (record { low = omega (signed, v.s_in.low); high = omega (signed, v.s_in.high) })

    -- every place that it looks at
    pub looked_pair : k < 2000 → overwide n c ≡ false → (y x : ℤ) → Tried n (grid_end c) (grid_start c) t.cursor.primary t.cursor.secondary y x → x ≤ℤ (pair_of w n m t).secondary → WithinArea (laid w.axis (from y n) (from x m))
    looked_pair h e y x v i = go g v i
      where
        go : Good (Spanned m) → {y x : ℤ} → Tried n (grid_end c) (grid_start c) t.cursor.primary t.cursor.secondary y x → x ≤ℤ (pair_of w n m t).secondary → WithinArea (laid w.axis (from y n) (from x m))
        go (span_good d j) {y} {x} (here z l) i =
            let o₁ = (found_in e).s_in in
            let u = end_high c (each_on w.axis t.counts b.counts) in
            within_laid w.axis (from y n) (from x m) (record { low = omega signed; high = omega signed }) (record { low = omega signed; high = omega signed })
        go (span_good d j) {y} {x} (later f₁ z l) i =
            let o₁ = (found_in e).s_in in
            let u = end_high c (each_on w.axis t.counts b.counts) in
            let g₁ = grid_start_lem w.axis t b in
            within_laid w.axis (from y n) (from x m) (record { low = omega signed; high = omega signed }) (record { low = omega signed; high = omega signed })

    cursor_pair : CursorIn (suc k) (choose_pair w once n m t).cursor
    unfolding choose_pair moved
    cursor_pair =
        let r = cond (overwide n c) (untested w t) (pair_of w n m t) in
        let v = pair_in in
        let u : CursorIn (suc k) once = omega signed in
        cursor_cond w.dense (suc k) once (at (r.primary +ℤ pos n) r.secondary) u
        (record { p_low = omega signed; p_high = omega signed; s_low = v.s_in.low; s_high = omega (signed, v.s_in.high) })

-- ---- through the whole of step 4

abbrev pub GoodItem : Placement → Placement → Type 0
GoodItem p s = Good p × Good s

pub record Run4 (k : ℕ) (b : Board) : Type 0 where
  pub kept : Kept b
  pub cursor : CursorIn k b.cursor

module _ (w : Setting) (once : Place) (o : CursorIn 0 once) where
  laid_cursor : (i : ℕ) (h : Choice) (t b : Board) → laid_on i h t ≡ b → (k : ℕ) → CursorIn k h.cursor → CursorIn k b.cursor
  unfolding laid_on
  laid_cursor i h t b e k c = rw (← e) c

  pub run4_item : (k i : ℕ) (p s : Placement) (t b : Board) → GoodItem p s → Run4 k t → step4 w once i p s t ≡ going b → Run4 (suc k) b
  unfolding step4
  run4_item k i p s t b g r e = record { kept = kept_step4 w once i p s t b r.kept e; cursor = go p s g e }
    where
      go : (p s : Placement) → GoodItem p s → step4 w once i p s t ≡ going b → CursorIn (suc k) b.cursor
      go (Fixed p) (Fixed s) g e = rw (← (stay e)) (cursor_more k t.cursor r.cursor)
      go (Fixed p) (Spanned m) g e =
          laid_cursor i (choose_line w once p m t) t b (put_going w i (choose_line w once p m t) t b e) (suc k) (cursor_line w once k t r.kept r.cursor o p m g.0 g.1)
      go (Spanned n) (Fixed s) g e = rw (← (stay e)) (cursor_more k t.cursor r.cursor)
      go (Spanned n) (Spanned m) g e =
          laid_cursor i (choose_pair w once n m t) t b (put_going w i (choose_pair w once n m t) t b e) (suc k) (cursor_pair w once k t r.kept r.cursor o n m g.0 g.1)

  -- after any items of step 4 the cursor is where `CursorIn` says
  pub run4 : (qs : List Queued) (k : ℕ) (t b : Board) → Every (λ (q : Queued). GoodItem (on w.axis q.item) (on (other w.axis) q.item)) qs → Run4 k t → each w (step4 w once) qs t ≡ going b → Run4 (length qs + k) b
  run4 qs k t b g h e = each_keeps w (step4 w once) (λ _. GoodItem) Run4 run4_item qs k t b g h e

-- "so all sums fit 16 bits": the cursor's lines with a span added, tested or taken
pub sums_fit : (k : ℕ) (q : Place) → CursorIn k q → k < 2000 → (n : ℕ) → n ≤ 10000 → (SFits w16 (q.primary +ℤ pos n)) × (SFits w16 (q.secondary +ℤ pos n)) × (SFits w16 (q.secondary +ℤ pos 1 +ℤ pos n))
sums_fit k q c h n i = (omega signed, omega signed, omega (signed, sum q.secondary (pos 1)))

-- whatever is within fits
pub within_fits : (l : Lines) → Within l → l.start <ℤ l.end → (SFits w16 l.start) × (SFits w16 l.end)
within_fits l h o = (omega signed, omega signed)
