-- Step 4 on the lists: what the program settles from the cursor, the counts and one list is what the walk settles on the board, and laying it moves the
-- cursor as the walk does.
use Rattle.std.specs.Prelude.{Result, Ok, Err}
use mathlib.Core.Path.{◌≡◌, refl, sym, ap, subst, ◌∙◌}
use mathlib.Core.Bool.{Bool, true, false, cond}
use mathlib.Core.List.{List}
use Prim.Native.Nat.{ℕ, suc, ◌+◌, ◌/◌, ◌%◌, ◌≤◌, ◌<◌}
use native.Mathlib.Omega.{arith}
use lib.IntN.{ℤ, pos, ◌+ℤ◌}
use lib.ListN.{length, drop}
use lib.Signed.{◌<ℤ◌}
use mir.Syntax.{w16}
use mir.Val.{SFits}
use Rattle.theory_signed.proofs.Laws.{signed}
use Rattle.theory_intervals.specs.Records.{Rec}
use Rattle.theory_intervals.specs.Lists.{recs}
use Rattle.grid_coordinates.specs.declared.Lines.{Lines}
use Rattle.grid_track_counts.specs.declared.TrackCounts.{TrackCounts}
use Rattle.grid_track_counts.specs.Counts.{grid_start, grid_end, Sound}
use Rattle.theory_walk.specs.Axis.{Axis, other, Both, on, laid, from}
use Rattle.theory_walk.specs.Search.{first_line, Place, at}
use Rattle.theory_walk.specs.Request.{good_item}
use Rattle.theory_walk.specs.Rules.{Rule4, finds_line, finds_pair, lays_untested}
use Rattle.theory_walk.specs.declared.Placement.{Placement}
use Rattle.theory_walk.specs.declared.Placement.TheVariants.{Fixed, Spanned}
use Rattle.theory_walk.specs.Walk.{Board, Setting, Choice, Run, going, stopped, bit, laid_on, put, moved, start4, free_across, choose_line, overwide, pair_of, untested, choose_pair, step4, each, begin4, last4}
use Rattle.theory_walk.proofs.LinesLaws.{start_low, start_high}
use Rattle.theory_walk.proofs.Cells.{records_rules}
use Rattle.theory_walk.proofs.FreeLaws.{choose_line_rule, choose_pair_rule}
use Rattle.theory_walk.proofs.WalkLaws.{Fair, kept_laid, put_going}
use Rattle.theory_walk.proofs.Range.{Good, lines_good, span_good, Within, WithinArea, CursorIn, within_pair, GoodItem, run4_item}
use Rattle.placing_search.specs.Clear.{clear, Inside}
use Rattle.placing_search.specs.declared.Pair.{Pair}
use Rattle.placing_search.proofs.OnBoard.{inside_board, across_search, pair_search}
use Rattle.placing_request.specs.Items.{axis_of, item_at, queued}
use Rattle.refusals.specs.declared.Refusal.{Refusal}
use Rattle.placing_laying.specs.declared.Matrix.{Matrix}
use Rattle.placing_laying.specs.Laying.{Laying}
use Rattle.placing_laying.specs.Ready.{setting_for, Ready, AfterItem, AfterStep, primary_of, secondary_of}
use Rattle.placing_step4_choice.specs.Cursor.{place_of, start_on, line_on, pair_on}
use Rattle.placing_step4.specs.Turns.{AfterTurn}
use Rattle.placing_laying.proofs.Lays.{put_laid, primary_recs, secondary_recs}
use Rattle.placing_laying.proofs.Steps.{both_good, span_in, next, stops, done}

-- bit 4 or none
pub mark_good : (t : Bool) (flags : ℕ) → flags ≡ bit 4 t → (flags % 2 ≡ 0) × (flags < 8)
mark_good true flags e = rw e (refl, omega arith)
mark_good false flags e = rw e (refl, omega arith)

-- ---- the items of step 4, by their placements

module _ (w : Setting) (once : Place) (i : ℕ) (t : Board) where
  pub pass_fixed : (P S : Placement) (s : Lines) → S ≡ Fixed s → step4 w once i P S t ≡ going t
  unfolding step4
  pass_fixed (Fixed p) S s e = rw e
  pass_fixed (Spanned n) S s e = rw e

  pub by_line : (P S : Placement) (p : Lines) (m : ℕ) → P ≡ Fixed p → S ≡ Spanned m → step4 w once i P S t ≡ put w i (choose_line w once p m t) t
  unfolding step4
  by_line P S p m e f = rw (e, f)

  pub by_pair : (P S : Placement) (n m : ℕ) → P ≡ Spanned n → S ≡ Spanned m → step4 w once i P S t ≡ put w i (choose_pair w once n m t) t
  unfolding step4
  by_pair P S n m e f = rw (e, f)

-- ---- laying a tile, and the cursor after it

fair4 : {w : Setting} {once : Place} {t : Board} {P S : Placement} {h : Choice} → Rule4 w once t P S h → Fair t h
fair4 (finds_line f) = λ _. f.passes
fair4 (finds_pair e f) = λ _. f.passes
fair4 (lays_untested e) = λ z. absurd (let o : ⊥ = omega arith in o)

laid_cursor : (i : ℕ) (h : Choice) (b t : Board) → laid_on i h b ≡ t → h.cursor ≡ t.cursor
unfolding laid_on
laid_cursor i h b t e = rw (← e)

-- what laying a tile came to, with the cursor that goes with it
abbrev pub turn_of : Result Matrix Refusal → Pair → Result (Matrix × Pair) Refusal
turn_of (Ok m) z = Ok (m, z)
turn_of (Err x) z = Err x

-- a place of the walk as the program's pair of lines
abbrev pub pair_at : Place → Pair
pair_at y = record { primary = y.primary; secondary = y.secondary }

module _ (columns : Bool) (room : Both ℕ) (old : List ℤ) where
  turn : (w : Setting) (i : ℕ) (h : Choice) (b : Board) (z : Pair) → h.cursor ≡ place_of z → (r : Result Matrix Refusal) (a p s : List ℤ) → AfterItem columns room old i (put w i h b) r a p s
      → AfterTurn columns room old i (put w i h b) (turn_of r z) a p s
  turn w i h b z e r a p s g = go (put w i h b) refl g
    where
      go : (u : Run) → put w i h b ≡ u → AfterItem columns room old i u r a p s → AfterTurn columns room old i u (turn_of r z) a p s
      go (going t) f (m, (x, k)) = (m, (z, (ap (λ (y : Result Matrix Refusal). turn_of y z) x, (k, sym (laid_cursor i h b t (put_going w i h b t f)) ∙ e))))
      go (stopped n j) f (x, y) = (ap (λ (v : Result Matrix Refusal). turn_of v z) x, y)

module _ {columns : Bool} {room : Both ℕ} {old : List ℤ} where
  -- an item that an earlier step has laid
  pub stays : {b : Board} {m : Matrix} {a p s : List ℤ} (i : ℕ) (q : Pair) → Ready columns room old b m a p s → b.cursor ≡ place_of q
      → (u : Run) → u ≡ going b → AfterTurn columns room old i u (Ok (m, q)) a p s
  stays {b} {m} {a} {p} {s} i q k e u f = subst (λ (v : Run). AfterTurn columns room old i v (Ok (m, q)) a p s) (sym f) (m, (q, (refl, (k, e))))

-- the lines of an area by the axis
within_both : (c : Bool) (p s : Lines) → WithinArea (laid (axis_of c) p s) → Within p × Within s
within_both true p s h = (h.columns, h.rows)
within_both false p s h = (h.rows, h.columns)

inside_of : (c : Bool) {rs : List (Rec ℤ)} (x : Both TrackCounts) → Inside rs (grid_start (on (other (other (axis_of c))) x)) (grid_end (on (other (other (axis_of c))) x)) → Inside rs (grid_start (on (axis_of c) x)) (grid_end (on (axis_of c) x))
inside_of true x h = h
inside_of false x h = h

module _ {columns : Bool} {room : Both ℕ} {old : List ℤ} {b : Board} {m : Matrix} {answers primary secondary : List ℤ} (k : Ready columns room old b m answers primary secondary) where
  -- every record of the secondary list lies between the primary grid lines
  pub pair_inside : Inside (recs m.secondary_used secondary) (grid_start m.primary) (grid_end m.primary)
  pair_inside =
      rw (secondary_recs k, k.primary_counts)
      (inside_of columns b.counts (inside_board (other (axis_of columns)) b.tiles b.counts (records_rules (other (axis_of columns)) b.tiles k.kept.tiles k.coloured) k.kept.tiles k.coloured k.kept.covered))

  -- the lists do not know the cursor
  pub with_cursor : (q : Place) → Ready columns room old (record { tiles = b.tiles; counts = b.counts; cursor = q }) m answers primary secondary
  with_cursor q =
      record {
        kept = record { tiles = k.kept.tiles; counts = k.kept.counts; covered = k.kept.covered; clear = k.kept.clear };
        coloured = k.coloured;
        primary_counts = k.primary_counts;
        secondary_counts = k.secondary_counts;
        primary_used = k.primary_used;
        secondary_used = k.secondary_used;
        primary_room = k.primary_room;
        secondary_room = k.secondary_room;
        primary_list = k.primary_list;
        secondary_list = k.secondary_list;
        answered = k.answered;
      }

  module _ (dense : Bool) (q : Pair) (e : b.cursor ≡ place_of q) where
    abbrev w : Setting
    w = setting_for columns dense room

    abbrev px : Axis
    px = axis_of columns

    start_is : (a : ℤ) → start_on dense q m.secondary a ≡ start4 w a b
    unfolding start4
    start_is a = rw (k.secondary_counts, e)

    line_is : (p : Lines) (n : ℕ) → 1 ≤ n → p.start <ℤ p.end
        → line_on dense q m.secondary p n (recs m.primary_used primary) ≡ first_line (free_across w b p n) (start4 w p.start b)
    line_is p n h i =
        (λ j. first_line (λ y. clear (primary_recs k j) p (from y n)) (start_is p.start j))
        ∙ sym (across_search w b k.kept.tiles k.coloured p n h i (start4 w p.start b))

    pair_is : (n l : ℕ) → 1 ≤ n → 1 ≤ l
        → pair_on q m.primary n l (recs m.secondary_used secondary) ≡ cond (overwide n (on px b.counts)) (untested w b) (pair_of w n l b)
    unfolding untested pair_of
    pair_is n l h i =
        rw (k.primary_counts, secondary_recs k, e, pair_search w b k.kept.tiles k.coloured n l h i)

    -- FIXED PRIMARY: what is laid at the first free secondary line is what the walk lays
    pub line_laid : (once : Pair) (i : ℕ) (p s : Lines) (n : ℕ) → Good (Fixed p) → Good (Spanned n)
        → s ≡ from (line_on dense q m.secondary p n (recs m.primary_used primary)) n
        → (z : Pair) → place_of z ≡ cond dense (place_of once) (at p.end s.start)
        → (r : Result Matrix Refusal) (a' p' s' : List ℤ) → Laying columns p s (pos 2) 0 m i answers primary secondary r a' p' s'
        → AfterTurn columns room old i (put w i (choose_line w (place_of once) p n b) b) (turn_of r z) a' p' s'
    unfolding choose_line moved
    line_laid once i p s n (lines_good c d f) (span_good g h) x z y r a' p' s' v =
        let u = line_is p n g d in
        let o : s ≡ from (first_line (free_across w b p n) (start4 w p.start b)) n = x ∙ ap (λ (t : ℤ). from t n) u in
        let choice = choose_line w (place_of once) p n b in
        turn columns room old w i choice b z (sym (y ∙ ap (λ (t : Lines). cond dense (place_of once) (at p.end t.start)) o)) r a' p' s'
        (put_laid columns dense room old b m answers primary secondary k p s (pos 2) i choice (ap (λ (t : Lines). laid (axis_of columns) p t) (sym o)) refl refl (kept_laid i choice b (fair4 (choose_line_rule w (place_of once) p n b k.kept.tiles)) k.kept) v)

    -- NEITHER FIXED: the lines fit 16 bits
    pub pair_fits : (n l : ℕ) → Good (Spanned n) → Good (Spanned l) → CursorIn 1999 (place_of q) → (z : Pair) → place_of z ≡ pair_on q m.primary n l (recs m.secondary_used secondary)
        → SFits w16 (z.primary +ℤ pos n) × SFits w16 (z.secondary +ℤ pos l)
    unfolding choose_pair
    pair_fits n l f g c z x =
        let r = cond (overwide n (on px b.counts)) (untested w b) (pair_of w n l b) in
        let o = at (pos 0) (pos 0) in
        let v = within_both columns (from r.primary n) (from r.secondary l) (within_pair w o 1999 b k.kept (subst (CursorIn 1999) (sym e) c) (omega signed) n l f g (omega arith)) in
        go f g (x ∙ pair_is n l (span_in f).0 (span_in g).0) v.0 v.1
      where
        go : {r : Place} → Good (Spanned n) → Good (Spanned l) → place_of z ≡ r → Within (from r.primary n) → Within (from r.secondary l) → SFits w16 (z.primary +ℤ pos n) × SFits w16 (z.secondary +ℤ pos l)
        go {r} (span_good h i) (span_good y j) e v u =
            let a = ap (λ (t : Place). t.primary) e in
            let d = ap (λ (t : Place). t.secondary) e in
            (omega signed, omega signed)

    -- and what is laid at the first free pair, or untested, is what the walk lays
    pub pair_laid : (once : Pair) (i : ℕ) (p s : Lines) (n l flags : ℕ) → Good (Spanned n) → Good (Spanned l) → (place : Pair)
        → place_of place ≡ pair_on q m.primary n l (recs m.secondary_used secondary) → flags ≡ bit 4 (overwide n m.primary)
        → p ≡ from place.primary n → s ≡ from place.secondary l
        → (z : Pair) → place_of z ≡ cond dense (place_of once) (at p.end s.start)
        → (r : Result Matrix Refusal) (a' p' s' : List ℤ) → Laying columns p s (pos 2) flags m i answers primary secondary r a' p' s'
        → AfterTurn columns room old i (put w i (choose_pair w (place_of once) n l b) b) (turn_of r z) a' p' s'
    unfolding choose_pair moved
    pair_laid once i p s n l flags (span_good f g) (span_good h h') place x fl pe se z y r a' p' s' v =
        let u : place_of place ≡ cond (overwide n (on px b.counts)) (untested w b) (pair_of w n l b) = x ∙ pair_is n l f h in
        let o₁ = pe ∙ ap (λ (t : Place). from t.primary n) u in
        let o₂ = se ∙ ap (λ (t : Place). from t.secondary l) u in
        let fl' : flags ≡ bit 4 (overwide n (on px b.counts)) = fl ∙ ap (λ (t : TrackCounts). bit 4 (overwide n t)) k.primary_counts in
        let choice = choose_pair w (place_of once) n l b in
        turn columns room old w i choice b z (sym (y ∙ (λ j. cond dense (place_of once) (at (o₁ j).end (o₂ j).start)))) r a' p' s'
        (put_laid columns dense room old b m answers primary secondary k p s (pos 2) i choice (λ j. laid (axis_of columns) (sym o₁ j) (sym o₂ j)) refl refl (kept_laid i choice b (fair4 (choose_pair_rule w (place_of once) n l b k.kept.tiles)) k.kept) (subst (λ (t : ℕ). Laying columns p s (pos 2) t m i answers primary secondary r a' p' s') fl' v))

-- ---- the loop over the items: the board that the lists stand for now, with its cursor, and that what is left to do from it is what the whole step does

pub record Left (columns dense : Bool) (room : Both ℕ) (old items : List ℤ) (b : Board) (once : Pair) (i : ℕ) (m : Matrix) (q : Pair) (answers primary secondary : List ℤ) : Type 0 where
  pub board : Board
  pub ready : Ready columns room old board m answers primary secondary
  pub cursor : board.cursor ≡ place_of q
  pub near : CursorIn i (place_of q)
  pub same : each (setting_for columns dense room) (step4 (setting_for columns dense room) (place_of once)) (drop i (queued items)) board ≡ last4 (setting_for columns dense room) (queued items) (begin4 (setting_for columns dense room) (λ c. c) b)

-- whatever board the lists stood for at the loop's start
pub record Going (columns dense : Bool) (items : List ℤ) (m₀ : Matrix) (a₀ p₀ s₀ : List ℤ) (once : Pair) (i : ℕ) (m : Matrix) (q : Pair) (answers primary secondary : List ℤ) : Type 0 where
  pub once_near : CursorIn 0 (place_of once)
  pub from_start : (room : Both ℕ) (old : List ℤ) (b : Board) → Ready columns room old b m₀ a₀ p₀ s₀ → Left columns dense room old items b once i m q answers primary secondary

-- "The cursor starts at the grid start lines read once before this step"
pub once_is_near : (m : Matrix) (once : Pair) → Sound m.primary → Sound m.secondary → place_of once ≡ at (grid_start m.primary) (grid_start m.secondary) → CursorIn 0 (place_of once)
once_is_near m once f g e =
    let a = start_low m.primary f in
    let b = start_high m.primary in
    let c = start_low m.secondary g in
    let d = start_high m.secondary in
    subst (CursorIn 0) (sym e) (record { p_low = omega signed; p_high = omega signed; s_low = c; s_high = omega signed })

pub going_none : (columns dense : Bool) (items : List ℤ) (m : Matrix) (once : Pair) (a p s : List ℤ) → CursorIn 0 (place_of once) → place_of once ≡ at (grid_start m.primary) (grid_start m.secondary)
    → Going columns dense items m a p s once 0 m once a p s
unfolding begin4 last4
going_none columns dense items m once a p s o e = record { once_near = o; from_start = λ room old b k. begun room old b k }
  where
    begun : (room : Both ℕ) (old : List ℤ) (b : Board) → Ready columns room old b m a p s → Left columns dense room old items b once 0 m once a p s
    begun room old b k =
        let w = setting_for columns dense room in
        let x = at (grid_start (on (axis_of columns) b.counts)) (grid_start (on (other (axis_of columns)) b.counts)) in
        let c : x ≡ place_of once = sym (e ∙ (λ j. at (grid_start (k.primary_counts j)) (grid_start (k.secondary_counts j)))) in
        record {
          board = record { tiles = b.tiles; counts = b.counts; cursor = x };
          ready = with_cursor k x;
          cursor = c;
          near = o;
          same = ap (λ (z : Place). each w (step4 w z) (queued items) (record { tiles = b.tiles; counts = b.counts; cursor = x })) (sym c);
        }

-- a turn without its cursor
same_turn : (m n : Matrix) (z y : Pair) → ◌≡◌ {A = Result (Matrix × Pair) Refusal} (Ok (m, z)) (Ok (n, y)) → (m ≡ n) × (z ≡ y)
same_turn m n z y e =
    let f : ◌≡◌ {A = Matrix × Pair} (m, z) (n, y) = cc in
    (ap (λ (x : Matrix × Pair). x.0) f, ap (λ (x : Matrix × Pair). x.1) f)

module _ (columns : Bool) (room : Both ℕ) (old : List ℤ) (i : ℕ) (a p s : List ℤ) where
  item_on : (u : Run) (m : Matrix) (z : Pair) → AfterTurn columns room old i u (Ok (m, z)) a p s → AfterItem columns room old i u (Ok m) a p s
  item_on (going t) m z (n, (y, (e, (k, c)))) = (n, (ap Ok (same_turn m n z y e).0, k))
  item_on (stopped n j) m z (e, f) = cc

  item_stops : (u : Run) (x : Refusal) → AfterTurn columns room old i u (Err x) a p s → AfterItem columns room old i u (Err x) a p s
  item_stops (going t) x (n, (y, (e, f))) = cc
  item_stops (stopped n j) x (e, f) = (cc, f)

  turn_cursor : (t : Board) (m : Matrix) (z : Pair) → AfterTurn columns room old i (going t) (Ok (m, z)) a p s → t.cursor ≡ place_of z
  turn_cursor t m z (n, (y, (e, (k, c)))) = c ∙ ap place_of (sym (same_turn m n z y e).1)

module _ {columns dense : Bool} {items : List ℤ} {m₀ : Matrix} {a₀ p₀ s₀ : List ℤ} {once : Pair} {i : ℕ} {m : Matrix} {q : Pair} {a p s : List ℤ} (g : Going columns dense items m₀ a₀ p₀ s₀ once i m q a p s) where
  abbrev Item : Result (Matrix × Pair) Refusal → List ℤ → List ℤ → List ℤ → Type 0
  Item r a' p' s' =
      (room : Both ℕ) (old : List ℤ) (b : Board) → Ready columns room old b m a p s → b.cursor ≡ place_of q
      → AfterTurn columns room old i (step4 (setting_for columns dense room) (place_of once) i (primary_of columns items i) (secondary_of columns items i) b) r a' p' s'

  pub going_on : i < length items / 6 → good_item (item_at items i) ≡ true → {m' : Matrix} {z : Pair} {a' p' s' : List ℤ} → Item (Ok (m', z)) a' p' s' → Going columns dense items m₀ a₀ p₀ s₀ once (i + 1) m' z a' p' s'
  going_on h good {m'} {z} {a'} {p'} {s'} v = record { once_near = g.once_near; from_start = λ room old b k. one room old b (g.from_start room old b k) }
    where
      one : (room : Both ℕ) (old : List ℤ) (b : Board) → Left columns dense room old items b once i m q a p s → Left columns dense room old items b once (i + 1) m' z a' p' s'
      one room old b l =
          let w = setting_for columns dense room in
          let P = primary_of columns items i in
          let S = secondary_of columns items i in
          let u = step4 w (place_of once) i P S l.board in
          let t : AfterTurn columns room old i u (Ok (m', z)) a' p' s' = v room old l.board l.ready l.cursor in
          let x = next columns dense room old items (step4 w (place_of once)) i l.board h {m = m'} (item_on columns room old i a' p' s' u m' z t) in
          let at_z = turn_cursor columns room old i a' p' s' x.board m' z (subst (λ (y : Run). AfterTurn columns room old i y (Ok (m', z)) a' p' s') x.ran t) in
          let item_good : GoodItem P S = both_good columns items i P S good refl refl in
          let r = run4_item w (place_of once) g.once_near i i P S l.board x.board item_good (record { kept = l.ready.kept; cursor = subst (CursorIn i) (sym l.cursor) l.near }) x.ran in
          let one_more : i + 1 ≡ suc i = omega arith in
          record {
            board = x.board;
            ready = x.ready;
            cursor = at_z;
            near = rw one_more (subst (CursorIn (suc i)) at_z r.cursor);
            same = sym x.rest ∙ l.same;
          }

  -- the item that ends the step
  pub going_stops : i < length items / 6 → (refusal : Refusal) (a' p' s' : List ℤ) → Item (Err refusal) a' p' s'
      → (room : Both ℕ) (old : List ℤ) (b : Board) → Ready columns room old b m₀ a₀ p₀ s₀
      → AfterStep columns room old (last4 (setting_for columns dense room) (queued items) (begin4 (setting_for columns dense room) (λ c. c) b)) (Err refusal) a' p' s'
  going_stops h refusal a' p' s' v room old b k₀ =
      let l = g.from_start room old b k₀ in
      let w = setting_for columns dense room in
      let u = step4 w (place_of once) i (primary_of columns items i) (secondary_of columns items i) l.board in
      subst (λ (y : Run). AfterStep columns room old y (Err refusal) a' p' s') l.same
      (stops columns dense room old items (step4 w (place_of once)) i l.board h refusal a' p' s' (item_stops columns room old i a' p' s' u refusal (v room old l.board l.ready l.cursor)))

  -- all items are done
  pub going_done : length items / 6 ≤ i → (room : Both ℕ) (old : List ℤ) (b : Board) → Ready columns room old b m₀ a₀ p₀ s₀
      → AfterStep columns room old (last4 (setting_for columns dense room) (queued items) (begin4 (setting_for columns dense room) (λ c. c) b)) (Ok m) a p s
  going_done h room old b k =
      let l = g.from_start room old b k in
      subst (λ (y : Run). AfterStep columns room old y (Ok m) a p s) l.same
      (done columns dense room old items (step4 (setting_for columns dense room) (place_of once)) i l.board h l.ready)

-- the cursor of any item but the last
pub near_all : {i : ℕ} {q : Place} → CursorIn i q → i < 2000 → CursorIn 1999 q
near_all {i} {q} c h = omega signed
