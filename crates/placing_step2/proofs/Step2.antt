-- Step 2 on the lists: an item that is not fixed in the secondary axis only stays as it is, any other is laid on the first free primary line. The answers
-- written so far record the ends that the walk reads off its tiles.
use mathlib.Core.Path.{◌≡◌, refl, sym, ap, subst, ◌∙◌}
use mathlib.Core.Bool.{Bool, true, false, cond, ◌&&◌}
use mathlib.Core.List.{List, [], ◌∷◌}
use Prim.Native.Nat.{ℕ, zero, suc, ◌+◌, ◌-◌, ◌*◌, ◌/◌, ◌≤◌, ◌<◌}
use native.Mathlib.Omega.{arith}
use borrow.Author.Tests.{eq-eqb, ltb-true, ltb-false}
use lib.Dec.{ltb}
use lib.IntN.{ℤ, pos}
use lib.ListN.{length, get_or, set, drop}
use lib.Seq.{sets, get_or-set_same, get_or-set_other}
use lib.Signed.{◌≤ℤ◌, ◌<ℤ◌}
use Rattle.std.specs.Prelude.{Option, Some, None, Result, Ok, Err}
use Rattle.theory_signed.specs.Parts.{eq_z}
use Rattle.theory_signed.proofs.Laws.{signed, by_test, eq_of}
use Rattle.theory_intervals.specs.Lists.{recs, Holds}
use Rattle.grid_coordinates.specs.declared.Lines.{Lines}
use Rattle.grid_coordinates.specs.Line.{limited}
use Rattle.grid_track_counts.specs.Counts.{grid_start}
use Rattle.theory_walk.specs.declared.Placement.{Placement}
use Rattle.theory_walk.specs.declared.Placement.TheVariants.{Fixed, Spanned}
use Rattle.theory_walk.specs.Axis.{Axis, col, row, other, Both, on, laid, from, limited_area}
use Rattle.theory_walk.specs.Search.{first_line}
use Rattle.theory_walk.specs.Walk.{Queued, Tile, Board, Setting, Choice, Run, going, tile_of, laid_on, ends_on, largest, start2, free_at, choose1, choose2, step1, step2, each}
use Rattle.theory_walk.specs.Rules.{mine2}
use Rattle.theory_walk.specs.Request.{numbers}
use Rattle.theory_walk.specs.OnList.{written}
use Rattle.theory_walk.proofs.Tests.{clash}
use Rattle.theory_walk.proofs.FreeLaws.{step2_first}
use Rattle.theory_walk.proofs.SearchLaws.{first_line_high}
use Rattle.theory_walk.proofs.Range.{Grid, start2_grid}
use Rattle.theory_walk.proofs.WalkLaws.{kept_laid, put_going, stay, each_keeps, anyone}
use Rattle.theory_walk.proofs.Answers.{written_laid}
use Rattle.placing_search.specs.Clear.{clear}
use Rattle.placing_search.proofs.Clears.{clear_lines_beyond}
use Rattle.placing_search.proofs.OnBoard.{line_search}
use Rattle.placing_request.specs.Items.{axis_of, queued}
use Rattle.placing_laying.specs.declared.Matrix.{Matrix}
use Rattle.refusals.specs.declared.Refusal.{Refusal}
use Rattle.placing_laying.specs.Laying.{Laying}
use Rattle.placing_laying.specs.Ready.{setting_for, Ready, AfterItem, AfterStep, primary_of, secondary_of}
use Rattle.placing_step2.specs.Ends.{recorded_end, recorded_start, start_place, end_place, counted, starts_at, ends_before, EndsLast, Onward, start_of, Recorded, NoEnds}
use Rattle.placing_laying.proofs.Lays.{put_laid, secondary_recs}
use Rattle.placing_laying.proofs.Steps.{next, stops, done}
use Rattle.placing_step2.proofs.Onward.{ends_onward, beside, further, beside_next, beside_stop}

-- ---- which items are this step's

pub mine_not_secondary : (P S : Placement) (n : ℕ) → S ≡ Spanned n → mine2 P S ≡ false
mine_not_secondary (Fixed p) S n e = refl
mine_not_secondary (Spanned m) S n e = rw e

pub mine_not_primary : (P S : Placement) (p : Lines) → P ≡ Fixed p → mine2 P S ≡ false
mine_not_primary P S p e = rw e

pub mine_yes : (P S : Placement) (n : ℕ) (s : Lines) → P ≡ Spanned n → S ≡ Fixed s → mine2 P S ≡ true
mine_yes P S n s e f = rw (e, f)

pub pass_secondary : (w : Setting) (i : ℕ) (P S : Placement) (t : Board) (n : ℕ) → S ≡ Spanned n → step2 w i P S t ≡ going t
unfolding step2
pass_secondary w i (Fixed p) S t n e = rw e
pass_secondary w i (Spanned m) S t n e = rw e

pub pass_primary : (w : Setting) (i : ℕ) (P S : Placement) (t : Board) (p : Lines) → P ≡ Fixed p → step2 w i P S t ≡ going t
unfolding step2
pass_primary w i P (Fixed s) t p e = rw e
pass_primary w i P (Spanned m) t p e = rw e

-- ---- the recorded ends, one item further

is_there : (b : Bool) (e x : ℤ) → Some x ≡ cond b (Some e) None → (b ≡ true) × (x ≡ e)
is_there true e x h = (refl, cc)
is_there false e x h = cc

-- an end that is found is the newest
abbrev pub newest : Option ℤ → List ℤ → List ℤ
newest (Some e) zs = e ∷ zs
newest None zs = zs

pub ends_next : (columns : Bool) (items answers : List ℤ) (c : ℤ) (j : ℕ) (found : Option ℤ) → found ≡ cond (counted columns items answers c j) (Some (recorded_end columns answers j)) None
    → ends_before columns items answers c (j + 1) ≡ newest found (ends_before columns items answers c j)
unfolding ends_before
ends_next columns items answers c j found e =
    let f : j + 1 ≡ suc j = omega arith in
    let last = recorded_end columns answers j in
    let rest = ends_before columns items answers c j in
    rw (f, e) (by_test (counted columns items answers c j) (λ t. cond t (last ∷ rest) rest ≡ newest (cond t (Some last) None) rest) (λ _. refl) (λ _. refl))

-- looking from the newest back: what item j - 1 gives goes beside the furthest of those looked at before it
module _ (columns : Bool) (items answers : List ℤ) (c : ℤ) (j : ℕ) (furthest : Option ℤ) (all g : ℤ) (h : 0 < j) (k : all ≡ beside furthest g (ends_before columns items answers c j)) where
  looked : (found : Option ℤ) → found ≡ cond (counted columns items answers c (j - 1)) (Some (recorded_end columns answers (j - 1))) None
      → all ≡ beside furthest g (newest found (ends_before columns items answers c (j - 1)))
  looked found e =
      let f : j ≡ (j - 1) + 1 = omega arith in
      k ∙ ap (beside furthest g) (ap (ends_before columns items answers c) f ∙ ends_next columns items answers c (j - 1) found e)

  pub passed_by : None ≡ cond (counted columns items answers c (j - 1)) (Some (recorded_end columns answers (j - 1))) None
      → all ≡ beside furthest g (ends_before columns items answers c (j - 1))
  passed_by e = looked None e

  module _ (end : ℤ) (e : Some end ≡ cond (counted columns items answers c (j - 1)) (Some (recorded_end columns answers (j - 1))) None) where
    pub goes_beside : all ≡ largest (further furthest end) (ends_before columns items answers c (j - 1))
    goes_beside = looked (Some end) e ∙ beside_next furthest g end (ends_before columns items answers c (j - 1))

    -- and what starts there itself ends the look
    pub ends_look : EndsLast columns items answers (j - 1) → starts_at (secondary_of columns items (j - 1)) c ≡ true → all ≡ further furthest end
    ends_look last s =
        let there = is_there (counted columns items answers c (j - 1)) (recorded_end columns answers (j - 1)) end e in
        goes_beside ∙ beside_stop furthest end (ends_before columns items answers c (j - 1)) (rw there.1 (last c there.0 s))

-- ---- where the search begins, and what it finds

module _ {columns : Bool} (dense : Bool) {room : Both ℕ} {old : List ℤ} {b : Board} {m : Matrix} {answers primary secondary : List ℤ} (k : Ready columns room old b m answers primary secondary)
    (items : List ℤ) (i : ℕ) (rec : Recorded columns items answers b i) where
  abbrev w : Setting
  w = setting_for columns dense room

  pub start_is : (c : ℤ) → start_of columns dense items answers c i (grid_start m.primary) ≡ start2 w c b
  unfolding start2
  start_is c = rw (k.primary_counts, rec c)

  pub start_grid : (c : ℤ) → Grid (start_of columns dense items answers c i (grid_start m.primary))
  start_grid c = rw (start_is c) (start2_grid w c b k.kept)

  pub line_is : (n : ℕ) (s : Lines) → 1 ≤ n → s.start <ℤ s.end → (z : ℤ) → first_line (λ y. clear (recs m.secondary_used secondary) s (from y n)) z ≡ first_line (free_at w b n s) z
  line_is n s f g z = rw (secondary_recs k) (sym (line_search w b k.kept.tiles k.coloured n s f g z))

  pub lines_are : (n : ℕ) (s : Lines) → 1 ≤ n → s.start <ℤ s.end
      → from (first_line (λ y. clear (recs m.secondary_used secondary) s (from y n)) (start_of columns dense items answers s.start i (grid_start m.primary))) n ≡ from (first_line (free_at w b n s) (start2 w s.start b)) n
  lines_are n s f g =
      ap (λ (z : ℤ). from z n)
      (line_is n s f g (start_of columns dense items answers s.start i (grid_start m.primary)) ∙ ap (first_line (free_at w b n s)) (start_is s.start))

  -- the item is laid where the walk lays it
  pub step2_laid : (P S : Placement) (n : ℕ) (s p : Lines) → P ≡ Spanned n → S ≡ Fixed s → 1 ≤ n → s.start <ℤ s.end
      → p ≡ from (first_line (λ y. clear (recs m.secondary_used secondary) s (from y n)) (start_of columns dense items answers s.start i (grid_start m.primary))) n
      → {r : Result Matrix Refusal} {a' p' s' : List ℤ} → Laying columns p s (pos 2) 0 m i answers primary secondary r a' p' s'
      → AfterItem columns room old i (step2 w i P S b) r a' p' s'
  unfolding step2 choose2
  step2_laid P S n s p e f g h l q =
      let c = choose2 w n s b in
      let a : c.area ≡ laid (axis_of columns) p s = ap (λ (x : Lines). laid (axis_of columns) x s) (sym (l ∙ lines_are n s g h)) in
      rw (e, f) (put_laid columns dense room old b m answers primary secondary k p s (pos 2) i c a refl refl (kept_laid i c b (λ _. (step2_first w b k.kept.tiles n s).passes) k.kept) q)

-- a search on a list that keeps the rules ends at 10000
pub line_high : (list : List ℤ) (used : ℕ) → Holds list used → (n : ℕ) (s : Lines) (z : ℤ) → z ≤ℤ pos 10000 → first_line (λ y. clear (recs used list) s (from y n)) z ≤ℤ pos 10000
line_high list used h n s z f =
    first_line_high (λ y. clear (recs used list) s (from y n)) (λ y g. clear_lines_beyond (recs used list) h.keep s (from y n) g) z (pos 10000) f (omega signed)

-- ---- after an item the answers record what the board does

below : (l : List ℤ) (i : ℕ) (vs : List ℤ) (k : ℕ) → k < i → get_or (sets l i vs) k (pos 0) ≡ get_or l k (pos 0)
below l i [] k h = refl
below l i (v ∷ vs) k h = below (set l i v) (suc i) vs k (omega arith) ∙ get_or-set_other l i k v (pos 0) (omega arith)

inside : (l : List ℤ) (i : ℕ) (vs : List ℤ) (j k : ℕ) → k ≡ i + j → j < length vs → i + length vs ≤ length l → get_or (sets l i vs) k (pos 0) ≡ get_or vs j (pos 0)
inside l i [] j k e h r = absurd (let z : ⊥ = omega arith in z)
inside l i (v ∷ vs) zero k e h r = below (set l i v) (suc i) vs k (omega arith) ∙ (let f : k ≡ i = omega arith in rw f (get_or-set_same l i v (pos 0) (omega arith)))
inside l i (v ∷ vs) (suc j) k e h r = inside (set l i v) (suc i) vs j k (omega arith) (omega arith) (simp lib.ListN.length-set (omega arith))

start_at : (columns : Bool) (l : List ℤ) (i : ℕ) (t : Tile) → 5 * i + 5 ≤ length l → recorded_start columns (sets l (5 * i) (numbers t)) i ≡ (on (other (axis_of columns)) t.area).start
unfolding numbers
start_at true l i t h = inside l (5 * i) (numbers t) 2 (5 * i + 2) refl (omega arith) h
start_at false l i t h = inside l (5 * i) (numbers t) 0 (5 * i + 0) refl (omega arith) h

end_at : (columns : Bool) (l : List ℤ) (i : ℕ) (t : Tile) → 5 * i + 5 ≤ length l → recorded_end columns (sets l (5 * i) (numbers t)) i ≡ (on (axis_of columns) t.area).end
unfolding numbers
end_at true l i t h = inside l (5 * i) (numbers t) 1 (5 * i + 1) refl (omega arith) h
end_at false l i t h = inside l (5 * i) (numbers t) 3 (5 * i + 3) refl (omega arith) h

start_low : (columns : Bool) → start_place columns < 5
start_low true = omega arith
start_low false = omega arith

end_low : (columns : Bool) → end_place columns < 5
end_low true = omega arith
end_low false = omega arith

-- the earlier items' answers stay
ends_same : (columns : Bool) (items l vs : List ℤ) (c : ℤ) (n k : ℕ) → 5 * k ≤ n → ends_before columns items (sets l n vs) c k ≡ ends_before columns items l c k
unfolding ends_before
ends_same columns items l vs c n zero h = refl
ends_same columns items l vs c n (suc j) h =
    let f = start_low columns in
    let g = end_low columns in
    rw (below l n vs (5 * j + start_place columns) (omega arith), below l n vs (5 * j + end_place columns) (omega arith), ends_same columns items l vs c n j (omega arith))

tile_next : (columns : Bool) (items answers : List ℤ) (ts : List Tile) (t : Tile) (i : ℕ) → t.step ≡ 2 → mine2 (primary_of columns items i) (secondary_of columns items i) ≡ true → 5 * i + 5 ≤ length answers
    → ((c : ℤ) → ends_on (axis_of columns) c ts ≡ ends_before columns items answers c i) → (c : ℤ) → ends_on (axis_of columns) c (t ∷ ts) ≡ ends_before columns items (sets answers (5 * i) (numbers t)) c (i + 1)
unfolding ends_on ends_before
tile_next columns items answers ts t i st mine long rec c =
    let e : suc i ≡ i + 1 = omega arith in
    let f = eq-eqb t.step 2 st ∙ sym mine in
    let s = sym (start_at columns answers i t long) in
    let z = sym (end_at columns answers i t long) in
    let zs = rec c ∙ sym (ends_same columns items answers (numbers t) c (5 * i) i (omega arith)) in
    (λ j. cond (f j && eq_z (s j) c) (z j ∷ zs j) (zs j)) ∙ ap (ends_before columns items (sets answers (5 * i) (numbers t)) c) e

-- ---- and what the earlier items' answers tell of their ends

ends_last_same : (columns : Bool) (items l vs : List ℤ) (n k : ℕ) → 5 * k + 5 ≤ n → EndsLast columns items l k → EndsLast columns items (sets l n vs) k
ends_last_same columns items l vs n k h last c e s =
    let f = start_low columns in
    let g = end_low columns in
    rw (below l n vs (5 * k + end_place columns) (omega arith), ends_same columns items l vs c n k (omega arith))
    (last c (rw (below l n vs (5 * k + start_place columns) (omega arith)) at e) s)

onward_more : (columns : Bool) (items l : List ℤ) (i : ℕ) → Onward columns items l i → EndsLast columns items l i → Onward columns items l (i + 1)
onward_more columns items l i on last j h =
    by_test (ltb j i) (λ _. EndsLast columns items l j) (λ e. on j (ltb-true j i e))
    (λ e. let g = ltb-false j i e in let same : i ≡ j = omega arith in subst (λ (y : ℕ). EndsLast columns items l y) same last)

-- the recorded lines are the limited ones
limited_end : (x : Axis) (p s : Lines) → (on x (limited_area (laid x p s))).end ≡ (limited p).end
limited_end col p s = refl
limited_end row p s = refl

module _ (dense : Bool) {columns : Bool} {room : Both ℕ} {old : List ℤ} {b : Board} {m : Matrix} {answers primary secondary : List ℤ} (k : Ready columns room old b m answers primary secondary)
    (items : List ℤ) (i : ℕ) (long : 5 * i + 5 ≤ length answers) (rec : Recorded columns items answers b i)
    (b' : Board) {m' : Matrix} {a' p' s' : List ℤ} (k' : Ready columns room old b' m' a' p' s') where
  same_answers : b ≡ b' → a' ≡ answers
  same_answers e = k'.answered ∙ sym (ap (λ (t : Board). written t.tiles old) e) ∙ sym k.answered

  more_answers : (h : Choice) → laid_on i h b ≡ b' → a' ≡ sets answers (5 * i) (numbers (tile_of i h))
  more_answers h e =
      k'.answered ∙ sym (ap (λ (t : Board). written t.tiles old) e) ∙ written_laid i h b old ∙ ap (λ (l : List ℤ). sets l (5 * i) (numbers (tile_of i h))) (sym k.answered)

  -- an item that is passed over
  stayed : mine2 (primary_of columns items i) (secondary_of columns items i) ≡ false → b ≡ b' → Recorded columns items a' b' (i + 1)
  stayed mine e c =
      let no : counted columns items a' c i ≡ false = rw mine in
      sym (ap (λ (t : Board). ends_on (axis_of columns) c t.tiles) e) ∙ rec c ∙ sym (ends_next columns items a' c i None (rw no) ∙ ap (λ (l : List ℤ). ends_before columns items l c i) (same_answers e))

  -- and one that is laid
  laid_on_lem : (h : Choice) → h.step ≡ 2 → mine2 (primary_of columns items i) (secondary_of columns items i) ≡ true → laid_on i h b ≡ b' → Recorded columns items a' b' (i + 1)
  unfolding laid_on tile_of
  laid_on_lem h st mine e c =
      sym (ap (λ (t : Board). ends_on (axis_of columns) c t.tiles) e) ∙ tile_next columns items answers b.tiles (tile_of i h) i st mine long rec c
      ∙ sym (ap (λ (l : List ℤ). ends_before columns items l c (i + 1)) (more_answers h e))

  pub recorded_next : step2 (setting_for columns dense room) i (primary_of columns items i) (secondary_of columns items i) b ≡ going b' → Recorded columns items a' b' (i + 1)
  unfolding step2 choose2
  recorded_next e = go (primary_of columns items i) (secondary_of columns items i) refl refl e
    where
      go : (P S : Placement) → primary_of columns items i ≡ P → secondary_of columns items i ≡ S → step2 (setting_for columns dense room) i P S b ≡ going b' → Recorded columns items a' b' (i + 1)
      go (Fixed p) (Fixed s) f g h = stayed (rw f) (stay h)
      go (Fixed p) (Spanned n) f g h = stayed (rw f) (stay h)
      go (Spanned n) (Fixed s) f g h = let w = setting_for columns dense room in laid_on_lem (choose2 w n s b) refl (rw (f, g)) (put_going w i (choose2 w n s b) b b' h)
      go (Spanned n) (Spanned l) f g h = stayed (rw (f, g)) (stay h)

  -- the sparse flow's ends: of an item that is passed over none
  onward_stayed : Onward columns items answers i → mine2 (primary_of columns items i) (secondary_of columns items i) ≡ false → b ≡ b' → Onward columns items a' (i + 1)
  onward_stayed on mine e =
      subst (λ (l : List ℤ). Onward columns items l (i + 1)) (sym (same_answers e))
      (onward_more columns items answers i on (λ c f g. clash f (let no : counted columns items answers c i ≡ false = rw mine in no)))

  -- and of one that is laid
  last_laid : (n : ℕ) (s : Lines) → dense ≡ false → secondary_of columns items i ≡ Fixed s → EndsLast columns items (sets answers (5 * i) (numbers (tile_of i (choose2 (setting_for columns dense room) n s b)))) i
  unfolding choose2 tile_of
  last_laid n s d g c e f =
      let w = setting_for columns dense room in
      let t = tile_of i (choose2 w n s b) in
      let p = from (first_line (free_at w b n s) (start2 w s.start b)) n in
      let here : s.start ≡ c = eq_of s.start c (rw g at f) in
      let end : recorded_end columns (sets answers (5 * i) (numbers t)) i ≡ (limited p).end = end_at columns answers i t long ∙ limited_end (axis_of columns) p s in
      let ends = ends_same columns items answers (numbers t) c (5 * i) i (omega arith) ∙ sym (rec c) in
      rw (end, ends, ← here) (ends_onward w n s b d k.kept)

  onward_laid : (n : ℕ) (s : Lines) → dense ≡ false → Onward columns items answers i → secondary_of columns items i ≡ Fixed s → laid_on i (choose2 (setting_for columns dense room) n s b) b ≡ b' → Onward columns items a' (i + 1)
  onward_laid n s d on g e =
      let h = choose2 (setting_for columns dense room) n s b in
      subst (λ (l : List ℤ). Onward columns items l (i + 1)) (sym (more_answers h e))
      (onward_more columns items (sets answers (5 * i) (numbers (tile_of i h))) i (λ j l. ends_last_same columns items answers (numbers (tile_of i h)) (5 * i) j (omega arith) (on j l)) (last_laid n s d g))

  pub onward_next : dense ≡ false → Onward columns items answers i → step2 (setting_for columns dense room) i (primary_of columns items i) (secondary_of columns items i) b ≡ going b' → Onward columns items a' (i + 1)
  unfolding step2
  onward_next d on e = go (primary_of columns items i) (secondary_of columns items i) refl refl e
    where
      go : (P S : Placement) → primary_of columns items i ≡ P → secondary_of columns items i ≡ S → step2 (setting_for columns dense room) i P S b ≡ going b' → Onward columns items a' (i + 1)
      go (Fixed p) (Fixed s) f g h = onward_stayed on (rw f) (stay h)
      go (Fixed p) (Spanned n) f g h = onward_stayed on (rw f) (stay h)
      go (Spanned n) (Fixed s) f g h = let w = setting_for columns dense room in onward_laid n s d on g (put_going w i (choose2 w n s b) b b' h)
      go (Spanned n) (Spanned l) f g h = onward_stayed on (rw (f, g)) (stay h)

-- ---- before the step

pub no_tiles : (x : Axis) (c : ℤ) → ends_on x c [] ≡ []
unfolding ends_on
no_tiles x c = refl

step1_none : (w : Setting) (x : Axis) (i : ℕ) (p s : Placement) (t b : Board) → ((c : ℤ) → ends_on x c t.tiles ≡ []) → step1 w i p s t ≡ going b → (c : ℤ) → ends_on x c b.tiles ≡ []
unfolding step1 choose1 laid_on tile_of ends_on
step1_none w x i (Fixed p) (Fixed s) t b h e c = sym (ap (λ (u : Board). ends_on x c u.tiles) (put_going w i (choose1 w p s t) t b e)) ∙ h c
step1_none w x i (Fixed p) (Spanned m) t b h e c = rw (← (stay e)) (h c)
step1_none w x i (Spanned n) (Fixed s) t b h e c = rw (← (stay e)) (h c)
step1_none w x i (Spanned n) (Spanned m) t b h e c = rw (← (stay e)) (h c)

-- STEP 1 LEAVES NO END of step 2
pub no_ends : (w : Setting) (x : Axis) (qs : List Queued) (t b : Board) → ((c : ℤ) → ends_on x c t.tiles ≡ []) → each w (step1 w) qs t ≡ going b → (c : ℤ) → ends_on x c b.tiles ≡ []
no_ends w x qs t b h e =
    each_keeps w (step1 w) (λ _ _ _. Unit {0}) (λ _ y. (c : ℤ) → ends_on x c y.tiles ≡ []) (λ _ i p s y z _ k f. step1_none w x i p s y z k f) qs 0 t b (anyone qs) h e

-- ---- the loop: what the lists stand for at item i, where they stood for the board b at the start

pub record Going (columns dense : Bool) (items : List ℤ) (i : ℕ) (room : Both ℕ) (old : List ℤ) (b : Board) (m : Matrix) (answers primary secondary : List ℤ) : Type 0 where
  pub board : Board
  pub ready : Ready columns room old board m answers primary secondary
  pub recorded : Recorded columns items answers board i
  pub onward : dense ≡ false → Onward columns items answers i
  -- the rest of the step from here is the whole of it
  pub rest : each (setting_for columns dense room) (step2 (setting_for columns dense room)) (queued items) b ≡ each (setting_for columns dense room) (step2 (setting_for columns dense room)) (drop i (queued items)) board

abbrev pub Turn : (columns dense : Bool) (items : List ℤ) (i : ℕ) (m₀ : Matrix) (a₀ p₀ s₀ : List ℤ) (m : Matrix) (a p s : List ℤ) → Type 0
Turn columns dense items i m₀ a₀ p₀ s₀ m a p s = (room : Both ℕ) (old : List ℤ) (b : Board) → Ready columns room old b m₀ a₀ p₀ s₀ → NoEnds columns b → Going columns dense items i room old b m a p s

module _ {columns dense : Bool} {items : List ℤ} {m₀ : Matrix} {a₀ p₀ s₀ : List ℤ} where
  pub turn_first : Turn columns dense items 0 m₀ a₀ p₀ s₀ m₀ a₀ p₀ s₀
  unfolding ends_before
  turn_first room old b k n = record { board = b; ready = k; recorded = n; onward = λ d j h. absurd (let z : ⊥ = omega arith in z); rest = refl }

  module _ {i : ℕ} {m : Matrix} {a p s : List ℤ} (t : Turn columns dense items i m₀ a₀ p₀ s₀ m a p s) where
    -- what item i's function promises
    abbrev Item : Result Matrix Refusal → List ℤ → List ℤ → List ℤ → Type 0
    Item r a' p' s' =
        (room : Both ℕ) (old : List ℤ) (b : Board) → Ready columns room old b m a p s → Recorded columns items a b i
        → AfterItem columns room old i (step2 (setting_for columns dense room) i (primary_of columns items i) (secondary_of columns items i) b) r a' p' s'

    pub turn_next : i < length items / 6 → 5 * i + 5 ≤ length a → {m' : Matrix} {a' p' s' : List ℤ} → Item (Ok m') a' p' s' → Turn columns dense items (i + 1) m₀ a₀ p₀ s₀ m' a' p' s'
    turn_next h long q room old b k n =
        let g = t room old b k n in
        let x = next columns dense room old items (step2 (setting_for columns dense room)) i g.board h (q room old g.board g.ready g.recorded) in
        record {
          board = x.board;
          ready = x.ready;
          recorded = recorded_next dense g.ready items i long g.recorded x.board x.ready x.ran;
          onward = λ d. onward_next dense g.ready items i long g.recorded x.board x.ready d (g.onward d) x.ran;
          rest = g.rest ∙ x.rest;
        }

    -- the item that ends the step
    pub turn_stops : i < length items / 6 → (refusal : Refusal) (a' p' s' : List ℤ) → Item (Err refusal) a' p' s'
        → (room : Both ℕ) (old : List ℤ) (b : Board) → Ready columns room old b m₀ a₀ p₀ s₀ → NoEnds columns b
        → AfterStep columns room old (each (setting_for columns dense room) (step2 (setting_for columns dense room)) (queued items) b) (Err refusal) a' p' s'
    turn_stops h refusal a' p' s' q room old b k n =
        let g = t room old b k n in
        subst (λ (u : Run). AfterStep columns room old u (Err refusal) a' p' s') (sym g.rest)
        (stops columns dense room old items (step2 (setting_for columns dense room)) i g.board h refusal a' p' s' (q room old g.board g.ready g.recorded))

    pub turn_last : length items / 6 ≤ i → (room : Both ℕ) (old : List ℤ) (b : Board) → Ready columns room old b m₀ a₀ p₀ s₀ → NoEnds columns b
        → AfterStep columns room old (each (setting_for columns dense room) (step2 (setting_for columns dense room)) (queued items) b) (Ok m) a p s
    turn_last h room old b k n =
        let g = t room old b k n in
        subst (λ (u : Run). AfterStep columns room old u (Ok m) a p s) (sym g.rest)
        (done columns dense room old items (step2 (setting_for columns dense room)) i g.board h g.ready)
