-- Laying one tile on the lists is `put` on the board: the one law by which every step's item is proved.
use Rattle.std.specs.Prelude.{Result, Ok}
use mathlib.Core.Path.{◌≡◌, refl, sym, ap, subst, ◌∙◌}
use mathlib.Core.Logic.{inl, inr}
use mathlib.Core.Bool.{Bool, true, false, not, cond, ◌||◌}
use mathlib.Core.List.{List, []}
use Prim.Native.Nat.{ℕ, ◌*◌, ◌<◌}
use native.Mathlib.Omega.{arith}
use borrow.Author.Tests.{ltb-false}
use lib.IntN.{ℤ, pos}
use lib.ListN.{length}
use lib.Seq.{sets, length-sets}
use Rattle.theory_intervals.specs.Records.{Rec, Area, area}
use Rattle.theory_intervals.specs.OverInt.{paint_list, flat, digits, ok}
use Rattle.theory_intervals.specs.Lists.{recs, Holds}
use Rattle.theory_intervals.proofs.Lists.{flat_recs}
use Rattle.theory_intervals.proofs.OverInt.{digit_laws}
use Rattle.theory_intervals.proofs.Flat as Fl
use Rattle.grid_coordinates.specs.declared.Lines.{Lines}
use Rattle.grid_coordinates.specs.Line.{limited, pressed}
use Rattle.grid_track_counts.specs.Counts.{grown, Sound}
use Rattle.theory_walk.specs.Axis.{Axis, other, Both, on, laid}
use Rattle.theory_walk.specs.Walk.{Board, Setting, Choice, Run, going, stopped, tile_of, laid_on, area_on, records_on, short, judged, put}
use Rattle.theory_walk.specs.Search.{at}
use Rattle.theory_walk.specs.Request.{numbers}
use Rattle.theory_walk.proofs.Tests.{more}
use Rattle.theory_walk.proofs.Cells.{Coloured, records_hold}
use Rattle.theory_walk.proofs.WalkLaws.{Kept}
use Rattle.theory_walk.proofs.LinesLaws.{Each}
use Rattle.theory_walk.proofs.OnLists.{records_laid}
use Rattle.theory_walk.proofs.Answers.{written_laid, written_length}
use Rattle.grid_track_counts.specs.declared.TrackCounts.{TrackCounts}
use Rattle.placing_request.specs.Items.{axis_of}
use Rattle.placing_laying.specs.declared.Matrix.{Matrix}
use Rattle.refusals.specs.declared.Refusal.{Refusal}
use Rattle.placing_laying.specs.Laying.{Laying, Fits, on_primary, on_secondary, refusal_of, short_of, mark_of, answer_five, grown_matrix}
use Rattle.placing_laying.specs.Ready.{setting_for, Ready, AfterItem}

-- ---- what stands for a board holds its records

module _ {columns : Bool} {room : Both ℕ} {old : List ℤ} {b : Board} {m : Matrix} {answers primary secondary : List ℤ} (k : Ready columns room old b m answers primary secondary) where
  abbrev x : Axis
  x = axis_of columns

  abbrev y : Axis
  y = other (axis_of columns)

  pub primary_holds : Holds primary m.primary_used
  primary_holds =
      rw (k.primary_list, k.primary_used) (records_hold x (on x room) b.tiles k.kept.tiles k.coloured k.primary_room)

  pub secondary_holds : Holds secondary m.secondary_used
  secondary_holds =
      rw (k.secondary_list, k.secondary_used) (records_hold y (on y room) b.tiles k.kept.tiles k.coloured k.secondary_room)

  pub primary_recs : recs m.primary_used primary ≡ records_on x b.tiles
  primary_recs = rw (k.primary_list, k.primary_used) (flat_recs (on x room) (records_on x b.tiles))

  pub secondary_recs : recs m.secondary_used secondary ≡ records_on y b.tiles
  secondary_recs = rw (k.secondary_list, k.secondary_used) (flat_recs (on y room) (records_on y b.tiles))

  pub answers_length : length answers ≡ length old
  answers_length = ap length k.answered ∙ written_length b.tiles old

  pub primary_length : length primary ≡ on x room
  primary_length = rw k.primary_list (Fl.length_flat digits digit_laws (on x room) (records_on x b.tiles) k.primary_room)

  pub secondary_length : length secondary ≡ on y room
  secondary_length = rw k.secondary_list (Fl.length_flat digits digit_laws (on y room) (records_on y b.tiles) k.secondary_room)

-- ---- the tile of a choice, by primary and secondary lines

module _ (p s : Lines) (i : ℕ) (h : Choice) where
  on_primary_lem : (c : Bool) → h.area ≡ laid (axis_of c) p s → area_on (axis_of c) (tile_of i h) ≡ area (limited p).start (limited p).end (limited s).start (limited s).end h.state
  unfolding tile_of
  on_primary_lem true e = rw e
  on_primary_lem false e = rw e

  on_secondary_lem : (c : Bool) → h.area ≡ laid (axis_of c) p s → area_on (other (axis_of c)) (tile_of i h) ≡ area (limited s).start (limited s).end (limited p).start (limited p).end h.state
  unfolding tile_of
  on_secondary_lem true e = rw e
  on_secondary_lem false e = rw e

  or_swap : (a b : Bool) → a || b ≡ b || a
  or_swap true true = refl
  or_swap true false = refl
  or_swap false true = refl
  or_swap false false = refl

  five : (c : Bool) → h.area ≡ laid (axis_of c) p s → numbers (tile_of i h) ≡ answer_five (laid (axis_of c) (limited p) (limited s)) (mark_of p s h.flags)
  unfolding tile_of numbers
  five true e = rw e
  five false e = rw (e, or_swap (pressed p) (pressed s))

  grown_primary : (c : Bool) (t : Board) → h.area ≡ laid (axis_of c) p s → on (axis_of c) (laid_on i h t).counts ≡ grown (on (axis_of c) t.counts) (limited p)
  unfolding laid_on
  grown_primary true t e = rw e
  grown_primary false t e = rw e

  grown_secondary : (c : Bool) (t : Board) → h.area ≡ laid (axis_of c) p s → on (other (axis_of c)) (laid_on i h t).counts ≡ grown (on (other (axis_of c)) t.counts) (limited s)
  unfolding laid_on
  grown_secondary true t e = rw e
  grown_secondary false t e = rw e

-- ---- room

-- the walk's judgement by the two lists' shortness, and the program's number
run_of : Bool → Bool → Bool → ℕ → Board → Run
run_of c p s i t = cond (laid (axis_of c) p s).rows (stopped 7 i) (cond (laid (axis_of c) p s).columns (stopped 8 i) (going t))

roomy : (c p s : Bool) (i : ℕ) (t : Board) → refusal_of c p s ≡ 0 → (run_of c p s i t ≡ going t) × ((p ≡ false) × (s ≡ false))
unfolding run_of
roomy true true true i t e = absurd (let z : ⊥ = omega arith in z)
roomy true true false i t e = absurd (let z : ⊥ = omega arith in z)
roomy true false true i t e = absurd (let z : ⊥ = omega arith in z)
roomy true false false i t e = (refl, (refl, refl))
roomy false true true i t e = absurd (let z : ⊥ = omega arith in z)
roomy false true false i t e = absurd (let z : ⊥ = omega arith in z)
roomy false false true i t e = absurd (let z : ⊥ = omega arith in z)
roomy false false false i t e = (refl, (refl, refl))

crowded : (c p s : Bool) (i : ℕ) (t : Board) (n : ℕ) → refusal_of c p s ≡ n → 0 < n → run_of c p s i t ≡ stopped n i
unfolding run_of
crowded true true true i t n e h = rw (← e) refl
crowded true true false i t n e h = rw (← e) refl
crowded true false true i t n e h = rw (← e) refl
crowded true false false i t n e h = absurd (let z : ⊥ = omega arith in z)
crowded false true true i t n e h = rw (← e) refl
crowded false true false i t n e h = rw (← e) refl
crowded false false true i t n e h = rw (← e) refl
crowded false false false i t n e h = absurd (let z : ⊥ = omega arith in z)

module _ (columns dense : Bool) (room : Both ℕ) (old : List ℤ) (b : Board) (m : Matrix) (answers primary secondary : List ℤ) (k : Ready columns room old b m answers primary secondary)
    (p s : Lines) (state : ℤ) (i : ℕ) (h : Choice) (e : h.area ≡ laid (axis_of columns) p s) (f : state ≡ pos h.state) (g : ok h.state ≡ true) (kept : Kept (laid_on i h b)) where
  abbrev px : Axis
  px = axis_of columns

  abbrev sx : Axis
  sx = other (axis_of columns)

  abbrev t : Board
  t = laid_on i h b

  abbrev ps : List (Rec ℤ)
  ps = on_primary columns p s state h.flags m i answers primary secondary

  abbrev ss : List (Rec ℤ)
  ss = on_secondary columns p s state h.flags m i answers primary secondary

  painted_primary : ps ≡ records_on px t.tiles
  painted_primary = rw (f, primary_recs k) (sym (records_laid px i h b ∙ ap (λ (a : Area ℤ). paint_list a (records_on px b.tiles)) (on_primary_lem p s i h columns e)))

  painted_secondary : ss ≡ records_on sx t.tiles
  painted_secondary = rw (f, secondary_recs k) (sym (records_laid sx i h b ∙ ap (λ (a : Area ℤ). paint_list a (records_on sx b.tiles)) (on_secondary_lem p s i h columns e)))

  abbrev short_p : Bool
  short_p = short_of (length primary) ps

  abbrev short_s : Bool
  short_s = short_of (length secondary) ss

  p_is : short_p ≡ short (setting_for columns dense room) px t
  unfolding short
  p_is = rw (primary_length k, painted_primary)

  s_is : short_s ≡ short (setting_for columns dense room) sx t
  unfolding short
  s_is = rw (secondary_length k, painted_secondary)

  judged_is : (c : Bool) (w : Setting) → judged w i t ≡ run_of c (short w (axis_of c) t) (short w (other (axis_of c)) t) i t
  unfolding judged run_of
  judged_is true w = refl
  judged_is false w = refl

  put_is : put (setting_for columns dense room) i h b ≡ run_of columns short_p short_s i t
  unfolding put
  put_is = judged_is columns (setting_for columns dense room) ∙ rw (p_is, s_is)

  coloured : Coloured t.tiles
  unfolding laid_on tile_of
  coloured = more g k.coloured

  ready : {r : Result Matrix Refusal} {a' p' s' : List ℤ} → Fits columns p s state h.flags m i answers primary secondary r a' p' s' → (short_p ≡ false) × (short_s ≡ false)
      → Ready columns room old t (grown_matrix columns p s state h.flags m i answers primary secondary) a' p' s'
  ready q z =
      let u = ltb-false (length primary) (4 * length ps) z.0 in
      let v = ltb-false (length secondary) (4 * length ss) z.1 in
      record {
        kept = kept;
        coloured = coloured;
        primary_counts = ap (λ (c : TrackCounts). grown c (limited p)) k.primary_counts ∙ sym (grown_primary p s i h columns b e);
        secondary_counts = ap (λ (c : TrackCounts). grown c (limited s)) k.secondary_counts ∙ sym (grown_secondary p s i h columns b e);
        primary_used = ap length painted_primary;
        secondary_used = ap length painted_secondary;
        primary_room = rw (← painted_primary, ← (primary_length k)) u;
        secondary_room = rw (← painted_secondary, ← (secondary_length k)) v;
        primary_list = q.onto_primary ∙ (λ j. flat (primary_length k j) (painted_primary j));
        secondary_list = q.onto_secondary ∙ (λ j. flat (secondary_length k j) (painted_secondary j));
        answered = q.answered ∙ (λ j. sets (k.answered j) (5 * i) (sym (five p s i h columns e) j)) ∙ sym (written_laid i h b old);
      }

  -- LAYING ONE TILE on the lists is `put` on the board
  pub put_laid : {r : Result Matrix Refusal} {a' p' s' : List ℤ} → Laying columns p s state h.flags m i answers primary secondary r a' p' s'
      → AfterItem columns room old i (put (setting_for columns dense room) i h b) r a' p' s'
  put_laid {r} {a'} {p'} {s'} (inl q) =
      let v = roomy columns short_p short_s i t q.room in
      subst (λ (u : Run). AfterItem columns room old i u r a' p' s') (sym (put_is ∙ v.0)) (grown_matrix columns p s state h.flags m i answers primary secondary, (q.result, ready q v.1))
  put_laid {r} {a'} {p'} {s'} (inr q) =
      subst (λ (u : Run). AfterItem columns room old i u r a' p' s') (sym (put_is ∙ crowded columns short_p short_s i t q.number q.room q.some)) (
        q.result,
        (
          refl,
          record {
            answers_long = ap length (q.answered ∙ k.answered) ∙ written_length b.tiles old;
            primary_long = ap length q.onto_primary ∙ primary_length k;
            secondary_long = ap length q.onto_secondary ∙ secondary_length k;
          },
        ),
      )

-- ---- lengths stay

fits_long : (n : ℕ) (rs : List (Rec ℤ)) → short_of n rs ≡ false → length (flat n rs) ≡ n
fits_long n rs e = Fl.length_flat digits digit_laws n rs (ltb-false n (4 * length rs) e)

-- no refusal: neither list is short
neither : (c p s : Bool) → refusal_of c p s ≡ 0 → (p ≡ false) × (s ≡ false)
neither c p s e = (roomy c p s 0 (record { tiles = []; counts = record { columns = none; rows = none }; cursor = at (pos 0) (pos 0) }) e).1
  where
    none : TrackCounts
    none = record { negative = 0; explicit = 0; positive = 0 }

pub record Lengths (answers primary secondary a' p' s' : List ℤ) : Type 0 where
  pub answers_stay : length a' ≡ length answers
  pub primary_stays : length p' ≡ length primary
  pub secondary_stays : length s' ≡ length secondary

pub laying_long : {columns : Bool} {p s : Lines} {state : ℤ} {flags : ℕ} {m : Matrix} {i : ℕ} {answers primary secondary : List ℤ} {r : Result Matrix Refusal} {a' p' s' : List ℤ}
    → Laying columns p s state flags m i answers primary secondary r a' p' s' → Lengths answers primary secondary a' p' s'
laying_long {columns} {p} {s} {state} {flags} {m} {i} {answers} {primary} {secondary} (inl q) =
    let ps = on_primary columns p s state flags m i answers primary secondary in
    let ss = on_secondary columns p s state flags m i answers primary secondary in
    let v = neither columns (short_of (length primary) ps) (short_of (length secondary) ss) q.room in
    record {
      answers_stay = ap length q.answered ∙ length-sets answers (5 * i) (answer_five (laid (axis_of columns) (limited p) (limited s)) (mark_of p s flags));
      primary_stays = ap length q.onto_primary ∙ fits_long (length primary) ps v.0;
      secondary_stays = ap length q.onto_secondary ∙ fits_long (length secondary) ss v.1;
    }
laying_long (inr q) = record { answers_stay = ap length q.answered; primary_stays = ap length q.onto_primary; secondary_stays = ap length q.onto_secondary }

-- ---- an item that is another step's

pub passed : {columns : Bool} {room : Both ℕ} {old : List ℤ} {b : Board} {m : Matrix} {answers primary secondary : List ℤ} (i : ℕ) → Ready columns room old b m answers primary secondary
    → (u : Run) → u ≡ going b → AfterItem columns room old i u (Ok m) answers primary secondary
passed {columns} {room} {old} {b} {m} {answers} {primary} {secondary} i k u e = subst (λ (v : Run). AfterItem columns room old i v (Ok m) answers primary secondary) (sym e) (m, (refl, k))

pub sound_primary : {columns : Bool} {room : Both ℕ} {old : List ℤ} {b : Board} {m : Matrix} {answers primary secondary : List ℤ} → Ready columns room old b m answers primary secondary → Sound m.primary
sound_primary {columns} k = rw k.primary_counts (sound_on columns k.kept.counts)
  where
    sound_on : (c : Bool) {x : Both TrackCounts} → Each Sound x → Sound (on (axis_of c) x)
    sound_on true h = h.columns
    sound_on false h = h.rows

pub sound_secondary : {columns : Bool} {room : Both ℕ} {old : List ℤ} {b : Board} {m : Matrix} {answers primary secondary : List ℤ} → Ready columns room old b m answers primary secondary → Sound m.secondary
sound_secondary {columns} k = rw k.secondary_counts (sound_off columns k.kept.counts)
  where
    sound_off : (c : Bool) {x : Both TrackCounts} → Each Sound x → Sound (on (other (axis_of c)) x)
    sound_off true h = h.rows
    sound_off false h = h.columns

-- the other axis by its flag
pub other_axis : (c : Bool) → axis_of (not c) ≡ other (axis_of c)
other_axis true = refl
other_axis false = refl
