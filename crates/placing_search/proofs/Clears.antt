-- A clear area by the records of the list, and what the two jumps say of it.
use Rattle.std.specs.Prelude.{None, Option, Some, ℤ}
use mathlib.Core.Path.{◌≡◌, refl, sym, ap, ◌∙◌}
use mathlib.Core.Bool.{Bool, true, false, not, ◌&&◌}
use mathlib.Core.List.{List, [], ◌∷◌}
use mathlib.Core.Logic.{◌↔◌, ◌≢◌}
use lib.IntN.{ℤ, pos, ◌+ℤ◌, ◌-ℤ◌}
use lib.Signed.{lt_z, ◌≤ℤ◌, ◌<ℤ◌}
use Rattle.theory_signed.proofs.Laws.{signed, by_test, sum, dif, g_lt_true, g_lt_false}
use Rattle.theory_intervals.specs.Records.{Rec, rec, between}
use Rattle.theory_intervals.specs.OverInt.{keeps, cell_of, span}
use Rattle.theory_intervals.specs.Lists.{in_grid, all_in, rules, on_track}
use Rattle.theory_intervals.proofs.Line.{Test, yea, nay, test, no_both}
use Rattle.theory_intervals.proofs.Grid.{and_l, and_r}
use Rattle.theory_intervals.proofs.OverInt.{span_is}
use Rattle.grid_coordinates.specs.declared.Lines.{Lines}
use Rattle.grid_coordinates.specs.Line.{lines, lowest, highest}
use Rattle.list_jumps.specs.Calls.{extent_of, collision_jump, occupied_jump}
use Rattle.theory_intervals.proofs.Lists.{in_is}
use Rattle.list_jumps.proofs.Cells.{Has, here, there, sound, has_order, has_cell, between_is, Cell, empty, filled, cell}
use Rattle.list_jumps.proofs.Collisions.{extent_last, extent_free, over_free, over_next}
use Rattle.list_jumps.proofs.Promises.{none_if_clear, past_the_last}
use Rattle.theory_walk.specs.Axis.{Axis, col, row, laid, meets}
use Rattle.theory_walk.specs.OnList.{hit, free_in}
use Rattle.theory_walk.proofs.Tests.{same_bool}
use Rattle.placing_search.specs.Clear.{clear, whole_grid, Inside}
use Rattle.placing_search.specs.Clear as I

-- free on a list is the same whichever axis its tracks are of
pub clear_on : (x : Axis) (rs : List (Rec ℤ)) (tracks along : Lines) → free_in x rs (laid x tracks along) ≡ clear rs tracks along
unfolding free_in
clear_on col rs l w = refl
clear_on row [] l w = refl
clear_on row (rec u c d s ∷ rs) l w = ap (λ (b : Bool). not (hit col (rec u c d s) (laid col l w)) && b) (clear_on row rs l w)

-- ---- by the records

-- a record on one of the tracks that overlaps the lines is in the way
pub blocks : {t c d : ℤ} {rs : List (Rec ℤ)} (tracks along : Lines) → Has t c d rs → tracks.start ≤ℤ t → t <ℤ tracks.end → c <ℤ along.end → along.start <ℤ d
    → clear rs tracks along ≡ false
unfolding free_in
blocks {t} {c} {d} l w (here {s = s} {rs = rs}) a b e f =
    rw (g_lt_false t l.start (omega signed), g_lt_true t l.end (omega signed), g_lt_true c w.end (omega signed), g_lt_true w.start d (omega signed))
blocks l w (there {r = r} {rs = rs} m) a b e f = by_test (hit col r (laid col l w)) (λ y. (not y && clear rs l w) ≡ false) (λ _. refl) (λ _. blocks l w m a b e f)

-- an area is clear, or some record is in the way
pub data Look (rs : List (Rec ℤ)) (tracks along : Lines) : Type 0 where
  free : clear rs tracks along ≡ true → Look rs tracks along
  taken : {t c d : ℤ} → Has t c d rs → tracks.start ≤ℤ t → t <ℤ tracks.end → c <ℤ along.end → along.start <ℤ d → Look rs tracks along

pub look : (rs : List (Rec ℤ)) (tracks along : Lines) → Look rs tracks along
unfolding free_in
look [] l w = free refl
look (rec t c d s ∷ rs) l w = go (test (hit col (rec t c d s) (laid col l w))) (look rs l w)
  where
    go : Test (hit col (rec t c d s) (laid col l w)) → Look rs l w → Look (rec t c d s ∷ rs) l w
    go (yea e) r =
        let o = between_is l.start l.end t (and_l (between lt_z l.start l.end t) (meets (lines c d) w) e) in
        let m = and_r (between lt_z l.start l.end t) (meets (lines c d) w) e in
        let x = and_l (lt_z c w.end) (lt_z w.start d) m in
        let y = and_r (lt_z c w.end) (lt_z w.start d) m in
        let p : c <ℤ w.end = omega signed in
        let q : w.start <ℤ d = omega signed in
        taken here o.0 o.1 p q
    go (nay e) (free f) = free (rw e f)
    go (nay e) (taken m a b x y) = taken (there m) a b x y

pub has_track : {t c d : ℤ} (rs : List (Rec ℤ)) → all_in rs ≡ true → Has t c d rs → t ≤ℤ pos 9999
has_track [] h x = elim x [ ]
has_track {t} {c} {d} (rec u x y s ∷ rs) h here = (in_is t c d s (and_l (in_grid (rec t c d s)) (all_in rs) h)).t_hi
has_track (rec u x y s ∷ rs) h (there m) = has_track rs (and_r (in_grid (rec u x y s)) (all_in rs) h) m

pub inside_has : {g e t c d : ℤ} {rs : List (Rec ℤ)} → Inside rs g e → Has t c d rs → (g ≤ℤ c) × (d ≤ℤ e)
inside_has I.none x = elim x [ ]
inside_has (I.more a b w) here = (a, b)
inside_has (I.more a b w) (there m) = inside_has w m

data Shape (j : Option ℤ) : Type 0 where
  next : (e : ℤ) → j ≡ Some e → Shape j
  none : j ≡ None → Shape j

shape : (j : Option ℤ) → Shape j
shape (Some e) = next e refl
shape None = none refl

all_inside : (rs : List (Rec ℤ)) → all_in rs ≡ true → Inside rs lowest highest
all_inside [] h = I.none
all_inside (rec t c d s ∷ rs) h = let k = in_is t c d s (and_l (in_grid (rec t c d s)) (all_in rs) h) in I.more k.lo k.hi (all_inside rs (and_r (in_grid (rec t c d s)) (all_in rs) h))

-- the rules keep every record inside the limited grid
pub rules_inside : (rs : List (Rec ℤ)) → rules rs ≡ true → Inside rs lowest highest
rules_inside rs h = all_inside rs (and_r (keeps rs) (all_in rs) h)

-- ---- the collision jump

-- a record that makes the jump
record Cause (rs : List (Rec ℤ)) (t₁ t₂ a b e : ℤ) : Type 0 where
  track : ℤ
  from : ℤ
  has : Has track from e rs
  low : t₁ ≤ℤ track
  high : track <ℤ t₂
  before : from <ℤ b
  past : a <ℤ e

cause : (rs : List (Rec ℤ)) (t₁ t₂ a b e : ℤ) → collision_jump rs t₁ t₂ a b ≡ Some e → Cause rs t₁ t₂ a b e
cause rs t₁ t₂ a b e j =
    let w = over_next (λ t. extent_of (on_track t rs) a b) (span t₁ t₂) e j in
    let r = between_is t₁ t₂ w.track (sym (span_is t₁ t₂ w.track) ∙ w.one) in
    let m = extent_last rs w.track a b e w.ends in
    record { track = w.track; from = m.from; has = m.has; low = r.0; high = r.1; before = m.before; past = m.past }

-- THE JUMP SAYS NONE exactly where the area is clear
pub free_jump : (rs : List (Rec ℤ)) (t₁ t₂ a b : ℤ) → collision_jump rs t₁ t₂ a b ≡ None ↔ clear rs (lines t₁ t₂) (lines a b) ≡ true
free_jump rs t₁ t₂ a b = (there_is, back_is)
  where
    there_is : collision_jump rs t₁ t₂ a b ≡ None → clear rs (lines t₁ t₂) (lines a b) ≡ true
    there_is f = go (look rs (lines t₁ t₂) (lines a b))
      where
        go : Look rs (lines t₁ t₂) (lines a b) → clear rs (lines t₁ t₂) (lines a b) ≡ true
        go (free e) = e
        go (taken {t = t} {c = c} {d = d} m l u x y) =
            no_both (rw (g_lt_true c b (omega signed), g_lt_true a d (omega signed)))
            (extent_free a b m (over_free (λ t. extent_of (on_track t rs) a b) t (span t₁ t₂) f (span_is t₁ t₂ t ∙ rw (g_lt_false t t₁ (omega signed), g_lt_true t t₂ (omega signed)))))

    back_is : clear rs (lines t₁ t₂) (lines a b) ≡ true → collision_jump rs t₁ t₂ a b ≡ None
    back_is f = go (shape (collision_jump rs t₁ t₂ a b))
      where
        go : Shape (collision_jump rs t₁ t₂ a b) → collision_jump rs t₁ t₂ a b ≡ None
        go (none e) = e
        go (next e j) = let k = cause rs t₁ t₂ a b e j in no_both f (blocks (lines t₁ t₂) (lines a b) k.has k.low k.high k.before k.past)

-- ELSE IT GOES ON to a line e past the start, and no area between that is as long is clear
pub record Onward (rs : List (Rec ℤ)) (t₁ t₂ a b e : ℤ) : Type 0 where
  pub past : a <ℤ e
  pub inside : e ≤ℤ pos 10000
  pub missed : (y z : ℤ) → a ≤ℤ y → y <ℤ e → b ≤ℤ z → clear rs (lines t₁ t₂) (lines y z) ≡ false

pub next_jump : (rs : List (Rec ℤ)) → rules rs ≡ true → (t₁ t₂ a b e : ℤ) → collision_jump rs t₁ t₂ a b ≡ Some e → Onward rs t₁ t₂ a b e
next_jump rs h t₁ t₂ a b e j =
    let k = cause rs t₁ t₂ a b e j in
    let x = k.before in
    record {
      past = k.past;
      inside = (has_order (sound rs h) k.has).1;
      missed = λ y z l u f. blocks (lines t₁ t₂) (lines y z) k.has k.low k.high (omega signed) u;
    }

-- the same, of areas of just that length
pub next_jump_as_long : (rs : List (Rec ℤ)) → rules rs ≡ true → (t₁ t₂ a b e : ℤ) → collision_jump rs t₁ t₂ a b ≡ Some e
    → (y : ℤ) → a ≤ℤ y → y <ℤ e → clear rs (lines t₁ t₂) (lines y (y +ℤ (b -ℤ a))) ≡ false
next_jump_as_long rs h t₁ t₂ a b e j y l u = (next_jump rs h t₁ t₂ a b e j).missed y (y +ℤ (b -ℤ a)) l u (omega (signed, sum y (b -ℤ a), dif b a))

-- ---- lines from 10000 on are clear: no record passes 10000, and none is on a track behind 9999

pub clear_lines_beyond : (rs : List (Rec ℤ)) → rules rs ≡ true → (tracks along : Lines) → pos 10000 ≤ℤ along.start → clear rs tracks along ≡ true
clear_lines_beyond rs h l w p = go (look rs l w)
  where
    go : Look rs l w → clear rs l w ≡ true
    go (free e) = e
    go (taken m a b x y) = let k = (has_order (sound rs h) m).1 in absurd (let z : ⊥ = omega signed in z)

pub clear_tracks_beyond : (rs : List (Rec ℤ)) → rules rs ≡ true → (tracks along : Lines) → pos 10000 ≤ℤ tracks.start → clear rs tracks along ≡ true
clear_tracks_beyond rs h l w p = go (look rs l w)
  where
    go : Look rs l w → clear rs l w ≡ true
    go (free e) = e
    go (taken m a b x y) = let k = has_track rs (and_r (keeps rs) (all_in rs) h) m in absurd (let z : ⊥ = omega signed in z)

-- ---- the occupied-track jump, where the lines are those of the whole grid: every record on one of the tracks is in the way

module _ (rs : List (Rec ℤ)) (h : rules rs ≡ true) (g e : ℤ) (within : Inside rs g e) where
  across : {t c d : ℤ} → Has t c d rs → (c <ℤ e) × (g <ℤ d)
  across m = let o = (has_order (sound rs h) m).0 in let i = inside_has within m in let x = i.0 in let y = i.1 in (omega signed, omega signed)

  record Filled (t₁ t₂ f : ℤ) : Type 0 where
    track : ℤ
    is : f ≡ track +ℤ pos 1
    low : t₁ ≤ℤ track
    high : track <ℤ t₂
    from : ℤ
    to : ℤ
    has : Has track from to rs

  filled_track : (t₁ t₂ f : ℤ) → occupied_jump rs t₁ t₂ ≡ Some f → Filled t₁ t₂ f
  filled_track t₁ t₂ f j = let k = past_the_last rs h t₁ t₂ f j in go k.track k.line k.is k.low k.high k.state (cell rs k.track k.line)
    where
      go : (t p : ℤ) → f ≡ t +ℤ pos 1 → t₁ ≤ℤ t → t <ℤ t₂ → cell_of rs t p ≢ 0 → Cell rs t p → Filled t₁ t₂ f
      go t p q l u n (empty z) = absurd (n z)
      go t p q l u n (filled c d m x y) = record { track = t; is = q; low = l; high = u; from = c; to = d; has = m }

  pub free_stripe : (t₁ t₂ : ℤ) → occupied_jump rs t₁ t₂ ≡ None ↔ clear rs (lines t₁ t₂) (lines g e) ≡ true
  free_stripe t₁ t₂ = (there_is, back_is)
    where
      there_is : occupied_jump rs t₁ t₂ ≡ None → clear rs (lines t₁ t₂) (lines g e) ≡ true
      there_is f = go (look rs (lines t₁ t₂) (lines g e))
        where
          go : Look rs (lines t₁ t₂) (lines g e) → clear rs (lines t₁ t₂) (lines g e) ≡ true
          go (free z) = z
          go (taken {t = t} {c = c} m l u x y) = absurd (has_cell c (sound rs h) m (omega signed) (has_order (sound rs h) m).0 ((none_if_clear rs h t₁ t₂).0 f t c l u))

      back_is : clear rs (lines t₁ t₂) (lines g e) ≡ true → occupied_jump rs t₁ t₂ ≡ None
      back_is z = go (shape (occupied_jump rs t₁ t₂))
        where
          go : Shape (occupied_jump rs t₁ t₂) → occupied_jump rs t₁ t₂ ≡ None
          go (none f) = f
          go (next f j) = let k = filled_track t₁ t₂ f j in let o = across k.has in no_both z (blocks (lines t₁ t₂) (lines g e) k.has k.low k.high o.0 o.1)

  pub record Past (t₁ t₂ f : ℤ) : Type 0 where
    pub past : t₁ <ℤ f
    pub inside : f ≤ℤ pos 10000
    pub missed : (y z : ℤ) → t₁ ≤ℤ y → y <ℤ f → t₂ ≤ℤ z → clear rs (lines y z) (lines g e) ≡ false

  pub next_stripe : (t₁ t₂ f : ℤ) → occupied_jump rs t₁ t₂ ≡ Some f → Past t₁ t₂ f
  next_stripe t₁ t₂ f j =
      let k = filled_track t₁ t₂ f j in
      let o = across k.has in
      let q = k.is in
      let l = k.low in
      let u = k.high in
      let i = has_track rs (and_r (keeps rs) (all_in rs) h) k.has in
      record {
        past = omega signed;
        inside = omega signed;
        missed = λ y z a b c. blocks (lines y z) (lines g e) k.has (omega signed) (omega signed) o.0 o.1;
      }

-- lines that hold every record are as good as the whole limited grid
pub stripe_grid : (rs : List (Rec ℤ)) → rules rs ≡ true → (g e : ℤ) → Inside rs g e → (tracks : Lines) → clear rs tracks (lines g e) ≡ clear rs tracks whole_grid
stripe_grid rs h g e w l =
    same_bool (clear rs l (lines g e)) (clear rs l whole_grid)
    (λ f. (free_stripe rs h lowest highest (rules_inside rs h) l.start l.end).0 ((free_stripe rs h g e w l.start l.end).1 f))
    (λ f. (free_stripe rs h g e w l.start l.end).0 ((free_stripe rs h lowest highest (rules_inside rs h) l.start l.end).1 f))

-- for a caller that knows the cells: where every cell with a state lies between two lines, so does every record
pub inside_cells : (g e : ℤ) (rs : List (Rec ℤ)) → rules rs ≡ true → ((t p : ℤ) → cell_of rs t p ≢ 0 → (g ≤ℤ p) × (p <ℤ e)) → Inside rs g e
inside_cells g e rs h k = each rs (λ t c d m. m)
  where
    each : (qs : List (Rec ℤ)) → ((t c d : ℤ) → Has t c d qs → Has t c d rs) → Inside qs g e
    each [] f = I.none
    each (rec t c d s ∷ qs) f =
        let m : Has t c d rs = f t c d here in
        let o = (has_order (sound rs h) m).0 in
        let x = (k t c (has_cell c (sound rs h) m (omega signed) o)).0 in
        let y = (k t (d -ℤ pos 1) (has_cell (d -ℤ pos 1) (sound rs h) m (omega signed) (omega signed))).1 in
        let z : d ≤ℤ e = omega signed in
        I.more x z (each qs (λ u x y n. f u x y (there n)))
