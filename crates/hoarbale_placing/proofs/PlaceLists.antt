-- The lists of a run are those that painting its tiles' areas one after the other, through the list call, gives: each is good and finds room.
use Rattle.std.specs.Prelude.{Ok}
use mathlib.Core.Path.{◌≡◌, refl, sym, ap, ◌∙◌}
use mathlib.Core.Bool.{true}
use mathlib.Core.List.{List, [], ◌∷◌}
use Prim.Native.Nat.{ℕ, ◌-◌, ◌*◌, ◌≤◌}
use native.Mathlib.Omega.{arith}
use lib.ListN.{length, replicate}
use lib.IntN.{ℤ, pos}
use Rattle.theory_intervals.specs.Records.{Rec, Area}
use Rattle.theory_intervals.specs.OverInt.{decode, flat, paint_list}
use Rattle.theory_intervals.specs.Lists.{good_area, good_areas}
use Rattle.theory_intervals.proofs.Grid.{and_l}
use Rattle.theory_intervals.proofs.Lists.{flat_recs, holds_decode}
use Rattle.theory_walk.specs.Axis.{Axis, col, row, on, Both}
use Rattle.grid_track_counts.specs.declared.TrackCounts.{TrackCounts}
use Rattle.theory_walk.specs.Walk.{Queued, Tile, Board, Setting, going, tile_of, laid_on, begin4, area_on, records_on, walk}
use Rattle.theory_walk.proofs.Tests.{more}
use Rattle.theory_walk.proofs.FreeLaws.{Tiled}
use Rattle.theory_walk.proofs.WalkLaws.{Roomy, anyone, walk_keeps}
use Rattle.theory_walk.proofs.Cells.{history, history_good, Coloured, records_hold}
use Rattle.hoarbale_placing.specs.Calls.{LengthRight, areas}
use Rattle.hoarbale_lists.specs.Lists.{paint_answer}
use Rattle.hoarbale_placing.specs.Series.{series, accepted, is_room}
use Rattle.hoarbale_placing.proofs.Outcome.{because, left_of, all_snoc, length_good_lem}
use Rattle.hoarbale_placing.proofs.ListPromises.{rules_hold, painted_counts}

-- after each of the tiles the list of n numbers had room
pub data Roomed (a : Axis) (n : ℕ) : List Tile → Type 0 where
  none : Roomed a n []
  next : {t : Tile} {ts : List Tile} → 4 * length (records_on a (t ∷ ts)) ≤ n → Roomed a n ts → Roomed a n (t ∷ ts)

roomed : {a : Axis} {n : ℕ} {ts : List Tile} → Roomed a n ts → 4 * length (records_on a ts) ≤ n
unfolding records_on
roomed none = omega arith
roomed (next h r) = h

roomy_on : (a : Axis) {w : Setting} {b : Board} → Roomy w b → 4 * length (records_on a b.tiles) ≤ on a w.room
roomy_on col m = m.columns
roomy_on row m = m.rows

-- every run
pub run_roomed : (a : Axis) (w : Setting) (growth : Both TrackCounts → Both TrackCounts) (qs : List Queued) (t b : Board) → Roomed a (on a w.room) t.tiles → walk w growth qs t ≡ going b → Roomed a (on a w.room) b.tiles
unfolding laid_on tile_of begin4
run_roomed a w growth qs t b k e = walk_keeps w growth (λ _. Unit {0}) (λ x. Roomed a (on a w.room) x.tiles) (λ i h x _ _ m y. next (roomy_on a m) y) (λ x y. y) qs t b (anyone qs) k e

-- the series of the tiles' areas leaves the run's list, and all of them are accepted
pub record Painted (a : Axis) (n : ℕ) (ts : List Tile) : Type 0 where
  pub list : series n (areas a ts) ≡ flat n (records_on a ts)
  pub all : accepted n (areas a ts) ≡ history a ts

module _ (a : Axis) (n : ℕ) (long : LengthRight n) where
  start : Painted a n []
  unfolding records_on
  start = let z : n - 0 ≡ n = omega arith in record { list = ap (λ (m : ℕ). replicate m (pos 0)) (sym z); all = refl }

  step : (t : Tile) (ts : List Tile) → Tiled (t ∷ ts) → Coloured (t ∷ ts) → Roomed a n (t ∷ ts) → Painted a n ts → Painted a n (t ∷ ts)
  unfolding records_on
  step t ts (more g gs) (more k ks) (next h r) i =
      let x = area_on a t in
      let xs = areas a ts in
      let l = series n xs in
      let rs = records_on a ts in
      let u = rules_hold n xs in
      let d : decode l ≡ rs = ap decode i.list ∙ holds_decode (records_hold a n ts gs ks (roomed r)) ∙ flat_recs n rs in
      let good : good_area x ≡ true = and_l (good_area x) (good_areas (history a ts)) (history_good a {ts = t ∷ ts} (more g gs) (more k ks)) in
      let room : 4 * length (paint_list x (decode l)) ≤ length l = omega (arith, h, u.1, ap (λ (y : List (Rec ℤ)). length (paint_list x y)) d) in
      let e : paint_answer l x ≡ Ok tt = because l x (is_room (length_good_lem n l long.fours long.most u.1) u.0 good room) in
      record {
        list = all_snoc xs (replicate n (pos 0)) x ∙ left_of l x (Ok tt) e ∙ (λ j. flat (u.1 j) (paint_list x (d j)));
        all = painted_counts n xs x e ∙ ap (λ (y : List (Area ℤ)). x ∷ y) i.all;
      }

  pub one_by_one : (ts : List Tile) → Tiled ts → Coloured ts → Roomed a n ts → Painted a n ts
  one_by_one [] g k r = start
  one_by_one (t ∷ ts) (more g gs) (more k ks) (next h r) = step t ts (more g gs) (more k ks) (next h r) (one_by_one ts gs ks r)
