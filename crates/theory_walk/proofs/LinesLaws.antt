-- Limiting, counts, and areas beyond the grid.
use mathlib.Core.Path.{◌≡◌, refl, ap, ◌∙◌}
use mathlib.Core.Bool.{false, ◌&&◌}
use native.Mathlib.Omega.{arith}
use lib.IntN.{pos, negsuc}
use lib.Signed.{lt_z, ◌≤ℤ◌}
use Rattle.theory_signed.proofs.Laws.{signed, by_test, neg}
use Rattle.grid_coordinates.specs.declared.Lines.{Lines}
use Rattle.grid_coordinates.specs.Line.{limited, pressed, Limited}
use Rattle.grid_coordinates.proofs.Promises.{limited_meets, pressed_changed}
use Rattle.grid_track_counts.specs.declared.TrackCounts.{TrackCounts}
use Rattle.grid_track_counts.specs.Counts.{grid_start, grid_end, Sound, Covers, Grows}
use Rattle.theory_walk.specs.Axis.{Axis, col, row, Both, on, meets, Extent, overlap, limited_area, pressed_area}
use Rattle.theory_walk.proofs.Tests.{and_drop, or_false}

-- ---- an area whose lines are limited

pub record AreaLimited (a : Extent) : Type 0 where
  pub columns : Limited a.columns
  pub rows : Limited a.rows

pub area_limited : (a : Extent) → AreaLimited (limited_area a)
area_limited a = record { columns = limited_meets a.columns; rows = limited_meets a.rows }

pub in_grid_on : (x : Axis) (a : Extent) → AreaLimited a → Limited (on x a)
in_grid_on col a h = h.columns
in_grid_on row a h = h.rows

-- ---- not pressed: limiting changed nothing

pub area_not_pressed : (a : Extent) → pressed_area a ≡ false → limited_area a ≡ a
area_not_pressed a e =
    let h = or_false (pressed a.columns) (pressed a.rows) e in
    ap (λ (l : Lines). record { columns = l; rows = limited a.rows }) (pressed_changed a.columns h.0) ∙ ap (λ (l : Lines). record { columns = a.columns; rows = l }) (pressed_changed a.rows h.1)

-- ---- an area from 10000 on overlaps nothing that is in the grid

pub meets_not : (a b : Lines) → a.end ≤ℤ b.start → meets a b ≡ false
meets_not a b h = by_test (lt_z a.start b.end) (λ t. (t && lt_z b.start a.end) ≡ false) (λ e. omega signed) (λ e. refl)

pub overlap_not : (x : Axis) (a b : Extent) → (on x a).end ≤ℤ (on x b).start → overlap a b ≡ false
overlap_not col a b h = rw (meets_not a.columns b.columns h)
overlap_not row a b h = and_drop (meets a.columns b.columns) (meets a.rows b.rows) (meets_not a.rows b.rows h)

-- ---- counts

pub grows_refl : (c : TrackCounts) → Grows c c
grows_refl c = omega arith

pub grows_trans : (b c d : TrackCounts) → Grows b c → Grows c d → Grows b d
grows_trans b c d h k = omega arith

pub covers_grows : (c d : TrackCounts) (l : Lines) → Grows c d → Covers c l → Covers d l
covers_grows c d l g h = record { low = omega (signed, neg (pos c.negative), neg (pos d.negative)); high = omega signed }

pub start_low : (c : TrackCounts) → Sound c → negsuc 9999 ≤ℤ grid_start c
start_low c s = omega (signed, neg (pos c.negative))

pub start_high : (c : TrackCounts) → grid_start c ≤ℤ pos 0
start_high c = omega (signed, neg (pos c.negative))

pub end_high : (c : TrackCounts) → Sound c → grid_end c ≤ℤ pos 10000
end_high c s = omega signed

-- ---- the same of both axes

pub record Each (P : TrackCounts → Type 0) (c : Both TrackCounts) : Type 0 where
  pub columns : P c.columns
  pub rows : P c.rows

pub each_on : {P : TrackCounts → Type 0} (x : Axis) (c : Both TrackCounts) → Each P c → P (on x c)
each_on col c h = h.columns
each_on row c h = h.rows

pub record CoversArea (c : Both TrackCounts) (a : Extent) : Type 0 where
  pub columns : Covers c.columns a.columns
  pub rows : Covers c.rows a.rows

pub record GrowsBoth (c d : Both TrackCounts) : Type 0 where
  pub columns : Grows c.columns d.columns
  pub rows : Grows c.rows d.rows
