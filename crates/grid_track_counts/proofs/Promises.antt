-- What document 01 says of an axis's counts, as theorems about the definitions of specs/Counts.antt, which the functions' contracts cite.
use Rattle.std.specs.Prelude.{None, Some}
use mathlib.Core.Path.{◌≡◌, refl, subst, sym}
use mathlib.Core.Bool.{Bool, true, false, ◌&&◌}
use Prim.Native.Nat.{◌+◌, ◌≤◌, ◌*◌}
use native.Mathlib.Omega.{arith}
use borrow.Author.Tests.{leb-true}
use lib.Dec.{T, leb}
use lib.IntN.{ℤ, pos, ◌+ℤ◌, nat_abs}
use lib.Signed.{◌≤ℤ◌, ◌<ℤ◌}
use Rattle.theory_signed.proofs.Laws.{signed, neg, apart, g_lt_true, g_lt_false}
use Rattle.grid_coordinates.specs.declared.Lines.{Lines}
use Rattle.grid_coordinates.specs.Line.{Limited}
use Rattle.grid_track_counts.specs.declared.TrackCounts.{TrackCounts}
use Rattle.grid_track_counts.specs.Counts.{counts_good, Sound, grid_start, grid_end, Covers, Grows, grown, index_of}

-- counts that pass the test keep within the limits
pub good_sound : (t : TrackCounts) → counts_good t ≡ true → Sound t
unfolding counts_good
good_sound t h =
    both (leb t.negative 10000) (leb (t.explicit + t.positive) 10000) (leb-true t.negative 10000) (leb-true (t.explicit + t.positive) 10000) h
  where
    both : (a b : Bool) → (a ≡ true → t.negative ≤ 10000) → (b ≡ true → t.explicit + t.positive ≤ 10000) → a && b ≡ true → Sound t
    both true b f g e = record { before = f refl; after = g e }
    both false b f g e = absurd (subst T (sym e) tt)

-- "grow the counts as little as covers it": the grown counts cover the given ones and the lines,
pub grown_grows : (t : TrackCounts) (l : Lines) → Grows t (grown t l)
unfolding grown
grown_grows t l = record { explicit = refl; negative = omega arith; positive = omega arith }

pub grown_covers : (t : TrackCounts) (l : Lines) → Covers (grown t l) l
unfolding grown
grown_covers t l = let r = grown t l in record { low = omega (signed, neg (pos r.negative), apart l.start); high = omega (signed, apart l.end) }

-- they are the least that do,
pub grown_least : (t u : TrackCounts) (l : Lines) → Grows t u → Covers u l → Grows (grown t l) u
unfolding grown
grown_least t u l g h =
    let n = neg (pos u.negative) in
    record { explicit = g.explicit; negative = omega (signed, n, apart l.start); positive = omega (signed, apart l.end) }

-- and keep within the limits if the lines do
pub grown_sound : (t : TrackCounts) (l : Lines) → Sound t → Limited l → Sound (grown t l)
unfolding grown
grown_sound t l s m = record { before = omega (signed, apart l.start); after = omega (signed, apart l.end) }

-- "Index in the track vector: 2(z + negative)": from the grid start to the grid end, both lines among them,
pub index_inside : (t : TrackCounts) (z : ℤ) → grid_start t ≤ℤ z → z ≤ℤ grid_end t → index_of t z ≡ Some (2 * nat_abs (z +ℤ pos t.negative))
unfolding index_of
index_inside t z lo hi = let n = neg (pos t.negative) in rw (g_lt_false z (grid_start t) (omega signed), g_lt_false (grid_end t) z (omega signed))

-- "or absent for any z outside grid start..grid end"
pub index_before : (t : TrackCounts) (z : ℤ) → z <ℤ grid_start t → index_of t z ≡ None
unfolding index_of
index_before t z h = rw (g_lt_true z (grid_start t) (omega signed))

pub index_behind : (t : TrackCounts) (z : ℤ) → grid_end t <ℤ z → index_of t z ≡ None
unfolding index_of
index_behind t z h = let n = neg (pos t.negative) in rw (g_lt_false z (grid_start t) (omega signed), g_lt_true (grid_end t) z (omega signed))
