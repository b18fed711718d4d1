-- The counts of an axis. Document 01, "Numbers a request is made of" and "List calls and line conversions".
use Rattle.std.specs.Prelude.{◌≡◌, Bool, cond, ◌&&◌, ◌+◌, ◌-◌, ◌*◌, ◌≤◌, max, leb, ℤ, pos, neg_ℤ, nat_abs, ◌+ℤ◌, ◌≤ℤ◌, ℕ, Option, Some, None}
use Rattle.std.specs.Int.Signed.{lt_z}
use Rattle.theory_signed.specs.Parts.{up, dn}
use Rattle.grid_coordinates.specs.declared.Lines.{Lines}
use Rattle.grid_track_counts.specs.declared.TrackCounts.{TrackCounts}

-- "Negative at most 10000; explicit plus positive at most 10000." As a test, and as what passing it tells
unfoldable pub counts_good : TrackCounts → Bool
counts_good t = leb t.negative 10000 && leb (t.explicit + t.positive) 10000

pub record Sound (t : TrackCounts) : Type 0 where
  pub before : t.negative ≤ 10000
  pub after : t.explicit + t.positive ≤ 10000

-- "Grid start is minus negative; grid end is explicit plus positive."
abbrev pub grid_start : TrackCounts → ℤ
grid_start t = neg_ℤ (pos t.negative)

abbrev pub grid_end : TrackCounts → ℤ
grid_end t = pos (t.explicit + t.positive)

-- the counts cover the lines
pub record Covers (t : TrackCounts) (l : Lines) : Type 0 where
  pub low : grid_start t ≤ℤ l.start
  pub high : l.end ≤ℤ grid_end t

-- every count of t is at most that of u, and the explicit grid is the same
pub record Grows (t u : TrackCounts) : Type 0 where
  pub explicit : u.explicit ≡ t.explicit
  pub negative : t.negative ≤ u.negative
  pub positive : t.positive ≤ u.positive

-- "grow the counts as little as covers it"
unfoldable pub grown : TrackCounts → Lines → TrackCounts
grown t l =
    record {
      negative = max t.negative (dn l.start);
      explicit = t.explicit;
      positive = max t.positive (up l.end - t.explicit);
    }

-- "Index in the track vector: 2(z + negative), or absent for any z outside grid start..grid end"
unfoldable pub index_of : TrackCounts → ℤ → Option ℕ
index_of t z =
    cond (lt_z z (grid_start t)) None
    (cond (lt_z (grid_end t) z) None (Some (2 * nat_abs (z +ℤ pos t.negative))))
