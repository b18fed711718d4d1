-- The two axes, areas, and what document 01 says of an area by saying it of the lines of each axis. "Facts for both axes are proved once with the axis as parameter."
use Rattle.std.specs.Prelude.{Bool, ◌&&◌, ◌||◌, ℕ, ℤ, pos, ◌+ℤ◌}
use Rattle.std.specs.Int.Signed.{lt_z}
use Rattle.grid_coordinates.specs.declared.Lines.{Lines}
use Rattle.grid_coordinates.specs.Line.{lines, limited, pressed}
use Rattle.grid_track_counts.specs.declared.TrackCounts.{TrackCounts}
use Rattle.grid_track_counts.specs.Counts.{grown}

pub data Axis : Type 0 where
  col row : Axis

abbrev pub other : Axis → Axis
other col = row
other row = col

-- one thing for columns and one for rows
pub record Both (A : Type 0) : Type 0 where
  pub columns : A
  pub rows : A

abbrev pub on : {A : Type 0} → Axis → Both A → A
on col x = x.columns
on row x = x.rows

-- p on the axis, s on the other
abbrev pub laid : {A : Type 0} → Axis → A → A → Both A
laid col p s = record { columns = p; rows = s }
laid row p s = record { columns = s; rows = p }

-- a span of n from line z on
abbrev pub from : ℤ → ℕ → Lines
from z n = lines z (z +ℤ pos n)

-- the lines share a track
abbrev pub meets : Lines → Lines → Bool
meets a b = lt_z a.start b.end && lt_z b.start a.end

-- an area: its columns and its rows
abbrev pub Extent : Type 0
Extent = Both Lines

-- the areas share a cell
abbrev pub overlap : Extent → Extent → Bool
overlap a b = meets a.columns b.columns && meets a.rows b.rows

-- "limit its lines"
abbrev pub limited_area : Extent → Extent
limited_area a = record { columns = limited a.columns; rows = limited a.rows }

-- "pressed (limiting changed a line)"
abbrev pub pressed_area : Extent → Bool
pressed_area a = pressed a.columns || pressed a.rows

-- "grow the counts as little as covers it"
abbrev pub grown_both : Both TrackCounts → Extent → Both TrackCounts
grown_both c a = record { columns = grown c.columns a.columns; rows = grown c.rows a.rows }
