-- Lines: the limited grid, CSS lines and origin-zero lines, limiting. Document 01, "Numbers a request is made of", "List calls and line conversions".
use Rattle.std.specs.Prelude.{Bool, cond, not, ◌&&◌, ℕ, ℤ, pos, negsuc, ◌+ℤ◌, ◌-ℤ◌, ◌≤ℤ◌, ◌<ℤ◌}
use Rattle.std.specs.Int.Signed.{lt_z, le_z}
use Rattle.std.specs.Int.{w16}
use Rattle.std.proofs.Common.{SFits}
use Rattle.theory_signed.specs.Parts.{eq_z}
use Rattle.grid_coordinates.specs.declared.Lines.{Lines}

-- "The limited grid is -10000..10000."
abbrev pub lowest : ℤ
lowest = negsuc 9999

abbrev pub highest : ℤ
highest = pos 10000

-- a line of the limited grid. (That it fits 16 bits follows from the other two; a proof finds it here.)
pub record InGrid (z : ℤ) : Type 0 where
  pub fits : SFits w16 z
  pub low : lowest ≤ℤ z
  pub high : z ≤ℤ highest

-- z, or lo where z is below it, or hi where z is above it
unfoldable pub clamp_to : ℤ → ℤ → ℤ → ℤ
clamp_to lo hi z = cond (lt_z z lo) lo (cond (lt_z hi z) hi z)

-- "CSS line to origin-zero with explicit count e: n-1 for n > 0, n+e+1 for n < 0, limited." (There is no CSS line 0.)
unfoldable pub origin_zero_of : ℤ → ℕ → ℤ
origin_zero_of n e = clamp_to lowest highest (cond (lt_z (pos 0) n) (n -ℤ pos 1) (n +ℤ pos e +ℤ pos 1))

-- "Back: z+1 for z ≥ 0, else z-e-1."
unfoldable pub css_of : ℤ → ℕ → ℤ
css_of z e = cond (le_z (pos 0) z) (z +ℤ pos 1) (z -ℤ pos e -ℤ pos 1)

-- the lines from a to b
abbrev pub lines : ℤ → ℤ → Lines
lines a b = record { start = a; end = b }

-- "limit its lines (start into -10000..9999, end into start+1..10000)"
abbrev pub limited_start : ℤ → ℤ
limited_start z = clamp_to lowest (pos 9999) z

unfoldable pub limited : Lines → Lines
limited l = lines (limited_start l.start) (clamp_to (limited_start l.start +ℤ pos 1) highest l.end)

-- "pressed (limiting changed a line)"
unfoldable pub pressed : Lines → Bool
pressed l = not (eq_z (limited l).start l.start && eq_z (limited l).end l.end)

-- lines that meet the limits
pub record Limited (l : Lines) : Type 0 where
  pub low : lowest ≤ℤ l.start
  pub order : l.start <ℤ l.end
  pub high : l.end ≤ℤ highest
