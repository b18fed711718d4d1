-- How far step 4's lines go, by the cursor alone.
use mathlib.Core.Path.{◌≡◌}
use mathlib.Core.Bool.{Bool, true, false, cond}
use mathlib.Core.List.{List}
use Prim.Native.Nat.{ℕ}
use lib.IntN.{ℤ, pos, negsuc, ◌+ℤ◌}
use lib.Signed.{lt_z, ◌≤ℤ◌}
use Rattle.theory_signed.proofs.Laws.{signed}
use Rattle.theory_intervals.specs.Records.{Rec}
use Rattle.theory_intervals.specs.Lists.{rules}
use Rattle.grid_coordinates.specs.declared.Lines.{Lines}
use Rattle.grid_track_counts.specs.declared.TrackCounts.{TrackCounts}
use Rattle.grid_track_counts.specs.Counts.{grid_start, Sound}
use Rattle.theory_walk.specs.Axis.{from}
use Rattle.theory_walk.specs.Search.{first_line}
use Rattle.theory_walk.proofs.SearchLaws.{first_line_first, first_line_high}
use Rattle.theory_walk.proofs.LinesLaws.{start_low, start_high}
use Rattle.theory_walk.proofs.Range.{CursorIn}
use Rattle.placing_search.specs.Clear.{clear}
use Rattle.placing_search.specs.declared.Pair.{Pair}
use Rattle.placing_search.proofs.Clears.{clear_lines_beyond}
use Rattle.placing_step4_choice.specs.Cursor.{place_of, start_on}

-- a line at which a secondary search starts or ends: a span added to it fits 16 bits
pub record Near (z : ℤ) : Type 0 where
  pub low : negsuc 9999 ≤ℤ z
  pub high : z ≤ℤ pos 12000

near_cond : (t : Bool) (a b : ℤ) → Near a → Near b → Near (cond t a b)
near_cond true a b f g = f
near_cond false a b f g = g

pub start_near : (dense : Bool) (q : Pair) (c : TrackCounts) (a : ℤ) → Sound c → CursorIn 1999 (place_of q) → Near (start_on dense q c a)
start_near dense q c a s h =
    let l = start_low c s in
    let u = start_high c in
    let g : Near (grid_start c) = record { low = l; high = omega signed } in
    let x : Near (q.secondary +ℤ pos 1) = record { low = omega signed; high = omega signed } in
    let y : Near q.secondary = record { low = omega signed; high = omega signed } in
    near_cond dense (grid_start c) (cond (lt_z a q.primary) (q.secondary +ℤ pos 1) q.secondary) g (near_cond (lt_z a q.primary) (q.secondary +ℤ pos 1) q.secondary x y)

pub line_near : (rs : List (Rec ℤ)) → rules rs ≡ true → (p : Lines) (n : ℕ) (z : ℤ) → Near z → Near (first_line (λ y. clear rs p (from y n)) z)
line_near rs h p n z k =
    let ok : ℤ → Bool = λ y. clear rs p (from y n) in
    let beyond : (y : ℤ) → pos 10000 ≤ℤ y → ok y ≡ true = λ y v. clear_lines_beyond rs h p (from y n) v in
    let a = (first_line_first ok beyond z).since in
    let b = first_line_high ok beyond z (pos 12000) k.high (omega signed) in
    record { low = omega signed; high = b }
