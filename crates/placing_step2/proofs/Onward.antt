-- Looking for the largest recorded end from the newest back: how one end more goes in, where the look may stop, and that in the sparse flow an item ends no
-- earlier than those that its search began from.
use mathlib.Core.Path.{◌≡◌, refl}
use mathlib.Core.Bool.{false, cond}
use mathlib.Core.List.{List, [], ◌∷◌}
use Prim.Native.Nat.{ℕ, ◌+◌, ◌-◌}
use lib.IntN.{ℤ, pos, ◌+ℤ◌}
use lib.Signed.{lt_z, ◌≤ℤ◌}
use Rattle.std.specs.Prelude.{Option, Some, None, unwrap_or}
use Rattle.theory_signed.specs.Parts.{up, dn}
use Rattle.theory_signed.proofs.Laws.{signed, by_test, sum, g_lt_false}
use Rattle.grid_coordinates.specs.declared.Lines.{Lines}
use Rattle.grid_coordinates.specs.Line.{highest, limited, limited_start}
use Rattle.grid_coordinates.proofs.Clamp.{clamp_is, start_line}
use Rattle.grid_track_counts.specs.Counts.{grid_start}
use Rattle.theory_walk.specs.Axis.{on, from}
use Rattle.theory_walk.specs.Search.{first_line}
use Rattle.theory_walk.specs.Walk.{Board, Setting, larger, largest, largest_or, ends_on, start2, free_at}
use Rattle.theory_walk.proofs.FreeLaws.{step2_first}
use Rattle.theory_walk.proofs.Range.{start2_grid}
use Rattle.theory_walk.proofs.WalkLaws.{Kept}

-- the larger, read by `omega`: a, and b where it passes a
larger_is : (a b : ℤ) → up (larger a b) + dn a ≡ dn (larger a b) + up a + (up b + dn a - (dn b + up a))
larger_is a b = by_test (lt_z a b) (λ t. up (cond t b a) + dn a ≡ dn (cond t b a) + up a + (up b + dn a - (dn b + up a))) (λ e. omega signed) (λ e. omega signed)

-- the largest of the ends that are left and of the furthest so far, or g
abbrev pub beside : Option ℤ → ℤ → List ℤ → ℤ
beside (Some furthest) g zs = largest furthest zs
beside None g zs = largest_or g zs

-- the furthest, once an end more is looked at
abbrev pub further : Option ℤ → ℤ → ℤ
further (Some furthest) e = larger e furthest
further None e = e

pub beside_end : (furthest : Option ℤ) (g : ℤ) → beside furthest g [] ≡ unwrap_or furthest g
unfolding largest largest_or
beside_end (Some e) g = refl
beside_end None g = refl

pub beside_next : (furthest : Option ℤ) (g e : ℤ) (zs : List ℤ) → beside furthest g (e ∷ zs) ≡ largest (further furthest e) zs
unfolding largest largest_or
beside_next None g e zs = refl
beside_next (Some best) g e [] = omega (signed, larger_is best e, larger_is e best)
beside_next (Some best) g e (z ∷ zs) =
    let m = largest z zs in
    omega (signed, larger_is e m, larger_is best (larger e m), larger_is e best, larger_is (larger e best) m)

-- an end that none of those left passes ends the look
pub beside_stop : (furthest : Option ℤ) (e : ℤ) (zs : List ℤ) → largest e zs ≡ e → largest (further furthest e) zs ≡ further furthest e
unfolding largest
beside_stop None e zs h = h
beside_stop (Some best) e [] h = refl
beside_stop (Some best) e (z ∷ zs) h =
    let m = largest z zs in
    omega (signed, larger_is e m, larger_is e best, larger_is (larger e best) m)

-- what is not below the largest is the largest beside them
pub largest_on_top : (g e : ℤ) (zs : List ℤ) → largest_or g zs ≤ℤ e → largest e zs ≡ e
unfolding largest largest_or
largest_on_top g e [] h = refl
largest_on_top g e (z ∷ zs) h = rw (g_lt_false e (largest z zs) (omega signed))

-- limiting leaves an end where it is above a line of the grid
limited_above : (l : Lines) (z : ℤ) → z ≤ℤ l.end → z ≤ℤ highest → z ≤ℤ (limited l).end
unfolding limited
limited_above l z h k =
    let s = start_line l.start in
    let e = clamp_is (limited_start l.start +ℤ pos 1) highest l.end (omega (signed, sum (limited_start l.start) (pos 1))) in
    omega (signed, sum (limited_start l.start) (pos 1))

-- IN THE SPARSE FLOW an item of step 2 ends no earlier than any that its search counted
pub ends_onward : (w : Setting) (n : ℕ) (s : Lines) (b : Board) → w.dense ≡ false → Kept b
    → let e = (limited (from (first_line (free_at w b n s) (start2 w s.start b)) n)).end in largest e (ends_on w.axis s.start b.tiles) ≡ e
unfolding start2
ends_onward w n s b d k =
    let z = start2 w s.start b in
    let g = grid_start (on w.axis b.counts) in
    let line = first_line (free_at w b n s) z in
    let begins : z ≡ largest_or g (ends_on w.axis s.start b.tiles) = rw d in
    let since = (step2_first w b k.tiles n s).since in
    let high = (start2_grid w s.start b k).high in
    let past = limited_above (from line n) z (omega (signed, sum line (pos n))) high in
    largest_on_top g (limited (from line n)).end (ends_on w.axis s.start b.tiles) (omega signed)
