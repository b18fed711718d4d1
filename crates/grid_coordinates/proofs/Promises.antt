-- What document 01 says of lines, as theorems about the definitions of specs/Line.antt, which the functions' contracts cite.
use mathlib.Core.Path.{◌≡◌, refl, subst}
use mathlib.Core.Bool.{Bool, true, false, cond, not, ◌&&◌}
use lib.Dec.{T}
use Prim.Native.Nat.{ℕ}
use lib.IntN.{ℤ, pos, ◌+ℤ◌, ◌-ℤ◌}
use lib.Signed.{lt_z, le_z, ◌≤ℤ◌}
use Rattle.theory_signed.specs.Parts.{eq_z}
use Rattle.theory_signed.proofs.Laws.{signed, sum, dif, by_test, g_lt_true, g_lt_false, eq_yes, eq_of}
use Rattle.grid_coordinates.specs.declared.Lines.{Lines}
use Rattle.grid_coordinates.specs.Line.{lowest, highest, clamp_to, origin_zero_of, css_of, lines, limited, limited_start, pressed, Limited}
use Rattle.grid_coordinates.proofs.Clamp.{clamp_is, grid_line, start_line}

-- "From origin-zero and back is the identity": on the limited grid, for every explicit count
pub there_and_back : (z : ℤ) (e : ℕ) → lowest ≤ℤ z → z ≤ℤ highest → origin_zero_of (css_of z e) e ≡ z
unfolding origin_zero_of css_of
there_and_back z e lo hi =
    by_test (le_z (pos 0) z) (λ b. origin_zero_of (cond b (z +ℤ pos 1) (z -ℤ pos e -ℤ pos 1)) e ≡ z)
    (λ t. let s = sum z (pos 1) in let d = dif (z +ℤ pos 1) (pos 1) in let g = grid_line (z +ℤ pos 1 -ℤ pos 1) in
    rw (g_lt_true (pos 0) (z +ℤ pos 1) (omega signed)) (omega signed))
    (λ t. let n = z -ℤ pos e -ℤ pos 1 in let d = dif z (pos e) in let d2 = dif (z -ℤ pos e) (pos 1) in let s = sum n (pos e) in let s2 = sum (n +ℤ pos e) (pos 1) in let g = grid_line (n +ℤ pos e +ℤ pos 1) in
    rw (g_lt_false (pos 0) n (omega signed)) (omega signed))

-- ".. from CSS it isn't": line 32767 comes back as 10001
pub not_from_css : css_of (origin_zero_of (pos 32767) 3) 3 ≡ pos 10001
unfolding origin_zero_of css_of clamp_to
not_from_css = refl

-- every origin-zero line that a CSS line gives is in the limited grid
pub origin_zero_in_grid : (n : ℤ) (e : ℕ) → (lowest ≤ℤ origin_zero_of n e) × (origin_zero_of n e ≤ℤ highest)
unfolding origin_zero_of
origin_zero_in_grid n e = by_clamp (cond (lt_z (pos 0) n) (n -ℤ pos 1) (n +ℤ pos e +ℤ pos 1))
  where
    by_clamp : (z : ℤ) → (lowest ≤ℤ clamp_to lowest highest z) × (clamp_to lowest highest z ≤ℤ highest)
    by_clamp z = let g = grid_line z in (omega signed, omega signed)

-- limited lines meet the limits
pub limited_meets : (l : Lines) → Limited (limited l)
unfolding limited
limited_meets l =
    let s = limited_start l.start in
    let g = start_line l.start in
    let n = sum s (pos 1) in
    let h = clamp_is (s +ℤ pos 1) highest l.end (omega signed) in
    record { low = omega signed; order = omega signed; high = omega signed }

-- and limiting changes nothing that meets them already
pub limited_stays : (l : Lines) → Limited l → limited l ≡ l
unfolding limited
limited_stays l h =
    let g = start_line l.start in
    let same : limited_start l.start ≡ l.start = omega signed in
    let n = sum l.start (pos 1) in
    let k = clamp_is (l.start +ℤ pos 1) highest l.end (omega signed) in
    let last : clamp_to (l.start +ℤ pos 1) highest l.end ≡ l.end = omega signed in
    rw (same, last) refl

-- "pressed (limiting changed a line)": lines that meet the limits are not pressed, and lines that are not pressed are the limited ones
pub not_pressed : (l : Lines) → Limited l → pressed l ≡ false
unfolding pressed
not_pressed l h = rw (limited_stays l h) (rw (eq_yes l.start l.start (omega signed), eq_yes l.end l.end (omega signed)))

pub pressed_changed : (l : Lines) → pressed l ≡ false → limited l ≡ l
unfolding pressed
pressed_changed l e = both (limited l) (eq_z (limited l).start l.start) (eq_z (limited l).end l.end) refl refl e
  where
    both : (k : Lines) (a b : Bool) → eq_z k.start l.start ≡ a → eq_z k.end l.end ≡ b → not (a && b) ≡ false → k ≡ l
    both k true true p q h =
        let s : k.start ≡ l.start = eq_of k.start l.start p in
        let t : k.end ≡ l.end = eq_of k.end l.end q in
        let g : lines k.start k.end ≡ lines l.start l.end = cc in
        g
    both k true false p q h = absurd (subst T h tt)
    both k false b p q h = absurd (subst T h tt)
