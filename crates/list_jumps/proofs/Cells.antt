-- A record of a list and its cells: each cell of a record has a state, and a cell with a state is in a record.
use mathlib.Core.Path.{◌≡◌, refl, sym, ◌∙◌, subst}
use mathlib.Core.Bool.{true, cond, ◌&&◌}
use mathlib.Core.List.{List, [], ◌∷◌}
use mathlib.Core.Logic.{◌≢◌}
use Prim.Native.Nat.{ℕ}
use lib.IntN.{ℤ, pos}
use lib.Signed.{lt_z, ◌≤ℤ◌, ◌<ℤ◌}
use Rattle.theory_signed.proofs.Laws.{signed, g_lt_true, g_lt_false}
use Rattle.theory_intervals.proofs.Line.{Test, yea, nay, test, no_both}
use Rattle.theory_intervals.proofs.Tracks.{same_yes}
use Rattle.theory_intervals.specs.Records.{Rec, rec, same, between, behind, follows}
use Rattle.theory_intervals.proofs.Grid.{and_l, and_r, and₃}
use Rattle.theory_intervals.specs.OverInt.{ok, keeps, cell_of}
use Rattle.theory_intervals.specs.Lists.{in_grid, all_in, rules}
use Rattle.theory_intervals.proofs.Lists.{in_is}

-- ---- each record by itself

pub data Sound : List (Rec ℤ) → Type 0 where
  none : Sound []
  more : {t c d : ℤ} {s : ℕ} {rs : List (Rec ℤ)} → c <ℤ d → s ≢ 0 → d ≤ℤ pos 10000 → Sound rs → Sound (rec t c d s ∷ rs)

ok_nz : (s : ℕ) → ok s ≡ true → s ≢ 0
ok_nz s h e = no_both h (rw e)

sound_behind : (t b : ℤ) (s : ℕ) (rs : List (Rec ℤ)) → behind lt_z ok t b s rs ≡ true → all_in rs ≡ true → Sound rs
sound_behind t b s [] h k = none
sound_behind t b s (rec u c d v ∷ rs) h k =
    let q = follows lt_z t b s u c v in
    let w = lt_z c d && (ok v && behind lt_z ok u d v rs) in
    let j = and₃ (lt_z c d) (ok v) (behind lt_z ok u d v rs) (and_r q w h) in
    let x : c <ℤ d = (let y = j.0 in omega signed) in
    let g = in_is u c d v (and_l (in_grid (rec u c d v)) (all_in rs) k) in
    more x (ok_nz v j.1) g.hi (sound_behind u d v rs j.2 (and_r (in_grid (rec u c d v)) (all_in rs) k))

keeps_sound : (rs : List (Rec ℤ)) → keeps rs ≡ true → all_in rs ≡ true → Sound rs
keeps_sound [] h k = none
keeps_sound (rec t a b s ∷ rs) h k =
    let j = and₃ (lt_z a b) (ok s) (behind lt_z ok t b s rs) h in
    let x : a <ℤ b = (let y = j.0 in omega signed) in
    let g = in_is t a b s (and_l (in_grid (rec t a b s)) (all_in rs) k) in
    more x (ok_nz s j.1) g.hi (sound_behind t b s rs j.2 (and_r (in_grid (rec t a b s)) (all_in rs) k))

pub sound : (rs : List (Rec ℤ)) → rules rs ≡ true → Sound rs
sound rs h = keeps_sound rs (and_l (keeps rs) (all_in rs) h) (and_r (keeps rs) (all_in rs) h)

-- ---- a record of a list

pub data Has (t c d : ℤ) : List (Rec ℤ) → Type 0 where
  here : {s : ℕ} {rs : List (Rec ℤ)} → Has t c d (rec t c d s ∷ rs)
  there : {r : Rec ℤ} {rs : List (Rec ℤ)} → Has t c d rs → Has t c d (r ∷ rs)

pub has_order : {t c d : ℤ} {rs : List (Rec ℤ)} → Sound rs → Has t c d rs → (c <ℤ d) × (d ≤ℤ pos 10000)
has_order none x = elim x [ ]
has_order (more a b e w) here = (a, e)
has_order (more a b e w) (there h) = has_order w h

within : (t a b p : ℤ) → a ≤ℤ p → p <ℤ b → same lt_z t t && between lt_z a b p ≡ true
within t a b p h k = rw (g_lt_false t t (omega signed), g_lt_false p a (omega signed), g_lt_true p b (omega signed))

pub has_cell : {t c d : ℤ} {rs : List (Rec ℤ)} (p : ℤ) → Sound rs → Has t c d rs → c ≤ℤ p → p <ℤ d → cell_of rs t p ≢ 0
has_cell p none x h k = elim x [ ]
has_cell {t} {c} {d} p (more {s = v} {rs = rs} a b e w) here h k = λ z. let q : cell_of (rec t c d v ∷ rs) t p ≡ v = rw (within t c d p h k) in b (sym q ∙ z)
has_cell {t} {c} {d} p (more {t = u} {c = x} {d = y} {s = v} {rs = rs} a b e w) (there m) h k = go (test (same lt_z t u && between lt_z x y p)) (has_cell p w m h k)
  where
    go : Test (same lt_z t u && between lt_z x y p) → cell_of rs t p ≢ 0 → cond (same lt_z t u && between lt_z x y p) v (cell_of rs t p) ≢ 0
    go (yea q) r = λ z. b (rw q at z)
    go (nay q) r = λ z. r (rw q at z)

pub between_is : (a b p : ℤ) → between lt_z a b p ≡ true → (a ≤ℤ p) × (p <ℤ b)
between_is a b p h = go (test (lt_z p a)) (test (lt_z p b))
  where
    go : Test (lt_z p a) → Test (lt_z p b) → (a ≤ℤ p) × (p <ℤ b)
    go (yea e) f = no_both h (rw e)
    go (nay e) (yea f) = (omega signed, omega signed)
    go (nay e) (nay f) = no_both h (rw (e, f))

-- a cell is in a record, or has no state
pub data Cell (rs : List (Rec ℤ)) (t p : ℤ) : Type 0 where
  empty : cell_of rs t p ≡ 0 → Cell rs t p
  filled : (c d : ℤ) → Has t c d rs → c ≤ℤ p → p <ℤ d → Cell rs t p

pub cell : (rs : List (Rec ℤ)) (t p : ℤ) → Cell rs t p
cell [] t p = empty refl
cell (rec u c d s ∷ rs) t p = go (test (same lt_z t u && between lt_z c d p)) (cell rs t p)
  where
    go : Test (same lt_z t u && between lt_z c d p) → Cell rs t p → Cell (rec u c d s ∷ rs) t p
    go (yea e) r =
        let q : u ≡ t = sym (same_yes t u (and_l (same lt_z t u) (between lt_z c d p) e)) in
        let b = between_is c d p (and_r (same lt_z t u) (between lt_z c d p) e) in
        filled c d (subst (λ (x : ℤ). Has x c d (rec u c d s ∷ rs)) q here) b.0 b.1
    go (nay e) (empty z) = empty (rw e z)
    go (nay e) (filled x y m h k) = filled x y (there m) h k
