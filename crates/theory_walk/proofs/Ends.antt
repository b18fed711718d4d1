-- Step 2's recorded ends, for code that looks through the answers: the largest end is the one that is among them and that none passes. The order in which they are looked through plays no part.
use mathlib.Core.Path.{◌≡◌, refl, sym}
use mathlib.Core.Bool.{Bool, true, false, cond, ◌&&◌}
use mathlib.Core.List.{List, [], ◌∷◌}
use mathlib.Core.Logic.{◌⊎◌, inl, inr}
use borrow.Author.Tests.{eqb-true, eq-eqb}
use lib.Dec.{eqb}
use lib.IntN.{ℤ}
use lib.Signed.{lt_z, ◌≤ℤ◌}
use Rattle.theory_signed.specs.Parts.{eq_z}
use Rattle.theory_signed.proofs.Laws.{signed, by_test, eq_of, eq_yes}
use Rattle.theory_walk.specs.Axis.{Axis, other, on}
use Rattle.theory_walk.specs.Walk.{Tile, ends_on, largest, largest_or}
use Rattle.theory_walk.proofs.Tests.{and_true, Mem, top, under, which}

upper : (z : ℤ) (ys : List ℤ) (y : ℤ) → Mem y (z ∷ ys) → y ≤ℤ largest z ys
unfolding largest
upper z [] y top = omega signed
upper z [] y (under m) = elim m [ ]
upper z (x ∷ xs) y top = by_test (lt_z y (largest x xs)) (λ b. y ≤ℤ cond b (largest x xs) y) (λ e. omega signed) (λ e. omega signed)
upper z (x ∷ xs) y (under m) = let h = upper x xs y m in by_test (lt_z z (largest x xs)) (λ b. y ≤ℤ cond b (largest x xs) z) (λ e. h) (λ e. omega signed)

among : (z : ℤ) (ys : List ℤ) → Mem (largest z ys) (z ∷ ys)
unfolding largest
among z [] = top
among z (x ∷ xs) = let h = among x xs in by_test (lt_z z (largest x xs)) (λ b. Mem (cond b (largest x xs) z) (z ∷ x ∷ xs)) (λ e. under h) (λ e. top)

-- THE LARGEST is what is among them and what none passes
pub largest_is : (g : ℤ) (zs : List ℤ) (r : ℤ) → Mem r zs → ((z : ℤ) → Mem z zs → z ≤ℤ r) → largest_or g zs ≡ r
unfolding largest_or
largest_is g [] r m h = elim m [ ]
largest_is g (z ∷ zs) r m h =
    let a = upper z zs r m in
    let b = h (largest z zs) (among z zs) in
    omega signed

pub largest_none : (g : ℤ) (zs : List ℤ) → ((z : ℤ) → Mem z zs → ⊥) → largest_or g zs ≡ g
unfolding largest_or
largest_none g [] h = refl
largest_none g (z ∷ zs) h = absurd (h z top)

-- a tile of step 2 whose recorded secondary start is c and whose recorded primary end is z
pub record Match (p : Axis) (c z : ℤ) (ts : List Tile) : Type 0 where
  pub tile : Tile
  pub inside : Mem tile ts
  pub step : tile.step ≡ 2
  pub key : (on (other p) tile.area).start ≡ c
  pub end : (on p tile.area).end ≡ z

deeper : {p : Axis} {c z : ℤ} {t : Tile} {ts : List Tile} → Match p c z ts → Match p c z (t ∷ ts)
deeper m = record { tile = m.tile; inside = under m.inside; step = m.step; key = m.key; end = m.end }

pub ends_in : (p : Axis) (c : ℤ) (ts : List Tile) (z : ℤ) → Mem z (ends_on p c ts) → Match p c z ts
unfolding ends_on
ends_in p c [] z m = elim m [ ]
ends_in p c (t ∷ ts) z m = go (λ k. ends_in p c ts z k) (eqb t.step 2 && eq_z (on (other p) t.area).start c) refl m
  where
    first : (eqb t.step 2 && eq_z (on (other p) t.area).start c) ≡ true → {l : List ℤ} → (Mem z l → Match p c z ts) → (z ≡ (on p t.area).end) ⊎ Mem z l → Match p c z (t ∷ ts)
    first e f (inl i) = let h = and_true (eqb t.step 2) (eq_z (on (other p) t.area).start c) e in record { tile = t; inside = top; step = eqb-true t.step 2 h.0; key = eq_of (on (other p) t.area).start c h.1; end = sym i }
    first e f (inr k) = deeper (f k)

    go : (Mem z (ends_on p c ts) → Match p c z ts) → (b : Bool) → (eqb t.step 2 && eq_z (on (other p) t.area).start c) ≡ b → Mem z (cond b ((on p t.area).end ∷ ends_on p c ts) (ends_on p c ts)) → Match p c z (t ∷ ts)
    go f true e k = first e f (which k)
    go f false e k = deeper (f k)

pub ends_of : (p : Axis) (c : ℤ) (t : Tile) {ts : List Tile} → Mem t ts → t.step ≡ 2 → (on (other p) t.area).start ≡ c → Mem (on p t.area).end (ends_on p c ts)
unfolding ends_on
ends_of p c t top e k =
    let i : eq_z (on (other p) t.area).start c ≡ true = eq_yes (on (other p) t.area).start c (omega signed) in
    rw (eq-eqb t.step 2 e, i) top
ends_of p c t (under {y = u} {xs = us} m) e k = go (ends_of p c t m e k) (eqb u.step 2 && eq_z (on (other p) u.area).start c)
  where
    go : Mem (on p t.area).end (ends_on p c us) → (b : Bool) → Mem (on p t.area).end (cond b ((on p u.area).end ∷ ends_on p c us) (ends_on p c us))
    go h true = under h
    go h false = h
