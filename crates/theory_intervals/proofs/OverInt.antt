-- The theory at the integers, with today's states.
use mathlib.Core.Path.{◌≡◌, refl, ap, ◌∙◌}
use mathlib.Core.Bool.{Bool, true, false, not, cond, ◌&&◌, ◌||◌}
use mathlib.Core.List.{List}
use mathlib.Core.Logic.{◌↔◌}
use Prim.Native.Nat.{ℕ, zero, suc, ◌+◌}
use lib.Dec.{ltb}
use lib.IntN.{ℤ, pos, negsuc, ◌+ℤ◌, nat_abs}
use lib.Signed.{lt_z, non_neg}
use lib.ListN.{length}
use borrow.Author.Tests.{eqb-true, ltb-true, ltb-false, lt-ltb, le-ltb}
use Rattle.theory_signed.specs.Parts.{up, dn, gap}
use Rattle.theory_signed.proofs.Laws.{signed, sum}
use Rattle.theory_intervals.specs.Records.{Rec, Area, area, same, between}
use Rattle.theory_intervals.specs.OverInt.{upto, span, ok, cell_of, keeps, state_at, fit, fits, paint_list, painted, is_zero, digits, decode, is_flat}
use Rattle.theory_intervals.proofs.Line.{no_both, Test, yea, nay, test}
use Rattle.theory_intervals.proofs.Grid as Gr
use Rattle.theory_intervals.proofs.Paint as Pa
use Rattle.theory_intervals.proofs.Paint.{mem}
use Rattle.theory_intervals.proofs.Flat as Fl
use Rattle.theory_intervals.proofs.Flat.{DigitLaws}
use Rattle.theory_intervals.proofs.IntOrder.{int_linear}

-- t is one of n numbers from u on
abbrev within : ℕ → ℤ → ℤ → Bool
within n u t = not (lt_z t u) && ltb (up t + dn u) (up u + dn t + n)

upto_mem : (n : ℕ) (u t : ℤ) → mem lt_z t (upto n u) ≡ within n u t
upto_mem zero u t = go (test (lt_z t u))
  where
    go : Test (lt_z t u) → false ≡ within 0 u t
    go (yea e) = rw e
    go (nay e) = rw (e, le-ltb (up t + dn u) (up u + dn t + 0) (omega signed))
upto_mem (suc n) u t = rw (upto_mem n (u +ℤ pos 1) t) (go (test (lt_z t u)) (test (lt_z u t)) (test (ltb (up t + dn u) (up u + dn t + suc n))))
  where
    v : ℤ
    v = u +ℤ pos 1

    step : up v + dn u ≡ suc (up u + dn v)
    step = omega (signed, sum u (pos 1))

    up_lo : lt_z t u ≡ true → lt_z t v ≡ true
    up_lo e = omega (signed, step)

    up_hi : lt_z u t ≡ true → lt_z t v ≡ false
    up_hi e = omega (signed, step)

    go : Test (lt_z t u) → Test (lt_z u t) → Test (ltb (up t + dn u) (up u + dn t + suc n)) → same lt_z t u || within n v t ≡ within (suc n) u t
    go (yea e) i j = rw (e, up_lo e)
    go (nay e) (nay i) j = rw (e, i, lt-ltb (up t + dn u) (up u + dn t + suc n) (omega signed))
    go (nay e) (yea i) (yea j) = rw (e, i, j, up_hi i, lt-ltb (up t + dn v) (up v + dn t + n) (omega (signed, step, ltb-true (up t + dn u) (up u + dn t + suc n) j)))
    go (nay e) (yea i) (nay j) = rw (e, i, j, up_hi i, le-ltb (up t + dn v) (up v + dn t + n) (omega (signed, step, ltb-false (up t + dn u) (up u + dn t + suc n) j)))

-- the tracks that `span` lists are those between
pub span_is : (a b t : ℤ) → mem lt_z t (span a b) ≡ between lt_z a b t
unfolding span
span_is a b t = upto_mem (gap a b) a t ∙ go (test (lt_z t a)) (test (lt_z t b))
  where
    go : Test (lt_z t a) → Test (lt_z t b) → within (gap a b) a t ≡ between lt_z a b t
    go (yea e) j = rw e
    go (nay e) (yea j) = rw (e, j, lt-ltb (up t + dn a) (up a + dn t + gap a b) (omega signed))
    go (nay e) (nay j) = rw (e, j, le-ltb (up t + dn a) (up a + dn t + gap a b) (omega signed))

-- ---- cells and painting

pub paint_list_keeps : (t₁ t₂ a b : ℤ) (s : ℕ) (rs : List (Rec ℤ)) → fit (area t₁ t₂ a b s) ≡ true → keeps rs ≡ true → keeps (paint_list (area t₁ t₂ a b s) rs) ≡ true
paint_list_keeps = Pa.paint_list_keeps lt_z int_linear ok refl span span_is

pub paint_list_cell : (t₁ t₂ a b : ℤ) (s : ℕ) (rs : List (Rec ℤ)) → fit (area t₁ t₂ a b s) ≡ true → keeps rs ≡ true
    → (t p : ℤ) → cell_of (paint_list (area t₁ t₂ a b s) rs) t p ≡ cond (between lt_z t₁ t₂ t && between lt_z a b p) s (cell_of rs t p)
paint_list_cell = Pa.paint_list_cell lt_z int_linear ok refl span span_is

pub unique : (xs ys : List (Rec ℤ)) → keeps xs ≡ true → keeps ys ≡ true → ((t p : ℤ) → cell_of xs t p ≡ cell_of ys t p) → xs ≡ ys
unique = Gr.unique lt_z int_linear ok refl

pub painted_keeps : (h : List (Area ℤ)) → fits h ≡ true → keeps (painted h) ≡ true
painted_keeps = Pa.painted_keeps lt_z int_linear ok refl span span_is

pub painted_cell : (h : List (Area ℤ)) → fits h ≡ true → (t p : ℤ) → cell_of (painted h) t p ≡ state_at h t p
painted_cell = Pa.painted_cell lt_z int_linear ok refl span span_is

pub canonical : (h g : List (Area ℤ)) → fits h ≡ true → fits g ≡ true → painted h ≡ painted g ↔ ((t p : ℤ) → state_at h t p ≡ state_at g t p)
canonical = Pa.canonical lt_z int_linear ok refl span span_is

pub is_painted_lem : (xs : List (Rec ℤ)) (h : List (Area ℤ)) → keeps xs ≡ true → fits h ≡ true → ((t p : ℤ) → cell_of xs t p ≡ state_at h t p) → xs ≡ painted h
is_painted_lem = Pa.is_painted_lem lt_z int_linear ok refl span span_is

-- ---- flat lists

pub is_zero_is : (z : ℤ) → is_zero z ≡ true → z ≡ pos 0
is_zero_is (pos n) h = ap pos (eqb-true n 0 h)
is_zero_is (negsuc n) h = no_both h refl

pub state_is : (z : ℤ) → non_neg z ≡ true → pos (nat_abs z) ≡ z
state_is (pos n) h = refl
state_is (negsuc n) h = no_both h refl

pub digit_laws : DigitLaws ℤ digits
digit_laws = record { o_is = refl; is_o_lem = is_zero_is; st_o = λ s. refl; of_st = λ s. refl; st_is = λ s. refl; st_of_lem = state_is }

pub flat_canonical : (zs ws : List ℤ) → is_flat zs ≡ true → is_flat ws ≡ true → length zs ≡ length ws → keeps (decode zs) ≡ true → keeps (decode ws) ≡ true
    → zs ≡ ws ↔ ((t p : ℤ) → cell_of (decode zs) t p ≡ cell_of (decode ws) t p)
flat_canonical = Fl.flat_canonical lt_z ok refl digits int_linear digit_laws
