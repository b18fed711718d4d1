-- The words at the integers, with today's states.
use Rattle.std.specs.Prelude.{Bool, false, ◌||◌, List, [], ◌∷◌, ℕ, zero, suc, eqb, ℤ, pos, negsuc, ◌+ℤ◌, nat_abs}
use Rattle.std.specs.Int.Signed.{lt_z, non_neg}
use Rattle.theory_signed.specs.Parts.{gap}
use Rattle.theory_intervals.specs.Records as Re
use Rattle.theory_intervals.specs.Records.{Rec, Area}
use Rattle.theory_intervals.specs.Paint as Pa
use Rattle.theory_intervals.specs.Flat as Fl
use Rattle.theory_intervals.specs.Flat.{Digits}

-- "state (1 fixed, 2 auto)"
abbrev pub ok : ℕ → Bool
ok s = eqb s 1 || eqb s 2

-- n numbers from u on
abbrev pub upto : ℕ → ℤ → List ℤ
upto zero u = []
upto (suc n) u = u ∷ upto n (u +ℤ pos 1)

-- the numbers from a on below b
unfoldable pub span : ℤ → ℤ → List ℤ
span a b = upto (gap a b) a

-- ---- cells and rules

abbrev pub cell_of : List (Rec ℤ) → ℤ → ℤ → ℕ
cell_of = Re.cell_of lt_z

abbrev pub state_at : List (Area ℤ) → ℤ → ℤ → ℕ
state_at = Re.state_at lt_z

abbrev pub keeps : List (Rec ℤ) → Bool
keeps = Re.keeps lt_z ok

abbrev pub fit : Area ℤ → Bool
fit = Re.fit lt_z ok

abbrev pub fits : List (Area ℤ) → Bool
fits = Re.fits lt_z ok

-- ---- painting

abbrev pub paint_list : Area ℤ → List (Rec ℤ) → List (Rec ℤ)
paint_list = Pa.paint_list lt_z span

abbrev pub painted : List (Area ℤ) → List (Rec ℤ)
painted = Pa.painted lt_z span

-- ---- flat lists

abbrev pub is_zero : ℤ → Bool
is_zero (pos n) = eqb n 0
is_zero (negsuc n) = false

abbrev pub digits : Digits ℤ
digits = record { o = pos 0; is_o = is_zero; st = pos; st_of = nat_abs; is_st = non_neg }

abbrev pub encode : List (Rec ℤ) → List ℤ
encode = Fl.encode digits

abbrev pub decode : List ℤ → List (Rec ℤ)
decode = Fl.decode digits

abbrev pub flat : ℕ → List (Rec ℤ) → List ℤ
flat = Fl.flat digits

abbrev pub is_flat : List ℤ → Bool
is_flat = Fl.is_flat digits
