-- The occupied-track jump and the cells of a track.
use Rattle.std.specs.Option.{option_or}
use Rattle.std.specs.Prelude.{None, Option, Some, ℤ}
use mathlib.Core.Path.{◌≡◌, refl, sym, ap, ◌∙◌, subst}
use mathlib.Core.Bool.{true}
use mathlib.Core.List.{List, [], ◌∷◌}
use mathlib.Core.Logic.{◌↔◌}
use Prim.Native.Nat.{ℕ, zero, suc, ◌≤◌, ◌<◌}
use native.Mathlib.Omega.{arith}
use native.Mathlib.Decide.{dec_lt}
use lib.IntN.{ℤ, pos, ◌+ℤ◌}
use lib.Signed.{lt_z, ◌≤ℤ◌, ◌<ℤ◌}
use Rattle.theory_signed.specs.Parts.{gap}
use Rattle.theory_signed.proofs.Laws.{signed, sum, g_lt_false}
use Rattle.theory_intervals.proofs.Line.{Test, yea, nay, test}
use Rattle.theory_intervals.proofs.Tracks.{same_yes}
use Rattle.theory_intervals.specs.Records.{Rec, rec, same}
use Rattle.theory_intervals.specs.OverInt.{cell_of, span}
use Rattle.theory_intervals.specs.Lists.{rules, on_track}
use Rattle.list_jumps.specs.Calls.{over, past_track, occupied_jump}
use Rattle.theory_intervals.proofs.Spans.{span_none, span_cons}
use Rattle.list_jumps.proofs.Cells.{Has, here, there, Cell, empty, filled, cell, sound, has_order, has_cell}
use Rattle.list_jumps.specs.Meaning.{IsClear, LastTrack}

-- a track has a record, or none
data On (rs : List (Rec ℤ)) (t : ℤ) : Type 0 where
  clear : on_track t rs ≡ [] → past_track (on_track t rs) t ≡ None → On rs t
  some : (c d : ℤ) → Has t c d rs → past_track (on_track t rs) t ≡ Some (t +ℤ pos 1) → On rs t

on : (rs : List (Rec ℤ)) (t : ℤ) → On rs t
on [] t = clear refl refl
on (rec u c d s ∷ rs) t = go (test (same lt_z t u)) (on rs t)
  where
    go : Test (same lt_z t u) → On rs t → On (rec u c d s ∷ rs) t
    go (yea e) r = some c d (subst (λ (x : ℤ). Has x c d (rec u c d s ∷ rs)) (sym (same_yes t u e)) here) (rw e)
    go (nay e) (clear x y) = clear (rw e x) (rw e y)
    go (nay e) (some x y m z) = some x y (there m) (rw e z)

has_not_clear : {t c d : ℤ} {rs : List (Rec ℤ)} → Has t c d rs → on_track t rs ≡ [] → ⊥
has_not_clear {t = t} (here {s = s} {rs = rs}) h =
    let q : same lt_z t t ≡ true = rw (g_lt_false t t (omega signed)) in
    let k = rw q at h in
    let z : ◌≡◌ {A = ℕ} 0 1 = cc in omega arith
has_not_clear {t = t} (there {r = rec u x y s} {rs = rs} m) h = go (test (same lt_z t u)) (λ k. has_not_clear m k)
  where
    go : Test (same lt_z t u) → (on_track t rs ≡ [] → ⊥) → ⊥
    go (yea q) r = let k = rw q at h in let z : ◌≡◌ {A = ℕ} 0 1 = cc in omega arith
    go (nay q) r = r (rw q at h)

clear_cells : (rs : List (Rec ℤ)) (t p : ℤ) → on_track t rs ≡ [] → cell_of rs t p ≡ 0
clear_cells rs t p h = go (cell rs t p)
  where
    go : Cell rs t p → cell_of rs t p ≡ 0
    go (empty z) = z
    go (filled c d m x y) = absurd (has_not_clear m h)

module _ (rs : List (Rec ℤ)) (h : rules rs ≡ true) where
  abbrev past : ℤ → Option ℤ → Option ℤ
  past t j = option_or j (past_track (on_track t rs) t)

  data Result (a b : ℤ) (j : Option ℤ) : Type 0 where
    none : j ≡ None → IsClear rs a b → Result a b j
    found : (e : ℤ) → j ≡ Some e → LastTrack rs a b e → Result a b j

  result : (n : ℕ) (a b : ℤ) → gap a b ≤ n → Result a b (over past (span a b))
  result zero a b g = none (ap (over past) (span_none a b (omega signed))) (λ t p x y. absurd (omega signed))
  result (suc n) a b g = go (dec_lt 0 (gap a b)) (λ k. result n (a +ℤ pos 1) b k)
    where
      go : Dec (0 < gap a b) → (gap (a +ℤ pos 1) b ≤ n → Result (a +ℤ pos 1) b (over past (span (a +ℤ pos 1) b))) → Result a b (over past (span a b))
      go (no w) r = none (ap (over past) (span_none a b (omega signed))) (λ t p x y. absurd (omega signed))
      go (yes x) r = by (r (omega (signed, sum a (pos 1)))) (on rs a)
        where
          q : over past (span a b) ≡ past a (over past (span (a +ℤ pos 1) b))
          q = ap (over past) (span_cons a (a +ℤ pos 1) b refl (omega signed))

          by : Result (a +ℤ pos 1) b (over past (span (a +ℤ pos 1) b)) → On rs a → Result a b (over past (span a b))
          by (found e f m) o =
              found e (q ∙ ap (past a) f) (record { track = m.track; is = m.is; low = let y = m.low in omega signed; high = m.high; line = m.line; state = m.state; rest = m.rest })
          by (none f z) (some c d m k) =
              let o = (has_order (sound rs h) m).0 in
              found (a +ℤ pos 1) (q ∙ ap (past a) f ∙ k) (record {
                track = a;
                is = refl;
                low = omega signed;
                high = omega signed;
                line = c;
                state = has_cell c (sound rs h) m (omega signed) o;
                rest = z;
              })
          by (none f z) (clear e k) = none (q ∙ ap (past a) f ∙ k) (λ t p x y. at t p x y (dec_lt 0 (gap a t)))
            where
              at : (t p : ℤ) → a ≤ℤ t → t <ℤ b → Dec (0 < gap a t) → cell_of rs t p ≡ 0
              at t p x y (yes w) = z t p (omega signed) y
              at t p x y (no w) = let i : t ≡ a = omega signed in rw i (clear_cells rs a p e)

  pub clear_jump : (t₁ t₂ : ℤ) → occupied_jump rs t₁ t₂ ≡ None ↔ IsClear rs t₁ t₂
  clear_jump t₁ t₂ = go (result (gap t₁ t₂) t₁ t₂ (omega arith))
    where
      go : Result t₁ t₂ (occupied_jump rs t₁ t₂) → occupied_jump rs t₁ t₂ ≡ None ↔ IsClear rs t₁ t₂
      go (none e z) = ((λ x. z), (λ x. e))
      go (found e f m) = ((λ x. let z : ◌≡◌ {A = ℕ} 0 1 = cc in absurd (omega arith)), (λ x. absurd (m.state (x m.track m.line m.low m.high))))

  pub last_jump : (t₁ t₂ e : ℤ) → occupied_jump rs t₁ t₂ ≡ Some e → LastTrack rs t₁ t₂ e
  last_jump t₁ t₂ e j = go (result (gap t₁ t₂) t₁ t₂ (omega arith))
    where
      go : Result t₁ t₂ (occupied_jump rs t₁ t₂) → LastTrack rs t₁ t₂ e
      go (none f z) = let z : ◌≡◌ {A = ℕ} 0 1 = cc in absurd (omega arith)
      go (found f k m) = let i : f ≡ e = cc in subst (λ (x : ℤ). LastTrack rs t₁ t₂ x) i m
