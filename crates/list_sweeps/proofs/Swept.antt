-- The end of a sweep: the gap is closed, and what is freed is wiped.
use mathlib.Core.Path.{◌≡◌, sym, ap, ◌∙◌, subst}
use mathlib.Core.Bool.{Bool, false}
use mathlib.Core.List.{List, ◌++◌, append_assoc}
use Prim.Native.Nat.{ℕ, ◌+◌, ◌-◌, ◌*◌, ◌≤◌}
use native.Mathlib.Omega.{arith}
use lib.IntN.{ℤ, pos}
use lib.Signed.{lt_z}
use lib.ListN.{length, drop, replicate, length-append}
use lib.Seq.{paste, drop-drop, drop_at}
use mir.Syntax.{w16}
use mir.Val.{of_z}
use Rattle.theory_signed.proofs.Laws.{signed}
use Rattle.theory_intervals.specs.OverInt.{span}
use Rattle.theory_intervals.specs.Cut.{sw}
use Rattle.list_moves.specs.Fours.{Four, padded, fours, Laid}
use Rattle.list_moves.proofs.Parts.{drop_replicate}
use Rattle.list_moves.proofs.Fours.{enc_fours, length_fours, wiped, fours_enc, laid_padded, length_padded}
use Rattle.list_pieces.specs.Reach.{runs, Stored}
use Rattle.list_pieces.specs.Passes.{Above, Gapped, Swept, Tail}
use Rattle.list_sweeps.proofs.Count.{halves}
use Rattle.list_sweeps.proofs.Sweeping.{Lifted, SInv, drop_later, down_long, down_all, down_past}

-- two lists, cut at one place
pub rests : (xs ys : List Four) {us vs : List Four} (n : ℕ) → length xs ≡ n → length ys ≡ n → xs ++ us ≡ ys ++ vs → us ≡ vs
rests xs ys {us} {vs} n h k e = sym (drop_at xs us n h) ∙ ap (drop n) e ∙ drop_at ys vs n k

-- the gap is closed, and what is freed is wiped
module _ {all : Bool} {l : List ℤ} {used behind top : ℕ} {t₁ t₂ a b s : ℤ} {x₀ : List ℤ} (L : Lifted l used behind top t₂ x₀)
    {list : List ℤ} {r w : ℕ} {t : ℤ} (v : SInv all x₀ (used - behind) (top - behind) top t₁ t₂ a b s list r w t) (z : lt_z t₁ t ≡ false)
    (x : List ℤ) (e : x ≡ paste list (4 * w - 4 * (w - r)) (drop (4 * w) list) (4 * top - 4 * w))
    (y : List ℤ) (p : y ≡ paste x (4 * (r + (top - w))) (replicate (4 * top - 4 * (r + (top - w))) (pos 0)) (4 * top - 4 * (r + (top - w)))) where
  abbrev n : ℕ
  n = r + (top - w)

  g : Gapped list r w top
  g = v.gapped

  fine : 4 * n ≤ length x
  fine = omega (arith, down_long v x e, g.low, g.high, g.room)

  hind : w + behind ≤ top
  hind = omega (arith, v.down, L.rest.few, L.ready.low)

  zeros : drop (4 * top) x ≡ replicate (length x - 4 * top) (pos 0)
  zeros =
      let R = L.ready in
      let q : 4 * top ≡ 4 * used + (4 * top - 4 * used) = omega (arith, R.low) in
      let u : length l - 4 * used - (4 * top - 4 * used) ≡ length x - 4 * top = omega (arith, down_long v x e, v.long, L.long, R.low) in
      down_past v x e ∙ drop_later x₀ list (top - behind) top (omega arith) v.tail ∙ L.tail
      ∙ ap (λ (m : ℕ). drop m l) q ∙ sym (drop-drop (4 * top - 4 * used) (4 * used) l) ∙ ap (drop (4 * top - 4 * used)) R.laid.zeros
      ∙ drop_replicate (4 * top - 4 * used) (length l - 4 * used) (pos 0) ∙ ap (λ (m : ℕ). replicate m (pos 0)) u

  ln : length (fours n x) ≡ n
  ln = length_fours n x

  b4 : 4 * length (fours n x) ≤ length x
  b4 = omega (arith, fine, ln)

  y_is : y ≡ padded (fours n x) (length x)
  y_is = (wiped x (fours n x) (4 * n) (4 * top) y (omega (arith, g.low, g.high)) (omega (arith, down_long v x e, g.room)) (enc_fours n x fine) zeros p).1

  y_all : fours n y ≡ fours r list ++ fours (top - w) (drop (4 * w) list)
  y_all = (λ j. fours (sym ln j) (y_is j)) ∙ fours_enc (fours n x) (replicate (length x - 4 * length (fours n x)) (pos 0)) ∙ down_all v x e

  pub s_done : Swept all a b s t₁ t₂ l used y n
  s_done =
      let et : t ≡ t₁ = omega signed in
      record {
        laid = subst (λ (m : ℕ). Laid y m) ln (subst (λ (m : List ℤ). Laid m (length (fours n x))) (sym y_is) (laid_padded (fours n x) (length x) b4));
        long = ap length y_is ∙ length_padded (fours n x) (length x) b4 ∙ down_long v x e ∙ v.long ∙ L.long;
        is = ap runs y_all ∙ v.is ∙ (λ i. sw all a b (of_z w16 s) (span (et i) t₂) (runs (L.all i)));
        stored = subst Stored (sym y_all) g.stored;
      }

  -- the records behind the area are still the last ones
  pub s_tail : Tail y n behind t₂
  s_tail =
      let m = top - w - behind in
      let e1 : n - (n - behind) ≡ behind = omega (arith, hind) in
      let e2 : top - w - m ≡ behind = omega (arith, hind) in
      let e3 : 4 * w + 4 * m ≡ 4 * (top - behind) = omega (arith, hind) in
      let front = fours r list ++ fours m (drop (4 * w) list) in
      let own : fours n y ≡ fours (n - behind) y ++ fours behind (drop (4 * (n - behind)) y) =
      halves y n (n - behind) (omega arith) ∙ ap (λ (k : ℕ). fours (n - behind) y ++ fours k (drop (4 * (n - behind)) y)) e1 in
      let cut : fours (top - w) (drop (4 * w) list) ≡ fours m (drop (4 * w) list) ++ fours behind (drop (4 * (top - behind)) list) =
      halves (drop (4 * w) list) (top - w) m (omega arith)
      ∙ (λ k. fours m (drop (4 * w) list) ++ fours (e2 k) ((drop-drop (4 * m) (4 * w) list ∙ ap (λ (j : ℕ). drop j list) e3) k)) in
      let all : fours n y ≡ front ++ fours behind (drop (4 * (top - behind)) list) =
      y_all ∙ ap (λ (q : List Four). fours r list ++ q) cut ∙ sym (append_assoc (fours r list) (fours m (drop (4 * w) list)) (fours behind (drop (4 * (top - behind)) list))) in
      let lf : length front ≡ r + m = length-append (fours r list) (fours m (drop (4 * w) list)) ∙ (λ k. length_fours r list k + length_fours m (drop (4 * w) list) k) in
      let same : fours behind (drop (4 * (n - behind)) y) ≡ fours behind (drop (4 * (top - behind)) list) =
      rests (fours (n - behind) y) front (n - behind) (length_fours (n - behind) y) (omega (arith, lf, hind)) (sym own ∙ all) in
      record { few = omega (arith, hind); above = subst (Above t₂) (sym (same ∙ ap (fours behind) v.tail)) L.last }
