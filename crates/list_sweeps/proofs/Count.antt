-- The invariant of `count`.
use mathlib.Core.Path.{◌≡◌, refl, sym, ap, ◌∙◌, subst}
use mathlib.Core.Bool.{true, false}
use mathlib.Core.List.{List, [], ◌∷◌, ◌++◌}
use Prim.Native.Nat.{ℕ, ◌+◌, ◌-◌, ◌*◌, ◌≤◌}
use native.Mathlib.Omega.{arith}
use lib.IntN.{ℤ, pos, ◌-ℤ◌, ◌+ℤ◌}
use lib.Signed.{lt_z}
use lib.ListN.{length, drop, length-map}
use lib.Seq.{drop-drop}
use mir.Syntax.{w16}
use mir.Val.{of_z, SFits}
use Rattle.theory_signed.proofs.Laws.{signed, rng}
use Rattle.theory_signed.specs.Parts.{gap}
use Rattle.theory_intervals.specs.Paint.{pt}
use Rattle.theory_intervals.specs.OverInt.{span}
use Rattle.theory_intervals.specs.Cut.{new, lx, Rn, H, N, PT}
use Rattle.theory_intervals.proofs.Split.{Late}
use Rattle.theory_intervals.proofs.Tracks.{K, sum_h, sum_n}
use Rattle.theory_intervals.proofs.Tracks as Tr
use Rattle.theory_intervals.proofs.Spans.{dis_span, span_none, span_cons}
use Rattle.list_moves.specs.Fours.{Four, fours}
use Rattle.list_moves.proofs.Fours.{length_fours}
use Rattle.list_pieces.specs.Reach.{runs, run_of, Apart, Reaches}
use Rattle.list_pieces.proofs.Found.{Found, found, fours_add}
use Rattle.list_areas.proofs.Good.{Good}
use Rattle.list_pieces.specs.Passes.{Above, Tail}
use Rattle.list_pieces.proofs.Above.{above_append, above_late, late_above, on_above}

pub suc_of : (t u : ℤ) → u ≡ t -ℤ pos 1 → u +ℤ pos 1 ≡ t
suc_of t u e =
    let h : t ≡ u +ℤ pos 1 = omega signed in
    sym h

pub length_runs : (rs : List Four) → length (runs rs) ≡ length rs
length_runs rs = length-map rs run_of

-- the records of a list, those before r and those from r on
pub halves : (l : List ℤ) (n r : ℕ) → r ≤ n → fours n l ≡ fours r l ++ fours (n - r) (drop (4 * r) l)
halves l n r h = let e : n ≡ r + (n - r) = omega arith in (λ i. fours (e i) l) ∙ fours_add r (n - r) l

pub record CInv (l : List ℤ) (used : ℕ) (t₁ t₂ a b s t : ℤ) (r more less : ℕ) : Type 0 where
  pub fits : 4 * used ≤ length l
  pub keep : K (runs (fours used l))
  pub good : Good a b s
  pub left : r ≤ used
  pub above : Above t (fours (used - r) (drop (4 * r) l))
  pub low : lt_z t t₁ ≡ false
  pub high : lt_z t₂ t ≡ false
  pub news : more ≡ sum_n a b (of_z w16 s) (span t t₂) (runs (fours used l))
  pub olds : less ≡ sum_h a b (of_z w16 s) (span t t₂) (runs (fours used l))
  pub old : less + r ≤ used
  pub few : more + 3 * gap t₁ t ≤ 200000

pub c_start : (l : List ℤ) (used behind : ℕ) (t₁ t₂ a b s : ℤ) → SFits w16 t₁ → SFits w16 t₂ → 4 * used ≤ length l → K (runs (fours used l)) → Good a b s → lt_z t₁ t₂ ≡ true
    → Tail l used behind t₂ → CInv l used t₁ t₂ a b s t₂ (used - behind) 0 0
c_start l used behind t₁ t₂ a b s F G h k g z q =
    let e : used - (used - behind) ≡ behind = omega (arith, q.few) in
    let n : span t₂ t₂ ≡ [] = span_none t₂ t₂ (omega signed) in
    record {
      fits = h;
      keep = k;
      good = g;
      left = omega arith;
      above = subst (λ (m : ℕ). Above t₂ (fours m (drop (4 * (used - behind)) l))) (sym e) q.above;
      low = omega signed;
      high = omega signed;
      news = sym (ap (λ (ts : List ℤ). sum_n a b (of_z w16 s) ts (runs (fours used l))) n);
      olds = sym (ap (λ (ts : List ℤ). sum_h a b (of_z w16 s) ts (runs (fours used l))) n);
      old = omega arith;
      few = omega (signed, rng F, rng G);
    }

module _ {l : List ℤ} {used : ℕ} {t₁ t₂ a b s t : ℤ} {r more less : ℕ} (v : CInv l used t₁ t₂ a b s t r more less) (T : ℤ) (e : T ≡ t -ℤ pos 1) where
  abbrev W : List Four
  W = fours (used - r) (drop (4 * r) l)

  whole : fours used l ≡ fours r l ++ W
  whole = halves l used r v.left

  late : Late lx (pt T b) (of_z w16 s) (runs W)
  late = above_late T b (of_z w16 s) (omega signed) v.above

  keep : K (runs (fours r l ++ W))
  keep = subst (λ (x : List Four). K (runs x)) whole v.keep

  pub c_room : 4 * r ≤ length l
  c_room = omega (arith, v.fits, v.left)

  pub c_apart : Apart l r T a b (of_z w16 s)
  c_apart = (found l r T a b (of_z w16 s) W _ _ v.good.less v.good.state c_room keep late refl refl).on

  module _ {i j n : ℕ} {put : List ℤ} (p : Reaches l r T a b (of_z w16 s) i j n put) where
    c_found : Found l r T a b (of_z w16 s) W i j
    c_found = found l r T a b (of_z w16 s) W i j v.good.less v.good.state c_room keep late p.past p.first

    pub c_next : lt_z t₁ t ≡ true → CInv l used t₁ t₂ a b s T i (more + n) (less + (j - i))
    c_next z =
        let f = c_found in
        let mid = fours (j - i) (drop (4 * i) l) in
        let post = fours (r - j) (drop (4 * j) l) in
        let A = runs (fours used l) in
        let h : H a b (of_z w16 s) T A ≡ runs mid = ap (λ (x : List Four). H a b (of_z w16 s) T (runs x)) whole ∙ f.hits in
        let hl : length (H a b (of_z w16 s) T A) ≡ j - i = ap length h ∙ length_runs mid ∙ length_fours (j - i) (drop (4 * i) l) in
        let nl : length (N a b (of_z w16 s) T A) ≡ n = ap (λ (x : List Rn). length (new lx (pt T a) (pt T b) (of_z w16 s) x)) h ∙ sym (ap length p.become.is) ∙ length_runs (fours n put) ∙ length_fours n put in
        let sp : span T t₂ ≡ T ∷ span t t₂ = span_cons T t t₂ (suc_of t T e) (omega signed) in
        let w : fours (used - i) (drop (4 * i) l) ≡ mid ++ (post ++ W) = rest in
        record {
          fits = v.fits;
          keep = v.keep;
          good = v.good;
          left = omega (arith, f.low, f.high, v.left);
          above = subst (Above T) (sym w) (above_append (post ++ W) (on_above T mid f.mids) (late_above T b (of_z w16 s) (post ++ W) f.behind));
          low = omega signed;
          high = omega signed;
          news = sum_n_lem nl ∙ sym (ap (λ (ts : List ℤ). sum_n a b (of_z w16 s) ts A) sp);
          olds = sum_h_lem hl ∙ sym (ap (λ (ts : List ℤ). sum_h a b (of_z w16 s) ts A) sp);
          old = omega (arith, f.low, f.high, v.old);
          few = omega (signed, v.few, p.few);
        }
      where
        sum_n_lem : length (N a b (of_z w16 s) T (runs (fours used l))) ≡ n → more + n ≡ length (N a b (of_z w16 s) T (runs (fours used l))) + sum_n a b (of_z w16 s) (span t t₂) (runs (fours used l))
        sum_n_lem q = omega (arith, v.news)

        sum_h_lem : length (H a b (of_z w16 s) T (runs (fours used l))) ≡ j - i → less + (j - i) ≡ length (H a b (of_z w16 s) T (runs (fours used l))) + sum_h a b (of_z w16 s) (span t t₂) (runs (fours used l))
        sum_h_lem q = omega (arith, v.olds)

        rest : fours (used - i) (drop (4 * i) l) ≡ fours (j - i) (drop (4 * i) l) ++ (fours (r - j) (drop (4 * j) l) ++ W)
        rest =
            let f = c_found in
            let q1 : used - i ≡ (j - i) + ((r - j) + (used - r)) = omega (arith, f.low, f.high, v.left) in
            let q2 : 4 * i + 4 * (j - i) ≡ 4 * j = omega (arith, f.low) in
            let q3 : 4 * j + 4 * (r - j) ≡ 4 * r = omega (arith, f.high) in
            (λ k. fours (q1 k) (drop (4 * i) l)) ∙ fours_add (j - i) ((r - j) + (used - r)) (drop (4 * i) l)
            ∙ ap (λ (x : List ℤ). fours (j - i) (drop (4 * i) l) ++ fours ((r - j) + (used - r)) x) (drop-drop (4 * (j - i)) (4 * i) l ∙ ap (λ (m : ℕ). drop m l) q2)
            ∙ ap (λ (x : List Four). fours (j - i) (drop (4 * i) l) ++ x) (fours_add (r - j) (used - r) (drop (4 * j) l)
            ∙ ap (λ (x : List ℤ). fours (r - j) (drop (4 * j) l) ++ fours (used - r) x) (drop-drop (4 * (r - j)) (4 * j) l ∙ ap (λ (m : ℕ). drop m l) q3))

pub c_done : {l : List ℤ} {used : ℕ} {t₁ t₂ a b s t : ℤ} {r more less : ℕ} → CInv l used t₁ t₂ a b s t r more less → lt_z t₁ t ≡ false
    → used + more - less ≡ length (PT a b (of_z w16 s) (span t₁ t₂) (runs (fours used l)))
c_done {l} {used} {t₁} {t₂} {a} {b} {s} {t} {r} {more} {less} v z =
    let e : t ≡ t₁ = omega signed in
    let A = runs (fours used l) in
    let c = Tr.count a b (of_z w16 s) v.good.less v.good.state (span t₁ t₂) (dis_span t₁ t₂) v.keep in
    let n : more ≡ sum_n a b (of_z w16 s) (span t₁ t₂) A = v.news ∙ ap (λ (x : ℤ). sum_n a b (of_z w16 s) (span x t₂) A) e in
    let o : less ≡ sum_h a b (of_z w16 s) (span t₁ t₂) A = v.olds ∙ ap (λ (x : ℤ). sum_h a b (of_z w16 s) (span x t₂) A) e in
    let q : length A ≡ used = length_runs (fours used l) ∙ length_fours used l in
    omega (arith, v.old)
