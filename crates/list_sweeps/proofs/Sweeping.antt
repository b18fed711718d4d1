-- A sweep: its start, its invariant and its end.
use mathlib.Core.Path.{◌≡◌, refl, sym, ap, ◌∙◌, subst}
use mathlib.Core.Bool.{Bool, true, false}
use mathlib.Core.List.{List, [], ◌++◌, append-nil}
use Prim.Native.Nat.{ℕ, ◌+◌, ◌-◌, ◌*◌, ◌≤◌}
use native.Mathlib.Omega.{arith}
use lib.IntN.{ℤ, pos, ◌-ℤ◌}
use lib.Signed.{lt_z}
use lib.ListN.{length, drop, length-drop}
use lib.Seq.{paste, drop-drop}
use mir.Syntax.{w16}
use mir.Val.{of_z}
use Rattle.theory_signed.proofs.Laws.{signed}
use Rattle.theory_intervals.specs.Paint.{pt}
use Rattle.theory_intervals.specs.OverInt.{span}
use Rattle.theory_intervals.proofs.Split.{Late}
use Rattle.theory_intervals.specs.Cut.{lx, sw}
use Rattle.theory_intervals.proofs.Tracks.{K}
use Rattle.theory_intervals.proofs.Spans.{span_none, span_cons}
use Rattle.list_moves.specs.Fours.{Four, fours}
use Rattle.list_pieces.specs.Reach.{runs, Stored}
use Rattle.list_pieces.specs.Passes.{Above, Gapped, Stepped, stepped, held, Ready, Roomy, Tail}
use Rattle.list_pieces.proofs.Above.{above_late}
use Rattle.list_sweeps.proofs.Count.{halves, suc_of}
use Rattle.list_sweeps.proofs.Moves.{m_long, m_pre, m_past, m_post}

-- lists that agree from a record on agree from a later one on
pub drop_later : (l x : List ℤ) (w z : ℕ) → w ≤ z → drop (4 * w) x ≡ drop (4 * w) l → drop (4 * z) x ≡ drop (4 * z) l
drop_later l x w z h e =
    let k : 4 * w + (4 * z - 4 * w) ≡ 4 * z = omega arith in
    ap (λ (m : ℕ). drop m x) (sym k) ∙ sym (drop-drop (4 * z - 4 * w) (4 * w) x) ∙ ap (drop (4 * z - 4 * w)) e ∙ drop-drop (4 * z - 4 * w) (4 * w) l ∙ ap (λ (m : ℕ). drop m l) k

-- a list whose last records, those behind the area, were moved up to the end of the room
pub record Lifted (l : List ℤ) (used behind top : ℕ) (t₂ : ℤ) (x : List ℤ) : Type 0 where
  pub ready : Ready l used top
  pub rest : Tail l used behind t₂
  pub long : length x ≡ length l
  pub all : fours (used - behind) x ++ fours (top - (top - behind)) (drop (4 * (top - behind)) x) ≡ fours used l
  pub tail : drop (4 * top) x ≡ drop (4 * top) l
  pub last : Above t₂ (fours behind (drop (4 * (top - behind)) x))

module _ {l : List ℤ} {used behind top : ℕ} {t₂ : ℤ} (R : Ready l used top) (q : Tail l used behind t₂)
    (x : List ℤ) (e : x ≡ paste l (4 * (used - behind) + 4 * (top - used)) (drop (4 * (used - behind)) l) (4 * used - 4 * (used - behind))) where
  abbrev from : ℕ
  from = used - behind

  abbrev to : ℕ
  to = top - behind

  at_is : 4 * from + 4 * (top - used) ≡ 4 * to
  at_is = omega (arith, q.few, R.low)

  n_is : 4 * used - 4 * from ≡ 4 * behind
  n_is = omega (arith, q.few)

  in_list : 4 * (to + behind) ≤ length l
  in_list = omega (arith, q.few, R.low, R.room)

  in_part : 4 * behind ≤ length (drop (4 * from) l)
  in_part = simp length-drop (omega (arith, q.few, R.low, R.room))

  start_pre : fours from x ≡ fours from l
  start_pre = m_pre l (drop (4 * from) l) x to behind (4 * from + 4 * (top - used)) (4 * used - 4 * from) at_is n_is in_list in_part e from (omega (arith, R.low))

  start_post : fours behind (drop (4 * to) x) ≡ fours behind (drop (4 * from) l)
  start_post =
      let h : behind ≡ behind + 0 = omega arith in
      (λ i. fours (h i) (drop (4 * to) x)) ∙ m_post l (drop (4 * from) l) x to behind (4 * from + 4 * (top - used)) (4 * used - 4 * from) at_is n_is in_list in_part e 0
      ∙ append-nil (fours behind (drop (4 * from) l))

  to_end : top - to ≡ behind
  to_end = omega (arith, q.few, R.low)

  start_all : fours from x ++ fours (top - to) (drop (4 * to) x) ≡ fours used l
  start_all =
      let h : used - from ≡ behind = omega (arith, q.few) in
      (λ i. start_pre i ++ ((λ j. fours (to_end j) (drop (4 * to) x)) ∙ start_post) i) ∙ sym (halves l used from (omega arith) ∙ ap (λ (m : ℕ). fours from l ++ fours m (drop (4 * from) l)) h)

  pub lifted : Lifted l used behind top t₂ x
  lifted = record {
    ready = R;
    rest = q;
    long = m_long l (drop (4 * from) l) x to behind (4 * from + 4 * (top - used)) (4 * used - 4 * from) at_is n_is in_list in_part e;
    all = start_all;
    tail = m_past l (drop (4 * from) l) x to behind (4 * from + 4 * (top - used)) (4 * used - 4 * from) at_is n_is in_list in_part e top (omega (arith, q.few, R.low));
    last = subst (Above t₂) (sym start_post) q.above;
  }

-- the tracks from t on are swept; x₀ is the list at the start, with its gap from r₀ to w₀
pub record SInv (all : Bool) (x₀ : List ℤ) (r₀ w₀ top : ℕ) (t₁ t₂ a b s : ℤ) (list : List ℤ) (r w : ℕ) (t : ℤ) : Type 0 where
  pub roomy : Roomy all a b s t₁ t₂ top (held x₀ r₀ w₀ top)
  pub gapped : Gapped list r w top
  pub long : length list ≡ length x₀
  pub tail : drop (4 * w₀) list ≡ drop (4 * w₀) x₀
  pub down : w ≤ w₀
  pub is : held list r w top ≡ sw all a b (of_z w16 s) (span t t₂) (held x₀ r₀ w₀ top)
  pub above : Above t (fours (top - w) (drop (4 * w) list))
  pub low : lt_z t t₁ ≡ false
  pub high : lt_z t₂ t ≡ false

pub s_start : (all : Bool) {l : List ℤ} {used behind top : ℕ} (t₁ : ℤ) {t₂ : ℤ} (a b s : ℤ) {x : List ℤ} → Lifted l used behind top t₂ x → Roomy all a b s t₁ t₂ top (runs (fours used l)) → lt_z t₁ t₂ ≡ true
    → SInv all x (used - behind) (top - behind) top t₁ t₂ a b s x (used - behind) (top - behind) t₂
s_start all {l} {used} {behind} {top} t₁ {t₂} a b s {x} L o z =
    let n : span t₂ t₂ ≡ [] = span_none t₂ t₂ (omega signed) in
    let k : top - (top - behind) ≡ behind = omega (arith, L.rest.few, L.ready.low) in
    record {
      roomy = subst (λ (y : List Four). Roomy all a b s t₁ t₂ top (runs y)) (sym L.all) o;
      gapped = record {
        low = omega (arith, L.rest.few, L.ready.low);
        high = omega arith;
        room = omega (arith, L.long, L.ready.room);
        keep = subst (λ (y : List Four). K (runs y)) (sym L.all) L.ready.keep;
        stored = subst Stored (sym L.all) L.ready.stored;
      };
      long = refl;
      tail = refl;
      down = omega arith;
      is = sym (ap (λ (ts : List ℤ). sw all a b (of_z w16 s) ts (held x (used - behind) (top - behind) top)) n);
      above = subst (λ (m : ℕ). Above t₂ (fours m (drop (4 * (top - behind)) x))) (sym k) L.last;
      low = omega signed;
      high = omega signed;
    }

module _ {all : Bool} {x₀ : List ℤ} {r₀ w₀ top : ℕ} {t₁ t₂ a b s : ℤ} {list : List ℤ} {r w : ℕ} {t : ℤ} (v : SInv all x₀ r₀ w₀ top t₁ t₂ a b s list r w t) where
  module _ (T : ℤ) (e : T ≡ t -ℤ pos 1) (z : lt_z t₁ t ≡ true) where
    next_is : stepped all a b (of_z w16 s) T (held list r w top) ≡ sw all a b (of_z w16 s) (span T t₂) (held x₀ r₀ w₀ top)
    next_is = ap (stepped all a b (of_z w16 s) T) v.is ∙ sym (ap (λ (ts : List ℤ). sw all a b (of_z w16 s) ts (held x₀ r₀ w₀ top)) (span_cons T t t₂ (suc_of t T e) (omega signed)))

    pub s_late : Late lx (pt T b) (of_z w16 s) (runs (fours (top - w) (drop (4 * w) list)))
    s_late = above_late T b (of_z w16 s) (omega signed) v.above

    pub s_room : length (stepped all a b (of_z w16 s) T (held list r w top)) ≤ top
    s_room = omega (arith, ap length next_is, v.roomy.at T (omega signed))

    pub s_next : (x : List ℤ) (r' w' : ℕ) → Stepped all a b s T list r w top x r' w' → SInv all x₀ r₀ w₀ top t₁ t₂ a b s x r' w' T
    s_next x r' w' q = record {
      roomy = v.roomy;
      gapped = q.gapped;
      long = q.long ∙ v.long;
      tail = drop_later list x w w₀ v.down q.tail ∙ v.tail;
      down = omega (arith, q.down, v.down);
      is = q.is ∙ next_is;
      above = q.above;
      low = omega signed;
      high = omega signed;
    }

  -- the gap is closed
  module _ (x : List ℤ) (e : x ≡ paste list (4 * w - 4 * (w - r)) (drop (4 * w) list) (4 * top - 4 * w)) where
    abbrev n : ℕ
    n = r + (top - w)

    g : Gapped list r w top
    g = v.gapped

    ha : 4 * w - 4 * (w - r) ≡ 4 * r
    ha = omega (arith, g.low)

    hb : 4 * top - 4 * w ≡ 4 * (top - w)
    hb = omega arith

    hc : 4 * (r + (top - w)) ≤ length list
    hc = omega (arith, g.low, g.high, g.room)

    hd : 4 * (top - w) ≤ length (drop (4 * w) list)
    hd = simp length-drop (omega (arith, g.high, g.room))

    pub down_long : length x ≡ length list
    down_long = m_long list (drop (4 * w) list) x r (top - w) (4 * w - 4 * (w - r)) (4 * top - 4 * w) ha hb hc hd e

    pub down_all : fours n x ≡ fours r list ++ fours (top - w) (drop (4 * w) list)
    down_all =
        let q : n - r ≡ (top - w) + 0 = omega arith in
        halves x n r (omega arith)
        ∙ (λ k. m_pre list (drop (4 * w) list) x r (top - w) (4 * w - 4 * (w - r)) (4 * top - 4 * w) ha hb hc hd e r (omega arith) k ++ fours (q k) (drop (4 * r) x))
        ∙ ap (λ (y : List Four). fours r list ++ y) (m_post list (drop (4 * w) list) x r (top - w) (4 * w - 4 * (w - r)) (4 * top - 4 * w) ha hb hc hd e 0 ∙ append-nil (fours (top - w) (drop (4 * w) list)))

    pub down_past : drop (4 * top) x ≡ drop (4 * top) list
    down_past = m_past list (drop (4 * w) list) x r (top - w) (4 * w - 4 * (w - r)) (4 * top - 4 * w) ha hb hc hd e top (omega (arith, g.low, g.high))
