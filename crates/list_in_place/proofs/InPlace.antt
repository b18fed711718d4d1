-- One track painted with no gap, and all tracks of an area so.
use mathlib.Core.Path.{◌≡◌, refl, sym, ap, ◌∙◌, subst}
use mathlib.Core.Bool.{true, false}
use mathlib.Core.List.{List, [], ◌∷◌, ◌++◌, append-nil}
use Prim.Native.Nat.{ℕ, ◌+◌, ◌-◌, ◌*◌, ◌≤◌}
use native.Mathlib.Omega.{arith}
use lib.IntN.{ℤ, pos, ◌-ℤ◌}
use lib.Signed.{lt_z}
use lib.ListN.{length, drop, replicate, length-drop}
use lib.Seq.{paste, drop-drop}
use mir.Syntax.{w16}
use mir.Val.{of_z, SFits}
use mir.Facts.{to_z-of_z}
use Rattle.theory_signed.specs.Parts.{gap}
use Rattle.theory_signed.proofs.Laws.{signed}
use Rattle.theory_intervals.specs.Paint.{pt}
use Rattle.theory_intervals.specs.OverInt.{span}
use Rattle.theory_intervals.specs.Cut.{lx, P, sw}
use Rattle.theory_intervals.proofs.Split.{Late}
use Rattle.theory_intervals.proofs.Spans.{span_none, span_cons}
use Rattle.theory_intervals.proofs.Tracks.{K}
use Rattle.theory_intervals.proofs.Tracks as Tr
use Rattle.list_moves.specs.Fours.{Four, padded, fours, Laid}
use Rattle.list_moves.proofs.Parts.{drop_replicate}
use Rattle.list_moves.proofs.Fours.{enc_fours, length_fours, laid_is, wiped, fours_enc, laid_padded, length_padded}
use Rattle.list_pieces.specs.Reach.{runs, Stored, Reaches, Pieced, OnTrack, Apart, four, before_late, after_early}
use Rattle.list_areas.proofs.Good.{Good}
use Rattle.list_pieces.specs.Passes.{Above, Gapped, held, InPlace, Ready, Swept, Tail}
use Rattle.list_pieces.proofs.Above.{above_append, above_late, late_above, all_on_above, stored_append, stored_l, stored_r}
use Rattle.list_pieces.proofs.Bits.{ζ}
use Rattle.list_sweeps.proofs.Count.{halves, suc_of, length_runs}
use Rattle.list_pieces.proofs.Found.{Found, fours_add}
use Rattle.list_sweeps.proofs.Moves.{m_long, m_pre, m_past, m_post, s_found, whole, painted}
use Rattle.list_in_place.proofs.Room.{few_new}
use Rattle.list_sweeps.proofs.Swept.{rests}

module _ {a b s t : ℤ} {l : List ℤ} {r used : ℕ} (g : Gapped l r r used) (laid : Laid l used) (good : Good a b s)
    (late : Late lx (pt t b) (of_z w16 s) (runs (fours (used - r) (drop (4 * r) l)))) {i j n : ℕ} {put : List ℤ} (q : Reaches l r t a b (of_z w16 s) i j n put) where
  abbrev σ : ℕ
  σ = of_z w16 s

  abbrev tail : List Four
  tail = fours (used - j) (drop (4 * j) l)

  f : Found l r t a b σ (fours (used - r) (drop (4 * r) l)) i j
  f = s_found true g good late q

  -- at most two records more
  pub p_few : n ≤ j - i + 2
  p_few =
      let mid = fours (j - i) (drop (4 * i) l) in
      omega (arith, few_new (pt t a) (pt t b) σ (runs mid), ap length q.become.is, length_runs (fours n put), length_fours n put, length_runs mid, length_fours (j - i) (drop (4 * i) l))

  -- the records that are behind, in one piece
  tail_is : tail ≡ fours (r - j) (drop (4 * j) l) ++ fours (used - r) (drop (4 * r) l)
  tail_is =
      let e : used - j ≡ (r - j) + (used - r) = omega (arith, f.high, g.high) in
      let h : 4 * j + 4 * (r - j) ≡ 4 * r = omega (arith, f.high) in
      (λ k. fours (e k) (drop (4 * j) l)) ∙ fours_add (r - j) (used - r) (drop (4 * j) l)
      ∙ ap (λ (z : List ℤ). fours (r - j) (drop (4 * j) l) ++ fours (used - r) z) (drop-drop (4 * (r - j)) (4 * j) l ∙ ap (λ (m : ℕ). drop m l) h)

  -- they were moved
  module _ (room : 4 * (i + n + (used - j)) ≤ length l) (x : List ℤ) (at : ℕ) (ea : at ≡ 4 * (i + n)) (e : x ≡ paste l at (drop (4 * j) l) (4 * used - 4 * j)) where
    abbrev N : ℕ
    N = i + n + (used - j)

    em : 4 * used - 4 * j ≡ 4 * (used - j)
    em = omega arith

    in_part : 4 * (used - j) ≤ length (drop (4 * j) l)
    in_part = simp length-drop (omega (arith, laid.fits))

    pub x_long : length x ≡ length l
    x_long = m_long l (drop (4 * j) l) x (i + n) (used - j) at (4 * used - 4 * j) ea em room in_part e

    in_x : 4 * (i + n) ≤ length x
    in_x = omega (arith, x_long, room)

    in_put : 4 * n ≤ length put
    in_put = omega (arith, q.long)

    -- and the records that the others become were stored
    module _ (y : List ℤ) (e' : y ≡ paste x (4 * i) put (length put)) where
      pub y_long : length y ≡ length l
      y_long = m_long x put y i n (4 * i) (length put) refl q.long in_x in_put e' ∙ x_long

      y_pre : fours i y ≡ fours i l
      y_pre =
          m_pre x put y i n (4 * i) (length put) refl q.long in_x in_put e' i (omega arith)
          ∙ m_pre l (drop (4 * j) l) x (i + n) (used - j) at (4 * used - 4 * j) ea em room in_part e i (omega arith)

      x_tail : fours (used - j) (drop (4 * (i + n)) x) ≡ tail
      x_tail =
          let h : used - j ≡ used - j + 0 = omega arith in
          (λ k. fours (h k) (drop (4 * (i + n)) x)) ∙ m_post l (drop (4 * j) l) x (i + n) (used - j) at (4 * used - 4 * j) ea em room in_part e 0
          ∙ append-nil tail

      y_post : fours (N - i) (drop (4 * i) y) ≡ fours n put ++ tail
      y_post =
          let h : N - i ≡ n + (used - j) = omega arith in
          (λ k. fours (h k) (drop (4 * i) y)) ∙ m_post x put y i n (4 * i) (length put) refl q.long in_x in_put e' (used - j)
          ∙ ap (λ (z : List Four). fours n put ++ z) x_tail

      pub y_past : (z : ℕ) → N ≤ z → drop (4 * z) y ≡ drop (4 * z) l
      y_past z h =
          m_past x put y i n (4 * i) (length put) refl q.long in_x in_put e' z (omega arith)
          ∙ m_past l (drop (4 * j) l) x (i + n) (used - j) at (4 * used - 4 * j) ea em room in_part e z (omega arith)

      zeros_l : (k : ℕ) → used ≤ k → drop (4 * k) l ≡ replicate (length l - 4 * k) (pos 0)
      zeros_l k h =
          let e1 : 4 * used + (4 * k - 4 * used) ≡ 4 * k = omega arith in
          let e2 : length l - 4 * used - (4 * k - 4 * used) ≡ length l - 4 * k = omega arith in
          ap (λ (c : ℕ). drop c l) (sym e1) ∙ sym (drop-drop (4 * k - 4 * used) (4 * used) l) ∙ ap (drop (4 * k - 4 * used)) laid.zeros
          ∙ drop_replicate (4 * k - 4 * used) (length l - 4 * used) (pos 0) ∙ ap (λ (c : ℕ). replicate c (pos 0)) e2

      -- where the records get no fewer, zeros follow them as they are
      pub grown_is : used ≤ N → y ≡ padded (fours N y) (length y)
      grown_is h = laid_is y N (record { fits = omega (arith, y_long, room); zeros = y_past N (omega arith) ∙ zeros_l N h ∙ ap (λ (c : ℕ). replicate (c - 4 * N) (pos 0)) (sym y_long) })

      -- where they get fewer, the places that are freed were wiped
      pub shrunk_is : N ≤ used → (z : List ℤ) → z ≡ paste y (4 * N) (replicate (4 * used - 4 * N) (pos 0)) (4 * used - 4 * N) → z ≡ padded (fours N y) (length y)
      shrunk_is h z p =
          (wiped y (fours N y) (4 * N) (4 * used) z (omega arith) (omega (arith, y_long, laid.fits)) (enc_fours N y (omega (arith, y_long, room)))
          (y_past used h ∙ zeros_l used (omega arith) ∙ ap (λ (c : ℕ). replicate (c - 4 * used) (pos 0)) (sym y_long)) p).1

      -- the list z has the records of y and zeros behind them
      module _ (z : List ℤ) (z-is : z ≡ padded (fours N y) (length y)) where
        fits_y : 4 * N ≤ length y
        fits_y = omega (arith, y_long, room)

        ln : length (fours N y) ≡ N
        ln = length_fours N y

        b4 : 4 * length (fours N y) ≤ length y
        b4 = omega (arith, fits_y, ln)

        z_laid : Laid z N
        z_laid = subst (λ (k : ℕ). Laid z k) ln (subst (λ (k : List ℤ). Laid k (length (fours N y))) (sym z-is) (laid_padded (fours N y) (length y) b4))

        z_long : length z ≡ length l
        z_long = ap length z-is ∙ length_padded (fours N y) (length y) b4 ∙ y_long

        z_same : fours N z ≡ fours N y
        z_same = (λ k. fours (sym ln k) (z-is k)) ∙ fours_enc (fours N y) (replicate (length y - 4 * length (fours N y)) (pos 0))

        y_all : fours N y ≡ fours i l ++ (fours n put ++ tail)
        y_all = halves y N i (omega arith) ∙ (λ k. y_pre k ++ y_post k)

        z_all : fours i z ++ fours (N - i) (drop (4 * i) z) ≡ fours i l ++ (fours n put ++ (fours (r - j) (drop (4 * j) l) ++ fours (used - r) (drop (4 * r) l)))
        z_all = sym (halves z N i (omega arith)) ∙ z_same ∙ y_all ∙ ap (λ (w : List Four). fours i l ++ (fours n put ++ w)) tail_is

        z_is_P : held z i i N ≡ P a b σ t (held l r r used)
        z_is_P = ap runs z_all ∙ sym (painted true g good late q)

        pub placed : InPlace a b s t l r used z i N
        placed =
            let post = fours (r - j) (drop (4 * j) l) in
            let W = fours (used - r) (drop (4 * r) l) in
            let mid = fours (j - i) (drop (4 * i) l) in
            let tagged : Stored (fours i l ++ (mid ++ (post ++ W))) = subst Stored (whole true g good late q) g.stored in
            let z_post : fours (N - i) (drop (4 * i) z) ≡ fours n put ++ (post ++ W) = rests (fours i z) (fours i l) i (length_fours i z) (length_fours i l) z_all in
            record {
              gapped = record {
                low = omega arith;
                high = omega arith;
                room = omega (arith, z_long, room);
                keep = subst K (sym z_is_P) (Tr.P-keep a b σ good.less good.state t g.keep);
                stored = subst Stored (sym z_all) (stored_append (fours n put ++ (post ++ W)) (stored_l (fours i l) (mid ++ (post ++ W)) tagged) (stored_append (post ++ W) q.become.stored (stored_r mid (post ++ W) (stored_r (fours i l) (mid ++ (post ++ W)) tagged))));
              };
              laid = z_laid;
              long = z_long;
              is = z_is_P;
              above = subst (Above t) (sym z_post) (above_append (post ++ W) (all_on_above q.become.placed) (late_above t b σ (post ++ W) f.behind));
              few = omega (arith, p_few, f.low, f.high, g.high);
            }

-- what the two searches find is on the track
pub apart_on : (l : List ℤ) (r : ℕ) (t a b : ℤ) (s : ℕ) {i j : ℕ} → j ≡ before_late l t b s r → i ≡ after_early l t a s j → Apart l r t a b s → OnTrack l i j t
apart_on l r t a b s p f q = rw (f, p) q

-- ---- the records that are reached become one

-- its numbers as they are stored
abbrev pub stored_one : ℤ → ℤ → ℤ → ℤ → List ℤ
stored_one t c d s = ζ t ∷ ζ c ∷ ζ d ∷ ζ s ∷ []

pub one_reaches : {l : List ℤ} {r : ℕ} {t a b s c d : ℤ} {i j : ℕ} → SFits w16 t → SFits w16 s → SFits w16 c → SFits w16 d → i ≤ j → j ≤ r → j ≡ before_late l t b (of_z w16 s) r → i ≡ after_early l t a (of_z w16 s) j
    → Pieced t a b (of_z w16 s) (fours (j - i) (drop (4 * i) l)) (four t c d s ∷ []) → Reaches l r t a b (of_z w16 s) i j 1 (stored_one t c d s)
one_reaches {l} {r} {t} {a} {b} {s} {c} {d} {i} {j} T S C D low high p is q =
    record {
      past = p;
      first = is;
      low = low;
      high = high;
      few = omega arith;
      long = refl;
      become = subst (Pieced t a b (of_z w16 s) (fours (j - i) (drop (4 * i) l))) (sym (λ k. four (to_z-of_z T k) (to_z-of_z C k) (to_z-of_z D k) (to_z-of_z S k) ∷ [])) q;
    }

-- ---- all tracks of an area

-- the tracks from t on are painted: n records, r of them before track t
pub record TInv (l : List ℤ) (used : ℕ) (t₁ t₂ a b s : ℤ) (list : List ℤ) (r n : ℕ) (t : ℤ) : Type 0 where
  pub good : Good a b s
  pub gapped : Gapped list r r n
  pub laid : Laid list n
  pub long : length list ≡ length l
  pub is : held list r r n ≡ sw true a b (of_z w16 s) (span t t₂) (runs (fours used l))
  pub above : Above t (fours (n - r) (drop (4 * r) list))
  pub room : 4 * (n + 2 * gap t₁ t) ≤ length list
  pub low : lt_z t t₁ ≡ false
  pub high : lt_z t₂ t ≡ false

pub t_start : {l : List ℤ} {used behind : ℕ} (t₁ : ℤ) {t₂ : ℤ} (a b s : ℤ) → Ready l used (used + 2 * gap t₁ t₂) → Good a b s → lt_z t₁ t₂ ≡ true → Tail l used behind t₂
    → TInv l used t₁ t₂ a b s l (used - behind) used t₂
t_start {l} {used} {behind} t₁ {t₂} a b s R good z q =
    let r : ℕ = used - behind in
    let whole : fours used l ≡ fours r l ++ fours (used - r) (drop (4 * r) l) = halves l used r (omega arith) in
    let e : used - r ≡ behind = omega (arith, q.few) in
    record {
      good = good;
      gapped = record { low = omega arith; high = omega arith; room = R.laid.fits; keep = subst (λ (x : List Four). K (runs x)) whole R.keep; stored = subst Stored whole R.stored };
      laid = R.laid;
      long = refl;
      is = ap runs (sym whole) ∙ sym (ap (λ (ts : List ℤ). sw true a b (of_z w16 s) ts (runs (fours used l))) (span_none t₂ t₂ (omega signed)));
      above = subst (λ (m : ℕ). Above t₂ (fours m (drop (4 * r) l))) (sym e) q.above;
      room = R.room;
      low = omega signed;
      high = omega signed;
    }

module _ {l : List ℤ} {used : ℕ} {t₁ t₂ a b s : ℤ} {list : List ℤ} {r n : ℕ} {t : ℤ} (v : TInv l used t₁ t₂ a b s list r n t) where
  module _ (T : ℤ) (e : T ≡ t -ℤ pos 1) (z : lt_z t₁ t ≡ true) where
    pub t_late : Late lx (pt T b) (of_z w16 s) (runs (fours (n - r) (drop (4 * r) list)))
    t_late = above_late T b (of_z w16 s) (omega signed) v.above

    pub t_next : (x : List ℤ) (r' n' : ℕ) → InPlace a b s T list r n x r' n' → TInv l used t₁ t₂ a b s x r' n' T
    t_next x r' n' q =
        record {
          good = v.good;
          gapped = q.gapped;
          laid = q.laid;
          long = q.long ∙ v.long;
          is = q.is ∙ ap (P a b (of_z w16 s) T) v.is ∙ sym (ap (λ (ts : List ℤ). sw true a b (of_z w16 s) ts (runs (fours used l))) (span_cons T t t₂ (suc_of t T e) (omega signed)));
          above = q.above;
          room = omega (signed, q.few, q.long, v.room);
          low = omega signed;
          high = omega signed;
        }

  pub t_done : lt_z t₁ t ≡ false → Swept true a b s t₁ t₂ l used list n
  t_done z =
      let et : t ≡ t₁ = omega signed in
      let whole : fours n list ≡ fours r list ++ fours (n - r) (drop (4 * r) list) = halves list n r v.gapped.high in
      record {
        laid = v.laid;
        long = v.long;
        is = ap runs whole ∙ v.is ∙ ap (λ (u : ℤ). sw true a b (of_z w16 s) (span u t₂) (runs (fours used l))) et;
        stored = subst Stored (sym whole) v.gapped.stored;
      }
