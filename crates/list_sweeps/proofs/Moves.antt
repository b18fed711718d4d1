-- What moving records does to a list with a gap, and the two ends of a step.
use mathlib.Core.Path.{◌≡◌, refl, sym, ap, ◌∙◌, subst}
use mathlib.Core.Bool.{Bool, true, false, cond, ◌||◌}
use mathlib.Core.List.{List, [], ◌∷◌, ◌++◌, append_assoc}
use Prim.Native.Nat.{ℕ, ◌+◌, ◌-◌, ◌*◌, ◌≤◌}
use native.Mathlib.Omega.{arith}
use native.Mathlib.Nat.{zero-add, suc-add}
use lib.Dec.{leb}
use lib.IntN.{ℤ}
use lib.ListN.{length, take, drop, length-drop, length-append}
use lib.Seq.{paste, length-paste}
use mir.Syntax.{w16}
use mir.Val.{of_z}
use Rattle.theory_intervals.specs.Paint.{pt}
use Rattle.theory_intervals.specs.Cut.{new, lx, Rn, P, H, N}
use Rattle.theory_intervals.proofs.Split.{Late}
use Rattle.theory_intervals.proofs.Tracks.{K}
use Rattle.theory_intervals.proofs.Tracks as Tr
use Rattle.list_moves.specs.Fours.{Four, enc, fours}
use Rattle.list_moves.proofs.Parts.{drop_paste_at, drop_paste_past}
use Rattle.list_moves.proofs.Fours.{fours_paste, enc_fours, length_fours}
use Rattle.list_pieces.specs.Reach.{runs, run_of, Stored, Apart, Reaches}
use Rattle.list_pieces.proofs.Build.{map_append}
use Rattle.list_pieces.proofs.Found.{Found, found}
use Rattle.list_areas.proofs.Good.{Good}
use Rattle.list_pieces.specs.Passes.{Above, Gapped, Stepped, stepped, held}
use Rattle.list_pieces.proofs.Above.{above_append, late_above, all_on_above, stored_append, stored_l, stored_r}
use Rattle.list_sweeps.proofs.Count.{halves, length_runs}

enc_rest : (xs : List Four) (n : ℕ) (z : List ℤ) → fours (length xs + n) (enc xs ++ z) ≡ xs ++ fours n z
enc_rest [] n z = rw zero-add
enc_rest (x ∷ xs) n z = rw suc-add (ap (λ (r : List Four). x ∷ r) (enc_rest xs n z))

-- m records of y stand at the record p of d
module _ (d y x : List ℤ) (p m at n : ℕ) (ea : at ≡ 4 * p) (en : n ≡ 4 * m) (h : 4 * (p + m) ≤ length d) (k : 4 * m ≤ length y) (e : x ≡ paste d at y n) where
  pub m_long : length x ≡ length d
  m_long = ap length e ∙ length-paste d at y n (omega arith) (omega arith)

  pub m_pre : (c : ℕ) → c ≤ p → fours c x ≡ fours c d
  m_pre c hc = ap (fours c) e ∙ fours_paste c d at y n (omega arith) (omega arith)

  pub m_past : (z : ℕ) → p + m ≤ z → drop (4 * z) x ≡ drop (4 * z) d
  m_past z hz = ap (drop (4 * z)) e ∙ drop_paste_past d at y n (4 * z) (omega arith) (omega arith) (omega arith)

  pub m_post : (q : ℕ) → fours (m + q) (drop (4 * p) x) ≡ fours m y ++ fours q (drop (4 * (p + m)) d)
  m_post q =
      let a : drop (4 * p) x ≡ take n y ++ drop (at + n) d = (λ i. drop (sym ea i) (e i)) ∙ drop_paste_at d at y n (omega arith) in
      let b : take n y ≡ enc (fours m y) = ap (λ (i : ℕ). take i y) en ∙ sym (enc_fours m y k) in
      let c : at + n ≡ 4 * (p + m) = omega arith in
      let l : m ≡ length (fours m y) = sym (length_fours m y) in
      (λ i. fours (l i + q) ((a ∙ (λ j. b j ++ drop (c j) d)) i)) ∙ enc_rest (fours m y) q (drop (4 * (p + m)) d)

-- the records that the paint of a track does not reach are off it
pub s_apart : {a b s t : ℤ} {l : List ℤ} {r w top : ℕ} → Gapped l r w top → Good a b s → Late lx (pt t b) (of_z w16 s) (runs (fours (top - w) (drop (4 * w) l))) → Apart l r t a b (of_z w16 s)
s_apart {a} {b} {s} {t} {l} {r} {w} {top} g good late =
    (found l r t a b (of_z w16 s) (fours (top - w) (drop (4 * w) l)) _ _ good.less good.state (omega (arith, g.low, g.high, g.room)) g.keep late refl refl).on

module _ (all : Bool) {a b s t : ℤ} {l : List ℤ} {r w top : ℕ} (g : Gapped l r w top) (good : Good a b s)
    (late : Late lx (pt t b) (of_z w16 s) (runs (fours (top - w) (drop (4 * w) l)))) {i j n : ℕ} {put : List ℤ} (q : Reaches l r t a b (of_z w16 s) i j n put) where
  abbrev σ : ℕ
  σ = of_z w16 s

  abbrev W : List Four
  W = fours (top - w) (drop (4 * w) l)

  abbrev pre : List Four
  pre = fours i l

  abbrev mid : List Four
  mid = fours (j - i) (drop (4 * i) l)

  abbrev post : List Four
  post = fours (r - j) (drop (4 * j) l)

  abbrev rs : List Rn
  rs = held l r w top

  pub s_found : Found l r t a b σ W i j
  s_found = found l r t a b σ W i j good.less good.state (omega (arith, g.low, g.high, g.room)) g.keep late q.past q.first

  pub whole : fours r l ++ W ≡ pre ++ (mid ++ (post ++ W))
  whole = ap (λ (x : List Four). x ++ W) s_found.parts ∙ append_assoc pre (mid ++ post) W ∙ ap (λ (x : List Four). pre ++ x) (append_assoc mid post W)

  hits : length (H a b σ t rs) ≡ j - i
  hits = ap length s_found.hits ∙ length_runs mid ∙ length_fours (j - i) (drop (4 * i) l)

  news : length (N a b σ t rs) ≡ n
  news = ap (λ (x : List Rn). length (new lx (pt t a) (pt t b) σ x)) s_found.hits ∙ sym (ap length q.become.is) ∙ length_runs (fours n put) ∙ length_fours n put

  pub painted : P a b σ t rs ≡ runs (pre ++ (fours n put ++ (post ++ W)))
  painted =
      s_found.paints ∙ (λ k. runs pre ++ (sym q.become.is k ++ runs (post ++ W)))
      ∙ ap (λ (x : List Rn). runs pre ++ x) (sym (map_append run_of (fours n put) (post ++ W))) ∙ sym (map_append run_of pre (fours n put ++ (post ++ W)))

  -- the track is painted, or not, as f says
  chosen : (f : Bool) → f ≡ (all || leb n (j - i)) → stepped all a b σ t rs ≡ cond f (P a b σ t rs) rs
  chosen f e = (λ k. cond (all || leb (news k) (hits k)) (P a b σ t rs) rs) ∙ sym (ap (λ (c : Bool). cond c (P a b σ t rs) rs) e)

  -- the records that are behind go up
  module _ (x : List ℤ) (e : x ≡ paste l (4 * j + 4 * (w - r)) (drop (4 * j) l) (4 * r - 4 * j)) (f : Bool) (ef : f ≡ (all || leb n (j - i))) where
    abbrev v : ℕ
    v = w - (r - j)

    ha : 4 * j + 4 * (w - r) ≡ 4 * v
    ha = omega (arith, s_found.high, g.low)

    hb : 4 * r - 4 * j ≡ 4 * (r - j)
    hb = omega arith

    hc : 4 * (v + (r - j)) ≤ length l
    hc = omega (arith, s_found.high, g.low, g.high, g.room)

    hd : 4 * (r - j) ≤ length (drop (4 * j) l)
    hd = simp length-drop (omega (arith, s_found.high, g.low, g.high, g.room))

    pub up_long : length x ≡ length l
    up_long = m_long l (drop (4 * j) l) x v (r - j) (4 * j + 4 * (w - r)) (4 * r - 4 * j) ha hb hc hd e

    up_pre : (c : ℕ) → c ≤ j → fours c x ≡ fours c l
    up_pre c h = m_pre l (drop (4 * j) l) x v (r - j) (4 * j + 4 * (w - r)) (4 * r - 4 * j) ha hb hc hd e c (omega (arith, s_found.high, g.low))

    up_tail : drop (4 * w) x ≡ drop (4 * w) l
    up_tail = m_past l (drop (4 * j) l) x v (r - j) (4 * j + 4 * (w - r)) (4 * r - 4 * j) ha hb hc hd e w (omega (arith, s_found.high, g.low))

    up_post : fours (top - v) (drop (4 * v) x) ≡ post ++ W
    up_post =
        let h : top - v ≡ (r - j) + (top - w) = omega (arith, s_found.high, g.low, g.high) in
        let z : v + (r - j) ≡ w = omega (arith, s_found.high, g.low) in
        (λ k. fours (h k) (drop (4 * v) x)) ∙ m_post l (drop (4 * j) l) x v (r - j) (4 * j + 4 * (w - r)) (4 * r - 4 * j) ha hb hc hd e (top - w)
        ∙ ap (λ (m : ℕ). post ++ fours (top - w) (drop (4 * m) l)) z

    up_all : fours j x ++ fours (top - v) (drop (4 * v) x) ≡ fours r l ++ W
    up_all =
        (λ k. up_pre j (omega arith) k ++ up_post k) ∙ ap (λ (z : List Four). z ++ (post ++ W)) (halves l j i s_found.low) ∙ append_assoc pre mid (post ++ W) ∙ sym whole

    -- nothing is painted
    pub left_alone : f ≡ false → Stepped all a b s t l r w top x j v
    left_alone left = record {
      gapped = record {
        low = omega (arith, s_found.high, g.low);
        high = omega (arith, g.high);
        room = omega (arith, up_long, g.room);
        keep = subst (λ (z : List Four). K (runs z)) (sym up_all) g.keep;
        stored = subst Stored (sym up_all) g.stored;
      };
      long = up_long;
      tail = up_tail;
      is = ap runs up_all ∙ sym (chosen f ef ∙ ap (λ (z : Bool). cond z (P a b σ t rs) rs) left);
      above = subst (Above t) (sym up_post) (late_above t b σ (post ++ W) s_found.behind);
      down = omega arith;
    }

    -- the track is painted
    module _ (taken : f ≡ true) (room : length (stepped all a b σ t rs) ≤ top) where
      is_P : stepped all a b σ t rs ≡ P a b σ t rs
      is_P = chosen f ef ∙ ap (λ (z : Bool). cond z (P a b σ t rs) rs) taken

      pub fits : i + n ≤ v
      fits =
          let h : length (P a b σ t rs) ≡ i + (n + ((r - j) + (top - w))) =
          ap length painted ∙ length_runs (pre ++ (fours n put ++ (post ++ W))) ∙ length-append pre (fours n put ++ (post ++ W))
          ∙ (λ k. length_fours i l k + (length-append (fours n put) (post ++ W) ∙ (λ z. length_fours n put z + (length-append post W ∙ (λ y. length_fours (r - j) (drop (4 * j) l) y + length_fours (top - w) (drop (4 * w) l) y)) z)) k) in
          omega (arith, ap length is_P, s_found.high, g.low, g.high)

      module _ (y : List ℤ) (e' : y ≡ paste x (4 * (v - n)) put (length put)) where
        hx : 4 * (v - n + n) ≤ length x
        hx = omega (arith, fits, up_long, g.low, g.high, g.room)

        hp : 4 * n ≤ length put
        hp = omega (arith, q.long)

        y_pre : fours i y ≡ pre
        y_pre = m_pre x put y (v - n) n (4 * (v - n)) (length put) refl q.long hx hp e' i (omega (arith, fits)) ∙ up_pre i s_found.low

        y_post : fours (top - (v - n)) (drop (4 * (v - n)) y) ≡ fours n put ++ (post ++ W)
        y_post =
            let h : top - (v - n) ≡ n + (top - v) = omega (arith, fits, g.high) in
            let z : v - n + n ≡ v = omega (arith, fits) in
            (λ k. fours (h k) (drop (4 * (v - n)) y)) ∙ m_post x put y (v - n) n (4 * (v - n)) (length put) refl q.long hx hp e' (top - v)
            ∙ ap (λ (m : ℕ). fours n put ++ fours (top - v) (drop (4 * m) x)) z ∙ ap (λ (m : List Four). fours n put ++ m) up_post

        y_all : fours i y ++ fours (top - (v - n)) (drop (4 * (v - n)) y) ≡ pre ++ (fours n put ++ (post ++ W))
        y_all = λ k. y_pre k ++ y_post k

        y_is : held y i (v - n) top ≡ P a b σ t rs
        y_is = ap runs y_all ∙ sym painted

        pub painted_up : Stepped all a b s t l r w top y i (v - n)
        painted_up = record {
          gapped = record {
            low = omega (arith, fits);
            high = omega (arith, g.high);
            room = omega (arith, y_long, up_long, g.room);
            keep = subst K (sym y_is) (Tr.P-keep a b σ good.less good.state t g.keep);
            stored = subst Stored (sym y_all) (stored_append (fours n put ++ (post ++ W)) (stored_l pre (mid ++ (post ++ W)) tagged) (stored_append (post ++ W) q.become.stored (stored_r mid (post ++ W) (stored_r pre (mid ++ (post ++ W)) tagged))));
          };
          long = y_long ∙ up_long;
          tail = m_past x put y (v - n) n (4 * (v - n)) (length put) refl q.long hx hp e' w (omega (arith, fits)) ∙ up_tail;
          is = y_is ∙ sym is_P;
          above = subst (Above t) (sym y_post) (above_append (post ++ W) (all_on_above q.become.placed) (late_above t b σ (post ++ W) s_found.behind));
          down = omega arith;
        }
          where
            y_long : length y ≡ length x
            y_long = m_long x put y (v - n) n (4 * (v - n)) (length put) refl q.long hx hp e'

            tagged : Stored (pre ++ (mid ++ (post ++ W)))
            tagged = subst Stored whole g.stored
