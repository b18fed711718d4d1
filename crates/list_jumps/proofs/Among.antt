-- The collision jump as the largest end: on a track no record that overlaps ends later than the last one, so over all crossed tracks the jump is the
-- largest end of all records that overlap, in whatever order they are looked at.
use Rattle.std.specs.Prelude.{None, Option, Some, ℤ}
use Rattle.std.specs.Int.{int_max}
use mathlib.Core.Path.{◌≡◌, refl, sym, ap, ◌∙◌, subst}
use mathlib.Core.Bool.{true, cond, ◌&&◌}
use mathlib.Core.List.{List, [], ◌∷◌}
use mathlib.Core.Logic.{◌⊎◌, inl, inr}
use Prim.Native.Nat.{ℕ, zero, suc, ◌<◌, ◌≤◌}
use native.Mathlib.Omega.{arith}
use native.Mathlib.Decide.{ℕ_discrete, dec_lt}
use lib.IntN.{ℤ, pos, nat_abs, ◌-ℤ◌}
use lib.Signed.{lt_z, ◌≤ℤ◌, ◌<ℤ◌}
use Rattle.theory_signed.proofs.Laws.{signed, dif, g_lt_true, g_lt_false}
use Rattle.theory_intervals.proofs.Line.{Test, yea, nay, test, no_both}
use Rattle.theory_intervals.proofs.Tracks.{same_yes}
use Rattle.theory_intervals.specs.Records.{Rec, rec, same, follows, behind}
use Rattle.theory_intervals.specs.Flat.{rows}
use Rattle.theory_intervals.proofs.Grid.{and_l, and_r, and₃}
use Rattle.theory_intervals.proofs.Paint.{mem}
use Rattle.theory_intervals.specs.OverInt.{ok, keeps, span}
use Rattle.theory_intervals.proofs.OverInt.{span_is}
use Rattle.theory_intervals.specs.Lists.{all_in, recs, on_track}
use Rattle.list_jumps.specs.Calls.{overlaps, extent_of, larger, over, collision_jump}
use Rattle.list_rules.specs.Inner.{track_no, start_no, end_no, state_no, Crosses}
use Rattle.list_jumps.proofs.Cells.{Has, here, there, between_is}
use Rattle.list_jumps.proofs.Collisions.{Last, or_ends, if_ends, extent_last, extent_free, over_free, Where, over_next, Shape, next, free, shape}

-- ---- records by their index

pub has_rows : (n : ℕ) (t a b : ℕ → ℤ) (s : ℕ → ℕ) (i : ℕ) → i < n → Has (t i) (a i) (b i) (rows n t a b s)
has_rows zero t a b s i h = absurd (omega arith)
has_rows (suc n) t a b s zero h = here
has_rows (suc n) t a b s (suc i) h = there (has_rows n (λ i. t (suc i)) (λ i. a (suc i)) (λ i. b (suc i)) (λ i. s (suc i)) i (omega arith))

record At (n : ℕ) (t a b : ℕ → ℤ) (x y z : ℤ) : Type 0 where
  i : ℕ
  in_list : i < n
  track : t i ≡ x
  start : a i ≡ y
  end : b i ≡ z

rows_has : (n : ℕ) (t a b : ℕ → ℤ) (s : ℕ → ℕ) {x y z : ℤ} → Has x y z (rows n t a b s) → At n t a b x y z
rows_has zero t a b s x = elim x [ ]
rows_has (suc n) t a b s here = record { i = 0; in_list = omega arith; track = refl; start = refl; end = refl }
rows_has (suc n) t a b s (there m) =
    let r = rows_has n (λ i. t (suc i)) (λ i. a (suc i)) (λ i. b (suc i)) (λ i. s (suc i)) m in
    record { i = suc r.i; in_list = (let k = r.in_list in omega arith); track = r.track; start = r.start; end = r.end }

-- ---- a record that stands behind another

follows_is : (t b : ℤ) (s : ℕ) (u c : ℤ) (v : ℕ) → follows lt_z t b s u c v ≡ true → (t ≤ℤ u) × (u ≤ℤ t → b ≤ℤ c)
follows_is t b s u c v h = go (test (lt_z t u)) (test (lt_z u t)) (test (lt_z c b))
  where
    go : Test (lt_z t u) → Test (lt_z u t) → Test (lt_z c b) → (t ≤ℤ u) × (u ≤ℤ t → b ≤ℤ c)
    go (yea e) f g = (omega signed, λ k. absurd (omega signed))
    go (nay e) (yea f) g = no_both h (rw (e, f))
    go (nay e) (nay f) (nay g) = (omega signed, λ k. omega signed)
    go (nay e) (nay f) (yea g) = no_both h (rw (e, f, g_lt_false b c (omega signed), g))

record Behind (u d t x y : ℤ) : Type 0 where
  track : u ≤ℤ t
  start : t ≤ℤ u → d ≤ℤ x
  long : x <ℤ y

is_behind : (u d : ℤ) (v : ℕ) (rs : List (Rec ℤ)) {t x y : ℤ} → behind lt_z ok u d v rs ≡ true → Has t x y rs → Behind u d t x y
is_behind u d v [] h x = elim x [ ]
is_behind u d v (rec t x y s ∷ rs) h here =
    let j = and₃ (lt_z x y) (ok s) (behind lt_z ok t y s rs) (and_r (follows lt_z u d v t x s) (lt_z x y && (ok s && behind lt_z ok t y s rs)) h) in
    let f = follows_is u d v t x s (and_l (follows lt_z u d v t x s) (lt_z x y && (ok s && behind lt_z ok t y s rs)) h) in
    let k = j.0 in
    record { track = f.0; start = f.1; long = omega signed }
is_behind u d v (rec w c e s ∷ rs) {t} {x} {y} h (there m) =
    let j = and₃ (lt_z c e) (ok s) (behind lt_z ok w e s rs) (and_r (follows lt_z u d v w c s) (lt_z c e && (ok s && behind lt_z ok w e s rs)) h) in
    let f = follows_is u d v w c s (and_l (follows lt_z u d v w c s) (lt_z c e && (ok s && behind lt_z ok w e s rs)) h) in
    let r = is_behind w e s rs {t = t} {x = x} {y = y} j.2 m in
    let p = f.0 in
    let q = r.track in
    let k = j.0 in
    record { track = omega signed; start = λ l. (let a = f.1 (omega signed) in let b = r.start (omega signed) in omega signed); long = r.long }

-- ---- on a track the last overlapping record has the largest end

extent_most : (u d : ℤ) (v : ℕ) (rs : List (Rec ℤ)) {t x y : ℤ} (a b e : ℤ) → behind lt_z ok u d v rs ≡ true → Has t x y rs → overlaps a b x y ≡ true → extent_of (on_track t rs) a b ≡ Some e → y ≤ℤ e
extent_most u d v [] a b e h x o q = elim x [ ]
extent_most u d v (rec t x y s ∷ rs) a b e h here o q = go (or_ends (extent_of (on_track t rs) a b) (cond (overlaps a b x y) (Some y) None) e (rw (self t) at q))
  where
    self : (t : ℤ) → same lt_z t t ≡ true
    self t = rw (g_lt_false t t (omega signed))

    j : (lt_z x y ≡ true) × (ok s ≡ true) × (behind lt_z ok t y s rs ≡ true)
    j = and₃ (lt_z x y) (ok s) (behind lt_z ok t y s rs) (and_r (follows lt_z u d v t x s) (lt_z x y && (ok s && behind lt_z ok t y s rs)) h)

    go : (extent_of (on_track t rs) a b ≡ Some e) ⊎ ((extent_of (on_track t rs) a b ≡ None) × (cond (overlaps a b x y) (Some y) None ≡ Some e)) → y ≤ℤ e
    go (inl k) =
        let m = extent_last rs t a b e k in
        let r = is_behind t y s rs j.2 m.has in
        let p = r.start (omega signed) in
        let l = r.long in
        omega signed
    go (inr k) = let w = (if_ends (overlaps a b x y) y e k.1).1 in omega signed
extent_most u d v (rec w c f s ∷ rs) {t} {x} {y} a b e h (there m) o q = go (test (same lt_z t w)) (λ k. extent_most w f s rs {t = t} {x = x} {y = y} a b e j.2 m o k)
  where
    j : (lt_z c f ≡ true) × (ok s ≡ true) × (behind lt_z ok w f s rs ≡ true)
    j = and₃ (lt_z c f) (ok s) (behind lt_z ok w f s rs) (and_r (follows lt_z u d v w c s) (lt_z c f && (ok s && behind lt_z ok w f s rs)) h)

    go : Test (same lt_z t w) → (extent_of (on_track t rs) a b ≡ Some e → y ≤ℤ e) → y ≤ℤ e
    go (nay z) r = r (rw z at q)
    go (yea z) r = by (or_ends (extent_of (on_track t rs) a b) (cond (overlaps a b c f) (Some f) None) e (rw z at q))
      where
        by : (extent_of (on_track t rs) a b ≡ Some e) ⊎ ((extent_of (on_track t rs) a b ≡ None) × (cond (overlaps a b c f) (Some f) None ≡ Some e)) → y ≤ℤ e
        by (inl k) = r k
        by (inr k) = no_both o (extent_free a b m k.0)

-- any list that keeps the rules stands behind some record
most : (rs : List (Rec ℤ)) {t x y : ℤ} (a b e : ℤ) → keeps rs ≡ true → Has t x y rs → overlaps a b x y ≡ true → extent_of (on_track t rs) a b ≡ Some e → y ≤ℤ e
most [] a b e h m o q = elim m [ ]
most (rec u c d s ∷ rs) {t} {x} {y} a b e h m o q =
    let z : lt_z (u -ℤ pos 1) u ≡ true = g_lt_true (u -ℤ pos 1) u (omega (signed, dif u (pos 1))) in
    extent_most (u -ℤ pos 1) d s (rec u c d s ∷ rs) {t = t} {x = x} {y = y} a b e (rw z h) m o q

-- ---- the jump is the largest over the tracks

module _ (F : ℤ → Option ℤ) where
  larger_most : (x : Option ℤ) (j : Option ℤ) (f e : ℤ) → larger x j ≡ Some e → (x ≡ Some f) ⊎ (j ≡ Some f) → f ≤ℤ e
  larger_most (Some g) None f e h (inl k) = let p : g ≡ f = cc in let q : g ≡ e = cc in omega signed
  larger_most (Some g) None f e h (inr k) = let z : ◌≡◌ {A = ℕ} 0 1 = cc in absurd (omega arith)
  larger_most None (Some g) f e h (inl k) = let z : ◌≡◌ {A = ℕ} 0 1 = cc in absurd (omega arith)
  larger_most None (Some g) f e h (inr k) = let p : g ≡ f = cc in let q : g ≡ e = cc in omega signed
  larger_most None None f e h k = let z : ◌≡◌ {A = ℕ} 0 1 = cc in absurd (omega arith)
  larger_most (Some g) (Some i) f e h k = go (test (lt_z g i)) k
    where
      go : Test (lt_z g i) → (Some g ≡ Some f) ⊎ (Some i ≡ Some f) → f ≤ℤ e
      go (yea z) (inl k) = let w : Some i ≡ Some e = rw z at h in let p : g ≡ f = cc in let q : i ≡ e = cc in omega signed
      go (yea z) (inr k) = let w : Some i ≡ Some e = rw z at h in let p : i ≡ f = cc in let q : i ≡ e = cc in omega signed
      go (nay z) (inl k) = let w : Some g ≡ Some e = rw z at h in let p : g ≡ f = cc in let q : g ≡ e = cc in omega signed
      go (nay z) (inr k) = let w : Some g ≡ Some e = rw z at h in let p : i ≡ f = cc in let q : g ≡ e = cc in omega signed

  over_most : (t f : ℤ) (ts : List ℤ) (e : ℤ) → over (λ t j. larger (F t) j) ts ≡ Some e → mem lt_z t ts ≡ true → F t ≡ Some f → f ≤ℤ e
  over_most t f [] e h m q = no_both m refl
  over_most t f (u ∷ ts) e h m q = go (test (same lt_z t u)) (shape (over (λ t j. larger (F t) j) ts)) (λ i k n. over_most t f ts i k n q)
    where
      go : Test (same lt_z t u) → Shape (over (λ t j. larger (F t) j) ts) → ((i : ℤ) → over (λ t j. larger (F t) j) ts ≡ Some i → mem lt_z t ts ≡ true → f ≤ℤ i) → f ≤ℤ e
      go (yea z) w r = larger_most (F u) (over (λ t j. larger (F t) j) ts) f e h (inl (sym (ap F (same_yes t u z)) ∙ q))
      go (nay z) (next i k) r =
          let p = r i k (rw z at m) in
          let o = larger_most (F u) (over (λ t j. larger (F t) j) ts) i e h (inr k) in
          omega signed
      go (nay z) (free k) r = absurd (none (sym (over_free F t ts k (rw z at m)) ∙ q))
        where
          none : None ≡ Some f → ⊥
          none k = let z : ◌≡◌ {A = ℕ} 0 1 = cc in omega arith

data EShape (x : Option ℤ) : Type 0 where
  ends : (e : ℤ) → x ≡ Some e → EShape x
  none : x ≡ None → EShape x

extent_shape : (x : Option ℤ) → EShape x
extent_shape (Some e) = ends e refl
extent_shape None = none refl

-- ---- the look through all crossed records

-- one of the records from `first` up to k that start before b ends there
pub record Reached (l : List ℤ) (b : ℤ) (first k : ℕ) (best : ℤ) : Type 0 where
  pub i : ℕ
  pub from : first ≤ i
  pub to : i < k
  pub before : start_no l i <ℤ b
  pub end : end_no l i ≡ best

-- best is the largest of a and of the ends of the records from `first` up to k that start before b
pub record Best (l : List ℤ) (a b : ℤ) (first k : ℕ) (best : ℤ) : Type 0 where
  pub low : a ≤ℤ best
  pub top : (i : ℕ) → first ≤ i → i < k → start_no l i <ℤ b → end_no l i ≤ℤ best
  pub one : (best ≤ℤ a) ⊎ Reached l b first k best

module _ {l : List ℤ} {a b : ℤ} {first k : ℕ} {best : ℤ} (v : Best l a b first k best) where
  kept : {m : ℕ} → k ≤ m → Reached l b first k best → Reached l b first m best
  kept h r = record { i = r.i; from = r.from; to = (let t = r.to in omega arith); before = r.before; end = r.end }

  -- the next one doesn't count, or ends no later
  pub best_same : (m : ℕ) → m ≡ suc k → (start_no l k <ℤ b → end_no l k ≤ℤ best) → Best l a b first m best
  best_same m e h = record { low = v.low; top = λ i p q z. go i p q z (ℕ_discrete i k); one = by v.one }
    where
      go : (i : ℕ) → first ≤ i → i < m → start_no l i <ℤ b → Dec (i ≡ k) → end_no l i ≤ℤ best
      go i p q z (yes w) = subst (λ (j : ℕ). end_no l j ≤ℤ best) (sym w) (h (subst (λ (j : ℕ). start_no l j <ℤ b) w z))
      go i p q z (no w) = v.top i p (omega arith) z

      by : (best ≤ℤ a) ⊎ Reached l b first k best → (best ≤ℤ a) ⊎ Reached l b first m best
      by (inl z) = inl z
      by (inr r) = inr (kept (omega arith) r)

  -- it ends later
  pub best_next : (m : ℕ) (new : ℤ) → m ≡ suc k → first ≤ k → new ≡ end_no l k → start_no l k <ℤ b → best <ℤ new → Best l a b first m new
  best_next m new e f n z h = record {
    low = (let p = v.low in omega signed);
    top = λ i p q y. go i p q y (ℕ_discrete i k);
    one = inr (record { i = k; from = f; to = omega arith; before = z; end = sym n });
  }
    where
      go : (i : ℕ) → first ≤ i → i < m → start_no l i <ℤ b → Dec (i ≡ k) → end_no l i ≤ℤ new
      go i p q y (yes w) = subst (λ (j : ℕ). end_no l j ≤ℤ new) (sym w) (omega signed)
      go i p q y (no w) = let t = v.top i p (omega arith) y in omega signed

  -- it counts
  pub best_max : (m : ℕ) (d r : ℤ) → m ≡ suc k → first ≤ k → start_no l k <ℤ b → d ≡ end_no l k → r ≡ int_max best d → Best l a b first m r
  best_max m d r e f z n h = go (test (lt_z d best)) (test (lt_z best d))
    where
      go : Test (lt_z d best) → Test (lt_z best d) → Best l a b first m r
      go (yea x) y = subst (Best l a b first m) (sym (h ∙ rw x)) (best_same m e (λ q. omega signed))
      go (nay x) (yea y) = subst (Best l a b first m) (sym (h ∙ rw x)) (best_next m d e f n z (omega signed))
      go (nay x) (nay y) = let q : best ≡ d = omega signed in subst (Best l a b first m) (q ∙ sym (h ∙ rw x)) (best_same m e (λ q. omega signed))

-- it is the collision jump
module _ {l : List ℤ} {a b : ℤ} {first past : ℕ} {best : ℤ} (x : Crosses l first past) (v : Best l a b first past best) where
  abbrev rs : List (Rec ℤ)
  rs = recs x.used l

  abbrev F : ℤ → Option ℤ
  F t = extent_of (on_track t rs) a b

  rules_kept : keeps rs ≡ true
  rules_kept = and_l (keeps rs) (all_in rs) x.holds.keep

  -- a record of the crossed tracks is on one of them
  crossed : (i : ℕ) → first ≤ i → i < past → mem lt_z (track_no l i) (span x.low x.high) ≡ true
  crossed i p q =
      let d = x.begins.above i p (let w = x.ends.within in omega arith) in
      let u = x.ends.below i q in
      span_is x.low x.high (track_no l i) ∙ rw (g_lt_false (track_no l i) x.low (omega signed), g_lt_true (track_no l i) x.high (omega signed))

  has : (i : ℕ) → i < past → Has (track_no l i) (start_no l i) (end_no l i) rs
  has i q = has_rows x.used (track_no l) (start_no l) (end_no l) (λ j. nat_abs (state_no l j)) i (let w = x.ends.within in omega arith)

  -- one that starts before b and ends past a
  meets : (r : Reached l b first past best) → a <ℤ best → overlaps a b (start_no l r.i) (end_no l r.i) ≡ true
  meets r h = let s = r.before in let e = r.end in rw (g_lt_true (start_no l r.i) b (omega signed), g_lt_true a (end_no l r.i) (omega signed))

  -- nothing overlaps
  pub none_found : collision_jump rs x.low x.high a b ≡ None → best ≤ℤ a
  none_found f = go v.one (test (lt_z a best))
    where
      go : (best ≤ℤ a) ⊎ Reached l b first past best → Test (lt_z a best) → best ≤ℤ a
      go (inl z) t = z
      go (inr r) (nay t) = omega signed
      go (inr r) (yea t) = no_both (meets r (omega signed)) (extent_free a b (has r.i r.to) (over_free F (track_no l r.i) (span x.low x.high) f (crossed r.i r.from r.to)))

  pub found_end : (e : ℤ) → collision_jump rs x.low x.high a b ≡ Some e → (a <ℤ best) × (best ≡ e)
  found_end e j = (past_a, at_e)
    where
      w : Where F (span x.low x.high) e
      w = over_next F (span x.low x.high) e j

      m : Last rs w.track a b e
      m = extent_last rs w.track a b e w.ends

      n : At x.used (track_no l) (start_no l) (end_no l) w.track m.from e
      n = rows_has x.used (track_no l) (start_no l) (end_no l) (λ j. nat_abs (state_no l j)) m.has

      on : (x.low ≤ℤ w.track) × (w.track <ℤ x.high)
      on = between_is x.low x.high w.track (sym (span_is x.low x.high w.track) ∙ w.one)

      from : first ≤ n.i
      from = go (dec_lt n.i first)
        where
          go : Dec (n.i < first) → first ≤ n.i
          go (no h) = omega arith
          go (yes h) = let p = x.begins.below n.i h in let q = on.0 in let t = n.track in absurd (omega signed)

      to : n.i < past
      to = go (dec_lt n.i past)
        where
          go : Dec (n.i < past) → n.i < past
          go (yes h) = h
          go (no h) = let p = x.ends.above n.i (omega arith) n.in_list in let q = on.1 in let t = n.track in absurd (omega signed)

      high : e ≤ℤ best
      high = let p = v.top n.i from to (let s = n.start in let z = m.before in omega signed) in let q = n.end in omega signed

      past_a : a <ℤ best
      past_a = let p = m.past in let q = high in omega signed

      low : best ≤ℤ e
      low = go v.one
        where
          go : (best ≤ℤ a) ⊎ Reached l b first past best → best ≤ℤ e
          go (inl z) = let p = past_a in absurd (omega signed)
          go (inr r) = by (extent_shape (F (track_no l r.i)))
            where
              by : EShape (F (track_no l r.i)) → best ≤ℤ e
              by (none k) = no_both (meets r past_a) (extent_free a b (has r.i r.to) k)
              by (ends f k) =
                  let p = most rs a b f rules_kept (has r.i r.to) (meets r past_a) k in
                  let q = over_most F (track_no l r.i) f (span x.low x.high) e j (crossed r.i r.from r.to) k in
                  let s = r.end in
                  omega signed

      at_e : best ≡ e
      at_e = let p = low in let q = high in omega signed

  pub jump_found_lem : a <ℤ best → Some best ≡ collision_jump rs x.low x.high a b
  jump_found_lem h = go (shape (collision_jump rs x.low x.high a b))
    where
      go : Shape (collision_jump rs x.low x.high a b) → Some best ≡ collision_jump rs x.low x.high a b
      go (next e j) = ap Some (found_end e j).1 ∙ sym j
      go (free f) = let p = none_found f in absurd (omega signed)

  pub jump_missed : best ≤ℤ a → None ≡ collision_jump rs x.low x.high a b
  jump_missed h = go (shape (collision_jump rs x.low x.high a b))
    where
      go : Shape (collision_jump rs x.low x.high a b) → None ≡ collision_jump rs x.low x.high a b
      go (next e j) = let p = (found_end e j).0 in absurd (omega signed)
      go (free f) = sym f
