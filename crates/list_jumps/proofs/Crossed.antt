-- The two jumps, over the tracks of a span.
use Rattle.std.specs.Option.{option_or}
use Rattle.std.specs.Prelude.{None, Option, Some, ℤ}
use mathlib.Core.Path.{◌≡◌, refl, sym, ap, ◌∙◌, subst}
use mathlib.Core.Bool.{true, false}
use mathlib.Core.List.{List, [], append-nil}
use Prim.Native.Nat.{ℕ, zero, suc, ◌+◌, ◌-◌, ◌*◌, ◌/◌, ◌<◌, ◌≤◌}
use native.Mathlib.Omega.{arith}
use native.Mathlib.Decide.{dec_lt}
use lib.ListN.{length, drop, length-drop}
use lib.Seq.{length-take-le}
use lib.IntN.{ℤ, pos, nat_abs, ◌+ℤ◌}
use lib.Signed.{lt_z, ◌≤ℤ◌, ◌<ℤ◌}
use Rattle.theory_signed.specs.Parts.{gap}
use Rattle.theory_signed.proofs.Laws.{signed, sum}
use Rattle.theory_intervals.proofs.Line.{Test, yea, nay, test}
use Rattle.theory_intervals.specs.Records.{Rec, same}
use Rattle.theory_intervals.specs.Flat.{rows}
use Rattle.theory_intervals.specs.OverInt.{encode, digits, span}
use Rattle.theory_intervals.proofs.Flat.{length_encode}
use Rattle.theory_intervals.proofs.OverInt.{digit_laws}
use Rattle.theory_intervals.specs.Lists.{recs, on_track, Holds}
use Rattle.list_jumps.specs.Calls.{extent_of, larger, over, collision_jump, past_track, occupied_jump}
use Rattle.list_rules.specs.Inner.{track_no, start_no, end_no, state_no, Front, Split, Crosses, Part, Tail}
use Rattle.theory_intervals.proofs.Lists.{recs_enc}
use Rattle.list_tracks.proofs.Sorted.{sorted, none_on, not_same, not_same₂, is_same, cut_is}
use Rattle.theory_intervals.proofs.Spans.{span_none, span_cons}
use Rattle.list_jumps.proofs.Over.{skip_front, skip_back, all_free}

-- a part reads back as its records
pub recs_part : (part : List ℤ) (qs : List (Rec ℤ)) → part ≡ encode qs → recs (length part / 4) part ≡ qs
recs_part part qs e =
    let n : length part / 4 ≡ length qs = omega (arith, ap length e, length_encode digits digit_laws qs) in
    (λ i. recs (n i) ((e ∙ sym (append-nil (encode qs))) i)) ∙ recs_enc qs []

-- one turn: the track in front of those that were looked at
pub jump_turn : (rs : List (Rec ℤ)) (t u hi a b : ℤ) (part : List ℤ) (best : Option ℤ) → t ≡ u +ℤ pos 1 → u <ℤ hi → part ≡ encode (on_track u rs) → best ≡ collision_jump rs t hi a b
    → larger (extent_of (recs (length part / 4) part) a b) best ≡ collision_jump rs u hi a b
jump_turn rs t u hi a b part best e h p q =
    (λ i. larger (extent_of (recs_part part (on_track u rs) p i) a b) (q i))
    ∙ sym (ap (over (λ t j. larger (extent_of (on_track t rs) a b) j)) (span_cons u t hi (sym e) (omega signed)))

pub jump_none : (rs : List (Rec ℤ)) (t a b : ℤ) → collision_jump rs t t a b ≡ None
jump_none rs t a b = ap (over (λ t j. larger (extent_of (on_track t rs) a b) j)) (span_none t t (omega signed))

-- ---- tracks with no record

-- those from u on below v, where the records before k are below u and the others are not below v
no_record : {l : List ℤ} {n : ℕ} (u v : ℤ) (k : ℕ) → Split l n v k → ((i : ℕ) → i < k → track_no l i <ℤ u) → (t : ℤ) → u ≤ℤ t → t <ℤ v → on_track t (recs n l) ≡ []
no_record {l} {n} u v k s b t p q = none_on t n (track_no l) (start_no l) (end_no l) (λ i. nat_abs (state_no l i)) (λ i h. go i h (dec_lt i k))
  where
    go : (i : ℕ) → i < n → Dec (i < k) → same lt_z t (track_no l i) ≡ false
    go i h (yes x) = not_same t (track_no l i) (let y = b i x in omega signed)
    go i h (no x) = not_same₂ t (track_no l i) (let y = s.above i (omega arith) h in omega signed)

jump_skip : {l : List ℤ} {n : ℕ} (u v t₂ a b : ℤ) (k : ℕ) → u ≤ℤ v → Split l n v k → ((i : ℕ) → i < k → track_no l i <ℤ u) → collision_jump (recs n l) u t₂ a b ≡ collision_jump (recs n l) v t₂ a b
jump_skip {l} {n} u v t₂ a b k h s f =
    skip_front (λ t j. larger (extent_of (on_track t (recs n l)) a b) j) u v t₂ h (λ t p q j. ap (λ (r : List (Rec ℤ)). larger (extent_of r a b) j) (no_record u v k s f t p q))

-- ---- the crossed tracks from behind

pub in_order : {l : List ℤ} {first past : ℕ} → Crosses l first past → first ≤ past
in_order {l} {first} {past} x = go (dec_lt past first)
  where
    go : Dec (past < first) → first ≤ past
    go (no h) = omega arith
    go (yes h) = let a = x.begins.below past h in let b = x.ends.above past (omega arith) (omega (arith, x.begins.within)) in let o = x.order in absurd (omega signed)

-- the jump over the tracks from `line` on, before which the first k records stand
pub record SoFar (l : List ℤ) (n : ℕ) (t₁ t₂ a b : ℤ) (k : ℕ) (best : Option ℤ) : Type 0 where
  pub line : ℤ
  pub low : t₁ ≤ℤ line
  pub high : line ≤ℤ t₂
  pub split : Split l n line k
  pub jump : best ≡ collision_jump (recs n l) line t₂ a b

pub start_far : (l : List ℤ) (n : ℕ) (t₁ t₂ a b : ℤ) (k : ℕ) → t₁ ≤ℤ t₂ → Split l n t₂ k → SoFar l n t₁ t₂ a b k None
start_far l n t₁ t₂ a b k h s = record { line = t₂; low = h; high = omega signed; split = s; jump = sym (jump_none (recs n l) t₂ a b) }

module _ {l : List ℤ} {n : ℕ} {t₁ t₂ a b : ℤ} {k from : ℕ} {best : Option ℤ} (f : Front l n) (v : SoFar l n t₁ t₂ a b k best) (s : Split l n t₁ from) (h : from < k) where
  -- the next track is one of those that are crossed
  pub next_low : t₁ ≤ℤ track_no l (k - 1)
  next_low = s.above (k - 1) (omega arith) (omega (arith, v.split.within))

  pub next_before : (i : ℕ) → i < from → track_no l i <ℤ track_no l (k - 1)
  next_before i q = let x = s.below i q in let y = next_low in omega signed

  pub next_front : Front l k
  next_front = record { room = omega (arith, f.room, v.split.within); each = λ i q. f.each i (omega (arith, v.split.within)) }

  pub next_part : {part : List ℤ} → Tail l from k part → Part l n (track_no l (k - 1)) part
  next_part w = record {
    from = w.at;
    to = k;
    order = w.begins.within;
    begins = record { within = omega (arith, w.begins.within, v.split.within); below = w.begins.below; above = λ i p q. go i p q (dec_lt i k) };
    ends = record {
      within = v.split.within;
      below = λ i p. let x = sorted f i (k - 1) (omega arith) (omega (arith, v.split.within)) in omega signed;
      above = λ i p q. let x = v.split.above i p q in let y = v.split.below (k - 1) (omega arith) in omega signed;
    };
    cut = w.cut;
  }
    where
      go : (i : ℕ) → w.at ≤ i → i < n → Dec (i < k) → track_no l (k - 1) ≤ℤ track_no l i
      go i p q (yes x) = w.begins.above i p x
      go i p q (no x) = sorted f (k - 1) i (omega arith) q

  pub next_at : {part : List ℤ} (w : Tail l from k part) → length part / 4 + w.at ≡ k
  next_at {part} w = omega (arith, ap length w.cut, length-take-le (4 * k - 4 * w.at) (drop (4 * w.at) l) (omega (arith, length-drop (4 * w.at) l, f.room, v.split.within)), w.begins.within)

  pub next_less : {part : List ℤ} (w : Tail l from k part) → w.at < k
  next_less w = go (dec_lt w.at k)
    where
      go : Dec (w.at < k) → w.at < k
      go (yes x) = x
      go (no x) = let y = w.begins.below (k - 1) (omega arith) in absurd (omega signed)

  pub next_far : {part : List ℤ} {more : Option ℤ} → Holds l n → Tail l from k part → more ≡ larger (extent_of (recs (length part / 4) part) a b) best → SoFar l n t₁ t₂ a b (k - length part / 4) more
  unfolding next_part
  next_far {part} o w m =
      let u : ℤ = track_no l (k - 1) in
      let p = next_part w in
      let x = v.split.below (k - 1) (omega arith) in
      let y = v.high in
      let e : w.at ≡ k - length part / 4 = omega (arith, next_at w) in
      let j : best ≡ collision_jump (recs n l) (u +ℤ pos 1) t₂ a b = v.jump ∙ sym (jump_skip (u +ℤ pos 1) v.line t₂ a b k (omega signed) v.split p.ends.below) in
      record {
        line = u;
        low = next_low;
        high = omega signed;
        split = subst (λ (m : ℕ). Split l n u m) e p.begins;
        jump = m ∙ jump_turn (recs n l) (u +ℤ pos 1) u t₂ a b part best refl (omega signed) (p.cut ∙ cut_is l n u (u +ℤ pos 1) p.from p.to o refl p.begins p.ends p.order) j;
      }

pub all_far : {l : List ℤ} {n : ℕ} {t₁ t₂ a b : ℤ} {k from : ℕ} {best : Option ℤ} → SoFar l n t₁ t₂ a b k best → Split l n t₁ from → k ≡ from → best ≡ collision_jump (recs n l) t₁ t₂ a b
all_far {l} {n} {t₁} {t₂} {a} {b} {k} {from} v s e = v.jump ∙ sym (jump_skip t₁ v.line t₂ a b k v.low v.split (λ i q. s.below i (omega arith)))

-- ---- one past the last non-empty track

or_free : (j : Option ℤ) → option_or j None ≡ j
or_free (Some e) = refl
or_free None = refl

some_on : (x : ℤ) (n : ℕ) (t a b : ℕ → ℤ) (s : ℕ → ℕ) (i : ℕ) → i < n → same lt_z x (t i) ≡ true → past_track (on_track x (rows n t a b s)) x ≡ Some (x +ℤ pos 1)
some_on x zero t a b s i h e = absurd (omega arith)
some_on x (suc n) t a b s zero h e = rw e
some_on x (suc n) t a b s (suc i) h e = go (test (same lt_z x (t 0))) (some_on x n (λ i. t (suc i)) (λ i. a (suc i)) (λ i. b (suc i)) (λ i. s (suc i)) i (omega arith) e)
  where
    go : Test (same lt_z x (t 0)) → past_track (on_track x (rows n (λ i. t (suc i)) (λ i. a (suc i)) (λ i. b (suc i)) (λ i. s (suc i)))) x ≡ Some (x +ℤ pos 1)
        → past_track (on_track x (rows (suc n) t a b s)) x ≡ Some (x +ℤ pos 1)
    go (yea q) r = rw q
    go (nay q) r = rw q r

module _ {l : List ℤ} {n : ℕ} (f : Front l n) where
  abbrev past : ℤ → Option ℤ → Option ℤ
  past t j = option_or j (past_track (on_track t (recs n l)) t)

  empty_past : (u v : ℤ) (k : ℕ) → Split l n v k → ((i : ℕ) → i < k → track_no l i <ℤ u) → (t : ℤ) → u ≤ℤ t → t <ℤ v → (j : Option ℤ) → past t j ≡ j
  empty_past u v k s b t p q j = ap (λ (r : List (Rec ℤ)). option_or j (past_track r t)) (no_record u v k s b t p q) ∙ or_free j

  pub occupied_none : (t₁ t₂ : ℤ) (k : ℕ) → Split l n t₂ k → ((i : ℕ) → i < k → track_no l i <ℤ t₁) → occupied_jump (recs n l) t₁ t₂ ≡ None
  occupied_none t₁ t₂ k s b = all_free past t₁ t₂ (empty_past t₁ t₂ k s b)

  up_to : (m : ℕ) (a u : ℤ) → gap a u ≤ m → a ≤ℤ u → past u None ≡ Some (u +ℤ pos 1) → over past (span a (u +ℤ pos 1)) ≡ Some (u +ℤ pos 1)
  up_to zero a u g h e =
      let q : a ≡ u = omega signed in
      rw q (ap (over past) (span_cons u (u +ℤ pos 1) (u +ℤ pos 1) refl (omega (signed, sum u (pos 1)))) ∙ ap (past u) (ap (over past) (span_none (u +ℤ pos 1) (u +ℤ pos 1) (omega (signed, sum u (pos 1))))) ∙ e)
  up_to (suc m) a u g h e = go (dec_lt 0 (gap a u)) (λ x y. up_to m (a +ℤ pos 1) u x y e)
    where
      go : Dec (0 < gap a u) → (gap (a +ℤ pos 1) u ≤ m → (a +ℤ pos 1) ≤ℤ u → over past (span (a +ℤ pos 1) (u +ℤ pos 1)) ≡ Some (u +ℤ pos 1)) → over past (span a (u +ℤ pos 1)) ≡ Some (u +ℤ pos 1)
      go (no x) r = let q : a ≡ u = omega signed in
          rw q (ap (over past) (span_cons u (u +ℤ pos 1) (u +ℤ pos 1) refl (omega (signed, sum u (pos 1)))) ∙ ap (past u) (ap (over past) (span_none (u +ℤ pos 1) (u +ℤ pos 1) (omega (signed, sum u (pos 1))))) ∙ e)
      go (yes x) r = ap (over past) (span_cons a (a +ℤ pos 1) (u +ℤ pos 1) refl (omega (signed, sum u (pos 1)))) ∙ ap (past a) (r (omega (signed, sum a (pos 1))) (omega signed))

  pub occupied_some : (t₁ t₂ : ℤ) (k m : ℕ) → Split l n t₂ k → k ≡ suc m → t₁ ≤ℤ track_no l m → occupied_jump (recs n l) t₁ t₂ ≡ Some (track_no l m +ℤ pos 1)
  occupied_some t₁ t₂ k m s e h =
      let x = s.below m (omega arith) in
      let last : (i : ℕ) → i < k → track_no l i <ℤ (track_no l m +ℤ pos 1) = λ i q. let y = sorted f i m (omega arith) (omega (arith, s.within)) in omega signed in
      skip_back past t₁ (track_no l m +ℤ pos 1) t₂ (omega signed) (empty_past (track_no l m +ℤ pos 1) t₂ k s last)
      ∙ up_to (gap t₁ (track_no l m)) t₁ (track_no l m) (omega arith) h (some_on (track_no l m) n (track_no l) (start_no l) (end_no l) (λ i. nat_abs (state_no l i)) m (omega (arith, s.within)) (is_same (track_no l m) (track_no l m) (omega signed) (omega signed)))
