-- The checks 1 to 6 of a request in plain terms: a number is given exactly for its reason.
use Rattle.std.specs.Prelude.{Some, None, Option}
use mathlib.Core.Path.{◌≡◌, refl, sym, ap, ◌∙◌, subst}
use mathlib.Core.Bool.{Bool, true, false, not, cond, ◌&&◌, ◌||◌}
use mathlib.Core.List.{List, ◌∷◌}
use mathlib.Core.Logic.{◌⊎◌, inl, inr}
use Prim.Native.Nat.{ℕ, zero, suc, ◌+◌, ◌*◌, ◌/◌, ◌<◌, ◌%◌}
use native.Mathlib.Omega.{arith}
use borrow.Author.Tests.{ltb-true, ltb-false, leb-true, eqb-true, eqb-false, lt-ltb, le-ltb, le-leb, eq-eqb}
use lib.Dec.{eqb, leb, ltb}
use lib.IntN.{ℤ}
use lib.ListN.{length, get_or, drop}
use Rattle.theory_intervals.proofs.Grid.{and_i}
use Rattle.grid_track_counts.specs.declared.TrackCounts.{TrackCounts}
use Rattle.grid_track_counts.specs.Counts.{Sound, counts_good}
use Rattle.grid_track_counts.proofs.Promises.{good_sound}
use Rattle.theory_walk.specs.Axis.{Both}
use Rattle.theory_walk.specs.Search.{or_else}
use Rattle.theory_walk.specs.Request.{Request, Refusal, Half, good_item, no, bad_from, halves, item_count, length_good, checked}
use Rattle.theory_walk.proofs.Tests.{clash, and_true, or_true, or_false, not-true, not-false}
use Rattle.theory_walk.proofs.Checks as W
use Rattle.placing_request.specs.Items.{item_at}
use Rattle.placing_request.proofs.ItemLemmas.{halves_at, bad_pass, bad_here, bad_none, good_at}
use Rattle.hoarbale_placing.specs.Calls.{ItemsRight, CountsRight, LengthRight, ListsRight, FirstBad, Broken, flow_unknown, items_wrong, counts_outside, answers_short, length_wrong, item_bad, Passes}

-- ---- a test that is false exactly where X holds

record Tells (b : Bool) (X : Type 0) : Type 0 where
  pub right : b ≡ false → X
  pub wrong : b ≡ true → X → ⊥

is_right : {b : Bool} {X : Type 0} → Tells b X → X → b ≡ false
is_right {b = true} t x = absurd (t.wrong refl x)
is_right {b = false} t x = refl

is_wrong : {b : Bool} {X : Type 0} → Tells b X → (X → ⊥) → b ≡ true
is_wrong {b = true} t f = refl
is_wrong {b = false} t f = absurd (f (t.right refl))

sound_good : (t : TrackCounts) → Sound t → counts_good t ≡ true
unfolding counts_good
sound_good t s = and_i (le-leb t.negative 10000 s.before) (le-leb (t.explicit + t.positive) 10000 s.after)

good_length : (n : ℕ) → length_good n ≡ true → LengthRight n
unfolding length_good
good_length n e =
    let h = and_true (eqb (n % 4) 0) (leb n 1048576) e in
    record { fours = eqb-true (n % 4) 0 h.0; most = leb-true n 1048576 h.1 }

length_good_lem : (n : ℕ) → LengthRight n → length_good n ≡ true
unfolding length_good
length_good_lem n h = and_i (eq-eqb (n % 4) 0 h.fours) (le-leb n 1048576 h.most)

module _ (q : Request) where
  abbrev t₁ : Bool
  t₁ = ltb 3 q.flow

  abbrev t₂ : Bool
  t₂ = not (eqb (length q.items % 6) 0) || ltb 2000 (item_count q)

  abbrev t₃ : Bool
  t₃ = not (counts_good q.counts.columns && counts_good q.counts.rows)

  abbrev t₄ : Bool
  t₄ = ltb q.answers (5 * item_count q)

  abbrev t₅ : Bool
  t₅ = not (length_good q.lists.columns && length_good q.lists.rows)

  abbrev t₆ : Option ℕ
  t₆ = bad_from 0 (halves q.items)

  items_tell : Tells t₂ (ItemsRight q)
  items_tell = record { right = λ e. right e; wrong = λ e x. wrong x (or_true (not (eqb (length q.items % 6) 0)) (ltb 2000 (item_count q)) e) }
    where
      right : t₂ ≡ false → ItemsRight q
      right e =
          let h = or_false (not (eqb (length q.items % 6) 0)) (ltb 2000 (item_count q)) e in
          record {
            sixes = eqb-true (length q.items % 6) 0 (not-false (eqb (length q.items % 6) 0) h.0);
            few = ltb-false 2000 (item_count q) h.1;
          }

      wrong : ItemsRight q → (not (eqb (length q.items % 6) 0) ≡ true) ⊎ (ltb 2000 (item_count q) ≡ true) → ⊥
      wrong x (inl k) = eqb-false (length q.items % 6) 0 (not-true (eqb (length q.items % 6) 0) k) x.sixes
      wrong x (inr k) = let h = ltb-true 2000 (item_count q) k in let f = x.few in omega arith

  counts_tell : Tells t₃ (CountsRight q)
  counts_tell =
      let a = counts_good q.counts.columns in
      let b = counts_good q.counts.rows in
      record {
        right = λ e. let h = and_true a b (not-false (a && b) e) in record { columns = good_sound q.counts.columns h.0; rows = good_sound q.counts.rows h.1 };
        wrong = λ e x. clash (and_i (sound_good q.counts.columns x.columns) (sound_good q.counts.rows x.rows)) (not-true (a && b) e);
      }

  lists_tell : Tells t₅ (ListsRight q)
  lists_tell =
      let a = length_good q.lists.columns in
      let b = length_good q.lists.rows in
      record {
        right = λ e. let h = and_true a b (not-false (a && b) e) in record { columns = good_length q.lists.columns h.0; rows = good_length q.lists.rows h.1 };
        wrong = λ e x. clash (and_i (length_good_lem q.lists.columns x.columns) (length_good_lem q.lists.rows x.rows)) (not-true (a && b) e);
      }

-- ---- the first bad item

record Found (d : Both Half) (k : ℕ) (xs : List (Both Half)) (i : ℕ) : Type 0 where
  pub place : ℕ
  pub is : i ≡ k + place
  pub below : place < length xs
  pub bad : good_item (get_or xs place d) ≡ false
  pub before : (j : ℕ) → j < place → good_item (get_or xs j d) ≡ true

found : (d : Both Half) {k : ℕ} {xs : List (Both Half)} {i : ℕ} → W.FirstBad k xs i → Found d k xs i
found d (W.bad_here e) = record { place = 0; is = omega arith; below = omega arith; bad = e; before = λ j h. absurd (let z : ⊥ = omega arith in z) }
found d (W.bad_later {x} {xs} e f) =
    let r = found d f in
    record { place = suc r.place; is = omega (arith, r.is); below = omega (arith, r.below); bad = r.bad; before = λ j h. go r.place r.before j h }
  where
    go : (p : ℕ) → ((j : ℕ) → j < p → good_item (get_or xs j d) ≡ true) → (j : ℕ) → j < suc p → good_item (get_or (x ∷ xs) j d) ≡ true
    go p f zero h = e
    go p f (suc j) h = f j (omega arith)

first_bad : (q : Request) (i : ℕ) → bad_from 0 (halves q.items) ≡ Some i → FirstBad q i
first_bad q i e =
    let d = item_at q.items i in
    let r = found d (W.bad_first 0 (halves q.items) i e) in
    let p : r.place ≡ i = omega (arith, r.is) in
    let h : i < item_count q = omega (arith, r.below, W.halves_length q.items) in
    record {
      below = h;
      bad = ap good_item (sym (halves_at q.items i d h)) ∙ subst (λ (n : ℕ). good_item (get_or (halves q.items) n d) ≡ false) p r.bad;
      before = λ j g. ap good_item (sym (halves_at q.items j d (omega arith))) ∙ r.before j (omega arith);
    }

bad_from_lem : (l : List ℤ) (i m j : ℕ) → j + m ≡ i → i < length l / 6 → good_item (item_at l i) ≡ false → ((k : ℕ) → k < i → good_item (item_at l k) ≡ true) → bad_from j (drop j (halves l)) ≡ Some i
bad_from_lem l i zero j e h b g = let p : j ≡ i = omega arith in rw p (bad_here l i h b)
bad_from_lem l i (suc m) j e h b g = bad_pass l j (omega arith) (g j (omega arith)) ∙ bad_from_lem l i m (j + 1) (omega arith) h b g

none_from : (l : List ℤ) (m j : ℕ) → j + m ≡ length l / 6 → ((k : ℕ) → k < length l / 6 → good_item (item_at l k) ≡ true) → bad_from j (drop j (halves l)) ≡ None
none_from l zero j e g = bad_none l j (omega arith)
none_from l (suc m) j e g = bad_pass l j (omega arith) (g j (omega arith)) ∙ none_from l m (j + 1) (omega arith) g

-- ---- the ladder

abbrev steps : Bool → Bool → Bool → Bool → Bool → Option ℕ → Option Refusal
steps a b c d e o = cond a (no 1 0) (cond b (no 2 0) (cond c (no 3 0) (cond d (no 4 0) (cond e (no 5 0) (or_else o (λ i. no 6 i) None)))))

checked_ladder : (q : Request) → checked q ≡ steps (t₁ q) (t₂ q) (t₃ q) (t₄ q) (t₅ q) (t₆ q)
unfolding checked
checked_ladder q = refl

no_some : {A : Type 0} {x : Refusal} → Some x ≡ None → A
no_some e = let z : ◌≡◌ {A = ℕ} 0 1 = cc in absurd (omega arith)

-- "Given exactly when", 1 to 6
pub checked_broken : (q : Request) (n i : ℕ) → checked q ≡ Some (record { number = n; index = i }) → Broken q n i
checked_broken q n i e =
    go (t₁ q) refl (t₂ q) refl (t₃ q) refl (t₄ q) refl (t₅ q) refl (t₆ q) refl (sym (checked_ladder q) ∙ e)
  where
    same : {x : Refusal} → Some x ≡ Some (record { number = n; index = i }) → Broken q x.number x.index → Broken q n i
    same {x} h b = let z : x ≡ record { number = n; index = i } = cc in subst (λ (y : Refusal). Broken q y.number y.index) z b

    go : (a : Bool) → t₁ q ≡ a → (b : Bool) → t₂ q ≡ b → (c : Bool) → t₃ q ≡ c → (d : Bool) → t₄ q ≡ d → (f : Bool) → t₅ q ≡ f → (o : Option ℕ) → t₆ q ≡ o
        → steps a b c d f o ≡ Some (record { number = n; index = i }) → Broken q n i
    go true p b r c s d t f u o v h = same h (flow_unknown (ltb-true 3 q.flow p))
    go false p true r c s d t f u o v h = same h (items_wrong (ltb-false 3 q.flow p) ((items_tell q).wrong r))
    go false p false r true s d t f u o v h = same h (counts_outside (ltb-false 3 q.flow p) ((items_tell q).right r) ((counts_tell q).wrong s))
    go false p false r false s true t f u o v h =
        same h (answers_short (ltb-false 3 q.flow p) ((items_tell q).right r) ((counts_tell q).right s) (ltb-true q.answers (5 * item_count q) t))
    go false p false r false s false t true u o v h =
        same h (length_wrong (ltb-false 3 q.flow p) ((items_tell q).right r) ((counts_tell q).right s) (ltb-false q.answers (5 * item_count q) t) ((lists_tell q).wrong u))
    go false p false r false s false t false u (Some j) v h =
        same h
        (item_bad {i = j} (ltb-false 3 q.flow p) ((items_tell q).right r) ((counts_tell q).right s) (ltb-false q.answers (5 * item_count q) t) ((lists_tell q).right u) (first_bad q j v))
    go false p false r false s false t false u None v h = no_some (sym h)

pub broken_checked : (q : Request) {n i : ℕ} → Broken q n i → checked q ≡ Some (record { number = n; index = i })
broken_checked q (flow_unknown a) = checked_ladder q ∙ (λ t. steps (lt-ltb 3 q.flow a t) (t₂ q) (t₃ q) (t₄ q) (t₅ q) (t₆ q))
broken_checked q (items_wrong a b) = checked_ladder q ∙ (λ t. steps (le-ltb 3 q.flow a t) (is_wrong (items_tell q) b t) (t₃ q) (t₄ q) (t₅ q) (t₆ q))
broken_checked q (counts_outside a b c) =
    checked_ladder q ∙ (λ t. steps (le-ltb 3 q.flow a t) (is_right (items_tell q) b t) (is_wrong (counts_tell q) c t) (t₄ q) (t₅ q) (t₆ q))
broken_checked q (answers_short a b c d) =
    checked_ladder q ∙ (λ t. steps (le-ltb 3 q.flow a t) (is_right (items_tell q) b t) (is_right (counts_tell q) c t) (lt-ltb q.answers (5 * item_count q) d t) (t₅ q) (t₆ q))
broken_checked q (length_wrong a b c d e) =
    checked_ladder q
    ∙ (λ t. steps (le-ltb 3 q.flow a t) (is_right (items_tell q) b t) (is_right (counts_tell q) c t) (le-ltb q.answers (5 * item_count q) d t) (is_wrong (lists_tell q) e t) (t₆ q))
broken_checked q (item_bad {i} a b c d e f) =
    let o = bad_from_lem q.items i i 0 (omega arith) f.below f.bad f.before in
    checked_ladder q
    ∙ (λ t. steps (le-ltb 3 q.flow a t) (is_right (items_tell q) b t) (is_right (counts_tell q) c t) (le-ltb q.answers (5 * item_count q) d t) (is_right (lists_tell q) e t) (o t))

-- and none of them
pub checked_passes : (q : Request) → checked q ≡ None → Passes q
checked_passes q e = go (t₁ q) refl (t₂ q) refl (t₃ q) refl (t₄ q) refl (t₅ q) refl (t₆ q) refl (sym (checked_ladder q) ∙ e)
  where
    go : (a : Bool) → t₁ q ≡ a → (b : Bool) → t₂ q ≡ b → (c : Bool) → t₃ q ≡ c → (d : Bool) → t₄ q ≡ d → (f : Bool) → t₅ q ≡ f → (o : Option ℕ) → t₆ q ≡ o → steps a b c d f o ≡ None → Passes q
    go true p b r c s d t f u o v h = no_some h
    go false p true r c s d t f u o v h = no_some h
    go false p false r true s d t f u o v h = no_some h
    go false p false r false s true t f u o v h = no_some h
    go false p false r false s false t true u o v h = no_some h
    go false p false r false s false t false u (Some j) v h = no_some h
    go false p false r false s false t false u None v h =
        record {
          flow = ltb-false 3 q.flow p;
          items = (items_tell q).right r;
          counts = (counts_tell q).right s;
          answers = ltb-false q.answers (5 * item_count q) t;
          lists = (lists_tell q).right u;
          each = λ i g. good_at q.items i v g;
        }

pub passes_checked : (q : Request) → Passes q → checked q ≡ None
passes_checked q h =
    let o = none_from q.items (item_count q) 0 (omega arith) h.each in
    checked_ladder q
    ∙ (λ t. steps (le-ltb 3 q.flow h.flow t) (is_right (items_tell q) h.items t) (is_right (counts_tell q) h.counts t) (le-ltb q.answers (5 * item_count q) h.answers t) (is_right (lists_tell q) h.lists t) (o t))
