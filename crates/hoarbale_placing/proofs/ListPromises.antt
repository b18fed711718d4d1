-- What is promised of the list calls, of every list and every area that may be given.
use Rattle.std.specs.Prelude.{None, Option, Some, Result, Ok, Err, ℤ}
use mathlib.Core.Path.{◌≡◌, refl, sym, ap, ◌∙◌, subst}
use mathlib.Core.Bool.{Bool, true, false, cond, ◌&&◌}
use mathlib.Core.List.{List, [], ◌∷◌, ◌++◌}
use mathlib.Core.Logic.{◌↔◌, ◌⊎◌, inl, inr}
use Prim.Native.Nat.{ℕ, ◌*◌, ◌≤◌, ◌%◌}
use native.Mathlib.Omega.{arith}
use lib.ListN.{length, replicate}
use lib.IntN.{ℤ, pos}
use lib.Signed.{lt_z, ◌<ℤ◌}
use Rattle.theory_signed.proofs.Laws.{signed}
use Rattle.theory_intervals.specs.Records.{Area}
use Rattle.theory_intervals.specs.OverInt.{cell_of, state_at, decode, paint_list}
use Rattle.theory_intervals.specs.Lists.{good_length, kept, used, good_area, Free}
use Rattle.theory_intervals.proofs.Line.{no_both}
use Rattle.list_jumps.specs.Calls.{collision_jump, occupied_jump}
use Rattle.list_jumps.specs.Meaning.{Collides, IsClear, LastTrack}
use Rattle.list_jumps.proofs.Promises as Occ
use Rattle.hoarbale_lists.specs.Lists.{checked_of, paint_answer, paint_left, collision_of, collision_answer, occupied_of, occupied_answer}
use Rattle.hoarbale_placing.specs.Series.{series, accepted, noted, over_cell, Fits, Why, length_wrong, rules_broken, area_bad, no_room, is_room}
use Rattle.refusals.specs.declared.Refusal.{Refusal}
use Rattle.refusals.specs.declared.Refusal.TheVariants as R
use Rattle.refusals.specs.Numbers.{number_of}
use Rattle.hoarbale_placing.proofs.Outcome as O
use Rattle.hoarbale_placing.proofs.Outcome.{Is, why, because, left_of, same_cells, of_kept}

-- ---- one paint, on any list

-- "Given exactly when": an answer is given exactly for its reason, so there is one answer for every list and area
pub given_exactly : (l : List ℤ) (x : Area ℤ) (r : Result Unit Refusal) → paint_answer l x ≡ r ↔ Why l x r
given_exactly l x r = ((λ e. subst (Why l x) e (why l x)), (λ w. because l x w))

-- "For every input, one result and one set of lent contents is allowed": what the contract says of the call leaves no choice
pub one_outcome : (l : List ℤ) (x : Area ℤ) {r r' : Result Unit Refusal} {y y' : List ℤ} → (r ≡ paint_answer l x) × (y ≡ paint_left l x) → (r' ≡ paint_answer l x) × (y' ≡ paint_left l x) → (r ≡ r') × (y ≡ y')
one_outcome l x a b = (a.0 ∙ sym b.0, a.1 ∙ sym b.1)

-- "Left behind": "unchanged"
pub refused_unchanged : (l : List ℤ) (x : Area ℤ) (k : Refusal) → paint_answer l x ≡ Err k → paint_left l x ≡ l
refused_unchanged l x k e = left_of l x (Err k) e

-- a painted area gives its state to its own cells, and the others keep theirs
pub painted_cells : (l : List ℤ) (x : Area ℤ) → paint_answer l x ≡ Ok tt → (t p : ℤ) → cell_of (decode (paint_left l x)) t p ≡ over_cell x t p (cell_of (decode l) t p)
painted_cells l x e t p = let (f, q) = O.painted_fits l x e in ap (λ (m : List ℤ). cell_of (decode m) t p) q ∙ f.cells t p

-- "its records fit": there is room exactly if some list of that length keeps the rules and has the cells that the paint asks for
pub fits_exactly : (l : List ℤ) (x : Area ℤ) → kept l ≡ true → good_area x ≡ true → Fits l x ↔ (4 * length (paint_list x (decode l)) ≤ length l)
fits_exactly l x k g = (O.fits_room l x k g, O.room_fits l x k g)

-- "any two that satisfy a statement are proved identical": that list is the one that the paint leaves
pub one_list : (l : List ℤ) (x : Area ℤ) → paint_answer l x ≡ Ok tt → (f : Fits l x) → f.list ≡ paint_left l x
one_list l x e f =
    let (g, q) = O.painted_fits l x e in
    (same_cells f.list g.list f.keep g.keep (f.long ∙ sym g.long)).1 (λ t p. f.cells t p ∙ sym (g.cells t p)) ∙ sym q

-- ---- any series of areas, good and bad, painted on an empty list of n numbers

module _ (n : ℕ) where
  is : (xs : List (Area ℤ)) → Is n (series n xs) (accepted n xs)
  is xs = O.all_is n xs (replicate n (pos 0)) [] (O.none_is n)

  -- the list rules hold after every series, and the list's length stays
  pub rules_hold : (xs : List (Area ℤ)) → (kept (series n xs) ≡ true) × (length (series n xs) ≡ n)
  rules_hold xs = ((is xs).keep, (is xs).long)

  -- "every cell has .. that of the last accepted area over it", or none
  pub cells_are : (xs : List (Area ℤ)) (t p : ℤ) → cell_of (decode (series n xs)) t p ≡ state_at (accepted n xs) t p
  cells_are xs = (is xs).cells

  -- "Two lists painted by any two series of areas are equal number for number exactly when every cell has the same state"
  pub lists_equal : (xs ys : List (Area ℤ)) → series n xs ≡ series n ys ↔ ((t p : ℤ) → state_at (accepted n xs) t p ≡ state_at (accepted n ys) t p)
  lists_equal xs ys =
      let i = is xs in
      let j = is ys in
      let q = same_cells (series n xs) (series n ys) i.keep j.keep (i.long ∙ sym j.long) in
      ((λ e t p. sym (i.cells t p) ∙ q.0 e t p ∙ j.cells t p), (λ c. q.1 (λ t p. i.cells t p ∙ c t p ∙ sym (j.cells t p))))

  -- a refused area "counts for nothing"
  pub counts_for_nothing : (xs : List (Area ℤ)) (x : Area ℤ) (k : Refusal) → paint_answer (series n xs) x ≡ Err k
      → (series n (xs ++ (x ∷ [])) ≡ series n xs) × (accepted n (xs ++ (x ∷ [])) ≡ accepted n xs)
  counts_for_nothing xs x k e = (
    O.all_snoc xs (replicate n (pos 0)) x ∙ refused_unchanged (series n xs) x k e,
    O.accepted_snoc xs (replicate n (pos 0)) [] x ∙ ap (λ (r : Result Unit Refusal). noted r x (accepted n xs)) e,
  )

  -- and an area that is painted is the newest of those accepted
  pub painted_counts : (xs : List (Area ℤ)) (x : Area ℤ) → paint_answer (series n xs) x ≡ Ok tt → accepted n (xs ++ (x ∷ [])) ≡ x ∷ accepted n xs
  painted_counts xs x e = O.accepted_snoc xs (replicate n (pos 0)) [] x ∙ ap (λ (r : Result Unit Refusal). noted r x (accepted n xs)) e

-- ---- where the length is one that is taken

refused_as : {e k : Refusal} → ◌≡◌ {A = Result Unit Refusal} (Err e) (Err k) → k ≡ e
refused_as {e} {k} h = let i : e ≡ k = cc in sym i

module _ (n : ℕ) (fours : n % 4 ≡ 0) (most : n ≤ 1048576) where
  good : (xs : List (Area ℤ)) → good_length (series n xs) ≡ true
  good xs = O.length_good_lem n (series n xs) fours most (is n xs).long

  -- "an area is refused only if it is bad or its records don't fit": 5 and 9 do not arise
  pub refused_only : (xs : List (Area ℤ)) (x : Area ℤ) (k : Refusal) → paint_answer (series n xs) x ≡ Err k
      → ((k ≡ R.BadArea) × (good_area x ≡ false)) ⊎ ((k ≡ R.ShortList) × ((good_area x ≡ true) × (Fits (series n xs) x → ⊥)))
  refused_only xs x k e = go (why (series n xs) x) e
    where
      go : {r : Result Unit Refusal} → Why (series n xs) x r → r ≡ Err k → ((k ≡ R.BadArea) × (good_area x ≡ false)) ⊎ ((k ≡ R.ShortList) × ((good_area x ≡ true) × (Fits (series n xs) x → ⊥)))
      go (length_wrong p) h = no_both (good xs) p
      go (rules_broken p q) h = no_both (is n xs).keep q
      go (area_bad p q r) h = inl (refused_as h, r)
      go (no_room p q r s) h = inr (refused_as h, (r, (λ f. let z = O.fits_room (series n xs) x q r f in omega arith)))
      go (is_room p q r s) h = O.not_painted (sym h)

  -- "a good area whose records fit is painted", and no other
  pub painted_if : (xs : List (Area ℤ)) (x : Area ℤ) → paint_answer (series n xs) x ≡ Ok tt ↔ ((good_area x ≡ true) × Fits (series n xs) x)
  painted_if xs x = (
    (λ e. ((O.painted_why (series n xs) x e).good, (O.painted_fits (series n xs) x e).0)),
    (λ h. because (series n xs) x (is_room (good xs) (is n xs).keep h.0 (O.fits_room (series n xs) x (is n xs).keep h.0 h.1))),
  )

-- ---- the jumps

-- "Other calls use the numbers that apply, smallest first": 5, 9, 10, or none, which is 0
abbrev pub number_by : Bool → Bool → Bool → ℕ
number_by a b c = cond a (cond b (cond c 0 10) 9) 5

told : (c : Bool) (j : Option ℤ) → number_of (cond c (Ok j) (Err R.BadArea)) ≡ cond c 0 10
told true j = refl
told false j = refl

pub collision_refused : (l : List ℤ) (t₁ t₂ a b : ℤ) → number_of (collision_answer l t₁ t₂ a b) ≡ number_by (good_length l) (kept l) (lt_z t₁ t₂ && lt_z a b)
unfolding collision_answer checked_of
collision_refused l t₁ t₂ a b = go (good_length l) (kept l)
  where
    go : (x y : Bool) → number_of (collision_of l t₁ t₂ a b (cond x (cond y (Ok (used l)) (Err R.BrokenList)) (Err R.WrongListLength))) ≡ number_by x y (lt_z t₁ t₂ && lt_z a b)
    go true true = told (lt_z t₁ t₂ && lt_z a b) (collision_jump (decode l) t₁ t₂ a b)
    go true false = refl
    go false y = refl

pub occupied_refused : (l : List ℤ) (t₁ t₂ : ℤ) → number_of (occupied_answer l t₁ t₂) ≡ number_by (good_length l) (kept l) (lt_z t₁ t₂)
unfolding occupied_answer checked_of
occupied_refused l t₁ t₂ = go (good_length l) (kept l)
  where
    go : (x y : Bool) → number_of (occupied_of l t₁ t₂ (cond x (cond y (Ok (used l)) (Err R.BrokenList)) (Err R.WrongListLength))) ≡ number_by x y (lt_z t₁ t₂)
    go true true = told (lt_z t₁ t₂) (occupied_jump (decode l) t₁ t₂)
    go true false = refl
    go false y = refl

jumped_as : {j k : Option ℤ} → ◌≡◌ {A = Result (Option ℤ) Refusal} (Ok j) (Ok k) → j ≡ k
jumped_as e = cc

-- of a list that passes the checks
module _ (l : List ℤ) (long : good_length l ≡ true) (keep : kept l ≡ true) where
  passed : checked_of l ≡ Ok (used l)
  unfolding checked_of
  passed = λ i. cond (long i) (cond (keep i) (Ok (used l)) (Err R.BrokenList)) (Err R.WrongListLength)

  module _ (t₁ t₂ : ℤ) (tracks : t₁ <ℤ t₂) where
    module _ (a b : ℤ) (lines : a <ℤ b) where
      collision_is : collision_answer l t₁ t₂ a b ≡ Ok (collision_jump (decode l) t₁ t₂ a b)
      unfolding collision_answer
      collision_is =
          let p : lt_z t₁ t₂ ≡ true = omega signed in
          let q : lt_z a b ≡ true = omega signed in
          ap (collision_of l t₁ t₂ a b) passed ∙ (λ i. cond (p i && q i) (Ok (collision_jump (decode l) t₁ t₂ a b)) (Err R.BadArea))

      -- "Collision jump: none if free": exactly when no cell of the area has a state
      pub collision_free : collision_answer l t₁ t₂ a b ≡ Ok None ↔ Free (decode l) t₁ t₂ a b
      collision_free =
          let q = Occ.none_if_free (decode l) (of_kept l keep) t₁ t₂ a b lines in
          ((λ e. q.0 (jumped_as (sym collision_is ∙ e))), (λ f. collision_is ∙ ap Ok (q.1 f)))

      -- "else the largest, over the crossed tracks, of the end of the last overlapping record": from the area's own start up to the jump every start
      -- collides
      pub collision_next : (e : ℤ) → collision_answer l t₁ t₂ a b ≡ Ok (Some e) → Collides (decode l) t₁ t₂ a b e
      collision_next e h = Occ.jump_collides (decode l) (of_kept l keep) t₁ t₂ a b e lines (jumped_as (sym collision_is ∙ h))

    occupied_is : occupied_answer l t₁ t₂ ≡ Ok (occupied_jump (decode l) t₁ t₂)
    unfolding occupied_answer
    occupied_is =
        let p : lt_z t₁ t₂ ≡ true = omega signed in
        ap (occupied_of l t₁ t₂) passed ∙ (λ i. cond (p i) (Ok (occupied_jump (decode l) t₁ t₂)) (Err R.BadArea))

    -- "Occupied-track jump: .. or none": exactly when no cell on a track of the span has a state
    pub occupied_clear : occupied_answer l t₁ t₂ ≡ Ok None ↔ IsClear (decode l) t₁ t₂
    occupied_clear =
        let q = Occ.none_if_clear (decode l) (of_kept l keep) t₁ t₂ in
        ((λ e. q.0 (jumped_as (sym occupied_is ∙ e))), (λ f. occupied_is ∙ ap Ok (q.1 f)))

    -- "one past the last non-empty track in a span"
    pub occupied_next : (e : ℤ) → occupied_answer l t₁ t₂ ≡ Ok (Some e) → LastTrack (decode l) t₁ t₂ e
    occupied_next e h = Occ.past_the_last (decode l) (of_kept l keep) t₁ t₂ e (jumped_as (sym occupied_is ∙ h))
