-- What a paint through the call gives and leaves, and what a series of them leaves.
use Rattle.std.specs.Prelude.{Result, Ok, Err}
use mathlib.Core.Path.{◌≡◌, refl, sym, ap, ◌∙◌, subst}
use mathlib.Core.Bool.{Bool, true, false, cond}
use mathlib.Core.List.{List, [], ◌∷◌, ◌++◌}
use mathlib.Core.Logic.{◌↔◌}
use Prim.Native.Nat.{ℕ, ◌*◌, ◌≤◌, ◌%◌}
use native.Mathlib.Omega.{arith}
use borrow.Author.Tests.{leb-true, leb-false, le-leb, lt-leb, eq-eqb}
use lib.ListN.{length, replicate, length-replicate}
use lib.IntN.{ℤ, pos}
use Rattle.theory_intervals.specs.Records.{Rec, Area, area}
use Rattle.theory_intervals.specs.OverInt.{cell_of, state_at, keeps, fit, decode, flat, is_flat, digits, paint_list}
use Rattle.theory_intervals.specs.Lists.{rules, all_in, area_in, good_length, kept, used, good_area}
use Rattle.theory_intervals.proofs.Grid.{and_l, and_r, and_i}
use Rattle.theory_intervals.proofs.Line.{no_both}
use Rattle.theory_intervals.proofs.Flat as Fl
use Rattle.theory_intervals.proofs.OverInt.{digit_laws, paint_list_cell, unique, flat_canonical}
use Rattle.theory_intervals.proofs.Limits.{paint_list_rules}
use Rattle.theory_intervals.proofs.Lists.{flat_holds, flat_recs, empty_holds, holds_kept, holds_decode, holds_room, kept_holds}
use Rattle.hoarbale_lists.specs.Lists.{checked_of, room, paint_of, paint_answer, left_by, paint_left}
use Rattle.hoarbale_placing.specs.Series.{paint_all, noted, accepted_on, over_cell, Fits, Why, length_wrong, rules_broken, area_bad, no_room, is_room}
use Rattle.refusals.specs.declared.Refusal.{Refusal}
use Rattle.refusals.specs.declared.Refusal.TheVariants as R

-- ---- the answer by four tests

abbrev answer_by : Bool → Bool → Bool → Bool → Result Unit Refusal
answer_by a b c d = cond a (cond b (cond c (cond d (Ok tt) (Err R.ShortList)) (Err R.BadArea)) (Err R.BrokenList)) (Err R.WrongListLength)

by_tests : (l : List ℤ) (x : Area ℤ) → paint_answer l x ≡ answer_by (good_length l) (kept l) (good_area x) (room l x)
unfolding paint_answer checked_of
by_tests l x = go (good_length l) (kept l)
  where
    go : (a b : Bool) → paint_of l x (cond a (cond b (Ok (used l)) (Err R.BrokenList)) (Err R.WrongListLength)) ≡ answer_by a b (good_area x) (room l x)
    go true true = refl
    go true false = refl
    go false b = refl

abbrev is_painted : Result Unit Refusal → Bool
is_painted (Ok u) = true
is_painted (Err e) = false

pub not_painted : {X : Type 0} {r : Refusal} → ◌≡◌ {A = Result Unit Refusal} (Err r) (Ok tt) → X
not_painted e = no_both (ap is_painted e) refl

module _ (l : List ℤ) (x : Area ℤ) where
  abbrev need : ℕ
  need = 4 * length (paint_list x (decode l))

  tested : (a b c d : Bool) → good_length l ≡ a → kept l ≡ b → good_area x ≡ c → room l x ≡ d → Why l x (answer_by a b c d)
  tested false b c d p q r s = length_wrong p
  tested true false c d p q r s = rules_broken p q
  tested true true false d p q r s = area_bad p q r
  tested true true true false p q r s = no_room p q r (leb-false need (length l) s)
  tested true true true true p q r s = is_room p q r (leb-true need (length l) s)

  pub why : Why l x (paint_answer l x)
  why = subst (Why l x) (sym (by_tests l x)) (tested (good_length l) (kept l) (good_area x) (room l x) refl refl refl refl)

  pub because : {r : Result Unit Refusal} → Why l x r → paint_answer l x ≡ r
  because (length_wrong p) = by_tests l x ∙ ap (λ a. answer_by a (kept l) (good_area x) (room l x)) p
  because (rules_broken p q) = by_tests l x ∙ (λ i. answer_by (p i) (q i) (good_area x) (room l x))
  because (area_bad p q r) = by_tests l x ∙ (λ i. answer_by (p i) (q i) (r i) (room l x))
  because (no_room p q r s) = by_tests l x ∙ (λ i. answer_by (p i) (q i) (r i) (lt-leb need (length l) s i))
  because (is_room p q r s) = by_tests l x ∙ (λ i. answer_by (p i) (q i) (r i) (le-leb need (length l) s i))

  -- what a painted area was
  pub record Accepted : Type 0 where
    pub long : good_length l ≡ true
    pub keep : kept l ≡ true
    pub good : good_area x ≡ true
    pub fits : need ≤ length l

  pub painted_why : paint_answer l x ≡ Ok tt → Accepted
  painted_why e = go (why) e
    where
      go : {r : Result Unit Refusal} → Why l x r → r ≡ Ok tt → Accepted
      go (length_wrong p) h = not_painted h
      go (rules_broken p q) h = not_painted h
      go (area_bad p q r) h = not_painted h
      go (no_room p q r s) h = not_painted h
      go (is_room p q r s) h = record { long = p; keep = q; good = r; fits = s }

  -- what is left
  pub left_of : (r : Result Unit Refusal) → paint_answer l x ≡ r → paint_left l x ≡ left_by l x r
  unfolding paint_left
  left_of r e = ap (left_by l x) e

-- ---- the records of a painted list

pub paint_rules : (x : Area ℤ) (rs : List (Rec ℤ)) → good_area x ≡ true → rules rs ≡ true → rules (paint_list x rs) ≡ true
paint_rules (area t₁ t₂ a b s) rs g k = paint_list_rules t₁ t₂ a b s rs g k

pub paint_cells : (x : Area ℤ) (rs : List (Rec ℤ)) → good_area x ≡ true → rules rs ≡ true → (t p : ℤ) → cell_of (paint_list x rs) t p ≡ over_cell x t p (cell_of rs t p)
paint_cells (area t₁ t₂ a b s) rs g k = paint_list_cell t₁ t₂ a b s rs (and_l (fit (area t₁ t₂ a b s)) (area_in (area t₁ t₂ a b s)) g) (and_l (keeps rs) (all_in rs) k)

pub over_state : (x : Area ℤ) (h : List (Area ℤ)) (t p : ℤ) → over_cell x t p (state_at h t p) ≡ state_at (x ∷ h) t p
over_state (area t₁ t₂ a b s) h t p = refl

pub of_kept : (l : List ℤ) → kept l ≡ true → rules (decode l) ≡ true
of_kept l k = and_r (is_flat l) (rules (decode l)) k

-- lists of one length that keep the rules are one list exactly when all cells agree
pub same_cells : (l m : List ℤ) → kept l ≡ true → kept m ≡ true → length l ≡ length m → l ≡ m ↔ ((t p : ℤ) → cell_of (decode l) t p ≡ cell_of (decode m) t p)
same_cells l m h k e =
    flat_canonical l m (and_l (is_flat l) (rules (decode l)) h) (and_l (is_flat m) (rules (decode m)) k) e
    (and_l (keeps (decode l)) (all_in (decode l)) (of_kept l h))
    (and_l (keeps (decode m)) (all_in (decode m)) (of_kept m k))

module _ (l : List ℤ) (x : Area ℤ) (k : kept l ≡ true) (g : good_area x ≡ true) where
  abbrev rs : List (Rec ℤ)
  rs = paint_list x (decode l)

  -- where there is room, the list that is left is one that fits
  pub room_fits : 4 * length rs ≤ length l → Fits l x
  room_fits r =
      let h = flat_holds (length l) rs (paint_rules x (decode l) g (of_kept l k)) r in
      let d : decode (flat (length l) rs) ≡ rs = holds_decode h ∙ flat_recs (length l) rs in
      record {
        list = flat (length l) rs;
        long = Fl.length_flat digits digit_laws (length l) rs r;
        keep = holds_kept h;
        cells = λ t p. ap (λ (q : List (Rec ℤ)). cell_of q t p) d ∙ paint_cells x (decode l) g (of_kept l k) t p;
      }

  -- and where some list fits, its records are those of the paint, so that there is room
  pub fits_records : (f : Fits l x) → decode f.list ≡ rs
  fits_records f =
      let m = f.list in
      let u = of_kept m f.keep in
      let v = paint_rules x (decode l) g (of_kept l k) in
      unique (decode m) rs (and_l (keeps (decode m)) (all_in (decode m)) u) (and_l (keeps rs) (all_in rs) v)
      (λ t p. f.cells t p ∙ sym (paint_cells x (decode l) g (of_kept l k) t p))

  pub fits_room : Fits l x → 4 * length rs ≤ length l
  fits_room f =
      let h = holds_room (kept_holds f.list f.keep) in
      omega (arith, ap length (fits_records f), f.long)

-- the same of an area that was painted
pub painted_fits : (l : List ℤ) (x : Area ℤ) → paint_answer l x ≡ Ok tt → (f : Fits l x) × (paint_left l x ≡ f.list)
unfolding room_fits
painted_fits l x e = let a = painted_why l x e in (room_fits l x a.keep a.good a.fits, left_of l x (Ok tt) e)

-- ---- a series of paints

-- l has n numbers and keeps the rules, and its cells are those of the areas h, newest first
pub record Is (n : ℕ) (l : List ℤ) (h : List (Area ℤ)) : Type 0 where
  pub long : length l ≡ n
  pub keep : kept l ≡ true
  pub cells : (t p : ℤ) → cell_of (decode l) t p ≡ state_at h t p

pub none_is : (n : ℕ) → Is n (replicate n (pos 0)) []
none_is n =
    let h = empty_holds n in
    record { long = length-replicate n (pos 0); keep = holds_kept h; cells = λ t p. ap (λ (rs : List (Rec ℤ)). cell_of rs t p) (holds_decode h) }

one_more : (n : ℕ) (l : List ℤ) (x : Area ℤ) (h : List (Area ℤ)) → Is n l h → Is n (paint_left l x) (noted (paint_answer l x) x h)
one_more n l x h i = go (paint_answer l x) refl
  where
    go : (r : Result Unit Refusal) → paint_answer l x ≡ r → Is n (paint_left l x) (noted r x h)
    go (Err m) e = subst (λ (y : List ℤ). Is n y h) (sym (left_of l x (Err m) e)) i
    go (Ok u) e =
        let (f, q) = painted_fits l x e in
        let j : Is n f.list (x ∷ h) = record {
          long = f.long ∙ i.long;
          keep = f.keep;
          cells = λ t p. f.cells t p ∙ ap (over_cell x t p) (i.cells t p) ∙ over_state x h t p;
        } in
        subst (λ (y : List ℤ). Is n y (x ∷ h)) (sym q) j

pub all_is : (n : ℕ) (xs : List (Area ℤ)) (l : List ℤ) (h : List (Area ℤ)) → Is n l h → Is n (paint_all l xs) (accepted_on l h xs)
all_is n [] l h i = i
all_is n (x ∷ xs) l h i = all_is n xs (paint_left l x) (noted (paint_answer l x) x h) (one_more n l x h i)

-- one more area behind a series
pub all_snoc : (xs : List (Area ℤ)) (l : List ℤ) (x : Area ℤ) → paint_all l (xs ++ (x ∷ [])) ≡ paint_left (paint_all l xs) x
all_snoc [] l x = refl
all_snoc (y ∷ xs) l x = all_snoc xs (paint_left l y) x

pub accepted_snoc : (xs : List (Area ℤ)) (l : List ℤ) (h : List (Area ℤ)) (x : Area ℤ) → accepted_on l h (xs ++ (x ∷ [])) ≡ noted (paint_answer (paint_all l xs) x) x (accepted_on l h xs)
accepted_snoc [] l h x = refl
accepted_snoc (y ∷ xs) l h x = accepted_snoc xs (paint_left l y) (noted (paint_answer l y) y h) x

pub length_good_lem : (n : ℕ) (l : List ℤ) → n % 4 ≡ 0 → n ≤ 1048576 → length l ≡ n → good_length l ≡ true
length_good_lem n l a b e = and_i (eq-eqb (length l % 4) 0 (ap (λ (m : ℕ). m % 4) e ∙ a)) (le-leb (length l) 1048576 (omega arith))
