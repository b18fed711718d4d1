-- Flat lists that hold records, at the integers: what `Holds` says by `decode`, by places and by `kept`, and that it fixes the list.
use mathlib.Core.Path.{◌≡◌, refl, sym, ap, ◌∙◌, subst}
use mathlib.Core.Bool.{true, ◌&&◌}
use mathlib.Core.List.{List, [], ◌∷◌, ◌++◌}
use Prim.Native.Nat.{ℕ, zero, suc, ◌+◌, ◌-◌, ◌*◌, ◌≤◌, ◌<◌}
use native.Mathlib.Omega.{arith}
use lib.ListN.{length, take, drop, replicate, length-append, length-replicate}
use lib.Seq.{take_at, drop_at}
use lib.IntN.{ℤ, pos, negsuc}
use lib.Signed.{lt_z, le_z, ◌≤ℤ◌}
use Rattle.theory_signed.proofs.Laws.{signed}
use Rattle.theory_intervals.specs.Records.{Rec, rec}
use Rattle.theory_intervals.specs.Flat.{rows}
use Rattle.theory_intervals.specs.OverInt.{ok, cell_of, keeps, digits, encode, decode, flat, is_flat}
use Rattle.theory_intervals.specs.Lists.{in_grid, all_in, rules, recs, Holds, used, kept}
use Rattle.theory_intervals.proofs.Grid.{and_l, and_r, and_i, and₃}
use Rattle.theory_intervals.proofs.Flat as Fl
use Rattle.theory_intervals.proofs.Index.{flat_rows_step}
use Rattle.theory_intervals.proofs.OverInt.{digit_laws, unique}

-- ---- the limits of a record

pub record InGrid (t a b : ℤ) : Type 0 where
  pub t_lo : negsuc 9999 ≤ℤ t
  pub t_hi : t ≤ℤ pos 9999
  pub lo : negsuc 9999 ≤ℤ a
  pub hi : b ≤ℤ pos 10000

pub in_is : (t a b : ℤ) (s : ℕ) → in_grid (rec t a b s) ≡ true → InGrid t a b
in_is t a b s h =
    let j = and₃ (le_z (negsuc 9999) t) (le_z t (pos 9999)) (le_z (negsuc 9999) a && le_z b (pos 10000)) h in
    let x = j.0 in
    let y = j.1 in
    let z = and_l (le_z (negsuc 9999) a) (le_z b (pos 10000)) j.2 in
    let w = and_r (le_z (negsuc 9999) a) (le_z b (pos 10000)) j.2 in
    record { t_lo = omega signed; t_hi = omega signed; lo = omega signed; hi = omega signed }

pub is_in : (t a b : ℤ) (s : ℕ) → InGrid t a b → in_grid (rec t a b s) ≡ true
is_in t a b s g =
    let x : le_z (negsuc 9999) t ≡ true = omega signed in
    let y : le_z t (pos 9999) ≡ true = omega signed in
    let z : le_z (negsuc 9999) a ≡ true = omega signed in
    let w : le_z b (pos 10000) ≡ true = omega signed in
    rw (x, y, z, w)

pub all_in_lem : (n : ℕ) (t a b : ℕ → ℤ) (s : ℕ → ℕ) → ((i : ℕ) → i < n → in_grid (rec (t i) (a i) (b i) (s i)) ≡ true) → all_in (rows n t a b s) ≡ true
all_in_lem zero t a b s h = refl
all_in_lem (suc n) t a b s h = and_i (h 0 (omega arith)) (all_in_lem n (λ i. t (suc i)) (λ i. a (suc i)) (λ i. b (suc i)) (λ i. s (suc i)) (λ i k. h (suc i) (omega arith)))

pub in_all : (n : ℕ) (t a b : ℕ → ℤ) (s : ℕ → ℕ) → all_in (rows n t a b s) ≡ true → (i : ℕ) → i < n → in_grid (rec (t i) (a i) (b i) (s i)) ≡ true
in_all zero t a b s h i k = absurd (omega arith)
in_all (suc n) t a b s h zero k = and_l (in_grid (rec (t 0) (a 0) (b 0) (s 0))) (all_in (rows n (λ i. t (suc i)) (λ i. a (suc i)) (λ i. b (suc i)) (λ i. s (suc i)))) h
in_all (suc n) t a b s h (suc i) k =
    in_all n (λ i. t (suc i)) (λ i. a (suc i)) (λ i. b (suc i)) (λ i. s (suc i))
    (and_r (in_grid (rec (t 0) (a 0) (b 0) (s 0))) (all_in (rows n (λ i. t (suc i)) (λ i. a (suc i)) (λ i. b (suc i)) (λ i. s (suc i)))) h) i (omega arith)

-- ---- the records of a flat list

pub length_rows : {Z : Type 0} (n : ℕ) (t a b : ℕ → Z) (s : ℕ → ℕ) → length (rows n t a b s) ≡ n
length_rows zero t a b s = refl
length_rows (suc n) t a b s = ap suc (length_rows n (λ i. t (suc i)) (λ i. a (suc i)) (λ i. b (suc i)) (λ i. s (suc i)))

pub length_recs : (n : ℕ) (l : List ℤ) → length (recs n l) ≡ n
length_recs n l = length_rows n _ _ _ _

pub recs_enc : (rs : List (Rec ℤ)) (z : List ℤ) → recs (length rs) (encode rs ++ z) ≡ rs
recs_enc [] z = refl
recs_enc (rec t a b s ∷ rs) z = flat_rows_step digits (length rs) t a b (pos s) (encode rs ++ z) ∙ ap (λ (r : List (Rec ℤ)). rec t a b s ∷ r) (recs_enc rs z)

pub flat_recs : (m : ℕ) (rs : List (Rec ℤ)) → recs (length rs) (flat m rs) ≡ rs
flat_recs m rs = recs_enc rs (replicate (m - length (encode rs)) (pos 0))

-- ---- records that keep the rules, laid out where they fit

pub flat_holds : (m : ℕ) (rs : List (Rec ℤ)) → rules rs ≡ true → 4 * length rs ≤ m → Holds (flat m rs) (length rs)
flat_holds m rs h k =
    let e = flat_recs m rs in
    record { keep = ap rules e ∙ h; laid = sym (λ i. flat (Fl.length_flat digits digit_laws m rs k i) (e i)) }

-- a list that is zero holds nothing
pub empty_holds : (m : ℕ) → Holds (replicate m (pos 0)) 0
empty_holds m = let e : m - 0 ≡ m = omega arith in subst (λ (k : ℕ). Holds (replicate k (pos 0)) 0) e (flat_holds m [] refl (omega arith))

-- ---- a list that holds n records

live_of : (rs : List (Rec ℤ)) → rules rs ≡ true → Fl.live digits rs ≡ true
live_of rs h = Fl.keeps_live lt_z ok refl digits rs (and_l (keeps rs) (all_in rs) h)

length_enc : (n : ℕ) (l : List ℤ) → length (encode (recs n l)) ≡ 4 * n
length_enc n l = omega (arith, Fl.length_encode digits digit_laws (recs n l), length_recs n l)

pub holds_room : {l : List ℤ} {n : ℕ} → Holds l n → 4 * n ≤ length l
holds_room {l} {n} h =
    let k = length l - length (encode (recs n l)) in
    let e : length l ≡ length (encode (recs n l)) + k = ap length h.laid ∙ length-append (encode (recs n l)) (replicate k (pos 0)) ∙ ap (λ (m : ℕ). length (encode (recs n l)) + m) (length-replicate k (pos 0)) in
    omega (arith, length_enc n l)

pub holds_decode : {l : List ℤ} {n : ℕ} → Holds l n → decode l ≡ recs n l
holds_decode {l} {n} h = ap decode h.laid ∙ Fl.decode_encode digits digit_laws (recs n l) (length l - length (encode (recs n l))) (live_of (recs n l) h.keep)

-- the used places and the others
pub holds_used : {l : List ℤ} {n : ℕ} → Holds l n → take (4 * n) l ≡ encode (recs n l)
holds_used {l} {n} h = ap (take (4 * n)) h.laid ∙ take_at (encode (recs n l)) (replicate (length l - length (encode (recs n l))) (pos 0)) (4 * n) (length_enc n l)

pub holds_zeros : {l : List ℤ} {n : ℕ} → Holds l n → drop (4 * n) l ≡ replicate (length l - 4 * n) (pos 0)
holds_zeros {l} {n} h =
    ap (drop (4 * n)) h.laid ∙ drop_at (encode (recs n l)) (replicate (length l - length (encode (recs n l))) (pos 0)) (4 * n) (length_enc n l)
    ∙ ap (λ (k : ℕ). replicate (length l - k) (pos 0)) (length_enc n l)

-- the test says so, and the count is the list's own
pub holds_kept : {l : List ℤ} {n : ℕ} → Holds l n → kept l ≡ true
holds_kept {l} {n} h =
    let f : is_flat l ≡ true = ap is_flat h.laid ∙ Fl.flat_is digits digit_laws (recs n l) (length l - length (encode (recs n l))) (live_of (recs n l) h.keep) in
    and_i f (ap rules (holds_decode h) ∙ h.keep)

pub holds_count : {l : List ℤ} {n : ℕ} → Holds l n → used l ≡ n
holds_count {l} {n} h = ap length (holds_decode h) ∙ length_recs n l

pub holds_one : {l : List ℤ} {n m : ℕ} → Holds l n → Holds l m → n ≡ m
holds_one h k = sym (holds_count h) ∙ holds_count k

pub kept_holds : (l : List ℤ) → kept l ≡ true → Holds l (used l)
kept_holds l h =
    let rs = decode l in
    let (k, p) = Fl.parts digits digit_laws l (and_l (is_flat l) (rules rs) h) in
    let e : recs (length rs) l ≡ rs = ap (recs (length rs)) p ∙ recs_enc rs (replicate k (pos 0)) in
    let y : length l ≡ length (encode rs) + k = ap length p ∙ length-append (encode rs) (replicate k (pos 0)) ∙ ap (λ (m : ℕ). length (encode rs) + m) (length-replicate k (pos 0)) in
    let q : k ≡ length l - length (encode rs) = omega arith in
    record {
      keep = ap rules e ∙ and_r (is_flat l) (rules rs) h;
      laid = p ∙ ap (λ (m : ℕ). encode rs ++ replicate m (pos 0)) q ∙ sym (ap (flat (length l)) e);
    }

-- its length and its cells leave no choice
pub holds_unique : {l m : List ℤ} {n k : ℕ} → Holds l n → Holds m k → length l ≡ length m → ((t p : ℤ) → cell_of (recs n l) t p ≡ cell_of (recs k m) t p) → l ≡ m
holds_unique {l} {m} {n} {k} h j e c =
    let u = unique (recs n l) (recs k m) (and_l (keeps (recs n l)) (all_in (recs n l)) h.keep) (and_l (keeps (recs k m)) (all_in (recs k m)) j.keep) c in
    h.laid ∙ (λ i. flat (e i) (u i)) ∙ sym j.laid
