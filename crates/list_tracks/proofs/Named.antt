-- The list that an axis names, and its records of a track, by the tests of the code.
use Rattle.std.specs.Prelude.{None, Option, Some, ℕ}
use mathlib.Core.Path.{◌≡◌, sym, subst}
use mathlib.Core.Bool.{true, false}
use mathlib.Core.List.{List, []}
use Prim.Native.Nat.{ℕ}
use native.Mathlib.Omega.{arith}
use lib.IntN.{ℤ}
use Rattle.theory_intervals.specs.OverInt.{encode}
use Rattle.theory_intervals.specs.Lists.{recs, good_length, on_track, Holds, used, kept}
use Rattle.theory_intervals.proofs.Line.{Test, yea, nay, test}
use Rattle.theory_intervals.proofs.Lists.{kept_holds, holds_kept, holds_count}
use Rattle.list_rules.specs.Kept.{kept_of}
use Rattle.list_tracks.specs.Tracks.{part_of, track_of}

-- the answer of the rules check, and what the list holds
pub records_holds : {l : List ℤ} {n : ℕ} → kept_of l ≡ Some n → Holds l n
unfolding kept_of
records_holds {l} {n} e = go (test (kept l))
  where
    go : Test (kept l) → Holds l n
    go (yea q) = let i : Some (used l) ≡ Some n = rw q at e in let j : used l ≡ n = cc in subst (λ (k : ℕ). Holds l k) j (kept_holds l q)
    go (nay q) = let i : None ≡ Some n = rw q at e in let z : ◌≡◌ {A = ℕ} 0 1 = cc in absurd (omega arith)

pub holds_records : {l : List ℤ} {n : ℕ} → Holds l n → kept_of l ≡ Some n
unfolding kept_of
holds_records h = rw (holds_kept h, holds_count h)

module _ (l : List ℤ) (t : ℤ) where
  pub not_taken : good_length l ≡ false → [] ≡ track_of l t
  not_taken e = rw e

  is_part : good_length l ≡ true → (k : Option ℕ) → kept_of l ≡ k → track_of l t ≡ part_of l t k
  is_part e k q = rw (e, q)

  pub part_none : good_length l ≡ true → kept_of l ≡ None → [] ≡ track_of l t
  part_none e q = sym (is_part e None q)

  pub part_some : good_length l ≡ true → (n : ℕ) → kept_of l ≡ Some n → encode (on_track t (recs n l)) ≡ track_of l t
  part_some e n q = sym (is_part e (Some n) q)
