-- A list of records as a flat list of numbers, four to a record: "Unused places are zero and come last".
use Rattle.std.specs.Prelude.{Bool, true, cond, ◌&&◌, List, [], ◌∷◌, ◌++◌, ℕ, zero, suc, ◌+◌, ◌-◌, ◌*◌, length, replicate, get_or}
use Rattle.theory_intervals.specs.Records.{Rec, rec}

-- how a number is 0, and how it is a state
pub record Digits (Z : Type 0) : Type 0 where
  pub o : Z
  pub is_o : Z → Bool
  pub st : ℕ → Z
  pub st_of : Z → ℕ
  pub is_st : Z → Bool

-- record i is T i, A i, B i, S i: the first n
abbrev pub rows : {Z : Type 0} → ℕ → (ℕ → Z) → (ℕ → Z) → (ℕ → Z) → (ℕ → ℕ) → List (Rec Z)
rows zero T A B S = []
rows (suc n) T A B S = rec (T 0) (A 0) (B 0) (S 0) ∷ rows n (λ i. T (suc i)) (λ i. A (suc i)) (λ i. B (suc i)) (λ i. S (suc i))

module _ {Z : Type 0} (D : Digits Z) where
  -- "track line, start, end, state"
  abbrev pub encode : List (Rec Z) → List Z
  encode [] = []
  encode (rec t a b s ∷ rs) = t ∷ a ∷ b ∷ D.st s ∷ encode rs

  -- a flat list of n numbers, where there is room for the records
  abbrev pub flat : ℕ → List (Rec Z) → List Z
  flat n rs = encode rs ++ replicate (n - length (encode rs)) D.o

  -- the records before the first group of four whose state is 0
  abbrev pub decode : List Z → List (Rec Z)
  decode [] = []
  decode (t ∷ []) = []
  decode (t ∷ a ∷ []) = []
  decode (t ∷ a ∷ b ∷ []) = []
  decode (t ∷ a ∷ b ∷ s ∷ zs) = cond (D.is_o s) [] (rec t a b (D.st_of s) ∷ decode zs)

  abbrev pub zeros : List Z → Bool
  zeros [] = true
  zeros (z ∷ zs) = D.is_o z && zeros zs

  -- nothing but zeros from the first group whose state is 0 on
  abbrev pub is_flat : List Z → Bool
  is_flat [] = true
  is_flat (t ∷ []) = zeros (t ∷ [])
  is_flat (t ∷ a ∷ []) = zeros (t ∷ a ∷ [])
  is_flat (t ∷ a ∷ b ∷ []) = zeros (t ∷ a ∷ b ∷ [])
  is_flat (t ∷ a ∷ b ∷ s ∷ zs) = cond (D.is_o s) (zeros (t ∷ a ∷ b ∷ s ∷ zs)) (D.is_st s && is_flat zs)

-- the first n records of a flat list, by their places
abbrev pub flat_rows : {Z : Type 0} → Digits Z → ℕ → List Z → List (Rec Z)
flat_rows D n zs = rows n (λ i. get_or zs (4 * i) D.o) (λ i. get_or zs (4 * i + 1) D.o) (λ i. get_or zs (4 * i + 2) D.o) (λ i. D.st_of (get_or zs (4 * i + 3) D.o))
