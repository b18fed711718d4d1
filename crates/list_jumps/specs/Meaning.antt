-- What the promises say of the list calls: of the cells that have a state, and of the lists that keep the rules.
use Rattle.std.specs.Prelude.{◌≡◌, true, List, ◌≢◌, ℕ, length, ℤ, pos, ◌+ℤ◌, ◌-ℤ◌, ◌≤ℤ◌, ◌<ℤ◌}
use Rattle.theory_intervals.specs.Records.{Rec}
use Rattle.theory_intervals.specs.OverInt.{cell_of, flat}
use Rattle.theory_intervals.specs.Lists.{rules}

-- l is n records that keep the rules, laid flat, and zeros
pub record IsFlatOf (l : List ℤ) (n : ℕ) : Type 0 where
  pub records : List (Rec ℤ)
  pub count : length records ≡ n
  pub keep : rules records ≡ true
  pub laid : l ≡ flat (length l) records

-- an area that has a cell with a state
pub record Taken (rs : List (Rec ℤ)) (t₁ t₂ a b : ℤ) : Type 0 where
  pub track : ℤ
  pub line : ℤ
  pub low : t₁ ≤ℤ track
  pub high : track <ℤ t₂
  pub from : a ≤ℤ line
  pub to : line <ℤ b
  pub state : cell_of rs track line ≢ 0

-- the area over the lines a..b is taken, and so is each as wide from any line before e; e is a line past a
pub record Collides (rs : List (Rec ℤ)) (t₁ t₂ a b e : ℤ) : Type 0 where
  pub past : a <ℤ e
  pub inside : e ≤ℤ pos 10000
  pub again : (p : ℤ) → a ≤ℤ p → p <ℤ e → Taken rs t₁ t₂ p (p +ℤ (b -ℤ a))

-- no cell on a track of the span has a state
abbrev pub IsClear : List (Rec ℤ) → ℤ → ℤ → Type 0
IsClear rs t₁ t₂ = (t p : ℤ) → t₁ ≤ℤ t → t <ℤ t₂ → cell_of rs t p ≡ 0

-- e is one past the last track of the span that has a cell with a state
pub record LastTrack (rs : List (Rec ℤ)) (t₁ t₂ e : ℤ) : Type 0 where
  pub track : ℤ
  pub is : e ≡ track +ℤ pos 1
  pub low : t₁ ≤ℤ track
  pub high : track <ℤ t₂
  pub line : ℤ
  pub state : cell_of rs track line ≢ 0
  pub rest : IsClear rs e t₂
