-- "Numbers given instead of an answer": document 01's number and index of a refusal.
use Rattle.std.specs.Prelude.{ℕ, cond, eqb, Result, Ok, Err}
use Rattle.refusals.specs.declared.Refusal.{Refusal}
use Rattle.refusals.specs.declared.Refusal.TheVariants as R

abbrev pub number : Refusal → ℕ
number R.UnknownFlow = 1
number R.WrongItemNumbers = 2
number R.CountsOutsideLimits = 3
number R.ShortAnswers = 4
number R.WrongListLength = 5
number (R.BadItem i) = 6
number (R.ShortRowList i) = 7
number (R.ShortColumnList i) = 8
number R.ShortList = 7
number R.BrokenList = 9
number R.BadArea = 10
number R.BadLine = 11
number R.NotAFile = 12

-- of an answer, 0 where it is no refusal
abbrev pub number_of : {A : Type 0} → Result A Refusal → ℕ
number_of (Ok x) = 0
number_of (Err e) = number e

-- "Where no index is named it is 0"
abbrev pub index : Refusal → ℕ
index R.UnknownFlow = 0
index R.WrongItemNumbers = 0
index R.CountsOutsideLimits = 0
index R.ShortAnswers = 0
index R.WrongListLength = 0
index (R.BadItem i) = i
index (R.ShortRowList i) = i
index (R.ShortColumnList i) = i
index R.ShortList = 0
index R.BrokenList = 0
index R.BadArea = 0
index R.BadLine = 0
index R.NotAFile = 0

-- the refusal of a placement run, or of a file, that has a number and an index
abbrev pub numbered : ℕ → ℕ → Refusal
numbered n i =
    cond (eqb n 1) R.UnknownFlow
    (cond (eqb n 2) R.WrongItemNumbers
    (cond (eqb n 3) R.CountsOutsideLimits
    (cond (eqb n 4) R.ShortAnswers
    (cond (eqb n 5) R.WrongListLength
    (cond (eqb n 6) (R.BadItem i)
    (cond (eqb n 7) (R.ShortRowList i)
    (cond (eqb n 8) (R.ShortColumnList i) R.NotAFile)))))))
