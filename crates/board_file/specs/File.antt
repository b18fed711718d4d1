-- A file placed: refusal 12, or the outcome of the request that the file tells.
use Rattle.std.specs.Prelude.{◌≡◌, cond, ◌&&◌, List, ◌++◌, ℕ, ◌*◌, leb, ℤ, length, get_or, drop, Result, Ok, Err}
use Rattle.theory_walk.specs.Request.{Request, Outcome, refused, outcome, answers_left, rows_left, columns_left}
use Rattle.placing_request.specs.Items.{request_of}
use Rattle.placing_run.specs.Placing.{placing_of}
use Rattle.refusals.specs.declared.Refusal as R
use Rattle.placing_run.specs.declared.checked.Placed.{Placed}
use Rattle.board_bytes.specs.File.{word_at, counts_at, items_in, good_file}
use Rattle.board_file.specs.declared.PlacedFile.{PlacedFile}

-- ---- "Refusal 12 is judged before 1 to 6"

-- the request that a file tells, with the lengths of the answer buffer, the column list and the row list
abbrev pub request_in : List ℕ → ℕ → ℕ → ℕ → Request
request_in bs a c r = request_of (get_or bs 5 0) (counts_at bs 6) (counts_at bs 12) (items_in bs) a c r

unfoldable pub file_outcome : List ℕ → ℕ → ℕ → ℕ → Outcome
file_outcome bs a c r = cond (good_file bs) (outcome (request_in bs a c r)) (refused 12 0)

-- as it is answered: with the item count
abbrev pub answer_of : ℕ → Result Placed R.Refusal → Result PlacedFile R.Refusal
answer_of n (Err x) = Err x
answer_of n (Ok p) = Ok (record { count = n; columns = p.columns; rows = p.rows })

-- refusal 12 leaves all "unchanged"
unfoldable pub file_answers_left : List ℕ → ℕ → ℕ → ℕ → List ℤ → List ℤ
file_answers_left bs a c r old = cond (good_file bs) (answers_left (request_in bs a c r) old (outcome (request_in bs a c r))) old

unfoldable pub file_rows_left : List ℕ → ℕ → ℕ → ℕ → List ℤ → List ℤ
file_rows_left bs a c r old = cond (good_file bs) (rows_left (request_in bs a c r) old (outcome (request_in bs a c r))) old

unfoldable pub file_columns_left : List ℕ → ℕ → ℕ → ℕ → List ℤ → List ℤ
file_columns_left bs a c r old = cond (good_file bs) (columns_left (request_in bs a c r) old (outcome (request_in bs a c r))) old

-- the buffer for item numbers holds those of a good file of at most 2000 items, and then what it held
unfoldable pub file_items_left : List ℕ → List ℤ → List ℤ
file_items_left bs old = cond (good_file bs && leb (word_at bs 18) 2000) (items_in bs ++ drop (6 * word_at bs 18) old) old

-- what a file's placement gives and leaves: the answer, and the buffers' numbers of before and of after
pub record FilePlaced (bs : List ℕ) (is zs rs cs : List ℤ) (r : Result PlacedFile R.Refusal) (is₂ zs₂ rs₂ cs₂ : List ℤ) : Type 0 where
  pub told : r ≡ answer_of (word_at bs 18) (placing_of (file_outcome bs (length zs) (length cs) (length rs)))
  pub items : is₂ ≡ file_items_left bs is
  pub answers : zs₂ ≡ file_answers_left bs (length zs) (length cs) (length rs) zs
  pub rows : rs₂ ≡ file_rows_left bs (length zs) (length cs) (length rs) rs
  pub columns : cs₂ ≡ file_columns_left bs (length zs) (length cs) (length rs) cs
