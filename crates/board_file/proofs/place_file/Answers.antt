-- `place_file` meets its contract.
use mathlib.Core.Path.{◌≡◌, ap, ◌∙◌}
use mathlib.Core.Bool.{true, false}
use mathlib.Core.Logic.{◌⊎◌, inl, inr}
use mathlib.Core.List.{List}
use Prim.Native.Nat.{ℕ}
use native.Mathlib.Omega.{arith}
use lib.ListN.{length}
use Rattle.placing_run.specs.Placing.{placing_of}
use Rattle.refusals.specs.declared.Refusal.{Refusal}
use Rattle.refusals.specs.declared.Refusal.TheVariants.{NotAFile}
use Rattle.board_bytes.specs.declared.header.Head.{Head}
use Rattle.board_bytes.specs.File.{word_at, head_of, good_file, header_of}
use Rattle.board_file.specs.File.{file_outcome, answer_of}
use Rattle.board_bytes.proofs.Judged.{header_refused, header_good, head_count}
use Rattle.board_file.proofs.Judged.{no_file}
use Rattle.std.specs.Prelude.{Result, Ok, Err}
use Rattle.board_file.proofs.place_file.Goals as goal

-- what a header read tells: of a good file its head, and of another the refusal
judged : (bs : List ℕ) (x : Result Head Refusal) → x ≡ header_of bs → ((good_file bs ≡ true) × (x ≡ Ok (head_of bs))) ⊎ ((good_file bs ≡ false) × (x ≡ Err NotAFile))
judged bs (Ok h) e = let g = header_good bs h e in inl (g.0, ap Ok g.1)
judged bs (Err r) e = let g = header_refused bs r e in inr (g.0, ap Err g.1)

pub place_good-requires-clause-bytes_value : goal.place_good-requires-clause-bytes_value
place_good-requires-clause-bytes_value c =
    let j = judged c.args.bytes.now _ c.read_header.ensures in
    grind arith

pub place_good-requires-clause-head_value : goal.place_good-requires-clause-head_value
place_good-requires-clause-head_value c =
    let j = judged c.args.bytes.now _ c.read_header.ensures in
    grind arith

pub returns-in_err-head : goal.returns-in_err-head
returns-in_err-head c =
    let a = c.args in
    let bs = a.bytes.now in
    let j = judged bs _ c.read_header.ensures in
    let g : good_file bs ≡ false = grind arith in
    let t : c.from_residual.result ≡ Err NotAFile = grind arith in
    let q = no_file bs (length a.answers.now) (length a.column_list.now) (length a.row_list.now) (word_at bs 18) a.items.now a.answers.now a.row_list.now a.column_list.now g in
    record { told = t ∙ q.0; items = q.1.0; answers = q.1.1.0; rows = q.1.1.1.0; columns = q.1.1.1.1 }

pub returns : goal.returns
returns c =
    let a = c.args in
    let bs = a.bytes.now in
    let j = judged bs _ c.read_header.ensures in
    let g : c.in_ok-head.head ≡ head_of bs = grind arith in
    let o = file_outcome bs (length a.answers.now) (length a.column_list.now) (length a.row_list.now) in
    let q = c.place_good.ensures in
    record {
      told = q.value ∙ ap (λ (n : ℕ). answer_of n (placing_of o)) (head_count bs _ g);
      items = q.after;
      answers = q.answers_after;
      rows = q.row_list_after;
      columns = q.column_list_after;
    }
