-- `place_good` meets its contract: too many items are refused as the door would, others are read and given to the door.
use Rattle.std.proofs.Common.{rules, Ok, Err}
use mathlib.Core.Path.{◌≡◌, ap, ◌∙◌}
use Prim.Native.Nat.{◌≤◌, ◌<◌}
use native.Mathlib.Omega.{arith}
use Rattle.std.proofs.lemmas.Bool.Decides.{nat_tests}
use lib.ListN.{length, get_or}
use Rattle.refusals.specs.declared.Refusal.{Refusal}
use Rattle.refusals.specs.declared.Refusal.TheVariants.{UnknownFlow}
use Rattle.board_bytes.proofs.Judged.{good_length, head_count, head_flow}
use Rattle.board_file.proofs.Judged.{same_request, flow_refused, count_refused, many_refused, read_whole, read_left, door}
use Rattle.board_file.proofs.place_good.Goals as goal

pub returns-in_err-try_from : goal.returns-in_err-try_from
returns-in_err-try_from c =
    let a = c.args in
    let bs = a.bytes.now in
    let g = c.requires.bytes_value in
    let h = c.requires.head_value in
    let r = c.in_err-try_from.field-0.0 in
    let e : c.from_residual.result ≡ Err r = search rules in
    let s = head_flow bs a.head h in
    let u : 3 < get_or bs 5 0 = grind (arith, nat_tests) in
    let v : r ≡ UnknownFlow = grind (arith, nat_tests) in
    let both = many_refused bs (length a.answers.now) (length a.column_list.now) (length a.row_list.now) g
    _ a.head.count _ _ _ _ (omega (arith, head_count bs a.head h, c.if-head-gt2000.true))
    (flow_refused bs (length a.answers.now) (length a.column_list.now) (length a.row_list.now) g u) in
    record { value = e ∙ ap (λ (x : Refusal). Err x) v ∙ both.0; after = both.1.0; answers_after = both.1.1.0; row_list_after = both.1.1.1.0; column_list_after = both.1.1.1.1 }

pub returns-then-head-gt2000 : goal.returns-then-head-gt2000
returns-then-head-gt2000 c =
    let a = c.args in
    let bs = a.bytes.now in
    let g = c.requires.bytes_value in
    let h = c.requires.head_value in
    let s = head_flow bs a.head h in
    let u : get_or bs 5 0 ≤ 3 = grind (arith, nat_tests) in
    let both = many_refused bs (length a.answers.now) (length a.column_list.now) (length a.row_list.now) g
    _ a.head.count _ _ _ _ (omega (arith, head_count bs a.head h, c.if-head-gt2000.true))
    (count_refused bs (length a.answers.now) (length a.column_list.now) (length a.row_list.now) g
    u (omega (arith, head_count bs a.head h, c.if-head-gt2000.true))) in
    record { value = both.0; after = both.1.0; answers_after = both.1.1.0; row_list_after = both.1.1.1.0; column_list_after = both.1.1.1.1 }

pub read_items-requires : goal.read_items-requires
read_items-requires c =
    let a = c.args in
    let l = good_length a.bytes.now c.requires.bytes_value in
    let n = head_count a.bytes.now a.head c.requires.head_value in
    let m = c.if-head-gt2000.false in
    let k = c.requires.in_bounds in
    record {
      n_in_bounds = omega arith;
      n_in_bounds_2 = omega arith;
    }

pub returns-in_err-columns : goal.returns-in_err-columns
returns-in_err-columns c =
    let a = c.args in
    let bs = a.bytes.now in
    let g = c.requires.bytes_value in
    let h = c.requires.head_value in
    let za = length a.answers.now in
    let zc = length a.column_list.now in
    let zr = length a.row_list.now in
    let r = c.in_err-columns.field-0.0 in
    let f : c.from_residual-in_err-columns.result ≡ Err r = search rules in
    let e = c.in_err-columns.ensures in
    let q = same_request bs a.head _ za zc zr h (read_whole bs za zc zr g a.head _ _ h c.read_items.ensures) in
    let d = door bs za zc zr g _ (Err r) a.head.count _ a.answers.now _ a.row_list.now _ a.column_list.now q (e.value, (e.answers_after, (e.row_list_after, e.column_list_after))) in
    record {
      value = f ∙ d.0;
      after = read_left bs za zc zr g a.head _ a.items.now h c.if-head-gt2000.false c.read_items.ensures;
      answers_after = d.1.0;
      row_list_after = d.1.1.0;
      column_list_after = d.1.1.1;
    }

pub returns : goal.returns
returns c =
    let a = c.args in
    let bs = a.bytes.now in
    let g = c.requires.bytes_value in
    let h = c.requires.head_value in
    let za = length a.answers.now in
    let zc = length a.column_list.now in
    let zr = length a.row_list.now in
    let e = c.in_ok-columns.ensures in
    let q = same_request bs a.head _ za zc zr h (read_whole bs za zc zr g a.head _ _ h c.read_items.ensures) in
    let d = door bs za zc zr g _ (Ok _) a.head.count _ a.answers.now _ a.row_list.now _ a.column_list.now q (e.value, (e.answers_after, (e.row_list_after, e.column_list_after))) in
    record {
      value = d.0;
      after = read_left bs za zc zr g a.head _ a.items.now h c.if-head-gt2000.false c.read_items.ensures;
      answers_after = d.1.0;
      row_list_after = d.1.1.0;
      column_list_after = d.1.1.1;
    }
