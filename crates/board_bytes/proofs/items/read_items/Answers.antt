-- `read_items` meets its contract: one number more at each turn.
use Rattle.std.proofs.Common.{rules, ◌≡◌, ◌∙◌, ap, ◌+◌, ◌*◌, take, add-one, to_z-of_z, FitsSigned}
use Rattle.std.specs.Int.{w16}
use Rattle.board_bytes.specs.File.{word_at, signed_of}
use Rattle.board_bytes.proofs.Words.{numbers_none, store_next}
use Rattle.board_bytes.proofs.items.read_items.Goals as goal

pub loop-i-init : goal.loop-i-init
loop-i-init c = numbers_none _ _ _

pub loop-i-preserved : goal.loop-i-preserved
loop-i-preserved c =
    let l = c.loop-i in
    let f : FitsSigned w16 c.signed.result = search rules in
    let e : c.signed.result ≡ signed_of (word_at c.args.bytes.now (20 + 2 * l.i)) = c.signed.ensures ∙ ap signed_of c.word.ensures in
    rw (to_z-of_z f, e, l.invariant, add-one l.i) (store_next c.args.bytes.now (take c.args.n c.args.items.now) 20 l.i (search rules))
