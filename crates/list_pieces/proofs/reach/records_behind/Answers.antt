-- `records_behind` meets its contract: a halving search for the first record of those tracks.
use mathlib.Core.Path.{◌≡◌, sym, subst}
use Prim.Native.Nat.{ℕ, ◌-◌, ◌*◌, ◌≤◌}
use native.Mathlib.Omega.{arith}
use lib.ListN.{drop}
use Rattle.theory_intervals.proofs.Lists.{holds_room}
use Rattle.list_tracks.proofs.Sorted.{split_as, widened}
use Rattle.list_moves.specs.Fours.{fours}
use Rattle.list_pieces.specs.Passes.{Above}
use Rattle.list_pieces.proofs.Above.{above_at}
use Rattle.list_pieces.proofs.reach.records_behind.Goals as goal

pub returns : goal.returns
returns c =
    let l = c.args.records.list.now in
    let n : ℕ = c.args.records.used in
    let t = c.args.track in
    let k : ℕ = c.lower.result in
    let p = split_as (widened c.ranges.track) c.lower.ensures.1 in
    let h : k ≤ n = p.within in
    let q : n - (n - k) ≡ k = omega arith in
    let r = holds_room c.args.records.holds in
    record {
      few = omega arith;
      above = subst (λ (j : ℕ). Above t (fours (n - k) (drop (4 * j) l))) (sym q) (above_at l t (n - k) k (omega (arith, r)) (λ i a b. p.above i a (omega arith)));
    }
