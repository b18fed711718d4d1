-- `first_free_pair`: the search from where the loops stand finds what the search from `from` finds. Assumes nothing.
use mathlib.Core.Path.{◌≡◌, refl, sym, ap, ◌∙◌}
use mathlib.Core.Bool.{true}
use mathlib.Core.List.{List}
use borrow.Author.Rules.{rules as by_rules}
use borrow.Author.Tests.{eqb-true}
use Prim.Native.Nat.{ℕ}
use native.Mathlib.Omega.{arith}
use lib.IntN.{ℤ, pos, ◌+ℤ◌, ◌-ℤ◌}
use lib.Signed.{◌≤ℤ◌}
use mir.Syntax.{w16, w32}
use mir.Val.{SFits, to_z, of_z}
use mir.Facts.{to_z-of_z}
use Rattle.theory_signed.proofs.Laws.{signed, sum, rng, fit16}
use Rattle.theory_intervals.specs.Records.{Rec}
use Rattle.theory_intervals.specs.Lists.{recs, rules}
use Rattle.list_jumps.specs.Calls.{collision_jump}
use Rattle.list_rules.specs.Inner.{Front, Split, Crosses}
use Rattle.list_rules.proofs.ByIndex.{holds_front}
use Rattle.list_tracks.proofs.Sorted.{split_as}
use Rattle.theory_walk.specs.Search.{at}
use Rattle.placing_search.specs.Clear.{Inside}
use Rattle.placing_search.proofs.Turns.{pair_found, Along, pair_here, pair_on_lem, pair_down, pair_within, stripe_found}
use Rattle.placing_search.proofs.first_free_pair.Goals.{After-collision_between, After-loop-primary, After-lower-first, After-struct_told-4-1, At-search, In-Some, In-loop-primary, Then-last-grid_start}
use Rattle.placing_search.proofs.first_free_pair.Invariants.{Small}
use Rattle.placing_search.proofs.first_free_pair.Goals as goal

pub overflow_cast-n : goal.overflow_cast-n
overflow_cast-n c = search by_rules

pub overflow_cast-m : goal.overflow_cast-m
overflow_cast-m c = search by_rules

pub overflow_sub-last : goal.overflow_sub-last
overflow_sub-last c =
    let f = fit16 c.args.grid.end c.struct_told-1.given.1.0.1 in
    let g = fit16 c.args.grid.start c.struct_told-1.given.0.1 in
    omega (signed, overflow_cast-n c, rng f, rng g)

-- the parameters
module _ (c : After-struct_told-4-1) where
  abbrev l : List ℤ
  l = c.args.records.list.now

  abbrev count : ℕ
  count = c.args.records.used

  abbrev rs : List (Rec ℤ)
  rs = recs count l

  abbrev width : ℕ
  width = c.args.primary_span

  abbrev height : ℕ
  height = c.args.secondary_span

  abbrev begins : ℤ
  begins = to_z w16 (of_z w16 c.args.grid.start)

  abbrev ends : ℤ
  ends = to_z w16 (of_z w16 c.args.grid.end)

  abbrev primary₀ : ℤ
  primary₀ = to_z w16 (of_z w16 c.args.from.primary)

  abbrev secondary₀ : ℤ
  secondary₀ = to_z w16 (of_z w16 c.args.from.secondary)

  fit_start : SFits w16 c.args.grid.start
  fit_start = fit16 c.args.grid.start c.struct_told-1.given.0.1

  fit_end : SFits w16 c.args.grid.end
  fit_end = fit16 c.args.grid.end c.struct_told-1.given.1.0.1

  fit_primary : SFits w16 c.args.from.primary
  fit_primary = fit16 c.args.from.primary c.struct_told-3-1.given.0.1

  fit_secondary : SFits w16 c.args.from.secondary
  fit_secondary = fit16 c.args.from.secondary c.struct_told-3-1.given.1.0.1

  keep : rules rs ≡ true
  keep = c.args.records.holds.keep

  front : Front l count
  front = holds_front c.args.records.holds

  inside : Inside rs begins ends
  inside = rw (to_z-of_z fit_start, to_z-of_z fit_end) c.requires.inside

  fits : (begins +ℤ pos width) ≤ℤ ends
  fits = let a = c.requires.primary_span_bound.0 in omega (signed, fit_start, fit_end)

  small : Small secondary₀ (pos 12000)
  small = let b = c.requires.primary_bound.1 in (omega (signed, fit_secondary, rng fit_secondary), omega (signed, fit_secondary))

-- where the records of the first secondary line begin and end
pub overflow_cast-secondary : goal.overflow_cast-secondary
overflow_cast-secondary c = omega (signed, fit_secondary c)

pub lower-first-requires : goal.lower-first-requires
lower-first-requires c = record {
  from_le_used = omega arith;
  by_index = λ k h. absurd (omega arith);
}

first_begins : (c : After-lower-first) → Split (l c.before) (count c.before) (secondary₀ c.before) c.lower-first.result
first_begins c = split_as (to_z-of_z (overflow_cast-secondary c.before)) c.lower-first.ensures.1

pub overflow_add-secondary : goal.overflow_add-secondary
overflow_add-secondary c = let b = small c.before in omega (signed, overflow_cast-m c.before.before.before)

pub overflow_cast-secondary-2 : goal.overflow_cast-secondary-2
overflow_cast-secondary-2 c = omega (signed, overflow_add-secondary c)

pub lower-past-requires : goal.lower-past-requires
lower-past-requires c =
    let b = first_begins c in
    record {
      from_le_used = b.within;
      by_index = λ k h. let x = b.below k h in omega (signed, overflow_cast-m c.before.before.before, overflow_add-secondary c, overflow_cast-secondary-2 c);
    }

-- the track behind the tile, as the calls are given it
behind : (a : After-struct_told-4-1) (s : ℤ) → SFits w16 (s +ℤ to_z w16 (height a)) → SFits w32 (to_z w16 (of_z w16 (s +ℤ to_z w16 (height a))))
    → to_z w32 (of_z w32 (to_z w16 (of_z w16 (s +ℤ to_z w16 (height a))))) ≡ s +ℤ pos (height a)
behind a s f g =
    let e : to_z w16 (height a) ≡ pos (height a) = omega (signed, overflow_cast-m a.before.before) in
    to_z-of_z g ∙ (to_z-of_z f ∙ ap (λ (z : ℤ). s +ℤ z) e)

pub search-init : goal.search-init
search-init c =
    let d = c.before.before in
    let a = d.requires.primary_bound.0 in
    let b = small d in
    let f = fit_primary d in
    ((omega (signed, rng f), omega signed), (b.0, omega signed), refl, (first_begins c.before, split_as (behind d (secondary₀ d) (overflow_add-secondary c.before) (overflow_cast-secondary-2 c.before)) c.lower-past.ensures.1))

-- where the search stands
module _ (b : At-search) where
  abbrev given : After-struct_told-4-1
  given = b.before.before.before

  abbrev s : ℤ
  s = to_z w16 b.search.secondary-bits

  abbrev below : ℤ
  below = s +ℤ pos (height given)

  crossed : Crosses (l given) b.search.first b.search.past
  crossed = record {
    used = count given;
    low = s;
    high = below;
    holds = given.args.records.holds;
    order = omega (signed, sum s (pos (height given)));
    begins = b.search.invariant.3.0;
    ends = b.search.invariant.3.1;
  }

pub first_free_stripe-secondary-requires : goal.first_free_stripe-secondary-requires
first_free_stripe-secondary-requires c =
    let a = (given c.before.before).before.before.before.before in
    (a.requires.le_secondary_span.0, (a.requires.le_secondary_span.1, omega signed))

-- the span leaves no other line
whole_is : (c : Then-last-grid_start) → let a = given c.before.before in begins a +ℤ pos (width a) ≡ ends a
whole_is c =
    let a = given c.before.before in
    let n = to_z w16 (width a) in
    let e = ap (to_z w16) (eqb-true (of_z w16 (ends a -ℤ n)) (of_z w16 a.args.grid.start) c.if-last-grid_start.true-raw) in
    omega (signed, overflow_cast-n a.before.before, overflow_sub-last a.before.before, sum (begins a) (pos (width a)))

pub loop-primary-init : goal.loop-primary-init
loop-primary-init c = (c.search.invariant.0, refl)

pub overflow_add-primary : goal.overflow_add-primary
overflow_add-primary c = omega (signed, overflow_cast-n (given c.before.before).before.before)

pub overflow_add-primary-in-loop-primary : goal.overflow_add-primary-in-loop-primary
overflow_add-primary-in-loop-primary c = overflow_add-primary c.before.before

pub collision_between-requires : goal.collision_between-requires
collision_between-requires c = crossed c.before.before.before.before

-- in a turn on a secondary line
module _ (c : In-loop-primary) where
  abbrev line : At-search
  line = c.before.before.before

  abbrev p : ℤ
  p = to_z w16 c.loop-primary.primary-bits

  -- the sum that the call is given
  abbrev right : ℤ
  right = to_z w16 (of_z w16 (p +ℤ to_z w16 (width (given line))))

  right_is : right ≡ p +ℤ pos (width (given line))
  right_is = omega (signed, overflow_cast-n (given line).before.before, overflow_add-primary c.before)

  -- what is tried ends in the grid
  ends_inside : right ≤ℤ ends (given line)
  ends_inside = omega signed

jump_is : (k : After-collision_between) → let b = line k.before.before in k.collision_between.result ≡ collision_jump (rs (given b)) (s b) (below b) (p k.before.before) (right k.before.before)
unfolding crossed
jump_is k = k.collision_between.ensures (crossed (line k.before.before))

-- a turn that goes on
on : (c : In-Some)
    → let q = c.before.before.before in
    let a = given (line q) in
    Along (rs a) (width a) (height a) (begins a) (ends a) (s (line q)) (p q) c.in-Some.next
on c =
    let k = c.before in
    let q = k.before.before in
    let b = line q in
    let a = given b in
    pair_on_lem (rs a) (keep a) (width a) (height a) (begins a) (ends a) (fits a) (p q) (s b) (right q) (below b) c.in-Some.next refl (right_is q)
    (sym (jump_is k) ∙ c.in-Some.is)

pub loop-primary-smaller : goal.loop-primary-smaller
loop-primary-smaller c = let t = on c in omega (signed, fit16 c.in-Some.next c.in-Some.known_told-1-own.given.0.1)

pub loop-primary-preserved : goal.loop-primary-preserved
loop-primary-preserved c =
    let t = on c in
    let f = fit16 c.in-Some.next c.in-Some.known_told-1-own.given.0.1 in
    ((omega (signed, rng f), omega signed), rw (to_z-of_z f) (c.loop-primary.invariant.1 ∙ t.same))

pub overflow_add-secondary-in-search : goal.overflow_add-secondary-in-search
overflow_add-secondary-in-search c = omega signed

-- where the records of the next secondary line begin and end
pub overflow_cast-secondary-in-search : goal.overflow_cast-secondary-in-search
overflow_cast-secondary-in-search c = omega (signed, overflow_add-secondary-in-search c)

pub lower_ahead-first-requires : goal.lower_ahead-first-requires
lower_ahead-first-requires c =
    let b = c.before.before.before in
    let i = b.search.invariant.3.0 in
    record {
      from_le_used = omega arith;
      by_index = λ k h. let x = i.below k h in omega (signed, overflow_add-secondary-in-search c, overflow_cast-secondary-in-search c);
    }

pub overflow_add-secondary-in-search-2 : goal.overflow_add-secondary-in-search-2
overflow_add-secondary-in-search-2 c = omega (signed, overflow_add-secondary-in-search c.before, overflow_cast-m (given c.before.before.before.before).before.before)

pub overflow_cast-secondary-in-search-2 : goal.overflow_cast-secondary-in-search-2
overflow_cast-secondary-in-search-2 c = omega (signed, overflow_add-secondary-in-search-2 c)

pub lower_ahead-past-requires : goal.lower_ahead-past-requires
lower_ahead-past-requires c =
    let b = c.before.before.before.before in
    let i = b.search.invariant.3.1 in
    record {
      from_le_used = omega arith;
      by_index = λ k h. let x = i.below k h in omega (signed, overflow_add-secondary-in-search c.before, overflow_cast-m (given b).before.before, overflow_add-secondary-in-search-2 c, overflow_cast-secondary-in-search-2 c);
    }

-- the next secondary line, from the grid's start
down : (c : After-loop-primary)
    → let b = c.before.before.before in
    let a = given b in
    pair_found (rs a) (width a) (height a) (begins a) (ends a) (primary₀ a) (secondary₀ a) ≡ pair_found (rs a) (width a) (height a) (begins a) (ends a) (begins a) (s b +ℤ pos 1)
down c =
    let b = c.before.before.before in
    let a = given b in
    b.search.invariant.2 ∙ (c.loop-primary.invariant.1 ∙ pair_down (rs a) (keep a) (width a) (height a) (begins a) (ends a) (fits a) (to_z w16 c.loop-primary.primary-bits) (s b)
    (omega (signed, overflow_cast-n a.before.before, overflow_add-primary c.before)))

within : (c : After-loop-primary) → (s c.before.before.before +ℤ pos 1) ≤ℤ pos 12001
within c =
    let b = c.before.before.before in
    let a = given b in
    let i = small a in
    pair_within (rs a) (keep a) (width a) (height a) (begins a) (ends a) (fits a) (primary₀ a) (secondary₀ a) (begins a) (s b +ℤ pos 1) (pos 12001) (down c) (omega signed) (omega signed)

pub search-smaller : goal.search-smaller
search-smaller c = let d = c.before.before in omega (signed, overflow_add-secondary-in-search d, within d)

pub search-preserved : goal.search-preserved
search-preserved c =
    let d = c.before.before in
    let a = given d.before.before.before in
    let next : ℤ = to_z w16 (of_z w16 (s d.before.before.before +ℤ pos 1)) in
    let w = within d in
    let i = a.requires.primary_span_bound.1 in
    let f = fits a in (
      (omega (signed, fit_start a, rng (fit_start a)), omega (signed, fit_start a, fit_end a)),
      (omega (signed, overflow_add-secondary-in-search d), omega (signed, overflow_add-secondary-in-search d)),
      rw (to_z-of_z (overflow_add-secondary-in-search d)) (down d),
      (split_as (to_z-of_z (overflow_cast-secondary-in-search d)) c.lower_ahead-first.ensures.1, split_as (behind a next (overflow_add-secondary-in-search-2 c.before) (overflow_cast-secondary-in-search-2 c.before)) c.lower_ahead-past.ensures.1),
    )

-- the one place of a tile as wide as the grid, by whole tracks
pub returns-then-last-grid_start : goal.returns-then-last-grid_start
returns-then-last-grid_start c =
    let q = c.before in
    let b = q.before.before in
    let a = given b in
    let stands : to_z w16 b.search.primary-bits ≡ begins a = ap (to_z w16) q.if-primary-grid_start.true in
    let whole : begins a +ℤ pos (width a) ≡ ends a = whole_is q in
    let found = b.search.invariant.2 ∙ (ap (λ (z : ℤ). pair_found (rs a) (width a) (height a) (begins a) (ends a) z (s b)) stands
    ∙ (stripe_found (rs a) (keep a) (width a) (height a) (begins a) (ends a) (inside a) whole (s b) ∙ ap (λ (x : ℤ). at (begins a) x) (sym c.first_free_stripe-secondary.ensures))) in
    let f = fit16 c.first_free_stripe-secondary.result c.first_free_stripe-secondary.type_inv in
    rw (to_z-of_z f, to_z-of_z (fit_start a)) (sym (rw (to_z-of_z (fit_start a), to_z-of_z (fit_end a), to_z-of_z (fit_primary a), to_z-of_z (fit_secondary a)) at found))

pub returns-in_default : goal.returns-in_default
returns-in_default c =
    let k = c.before in
    let q = k.before.before in
    let b = line q in
    let a = given b in
    let found = pair_here (rs a) (keep a) (width a) (height a) (begins a) (ends a) (fits a) (p q) (s b) (right q) (below b) refl (right_is q) (ends_inside q)
    (sym (jump_is k) ∙ c.in_default.is) in
    sym (rw (to_z-of_z (fit_start a), to_z-of_z (fit_end a), to_z-of_z (fit_primary a), to_z-of_z (fit_secondary a)) at (b.search.invariant.2 ∙ (q.loop-primary.invariant.1 ∙ found)))
