use mathlib.Core.Path.{◌≡◌}
use mathlib.Core.List.{List}
use Prim.Native.Nat.{ℕ}
use lib.IntN.{ℤ, pos, negsuc, ◌+ℤ◌}
use lib.Signed.{◌≤ℤ◌}
use Rattle.theory_signed.specs.Parts.{gap}
use Rattle.list_rules.specs.Held.{held}
use Rattle.list_rules.specs.Inner.{Split}
use Rattle.placing_search.proofs.Turns.{pair_found}
use Rattle.placing_search.proofs.first_free_pair.Given as goal

-- z is a 16-bit number, and small enough for a span to be added to it
abbrev pub Small : ℤ → ℤ → Type 0
Small z high = (negsuc 32767 ≤ℤ z) × (z ≤ℤ high)

-- the records on the tracks that a tile on secondary line s crosses are those from `first` up to `past`
abbrev pub Across : List ℤ → ℕ → ℤ → ℕ → ℕ → ℕ → Type 0
Across list used s height first past = Split list used s first × Split list used (s +ℤ pos height) past

abbrev pub invariant-loop-primary : goal.invariant-loop-primary
invariant-loop-primary l = Small l.primary (pos 20000)
    × (pair_found (held l.records) l.primary_span l.secondary_span l.grid_start l.grid_end l.initial.primary l.secondary
    ≡ pair_found (held l.records) l.primary_span l.secondary_span l.grid_start l.grid_end l.primary l.secondary)

abbrev pub decreases-loop-primary : goal.decreases-loop-primary
decreases-loop-primary l = gap l.primary (pos 10000)

abbrev pub invariant-search : goal.invariant-search
invariant-search l = Small l.primary (pos 20000)
    × Small l.secondary (pos 12001)
    × (pair_found (held l.records) l.primary_span l.secondary_span l.grid_start l.grid_end l.initial.primary l.initial.secondary
    ≡ pair_found (held l.records) l.primary_span l.secondary_span l.grid_start l.grid_end l.primary l.secondary)
    × Across l.records.list.now l.records.used l.secondary l.secondary_span l.first l.past

-- every secondary line from 10000 on is clear, and the start may stand past 10000
abbrev pub decreases-search : goal.decreases-search
decreases-search l = gap l.secondary (pos 12001)
