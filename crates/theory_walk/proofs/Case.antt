-- A row of a table: a request, and its outcome by document 01. (The starred boards are rows of `hoarbale`'s one table, proofs/Cases.)
use mathlib.Core.List.{List}
use Prim.Native.Nat.{ℕ}
use lib.IntN.{ℤ}
use Rattle.grid_track_counts.specs.declared.TrackCounts.{TrackCounts}
use Rattle.theory_walk.specs.Axis.{Both}
use Rattle.theory_walk.specs.Request.{Request, Outcome}

abbrev pub counts : ℕ → ℕ → ℕ → ℕ → ℕ → ℕ → Both TrackCounts
counts a b c d e f = record { columns = record { negative = a; explicit = b; positive = c }; rows = record { negative = d; explicit = e; positive = f } }

-- flow, counts, items, room for answers, lengths of the row and the column list
abbrev pub request : ℕ → Both TrackCounts → List ℤ → ℕ → ℕ → ℕ → Request
request f c xs n r k = record { flow = f; counts = c; items = xs; answers = n; lists = record { columns = k; rows = r } }

pub record Case : Type 0 where
  pub given : Request
  pub expected : Outcome

abbrev pub case : Request → Outcome → Case
case r o = record { given = r; expected = o }
