-- What is promised of the list calls that read a list, each under document 01's words.
use Rattle.std.specs.Prelude.{None, Some}
use mathlib.Core.Path.{◌≡◌, sym, ap, ◌∙◌}
use mathlib.Core.Bool.{true}
use mathlib.Core.List.{List}
use mathlib.Core.Logic.{◌↔◌}
use Prim.Native.Nat.{ℕ}
use lib.ListN.{length}
use lib.IntN.{ℤ}
use lib.Signed.{◌<ℤ◌}
use Rattle.theory_intervals.specs.Records.{Rec}
use Rattle.theory_intervals.specs.OverInt.{flat}
use Rattle.theory_intervals.specs.Lists.{rules, recs, Free}
use Rattle.list_rules.specs.Kept.{kept_of}
use Rattle.list_jumps.specs.Calls.{collision_jump, occupied_jump}
use Rattle.list_tracks.specs.Tracks.{Stands}
use Rattle.theory_intervals.proofs.Lists.{length_recs, recs_enc}
use Rattle.list_tracks.proofs.Named.{records_holds, holds_records}
use Rattle.list_jumps.specs.Meaning.{IsFlatOf, Collides, IsClear, LastTrack}
use Rattle.list_jumps.proofs.Collisions.{jump_free, jump_next}
use Rattle.list_jumps.proofs.Occupied.{clear_jump, last_jump}

-- "a list that breaks the list rules": the answer is n exactly for the flat lists of n records that keep the rules
pub kept_exactly : (l : List ℤ) (n : ℕ) → kept_of l ≡ Some n ↔ IsFlatOf l n
kept_exactly l n = (
  (λ e. let h = records_holds e in record { records = recs n l; count = length_recs n l; keep = h.keep; laid = h.laid }),
  (λ f.
      let rs = f.records in
      let q : recs n l ≡ rs = (λ i. recs (sym f.count i) (f.laid i)) ∙ recs_enc rs _ in
      holds_records (record { keep = ap rules q ∙ f.keep; laid = f.laid ∙ ap (flat (length l)) (sym q) })),
)

-- "Collision jump: none if free": exactly when no cell of the area has a state
pub none_if_free : (rs : List (Rec ℤ)) → rules rs ≡ true → (t₁ t₂ a b : ℤ) → a <ℤ b → collision_jump rs t₁ t₂ a b ≡ None ↔ Free rs t₁ t₂ a b
none_if_free = jump_free

-- "else the largest, over the crossed tracks, of the end of the last overlapping record": a search may go on there, since every area as wide that
-- starts before it is taken too
pub jump_collides : (rs : List (Rec ℤ)) → rules rs ≡ true → (t₁ t₂ a b e : ℤ) → a <ℤ b → collision_jump rs t₁ t₂ a b ≡ Some e → Collides rs t₁ t₂ a b e
jump_collides = jump_next

-- "Occupied-track jump: .. or none": exactly when no cell on a track of the span has a state
pub none_if_clear : (rs : List (Rec ℤ)) → rules rs ≡ true → (t₁ t₂ : ℤ) → occupied_jump rs t₁ t₂ ≡ None ↔ IsClear rs t₁ t₂
none_if_clear = clear_jump

-- "one past the last non-empty track in a span"
pub past_the_last : (rs : List (Rec ℤ)) → rules rs ≡ true → (t₁ t₂ e : ℤ) → occupied_jump rs t₁ t₂ ≡ Some e → LastTrack rs t₁ t₂ e
past_the_last = last_jump

-- "any two that satisfy a statement are proved identical": two places of one part
pub one_place : {l : List ℤ} {t : ℤ} {part : List ℤ} {start start' count count' : ℕ} → Stands l t part start count → Stands l t part start' count' → (start ≡ start') × (count ≡ count')
one_place s u = (s.first ∙ sym u.first, s.long ∙ sym u.long)
