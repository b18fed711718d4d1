-- The collision jump and the cells of an area.
use Rattle.std.specs.Option.{option_or}
use Rattle.std.specs.Prelude.{None, Option, Some, ℤ}
use mathlib.Core.Path.{◌≡◌, refl, sym, ap, ◌∙◌, subst}
use mathlib.Core.Bool.{Bool, true, false, cond, ◌||◌}
use mathlib.Core.List.{List, [], ◌∷◌}
use mathlib.Core.Logic.{◌↔◌, ◌⊎◌, inl, inr}
use Prim.Native.Nat.{ℕ}
use native.Mathlib.Omega.{arith}
use lib.IntN.{ℤ, pos, ◌+ℤ◌, ◌-ℤ◌}
use lib.Signed.{lt_z, ◌≤ℤ◌, ◌<ℤ◌}
use Rattle.theory_signed.proofs.Laws.{signed, sum, dif, g_lt_true, g_lt_false}
use Rattle.theory_intervals.proofs.Line.{Test, yea, nay, test, no_both}
use Rattle.theory_intervals.proofs.Tracks.{same_yes}
use Rattle.theory_intervals.specs.Records.{Rec, rec, same}
use Rattle.theory_intervals.proofs.Grid.{and_l, and_r}
use Rattle.theory_intervals.proofs.Paint.{mem}
use Rattle.theory_intervals.specs.OverInt.{cell_of, span}
use Rattle.theory_intervals.proofs.OverInt.{span_is}
use Rattle.theory_intervals.specs.Lists.{rules, on_track, Free}
use Rattle.list_jumps.specs.Calls.{overlaps, extent_of, larger, over, collision_jump}
use Rattle.list_jumps.specs.Meaning.{Taken, Collides}
use Rattle.list_jumps.proofs.Cells.{sound, Has, here, there, has_order, has_cell, between_is, Cell, empty, filled, cell}

-- ---- the extent on a track

overlap_is : (a b c d : ℤ) → overlaps a b c d ≡ true → (c <ℤ b) × (a <ℤ d)
overlap_is a b c d h = let x = and_l (lt_z c b) (lt_z a d) h in let y = and_r (lt_z c b) (lt_z a d) h in (omega signed, omega signed)

pub record Last (rs : List (Rec ℤ)) (t a b e : ℤ) : Type 0 where
  pub from : ℤ
  pub has : Has t from e rs
  pub before : from <ℤ b
  pub past : a <ℤ e

pub or_ends : (x y : Option ℤ) (e : ℤ) → option_or x y ≡ Some e → (x ≡ Some e) ⊎ ((x ≡ None) × (y ≡ Some e))
or_ends (Some f) y e h = inl h
or_ends None y e h = inr (refl, h)

or_free_both : (x y : Option ℤ) → option_or x y ≡ None → (x ≡ None) × (y ≡ None)
or_free_both (Some f) y h = let z : ◌≡◌ {A = ℕ} 0 1 = cc in absurd (omega arith)
or_free_both None y h = (refl, h)

pub if_ends : (o : Bool) (d e : ℤ) → cond o (Some d) None ≡ Some e → (o ≡ true) × (d ≡ e)
if_ends true d e h = (refl, cc)
if_ends false d e h = let z : ◌≡◌ {A = ℕ} 0 1 = cc in absurd (omega arith)

if_free : (o : Bool) (d : ℤ) → cond o (Some d) None ≡ None → o ≡ false
if_free true d h = let z : ◌≡◌ {A = ℕ} 0 1 = cc in absurd (omega arith)
if_free false d h = refl

pub extent_last : (rs : List (Rec ℤ)) (t a b e : ℤ) → extent_of (on_track t rs) a b ≡ Some e → Last rs t a b e
extent_last [] t a b e h = let z : ◌≡◌ {A = ℕ} 0 1 = cc in absurd (omega arith)
extent_last (rec u c d s ∷ rs) t a b e h = go (test (same lt_z t u)) (λ k. extent_last rs t a b e k)
  where
    up_one : Last rs t a b e → Last (rec u c d s ∷ rs) t a b e
    up_one m = record { from = m.from; has = there m.has; before = m.before; past = m.past }

    go : Test (same lt_z t u) → (extent_of (on_track t rs) a b ≡ Some e → Last rs t a b e) → Last (rec u c d s ∷ rs) t a b e
    go (nay q) r = up_one (r (rw q at h))
    go (yea q) r = by (or_ends (extent_of (on_track t rs) a b) (cond (overlaps a b c d) (Some d) None) e (rw q at h))
      where
        by : (extent_of (on_track t rs) a b ≡ Some e) ⊎ ((extent_of (on_track t rs) a b ≡ None) × (cond (overlaps a b c d) (Some d) None ≡ Some e)) → Last (rec u c d s ∷ rs) t a b e
        by (inl k) = up_one (r k)
        by (inr k) =
            let x = if_ends (overlaps a b c d) d e k.1 in
            let o = overlap_is a b c d x.0 in
            let v : u ≡ t = sym (same_yes t u q) in
            record { from = c; has = subst (λ (w : ℤ). Has t c w (rec u c d s ∷ rs)) x.1 (subst (λ (w : ℤ). Has w c d (rec u c d s ∷ rs)) v here); before = o.0; past = let y = o.1 in let w = x.1 in omega signed }

-- no record of the track overlaps
pub extent_free : {t c d : ℤ} {rs : List (Rec ℤ)} (a b : ℤ) → Has t c d rs → extent_of (on_track t rs) a b ≡ None → overlaps a b c d ≡ false
extent_free {t = t} {c = c} {d = d} a b (here {s = s} {rs = rs}) h =
    let q : same lt_z t t ≡ true = rw (g_lt_false t t (omega signed)) in
    if_free (overlaps a b c d) d (or_free_both (extent_of (on_track t rs) a b) (cond (overlaps a b c d) (Some d) None) (rw q at h)).1
extent_free {t = t} {c = c} {d = d} a b (there {r = rec u x y s} {rs = rs} m) h = go (test (same lt_z t u)) (λ k. extent_free a b m k)
  where
    go : Test (same lt_z t u) → (extent_of (on_track t rs) a b ≡ None → overlaps a b c d ≡ false) → overlaps a b c d ≡ false
    go (yea q) r = r (or_free_both (extent_of (on_track t rs) a b) (cond (overlaps a b x y) (Some y) None) (rw q at h)).0
    go (nay q) r = r (rw q at h)

-- ---- over the tracks

module _ (F : ℤ → Option ℤ) where
  abbrev step : ℤ → Option ℤ → Option ℤ
  step t j = larger (F t) j

  larger_free : (x : Option ℤ) (j : Option ℤ) → larger x j ≡ None → (x ≡ None) × (j ≡ None)
  larger_free None j h = (refl, h)
  larger_free (Some e) (Some f) h = let z : ◌≡◌ {A = ℕ} 0 1 = cc in absurd (omega arith)
  larger_free (Some e) None h = let z : ◌≡◌ {A = ℕ} 0 1 = cc in absurd (omega arith)

  larger_next : (x : Option ℤ) (j : Option ℤ) (e : ℤ) → larger x j ≡ Some e → (x ≡ Some e) ⊎ (j ≡ Some e)
  larger_next None j e h = inr h
  larger_next (Some f) None e h = inl (cc)
  larger_next (Some f) (Some g) e h = go (test (lt_z f g))
    where
      go : Test (lt_z f g) → (Some f ≡ Some e) ⊎ (Some g ≡ Some e)
      go (yea q) = inr (rw q at h)
      go (nay q) = let k : Some f ≡ Some e = rw q at h in inl (cc)

  pub over_free : (t : ℤ) (ts : List ℤ) → over step ts ≡ None → mem lt_z t ts ≡ true → F t ≡ None
  over_free t [] h m = no_both m refl
  over_free t (u ∷ ts) h m = go (test (same lt_z t u)) (larger_free (F u) (over step ts) h) (λ k j. over_free t ts k j)
    where
      go : Test (same lt_z t u) → (F u ≡ None) × (over step ts ≡ None) → (over step ts ≡ None → mem lt_z t ts ≡ true → F t ≡ None) → F t ≡ None
      go (yea q) k r = ap F (same_yes t u q) ∙ k.0
      go (nay q) k r = r k.1 (rw q at m)

  pub record Where (ts : List ℤ) (e : ℤ) : Type 0 where
    pub track : ℤ
    pub one : mem lt_z track ts ≡ true
    pub ends : F track ≡ Some e

  pub over_next : (ts : List ℤ) (e : ℤ) → over step ts ≡ Some e → Where ts e
  over_next [] e h = let z : ◌≡◌ {A = ℕ} 0 1 = cc in absurd (omega arith)
  over_next (u ∷ ts) e h = go (larger_next (F u) (over step ts) e h) (λ k. over_next ts e k)
    where
      go : (F u ≡ Some e) ⊎ (over step ts ≡ Some e) → (over step ts ≡ Some e → Where ts e) → Where (u ∷ ts) e
      go (inl k) r = record { track = u; one = rw (g_lt_false u u (omega signed)); ends = k }
      go (inr k) r = let w = r k in record { track = w.track; one = or_r (same lt_z w.track u) (mem lt_z w.track ts) w.one; ends = w.ends }
        where
          or_r : (x y : Bool) → y ≡ true → x || y ≡ true
          or_r true y e = refl
          or_r false y e = e

-- ---- the laws of the collision jump that a search needs

pub data Shape (j : Option ℤ) : Type 0 where
  next : (e : ℤ) → j ≡ Some e → Shape j
  free : j ≡ None → Shape j

pub shape : (j : Option ℤ) → Shape j
shape (Some e) = next e refl
shape None = free refl

module _ (rs : List (Rec ℤ)) (h : rules rs ≡ true) (t₁ t₂ a b : ℤ) where
  -- a record that overlaps the lines p.. up to at least b has a cell there
  taken : (t e p q : ℤ) → t₁ ≤ℤ t → t <ℤ t₂ → Last rs t a b e → p <ℤ e → p <ℤ q → b ≤ℤ q → Taken rs t₁ t₂ p q
  taken t e p q l u m k n o = go (test (lt_z p m.from))
    where
      w : (m.from <ℤ e) × (e ≤ℤ pos 10000)
      w = has_order (sound rs h) m.has

      go : Test (lt_z p m.from) → Taken rs t₁ t₂ p q
      go (yea x) =
          let b' = m.before in
          let y = w.0 in
          record { track = t; line = m.from; low = l; high = u; from = omega signed; to = omega signed; state = has_cell m.from (sound rs h) m.has (omega signed) y }
      go (nay x) = record { track = t; line = p; low = l; high = u; from = omega signed; to = n; state = has_cell p (sound rs h) m.has (omega signed) k }

  pub jump_next : (e : ℤ) → a <ℤ b → collision_jump rs t₁ t₂ a b ≡ Some e → Collides rs t₁ t₂ a b e
  jump_next e ab j =
      let w = over_next (λ t. extent_of (on_track t rs) a b) (span t₁ t₂) e j in
      let r = between_is t₁ t₂ w.track (sym (span_is t₁ t₂ w.track) ∙ w.one) in
      let m = extent_last rs w.track a b e w.ends in
      record {
        past = m.past;
        inside = (has_order (sound rs h) m.has).1;
        again = λ p x y. taken w.track e p (p +ℤ (b -ℤ a)) r.0 r.1 m y (omega (signed, sum p (b -ℤ a), dif b a)) (omega (signed, sum p (b -ℤ a), dif b a));
      }

  pub jump_free : a <ℤ b → collision_jump rs t₁ t₂ a b ≡ None ↔ Free rs t₁ t₂ a b
  jump_free ab = (there_is, back_is)
    where
      there_is : collision_jump rs t₁ t₂ a b ≡ None → Free rs t₁ t₂ a b
      there_is f t p l u x y = go (cell rs t p)
        where
          m : mem lt_z t (span t₁ t₂) ≡ true
          m = span_is t₁ t₂ t ∙ rw (g_lt_false t t₁ (omega signed), g_lt_true t t₂ (omega signed))

          go : Cell rs t p → cell_of rs t p ≡ 0
          go (empty z) = z
          go (filled c d k v w) =
              no_both (rw (g_lt_true c b (omega signed), g_lt_true a d (omega signed))) (extent_free a b k (over_free (λ t. extent_of (on_track t rs) a b) t (span t₁ t₂) f m))

      back_is : Free rs t₁ t₂ a b → collision_jump rs t₁ t₂ a b ≡ None
      back_is z = go (shape (collision_jump rs t₁ t₂ a b))
        where
          go : Shape (collision_jump rs t₁ t₂ a b) → collision_jump rs t₁ t₂ a b ≡ None
          go (free e) = e
          go (next e j) =
              let w = over_next (λ t. extent_of (on_track t rs) a b) (span t₁ t₂) e j in
              let r = between_is t₁ t₂ w.track (sym (span_is t₁ t₂ w.track) ∙ w.one) in
              let m = extent_last rs w.track a b e w.ends in
              let k = taken w.track e a b r.0 r.1 m m.past ab (omega signed) in
              absurd (k.state (z k.track k.line k.low k.high k.from k.to))
