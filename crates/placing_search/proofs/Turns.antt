-- One turn of a search by jumps: it has found what it looks for, or goes on without having passed over it.
use Rattle.std.specs.Prelude.{None, Some}
use mathlib.Core.Path.{◌≡◌, refl, ap, ◌∙◌, subst, fun_ext}
use mathlib.Core.Bool.{Bool, true, false}
use mathlib.Core.List.{List}
use mathlib.Core.Logic.{◌⊎◌, inl, inr}
use Prim.Native.Nat.{ℕ, ◌≤◌}
use native.Mathlib.Omega.{arith}
use mir.Syntax.{w16}
use mir.Val.{SFits, to_z, of_z}
use mir.Facts.{to_z-of_z}
use Rattle.std.proofs.Math.Facts.{to_z_pos}
use lib.IntN.{ℤ, pos, negsuc, ◌+ℤ◌}
use lib.Signed.{◌≤ℤ◌, ◌<ℤ◌}
use Rattle.theory_signed.proofs.Laws.{signed, sum}
use Rattle.theory_intervals.specs.Records.{Rec}
use Rattle.theory_intervals.specs.Lists.{rules}
use Rattle.grid_coordinates.specs.declared.Lines.{Lines}
use Rattle.grid_coordinates.specs.Line.{lines, lowest, highest}
use Rattle.list_jumps.specs.Calls.{collision_jump, occupied_jump}
use Rattle.theory_walk.specs.Axis.{from}
use Rattle.theory_walk.specs.Search.{first_line, Place, at, first_pair, places_to}
use Rattle.theory_walk.specs.Rules.{FirstLine, Tried, here, later}
use Rattle.theory_walk.proofs.SearchLaws.{side, first_line_first, first_line_here, first_line_skip, first_pair_first, first_pair_is, first_pair_here, first_pair_skip, first_pair_next, pair_high}
use Rattle.placing_search.specs.Clear.{clear, whole_grid, Inside}
use Rattle.placing_search.proofs.Clears.{free_jump, next_jump, clear_lines_beyond, clear_tracks_beyond, rules_inside, free_stripe, next_stripe, stripe_grid}

-- ---- along the tracks t₁..t₂, for a span of n lines

-- ---- a span from a line on, in 16 bits

span_is : (n : ℕ) → n ≤ 10000 → to_z w16 n ≡ pos n
span_is n h = to_z_pos w16 (omega arith)

pub sum_fits : (p : ℤ) (n : ℕ) → n ≤ 10000 → negsuc 32767 ≤ℤ p → p ≤ℤ pos 20000 → SFits w16 (p +ℤ to_z w16 n)
sum_fits p n h a b = omega (signed, span_is n h)

pub sum_is : (p : ℤ) (n : ℕ) → n ≤ 10000 → negsuc 32767 ≤ℤ p → p ≤ℤ pos 20000 → to_z w16 (of_z w16 (p +ℤ to_z w16 n)) ≡ p +ℤ pos n
sum_is p n h a b = to_z-of_z (sum_fits p n h a b) ∙ ap (λ (z : ℤ). p +ℤ z) (span_is n h)

-- a search for the first line goes on at e
pub record Further (ok : ℤ → Bool) (a e : ℤ) : Type 0 where
  pub past : a <ℤ e
  pub inside : e ≤ℤ pos 10000
  pub same : first_line ok a ≡ first_line ok e

abbrev pub clear_line : List (Rec ℤ) → Lines → ℕ → ℤ → Bool
clear_line rs tracks n y = clear rs tracks (from y n)

module _ (rs : List (Rec ℤ)) (h : rules rs ≡ true) (t₁ t₂ : ℤ) (n : ℕ) where
  past_lines : (y : ℤ) → pos 10000 ≤ℤ y → clear_line rs (lines t₁ t₂) n y ≡ true
  past_lines y k = clear_lines_beyond rs h (lines t₁ t₂) (from y n) k

  pub line_here : (a b : ℤ) → b ≡ a +ℤ pos n → collision_jump rs t₁ t₂ a b ≡ None → first_line (clear_line rs (lines t₁ t₂) n) a ≡ a
  line_here a b q j =
      first_line_here (clear_line rs (lines t₁ t₂) n) past_lines a (subst (λ (z : ℤ). clear rs (lines t₁ t₂) (lines a z) ≡ true) q ((free_jump rs t₁ t₂ a b).0 j))

  pub line_on : (a b e : ℤ) → b ≡ a +ℤ pos n → collision_jump rs t₁ t₂ a b ≡ Some e → Further (clear_line rs (lines t₁ t₂) n) a e
  line_on a b e q j =
      let k = next_jump rs h t₁ t₂ a b e j in
      let p = k.past in
      record {
        past = p;
        inside = k.inside;
        same = first_line_skip (clear_line rs (lines t₁ t₂) n) past_lines a e (omega signed) (λ y l u. k.missed y (y +ℤ pos n) l u (omega (signed, sum y (pos n))));
      }

-- ---- by whole tracks, for m of them: a track with a record is passed over

abbrev pub clear_stripe : List (Rec ℤ) → ℕ → ℤ → Bool
clear_stripe rs m x = clear rs (from x m) whole_grid

module _ (rs : List (Rec ℤ)) (h : rules rs ≡ true) (m : ℕ) where
  past_tracks : (x : ℤ) → pos 10000 ≤ℤ x → clear_stripe rs m x ≡ true
  past_tracks x k = clear_tracks_beyond rs h (from x m) whole_grid k

  pub stripe_here : (a b : ℤ) → b ≡ a +ℤ pos m → occupied_jump rs a b ≡ None → first_line (clear_stripe rs m) a ≡ a
  stripe_here a b q j =
      first_line_here (clear_stripe rs m) past_tracks a
      (subst (λ (z : ℤ). clear rs (lines a z) whole_grid ≡ true) q ((free_stripe rs h lowest highest (rules_inside rs h) a b).0 j))

  pub stripe_on : (a b e : ℤ) → b ≡ a +ℤ pos m → occupied_jump rs a b ≡ Some e → Further (clear_stripe rs m) a e
  stripe_on a b e q j =
      let k = next_stripe rs h lowest highest (rules_inside rs h) a b e j in
      let p = k.past in
      record {
        past = p;
        inside = k.inside;
        same = first_line_skip (clear_stripe rs m) past_tracks a e (omega signed) (λ y l u. k.missed y (y +ℤ pos m) l u (omega (signed, sum y (pos m))));
      }

-- ---- by secondary lines, which are the list's tracks, and along them: a tile of n primary and m secondary lines, in a grid from g to e

abbrev pub clear_pair : List (Rec ℤ) → ℕ → ℕ → ℤ → ℤ → Bool
clear_pair rs n m y x = clear rs (from x m) (from y n)

abbrev pub pair_found : List (Rec ℤ) → ℕ → ℕ → ℤ → ℤ → ℤ → ℤ → Place
pair_found rs n m g e p s = first_pair (places_to e n) g (clear_pair rs n m) p s

-- a search for the first pair goes on at f on the same secondary line
pub record Along (rs : List (Rec ℤ)) (n m : ℕ) (g e s p f : ℤ) : Type 0 where
  pub past : p <ℤ f
  pub inside : f ≤ℤ pos 10000
  pub same : pair_found rs n m g e p s ≡ pair_found rs n m g e f s

module _ (rs : List (Rec ℤ)) (h : rules rs ≡ true) (n m : ℕ) (g e : ℤ) (fits : (g +ℤ pos n) ≤ℤ e) where
  past_pairs : (y x : ℤ) → pos 10000 ≤ℤ x → clear_pair rs n m y x ≡ true
  past_pairs y x k = clear_tracks_beyond rs h (from x m) (from y n) k

  pub pair_here : (p s b t : ℤ) → t ≡ s +ℤ pos m → b ≡ p +ℤ pos n → b ≤ℤ e → collision_jump rs s t p b ≡ None → pair_found rs n m g e p s ≡ at p s
  pair_here p s b t i j k f =
      first_pair_here n e g (clear_pair rs n m) past_pairs fits p s
      (subst (λ (z : ℤ). clear rs (from s m) (lines p z) ≡ true) j (subst (λ (z : ℤ). clear rs (lines s z) (lines p b) ≡ true) i ((free_jump rs s t p b).0 f)))
      (omega (signed, sum p (pos n)))

  pub pair_on_lem : (p s b t f : ℤ) → t ≡ s +ℤ pos m → b ≡ p +ℤ pos n → collision_jump rs s t p b ≡ Some f → Along rs n m g e s p f
  pair_on_lem p s b t f i j q =
      let k = next_jump rs h s t p b f q in
      let l = k.past in
      record {
        past = l;
        inside = k.inside;
        same = first_pair_skip n e g (clear_pair rs n m) past_pairs fits p f s (omega signed)
            (λ y v w. subst (λ (z : ℤ). clear rs (lines s z) (from y n) ≡ false) i (k.missed y (y +ℤ pos n) v w (omega (signed, sum y (pos n)))));
      }

  -- no place is left on this secondary line
  pub pair_down : (p s : ℤ) → e <ℤ (p +ℤ pos n) → pair_found rs n m g e p s ≡ pair_found rs n m g e g (s +ℤ pos 1)
  pair_down p s k = first_pair_next n e g (clear_pair rs n m) past_pairs fits p s k

  -- a search that finds what one from s₀ finds has gone at most to line 10000, or one line further than s₀
  pub pair_within : (p₀ s₀ p s z : ℤ) → pair_found rs n m g e p₀ s₀ ≡ pair_found rs n m g e p s → s₀ <ℤ z → pos 10000 ≤ℤ z → s ≤ℤ z
  pair_within p₀ s₀ p s z q a b = go (pair_found rs n m g e p s).secondary refl (first_pair_first n e g (clear_pair rs n m) past_pairs fits p s).tried
    where
      high : (pair_found rs n m g e p₀ s₀).secondary ≤ℤ z
      high = pair_high n e g (clear_pair rs n m) past_pairs fits p₀ s₀ z (pair_found rs n m g e p₀ s₀) (first_pair_first n e g (clear_pair rs n m) past_pairs fits p₀ s₀) a b

      go : {y : ℤ} (x : ℤ) → x ≡ (pair_found rs n m g e p s).secondary → Tried n e g p s y x → s ≤ℤ z
      go x i (here u v) = let w = high in let j = ap (λ (r : Place). r.secondary) q in omega signed
      go x i (later u v k) = let w = high in let j = ap (λ (r : Place). r.secondary) q in omega signed

-- ---- a tile as wide as the grid has one place on each secondary line, the grid's start

pub stripe_pair : (n : ℕ) (g e : ℤ) (ok : ℤ → ℤ → Bool) → ((y x : ℤ) → pos 10000 ≤ℤ x → ok y x ≡ true) → g +ℤ pos n ≡ e → (s : ℤ)
    → first_pair (places_to e n) g ok g s ≡ at g (first_line (λ x. ok g x) s)
stripe_pair n g e ok beyond w s = first_pair_is n e g ok beyond (omega (signed, sum g (pos n))) g s (at g (first_line (λ x. ok g x) s)) (record {
  tried = there (first_line (λ x. ok g x) s) f.since (side (first_line (λ x. ok g x) s) s);
  passes = f.passes;
  above = λ y x t k. up y x t k;
  before = λ y t k. on y (first_line (λ x. ok g x) s) t k;
})
  where
    f : FirstLine (λ x. ok g x) s (first_line (λ x. ok g x) s)
    f = first_line_first (λ x. ok g x) (λ x. beyond g x) s

    there : (x : ℤ) → s ≤ℤ x → (x ≤ℤ s) ⊎ (s <ℤ x) → Tried n e g g s g x
    there x l (inl d) = let i : x ≡ s = omega signed in rw i (here {y = g} (omega signed) (omega (signed, sum g (pos n))))
    there x l (inr d) = later {y = g} {x = x} d (omega signed) (omega (signed, sum g (pos n)))

    up : (y x : ℤ) → Tried n e g g s y x → x <ℤ first_line (λ x. ok g x) s → ok y x ≡ false
    up y x (here a b) k = let i : y ≡ g = omega (signed, sum g (pos n)) in rw i (f.fails x (omega signed) k)
    up y x (later a b c) k = let i : y ≡ g = omega (signed, sum g (pos n)) in rw i (f.fails x (omega signed) k)

    on : (y x : ℤ) → Tried n e g g s y x → y <ℤ g → ok y x ≡ false
    on y x (here a b) k = absurd (let z : ⊥ = omega signed in z)
    on y x (later a b c) k = absurd (let z : ⊥ = omega signed in z)

-- where the grid holds every record, whole tracks are as good as the grid's lines
pub stripe_line : (rs : List (Rec ℤ)) → rules rs ≡ true → (m : ℕ) (g e : ℤ) → Inside rs g e → (s : ℤ) → first_line (λ x. clear rs (from x m) (lines g e)) s ≡ first_line (clear_stripe rs m) s
stripe_line rs h m g e w s = ap (λ (f : ℤ → Bool). first_line f s) (fun_ext (λ x. stripe_grid rs h g e w (from x m)))

-- so a tile as wide as a grid that holds every record is searched by whole tracks
pub stripe_found : (rs : List (Rec ℤ)) → rules rs ≡ true → (n m : ℕ) (g e : ℤ) → Inside rs g e → g +ℤ pos n ≡ e → (s : ℤ) → pair_found rs n m g e g s ≡ at g (first_line (clear_stripe rs m) s)
stripe_found rs h n m g e w q s =
    stripe_pair n g e (clear_pair rs n m) (λ y x k. clear_tracks_beyond rs h (from x m) (from y n) k) q s
    ∙ ap (λ (z : ℤ). at g (first_line (λ x. clear rs (from x m) (lines g z)) s)) q
    ∙ ap (λ (x : ℤ). at g x) (stripe_line rs h m g e w s)
