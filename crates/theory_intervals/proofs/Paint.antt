-- What the paint of an area does to the cells of a list and to its rules, and histories of paints. The tracks of an area come from any `span` that
-- lists the tracks between two.
use mathlib.Core.Path.{◌≡◌, refl, sym, ap, ◌∙◌}
use mathlib.Core.Bool.{Bool, true, false, cond, ◌&&◌, ◌||◌}
use mathlib.Core.List.{List, [], ◌∷◌, map}
use mathlib.Core.Logic.{◌↔◌}
use Prim.Native.Nat.{ℕ}
use Rattle.theory_intervals.specs.Records.{Rec, Area, area, same, between, cell_of, state_at, keeps, fit, fits}
use Rattle.theory_intervals.specs.Paint.{Run, run, Point, pt, to_run, to_rec, lex, paint_tracks, paint_list, painted}
use Rattle.theory_intervals.proofs.Line as Ln
use Rattle.theory_intervals.proofs.Line.{Linear, cell, ◌≺◌, From, none, next, Keeps, empty, first}
use Rattle.theory_intervals.proofs.Grid as Gr
use Rattle.theory_intervals.proofs.Grid.{Span, and_l, and_r, and₃}

-- t is one of the tracks
abbrev pub mem : {Z : Type 0} → (Z → Z → Bool) → Z → List Z → Bool
mem ltb t [] = false
mem ltb t (u ∷ us) = same ltb t u || mem ltb t us

pub merge : (m n w : Bool) (s c : ℕ) → cond (m && w) s (cond (n && w) s c) ≡ cond ((m || n) && w) s c
merge true n true s c = refl
merge true true false s c = refl
merge true false false s c = refl
merge false n w s c = refl

module _ {Z : Type 0} (ltb : Z → Z → Bool) (L : Linear Z ltb) (ok : ℕ → Bool) (ok-zero : ok 0 ≡ false) where
  abbrev OK : ℕ → Type 0
  OK = Gr.IsOk ltb L ok ok-zero

  abbrev K : List (Run (Point Z)) → Type 0
  K = Keeps (lex ltb) OK (Span ltb)

  -- ---- runs that are records

  run_rec₁ : (x y : Point Z) (s : ℕ) → Span ltb x y → to_run (to_rec (run x y s)) ≡ run x y s
  run_rec₁ (pt t p) (pt u q) s w = rw w.track

  run_rec_f : {x : Point Z} {s : ℕ} {rs : List (Run (Point Z))} → From (lex ltb) OK (Span ltb) x s rs → map to_run (map to_rec rs) ≡ rs
  run_rec_f none = refl
  run_rec_f (next {a = a} {b} {u} {rs} g w n f) = let e = run_rec₁ a b u w in let i = run_rec_f f in cc

  pub run_rec : {rs : List (Run (Point Z))} → K rs → map to_run (map to_rec rs) ≡ rs
  run_rec empty = refl
  run_rec (first {a = a} {b} {u} {rs} w n f) = let e = run_rec₁ a b u w in let i = run_rec_f f in cc

  -- ---- the tracks of an area

  module _ {a b : Z} {s : ℕ} (l : ◌≺◌ ltb a b) (n : OK s) where
    on : (t : Z) → Span ltb (pt t a) (pt t b)
    on t = record { track = refl; up = l }

    pub tracks_keep : (ts : List Z) {rs : List (Run (Point Z))} → K rs → K (paint_tracks ltb ts a b s rs)
    tracks_keep [] k = k
    tracks_keep (t ∷ ts) k = Ln.Keeps-paint (lex ltb) (Gr.lex_linear ltb L) OK (Span ltb) (Gr.rules ltb L ok ok-zero) (on t) n (tracks_keep ts k)

    pub tracks_cell : (ts : List Z) {rs : List (Run (Point Z))} → K rs → (t p : Z) → cell (lex ltb) (paint_tracks ltb ts a b s rs) (pt t p) ≡ cond (mem ltb t ts && between ltb a b p) s (cell (lex ltb) rs (pt t p))
    tracks_cell [] k t p = refl
    tracks_cell (u ∷ us) {rs} k t p =
        Ln.Keeps-cell (lex ltb) (Gr.lex_linear ltb L) OK (Span ltb) (Gr.rules ltb L ok ok-zero) (on u) n (tracks_keep us k) (pt t p)
        ∙ Gr.at_run ltb L t p u a b s (cell (lex ltb) (paint_tracks ltb us a b s rs) (pt t p))
        ∙ ap (λ (c : ℕ). cond (same ltb t u && between ltb a b p) s c) (tracks_cell us k t p)
        ∙ merge (same ltb t u) (mem ltb t us) (between ltb a b p) s (cell (lex ltb) rs (pt t p))

  -- ---- an area of a list, and a history

  module _ (span : Z → Z → List Z) (span_is : (t₁ t₂ t : Z) → mem ltb t (span t₁ t₂) ≡ between ltb t₁ t₂ t) where
    module _ (t₁ t₂ a b : Z) (s : ℕ) (rs : List (Rec Z)) (h : fit ltb ok (area t₁ t₂ a b s) ≡ true) (k : keeps ltb ok rs ≡ true) where
      parts : (ltb t₁ t₂ ≡ true) × (ltb a b ≡ true) × (ok s ≡ true)
      parts = and₃ (ltb t₁ t₂) (ltb a b) (ok s) h

      abbrev qs : List (Run (Point Z))
      qs = paint_tracks ltb (span t₁ t₂) a b s (map to_run rs)

      kept : K qs
      kept = tracks_keep (record { lt = parts.1 }) (record { is = parts.2 }) (span t₁ t₂) (Gr.to_line ltb L ok ok-zero rs k)

      -- the rules hold after painting
      pub paint_list_keeps : keeps ltb ok (paint_list ltb span (area t₁ t₂ a b s) rs) ≡ true
      paint_list_keeps = Gr.of_line ltb L ok ok-zero (map to_rec qs) (rw (run_rec kept) kept)

      -- the cells of the area have the state s, and the others what they had
      pub paint_list_cell : (t p : Z) → cell_of ltb (paint_list ltb span (area t₁ t₂ a b s) rs) t p ≡ cond (between ltb t₁ t₂ t && between ltb a b p) s (cell_of ltb rs t p)
      paint_list_cell t p =
          sym (Gr.line_cell ltb L (map to_rec qs) t p)
          ∙ ap (λ (l : List (Run (Point Z))). cell (lex ltb) l (pt t p)) (run_rec kept)
          ∙ tracks_cell (record { lt = parts.1 }) (record { is = parts.2 }) (span t₁ t₂) (Gr.to_line ltb L ok ok-zero rs k) t p
          ∙ rw (span_is t₁ t₂ t, Gr.line_cell ltb L rs t p)

    pub painted_keeps : (h : List (Area Z)) → fits ltb ok h ≡ true → keeps ltb ok (painted ltb span h) ≡ true
    painted_keeps [] f = refl
    painted_keeps (area t₁ t₂ a b s ∷ h) f =
        let x = fit ltb ok (area t₁ t₂ a b s) in
        let y = fits ltb ok h in
        paint_list_keeps t₁ t₂ a b s (painted ltb span h) (and_l x y f) (painted_keeps h (and_r x y f))

    pub painted_cell : (h : List (Area Z)) → fits ltb ok h ≡ true → (t p : Z) → cell_of ltb (painted ltb span h) t p ≡ state_at ltb h t p
    painted_cell [] f t p = refl
    painted_cell (area t₁ t₂ a b s ∷ h) f t p =
        let x = fit ltb ok (area t₁ t₂ a b s) in
        let y = fits ltb ok h in
        paint_list_cell t₁ t₂ a b s (painted ltb span h) (and_l x y f) (painted_keeps h (and_r x y f)) t p
        ∙ ap (λ (c : ℕ). cond (between ltb t₁ t₂ t && between ltb a b p) s c) (painted_cell h (and_r x y f) t p)

    -- two histories give one list exactly when they give every cell one state
    pub canonical : (h g : List (Area Z)) → fits ltb ok h ≡ true → fits ltb ok g ≡ true
        → painted ltb span h ≡ painted ltb span g ↔ ((t p : Z) → state_at ltb h t p ≡ state_at ltb g t p)
    canonical h g f e = (
      (λ i t p. sym (painted_cell h f t p) ∙ ap (λ (l : List (Rec Z)). cell_of ltb l t p) i ∙ painted_cell g e t p),
      (λ c. Gr.unique ltb L ok ok-zero (painted ltb span h) (painted ltb span g) (painted_keeps h f) (painted_keeps g e)
          (λ t p. painted_cell h f t p ∙ c t p ∙ sym (painted_cell g e t p))),
    )

    -- a list that keeps the rules and has the cells of a history is the list painted by it
    pub is_painted_lem : (xs : List (Rec Z)) (h : List (Area Z)) → keeps ltb ok xs ≡ true → fits ltb ok h ≡ true → ((t p : Z) → cell_of ltb xs t p ≡ state_at ltb h t p) → xs ≡ painted ltb span h
    is_painted_lem xs h k f c = Gr.unique ltb L ok ok-zero xs (painted ltb span h) k (painted_keeps h f) (λ t p. c t p ∙ sym (painted_cell h f t p))
