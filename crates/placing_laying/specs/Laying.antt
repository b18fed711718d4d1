-- What laying one tile does to the lists and the counts that the program holds: "After each item: limit its lines .., grow the counts as little as covers
-- it, paint both lists, write the answer." P and S are the tile's primary and secondary lines; no board and no tile appears here.
use Rattle.std.specs.Prelude.{◌≡◌, ◌⊎◌, Bool, true, false, cond, eqb, ◌||◌, List, [], ◌∷◌, ℕ, ◌+◌, ◌*◌, ◌<◌, ltb, ℤ, pos, length, Result, Ok, Err}
use Rattle.std.proofs.lemmas.List.Edits.{sets}
use Rattle.theory_intervals.specs.Records.{Rec}
use Rattle.theory_intervals.specs.OverInt.{paint_list, flat}
use Rattle.theory_intervals.specs.Lists.{recs}
use Rattle.list_areas.specs.Areas.{area_of}
use Rattle.grid_coordinates.specs.declared.Lines.{Lines}
use Rattle.grid_coordinates.specs.Line.{limited, pressed}
use Rattle.grid_track_counts.specs.Counts.{grown}
use Rattle.theory_walk.specs.Axis.{laid, Extent}
use Rattle.theory_walk.specs.Walk.{bit}
use Rattle.refusals.specs.declared.Refusal.{Refusal}
use Rattle.refusals.specs.Numbers.{numbered}
use Rattle.placing_request.specs.Items.{axis_of}
use Rattle.placing_laying.specs.declared.Matrix.{Matrix}

-- "Answer: five numbers an item: column start, column end, row start, row end, mark"
abbrev pub answer_five : Extent → ℕ → List ℤ
answer_five a m = a.columns.start ∷ a.columns.end ∷ a.rows.start ∷ a.rows.end ∷ pos m ∷ []

-- the records that need room outnumber the places of a list of so many numbers
abbrev pub short_of : ℕ → List (Rec ℤ) → Bool
short_of n rs = ltb n (4 * length rs)

-- "7 before 8": of the primary and the secondary list, which is the row list? Under a row flow the columns are primary, and the rows' list the secondary
abbrev pub refusal_of : Bool → Bool → Bool → ℕ
refusal_of true p s = cond s 7 (cond p 8 0)
refusal_of false p s = cond p 7 (cond s 8 0)

-- whether item i has room: it has at the number 0, and any other refuses it
abbrev pub room_of : ℕ → ℕ → Result Unit Refusal
room_of n i = cond (eqb n 0) (Ok tt) (Err (numbered n i))

-- the mark: "1 pressed (limiting changed a line)" and the step's own flags
abbrev pub mark_of : Lines → Lines → ℕ → ℕ
mark_of p s flags = bit 1 (pressed p || pressed s) + flags

module _ (columns : Bool) (p s : Lines) (state : ℤ) (flags : ℕ) (m : Matrix) (i : ℕ) (answers primary secondary : List ℤ) where
  -- the records of each list with the tile's limited area painted
  abbrev pub on_primary : List (Rec ℤ)
  on_primary = paint_list (area_of (limited p).start (limited p).end (limited s).start (limited s).end state) (recs m.primary_used primary)

  abbrev pub on_secondary : List (Rec ℤ)
  on_secondary = paint_list (area_of (limited s).start (limited s).end (limited p).start (limited p).end state) (recs m.secondary_used secondary)

  abbrev pub refusal : ℕ
  refusal = refusal_of columns (short_of (length primary) on_primary) (short_of (length secondary) on_secondary)

  abbrev pub grown_matrix : Matrix
  grown_matrix =
      record {
        primary = grown m.primary (limited p);
        secondary = grown m.secondary (limited s);
        primary_used = length on_primary;
        secondary_used = length on_secondary;
      }

  -- there is room: the tile is laid
  pub record Fits (r : Result Matrix Refusal) (answers' primary' secondary' : List ℤ) : Type 0 where
    pub room : refusal ≡ 0
    pub result : r ≡ Ok grown_matrix
    pub answered : answers' ≡ sets answers (5 * i) (answer_five (laid (axis_of columns) (limited p) (limited s)) (mark_of p s flags))
    pub onto_primary : primary' ≡ flat (length primary) on_primary
    pub onto_secondary : secondary' ≡ flat (length secondary) on_secondary

  -- there is none: "Room is judged on the list rules after the whole of one item's area", before either list is changed
  pub record Full (r : Result Matrix Refusal) (answers' primary' secondary' : List ℤ) : Type 0 where
    pub number : ℕ
    pub room : refusal ≡ number
    pub some : 0 < number
    pub result : r ≡ Err (numbered number i)
    pub answered : answers' ≡ answers
    pub onto_primary : primary' ≡ primary
    pub onto_secondary : secondary' ≡ secondary

  abbrev pub Laying : Result Matrix Refusal → List ℤ → List ℤ → List ℤ → Type 0
  Laying r answers' primary' secondary' = Fits r answers' primary' secondary' ⊎ Full r answers' primary' secondary'
