-- Step 2's recorded ends, read from the answers already written: "the largest recorded primary end among step-2 items already placed whose recorded
-- secondary start equals this item's unlimited secondary start". The walk reads them off its tiles; the program has the items and their answers.
use Rattle.std.specs.Prelude.{◌≡◌, Bool, true, false, cond, ◌&&◌, List, [], ◌∷◌, ℕ, zero, suc, ◌+◌, ◌*◌, ◌<◌, ℤ, pos, get_or}
use Rattle.theory_signed.specs.Parts.{eq_z}
use Rattle.theory_walk.specs.declared.Placement.{Placement}
use Rattle.theory_walk.specs.declared.Placement.TheVariants.{Fixed, Spanned}
use Rattle.theory_walk.specs.Axis.{Both}
use Rattle.theory_walk.specs.Walk.{Board, ends_on, largest, largest_or}
use Rattle.theory_walk.specs.Rules.{mine2}
use Rattle.placing_request.specs.Items.{axis_of}
use Rattle.placing_laying.specs.declared.Matrix.{Matrix}
use Rattle.placing_laying.specs.Ready.{Ready, primary_of, secondary_of}

-- number k of item j's answer: "column start, column end, row start, row end"
abbrev pub recorded_at : List ℤ → ℕ → ℕ → ℤ
recorded_at answers j k = get_or answers (5 * j + k) (pos 0)

-- which of them is the primary end, and which the secondary start
abbrev pub end_place : Bool → ℕ
end_place true = 1
end_place false = 3

abbrev pub start_place : Bool → ℕ
start_place true = 2
start_place false = 0

abbrev pub recorded_end : Bool → List ℤ → ℕ → ℤ
recorded_end columns answers j = recorded_at answers j (end_place columns)

abbrev pub recorded_start : Bool → List ℤ → ℕ → ℤ
recorded_start columns answers j = recorded_at answers j (start_place columns)

-- item j is step 2's, and its recorded secondary start is c
abbrev pub counted : Bool → List ℤ → List ℤ → ℤ → ℕ → Bool
counted columns items answers c j = mine2 (primary_of columns items j) (secondary_of columns items j) && eq_z (recorded_start columns answers j) c

-- the recorded primary ends of those before item i, newest first
unfoldable pub ends_before : Bool → List ℤ → List ℤ → ℤ → ℕ → List ℤ
ends_before columns items answers c zero = []
ends_before columns items answers c (suc j) =
    let rest = ends_before columns items answers c j in
    cond (counted columns items answers c j) (recorded_end columns answers j ∷ rest) rest

-- the item's own secondary start is c, before limiting
abbrev pub starts_at : Placement → ℤ → Bool
starts_at (Fixed s) c = eq_z s.start c
starts_at (Spanned n) c = false

-- where item j starts itself it ends no earlier than any that counts there before it
abbrev pub EndsLast : Bool → List ℤ → List ℤ → ℕ → Type 0
EndsLast columns items answers j =
    (c : ℤ) → counted columns items answers c j ≡ true → starts_at (secondary_of columns items j) c ≡ true
    → largest (recorded_end columns answers j) (ends_before columns items answers c j) ≡ recorded_end columns answers j

-- so do all before item i in the sparse flow, whose searches start "at the largest recorded primary end". Not where an item is only pressed: its search started without those there
abbrev pub Onward : Bool → List ℤ → List ℤ → ℕ → Type 0
Onward columns items answers i = (j : ℕ) → j < i → EndsLast columns items answers j

-- the answers record what the board's tiles do
abbrev pub Recorded : Bool → List ℤ → List ℤ → Board → ℕ → Type 0
Recorded columns items answers b i = (c : ℤ) → ends_on (axis_of columns) c b.tiles ≡ ends_before columns items answers c i

-- before step 2 no tile is one of its
abbrev pub NoEnds : Bool → Board → Type 0
NoEnds columns b = (c : ℤ) → ends_on (axis_of columns) c b.tiles ≡ []

-- "Dense starts at grid start. Sparse starts at the largest recorded primary end ..; if none, at grid start."
abbrev pub start_of : Bool → Bool → List ℤ → List ℤ → ℤ → ℕ → ℤ → ℤ
start_of columns dense items answers c i g = cond dense g (largest_or g (ends_before columns items answers c i))

-- the lists and counts stand for some board whose ends the answers record, up to item i
abbrev pub StandsAt : Bool → List ℤ → ℕ → Matrix → List ℤ → List ℤ → List ℤ → Type 0
StandsAt columns items i m answers primary secondary =
    (room : Both ℕ) × ((old : List ℤ) × ((b : Board) × (Ready columns room old b m answers primary secondary × Recorded columns items answers b i)))

-- and at the start of the step for one that has none
abbrev pub StandsFresh : Bool → Matrix → List ℤ → List ℤ → List ℤ → Type 0
StandsFresh columns m answers primary secondary =
    (room : Both ℕ) × ((old : List ℤ) × ((b : Board) × (Ready columns room old b m answers primary secondary × NoEnds columns b)))
