-- What the inner functions say of what they find, by the places of a flat list. None of the promises rests on these words.
use Rattle.std.specs.Prelude.{◌≡◌, Bool, true, false, not, ◌&&◌, ◌||◌, List, ℕ, suc, ◌+◌, ◌-◌, ◌*◌, ◌<◌, ◌≤◌, length, get_or, take, drop, ℤ, pos, negsuc, ◌+ℤ◌, ◌≤ℤ◌, ◌<ℤ◌}
use Rattle.std.specs.Int.Signed.{lt_z}
use Rattle.theory_intervals.specs.Records.{same}
use Rattle.theory_intervals.specs.Lists.{Holds}

-- the numbers of record i
abbrev pub track_no : List ℤ → ℕ → ℤ
track_no l i = get_or l (4 * i) (pos 0)

abbrev pub start_no : List ℤ → ℕ → ℤ
start_no l i = get_or l (4 * i + 1) (pos 0)

abbrev pub end_no : List ℤ → ℕ → ℤ
end_no l i = get_or l (4 * i + 2) (pos 0)

abbrev pub state_no : List ℤ → ℕ → ℤ
state_no l i = get_or l (4 * i + 3) (pos 0)

-- P, or not P, by a flag
abbrev pub Says : Bool → Type 0 → Type 0
Says true P = P
Says false P = P → ⊥

-- one record keeps the rules of one record
pub record Good (t a b s : ℤ) : Type 0 where
  pub t_lo : negsuc 9999 ≤ℤ t
  pub t_hi : t ≤ℤ pos 9999
  pub lo : negsuc 9999 ≤ℤ a
  pub order : a <ℤ b
  pub hi : b ≤ℤ pos 10000
  pub s_lo : pos 1 ≤ℤ s
  pub s_hi : s ≤ℤ pos 2

-- a record on track u from c with state v may stand behind one on track t to b with state s: the states as they stand in the list
abbrev pub may_follow : ℤ → ℤ → ℤ → ℤ → ℤ → ℤ → Bool
may_follow t b s u c v = lt_z t u || (same lt_z t u && (lt_z b c || (same lt_z b c && not (same lt_z s v))))

-- the same of the records that begin at places of a list
abbrev pub GoodAt : List ℤ → ℕ → Type 0
GoodAt l k = Good (get_or l k (pos 0)) (get_or l (k + 1) (pos 0)) (get_or l (k + 2) (pos 0)) (get_or l (k + 3) (pos 0))

abbrev pub follow_at : List ℤ → ℕ → ℕ → Bool
follow_at l k m = may_follow (get_or l k (pos 0)) (get_or l (k + 2) (pos 0)) (get_or l (k + 3) (pos 0)) (get_or l m (pos 0)) (get_or l (m + 1) (pos 0)) (get_or l (m + 3) (pos 0))

-- record i keeps the rules of one record, and may stand behind the record before it
pub record Goes (l : List ℤ) (i : ℕ) : Type 0 where
  pub good : GoodAt l (4 * i)
  pub next : (k : ℕ) → suc k ≡ i → follow_at l (4 * k) (4 * i) ≡ true

-- the first n records keep the rules
pub record Front (l : List ℤ) (n : ℕ) : Type 0 where
  pub room : 4 * n ≤ length l
  pub each : (i : ℕ) → i < n → Goes l i

abbrev pub Zeros : List ℤ → ℕ → Type 0
Zeros l k = (j : ℕ) → k ≤ j → j < length l → get_or l j (pos 0) ≡ pos 0

-- r is where the records of tracks from x on begin
pub record Split (l : List ℤ) (n : ℕ) (x : ℤ) (r : ℕ) : Type 0 where
  pub within : r ≤ n
  pub below : (k : ℕ) → k < r → track_no l k <ℤ x
  pub above : (k : ℕ) → r ≤ k → k < n → x ≤ℤ track_no l k

-- of n records on one track, those before lo start before x, and those from hi on don't
pub record Bounded (l : List ℤ) (n : ℕ) (x : ℤ) (lo hi : ℕ) : Type 0 where
  pub order : lo ≤ hi
  pub within : hi ≤ n
  pub below : (k : ℕ) → k < lo → start_no l k <ℤ x
  pub above : (k : ℕ) → hi ≤ k → k < n → x ≤ℤ start_no l k

-- r is how many of n records on one track start before x
abbrev pub Starting : List ℤ → ℕ → ℤ → ℕ → Type 0
Starting l n x r = Bounded l n x r r

-- the records from `first` up to `past` are those of the tracks low..high
pub record Crosses (l : List ℤ) (first past : ℕ) : Type 0 where
  pub used : ℕ
  pub low : ℤ
  pub high : ℤ
  pub holds : Holds l used
  pub order : low ≤ℤ high
  pub begins : Split l used low first
  pub ends : Split l used high past

-- r is the part of l that holds the records of track t among the first n, as a part of the list
pub record Part (l : List ℤ) (n : ℕ) (t : ℤ) (r : List ℤ) : Type 0 where
  pub from : ℕ
  pub to : ℕ
  pub order : from ≤ to
  pub begins : Split l n t from
  pub ends : Split l n (t +ℤ pos 1) to
  pub cut : r ≡ take (4 * to - 4 * from) (drop (4 * from) l)

-- r is the part of l that holds the records of the last track among those from `from` up to `to`
pub record Tail (l : List ℤ) (from to : ℕ) (r : List ℤ) : Type 0 where
  pub at : ℕ
  pub low : from ≤ at
  pub begins : Split l to (track_no l (to - 1)) at
  pub cut : r ≡ take (4 * to - 4 * at) (drop (4 * at) l)

-- records one behind the other on one track: each ends at or before the start of the next
pub record Ascends (l : List ℤ) (n : ℕ) : Type 0 where
  pub order : (i : ℕ) → i < n → start_no l i <ℤ end_no l i
  pub next : (i : ℕ) → suc i < n → end_no l i ≤ℤ start_no l (suc i)
