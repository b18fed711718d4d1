-- The inner words of painting one track: which fours of a list it reaches, and what they become. None of the promises rests on these words.
use Rattle.std.specs.Prelude.{◌≡◌, Bool, false, not, cond, List, [], ◌∷◌, ◌++◌, map, ℕ, zero, suc, ◌-◌, ◌*◌, ◌<◌, ◌≤◌, ℤ, pos, drop, get_or, length, eqb}
use Rattle.std.specs.Int.Signed.{lt_z}
use Rattle.std.specs.Int.{w16}
use Rattle.std.proofs.Common.{to_z, of_z}
use Rattle.theory_intervals.specs.Paint.{run, pt}
use Rattle.list_moves.specs.Fours.{Four, four_at, fours}
use Rattle.theory_intervals.specs.Cut.{gapb, new, lx, Rn}

-- the four numbers of a record as a run of the reading order. A state is told apart by its bits, as code tells it
abbrev pub run_of : Four → Rn
run_of r = run (pt r.track r.start) (pt r.track r.end) (of_z w16 r.state)

abbrev pub runs : List Four → List Rn
runs rs = map run_of rs

abbrev pub four : ℤ → ℤ → ℤ → ℤ → Four
four t c d v = record { track = t; start = c; end = d; state = v }

-- the record ends before the interval from a on, on track t
abbrev pub early_r : Four → ℤ → ℤ → ℕ → Bool
early_r r t a s = gapb lx (pt r.track r.end) (of_z w16 r.state) (pt t a) s

-- the record starts behind the interval to b, on track t
abbrev pub late_r : Four → ℤ → ℤ → ℕ → Bool
late_r r t b s = gapb lx (pt t b) s (pt r.track r.start) (of_z w16 r.state)

-- of the first n records: how many there are before those at the end that are late
abbrev pub before_late : List ℤ → ℤ → ℤ → ℕ → ℕ → ℕ
before_late l t b s zero = zero
before_late l t b s (suc i) = cond (late_r (four_at l (4 * i)) t b s) (before_late l t b s i) (suc i)

-- of the first n records: how many there are up to the last that is early
abbrev pub after_early : List ℤ → ℤ → ℤ → ℕ → ℕ → ℕ
after_early l t a s zero = zero
after_early l t a s (suc i) = cond (early_r (four_at l (4 * i)) t a s) (suc i) (after_early l t a s i)

-- where the painted run starts, and whether something is left before it: c and v are the start and the state of the first record that is reached.
-- What is left behind it is told by the same test, from the paint's end to the last record's
abbrev pub start_of : ℤ → ℕ → ℤ → ℕ → ℤ
start_of c v a s = cond (lt_z c a) (cond (eqb v s) c a) a

abbrev pub left_of : ℤ → ℕ → ℤ → ℕ → Bool
left_of c v a s = cond (lt_z c a) (not (eqb v s)) false

abbrev pub end_of : ℤ → ℕ → ℤ → ℕ → ℤ
end_of d v b s = cond (lt_z b d) (cond (eqb s v) d b) b

-- each state is what its bits say, as is so of every number that code stores
pub data Stored : List Four → Type 0 where
  nil : Stored []
  cons : {r : Four} {rs : List Four} → to_z w16 (of_z w16 r.state) ≡ r.state → Stored rs → Stored (r ∷ rs)

-- all are on track t
pub data AllOn (t : ℤ) : List Four → Type 0 where
  nil : AllOn t []
  cons : {r : Four} {rs : List Four} → r.track ≡ t → AllOn t rs → AllOn t (r ∷ rs)

-- `put` is what becomes of `mid`, all that the paint reaches
pub record Pieced (t a b : ℤ) (s : ℕ) (mid put : List Four) : Type 0 where
  pub is : runs put ≡ new lx (pt t a) (pt t b) s (runs mid)
  pub stored : Stored put
  pub placed : AllOn t put

-- the same of numbers: the painted run between what is left on both sides
pub record Built (t c v d z a b s : ℤ) (put : List Four) : Type 0 where
  pub is : runs put ≡ cond (left_of c (of_z w16 v) a (of_z w16 s)) (run (pt t c) (pt t a) (of_z w16 v) ∷ []) []
      ++ (run (pt t (start_of c (of_z w16 v) a (of_z w16 s))) (pt t (end_of d (of_z w16 z) b (of_z w16 s))) (of_z w16 s)
      ∷ cond (left_of b (of_z w16 s) d (of_z w16 z)) (run (pt t b) (pt t d) (of_z w16 z) ∷ []) [])
  pub stored : Stored put
  pub placed : AllOn t put

-- the first and the last of the records i..j are on track t
pub record OnTrack (l : List ℤ) (i j : ℕ) (t : ℤ) : Type 0 where
  pub first : i < j → get_or l (4 * i) (pos 0) ≡ t
  pub last : i < j → get_or l (4 * (j - 1)) (pos 0) ≡ t

-- of the first n records, those that are neither late nor early are on the track: so it is where the records keep the rules
abbrev pub Apart : List ℤ → ℕ → ℤ → ℤ → ℤ → ℕ → Type 0
Apart l n t a b s = OnTrack l (after_early l t a s (before_late l t b s n)) (before_late l t b s n) t

-- of the first n records, those from i on below j are reached, and the m of `put` are what becomes of them
pub record Reaches (l : List ℤ) (n : ℕ) (t a b : ℤ) (s : ℕ) (i j m : ℕ) (put : List ℤ) : Type 0 where
  pub past : j ≡ before_late l t b s n
  pub first : i ≡ after_early l t a s j
  pub low : i ≤ j
  pub high : j ≤ n
  pub few : m ≤ 3
  pub long : length put ≡ 4 * m
  pub become : Pieced t a b s (fours (j - i) (drop (4 * i) l)) (fours m put)
