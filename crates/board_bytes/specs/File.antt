-- The file. "Length first: 4 bytes, big-endian, of all that follows; one version byte, 1; flow byte; six 16-bit counts (columns first); 16-bit item count;
-- items, 12 bytes each, all big-endian. Counts and item count are unsigned, item numbers signed. The length is 16 + 12n."
use Rattle.std.specs.Prelude.{Bool, cond, ◌&&◌, List, [], ◌∷◌, ℕ, zero, suc, ◌+◌, ◌*◌, ◌/◌, ◌%◌, eqb, leb, ltb, ℤ, pos, ◌-ℤ◌, length, get_or, Option, Some, None, Result, Ok, Err}
use Rattle.std.specs.Int.{w16}
use Rattle.std.proofs.Common.{of_z}
use Rattle.grid_track_counts.specs.declared.TrackCounts.{TrackCounts}
use Rattle.refusals.specs.declared.Refusal.{Refusal}
use Rattle.refusals.specs.declared.Refusal.TheVariants.{NotAFile}
use Rattle.board_bytes.specs.declared.header.Head.{Head}

-- ---- from bytes

-- "16-bit .. big-endian": the unsigned number of the two bytes at i
unfoldable pub word_at : List ℕ → ℕ → ℕ
word_at bs i = 256 * get_or bs i 0 + get_or bs (suc i) 0

-- "Length first: 4 bytes, big-endian"
unfoldable pub length_told : List ℕ → ℕ
length_told bs = 65536 * word_at bs 0 + word_at bs 2

-- "item numbers signed": the number that 16 bits stand for
unfoldable pub signed_of : ℕ → ℤ
signed_of n = cond (ltb n 32768) (pos n) (pos n -ℤ pos 65536)

-- n signed numbers from byte i on
unfoldable pub numbers : List ℕ → ℕ → ℕ → List ℤ
numbers bs i zero = []
numbers bs i (suc n) = signed_of (word_at bs i) ∷ numbers bs (suc (suc i)) n

-- three counts from byte i on: negative, explicit, positive
unfoldable pub counts_at : List ℕ → ℕ → TrackCounts
counts_at bs i = record { negative = word_at bs i; explicit = word_at bs (i + 2); positive = word_at bs (i + 4) }

-- the length, the version, the flow, the counts and the item count are 20 bytes
unfoldable pub head_of : List ℕ → Head
head_of bs = record { flow = get_or bs 5 0; columns = counts_at bs 6; rows = counts_at bs 12; count = word_at bs 18 }

unfoldable pub items_in : List ℕ → List ℤ
items_in bs = numbers bs 20 (6 * word_at bs 18)

-- not refusal 12, which is given for a "file shorter or longer than it says, item count at odds with its length, or version not 1"
unfoldable pub good_file : List ℕ → Bool
good_file bs =
    leb 20 (length bs)
    && (eqb (length bs) (4 + length_told bs) && (eqb (length_told bs) (16 + 12 * word_at bs 18) && eqb (get_or bs 4 0) 1))

unfoldable pub header_of : List ℕ → Result Head Refusal
header_of bs = cond (good_file bs) (Ok (head_of bs)) (Err NotAFile)

-- ---- the format, there and back

-- what a file tells: its item count is a sixth of its item numbers
pub record Contents : Type 0 where
  pub flow : ℕ
  pub columns : TrackCounts
  pub rows : TrackCounts
  pub items : List ℤ

unfoldable pub read_of : List ℕ → Option Contents
read_of bs = cond (good_file bs) (Some (record { flow = get_or bs 5 0; columns = counts_at bs 6; rows = counts_at bs 12; items = items_in bs })) None

-- a 16-bit number's two bytes before the rest
unfoldable pub put : ℕ → List ℕ → List ℕ
put n bs = n / 256 ∷ n % 256 ∷ bs

unfoldable pub put_counts : TrackCounts → List ℕ → List ℕ
put_counts c bs = put c.negative (put c.explicit (put c.positive bs))

unfoldable pub put_numbers : List ℤ → List ℕ
put_numbers [] = []
put_numbers (z ∷ zs) = put (of_z w16 z) (put_numbers zs)

-- the file of n items
unfoldable pub file_of : ℕ → Contents → List ℕ
file_of n q =
    put ((16 + 12 * n) / 65536) (put ((16 + 12 * n) % 65536)
    (1 ∷ q.flow ∷ put_counts q.columns (put_counts q.rows (put n (put_numbers q.items)))))
