-- Document 02, Ask 1 and Ask 9: a block of a log, 512 bytes.
-- Assumes nothing.
use Rattle.std.specs.Prelude.{◌+◌, ◌-◌, ◌*◌, ◌/◌, ◌%◌, ◌<◌, ◌&&◌, ◌||◌, ◌∷◌, ◌++◌, if◌then◌else◌}
use Rattle.laws.specs.Words.{ℕ, zero, suc, Bool, true, List, [], bit_or, eqb, ltb, leb, covers, at, table, part, sum}

-- ---- its fields

-- "whole 512-byte blocks"
abbrev pub block_size : ℕ
block_size = 512

-- "samples of 31 bytes"
abbrev pub sample_size : ℕ
sample_size = 31

-- "bytes 0 to 3 its number, high byte first"
abbrev pub number : List ℕ → ℕ
number b = 16777216 * at b 0 + 65536 * at b 1 + 256 * at b 2 + at b 3

abbrev pub number_bytes : ℕ → List ℕ
number_bytes n = n / 256 / 256 / 256 % 256 ∷ n / 256 / 256 % 256 ∷ n / 256 % 256 ∷ n % 256 ∷ []

-- "byte 4 a count of 0 to 16"
abbrev pub count_at : ℕ
count_at = 4

abbrev pub count : List ℕ → ℕ
count b = at b count_at

abbrev pub most_samples : ℕ
most_samples = 16

-- "bytes 5 to 500 room for sixteen samples": where the sample k begins
abbrev pub slot : ℕ → ℕ
slot k = 5 + sample_size * k

-- where the room ends
abbrev pub room_end : ℕ
room_end = slot most_samples

-- its first k samples
unfoldable pub samples_to : List ℕ → ℕ → List (List ℕ)
samples_to b zero = []
samples_to b (suc k) = samples_to b k ++ (part (slot k) sample_size b ∷ [])

abbrev pub samples_in : List ℕ → List (List ℕ)
samples_in b = samples_to b (count b)

-- ---- its summary, bytes 501 to 509 (Ask 9)

-- the status byte j, 0 to 2, of the block's first k samples: their OR
unfoldable pub any_to : (ℕ → ℕ) → ℕ → ℕ → ℕ
any_to f j zero = 0
any_to f j (suc k) = bit_or (any_to f j k) (f (slot k + j))

-- "bytes 501 to 503 are the OR of the three status bytes over their samples and byte 504 is 1"; after them zeros
unfoldable pub summary : (ℕ → ℕ) → ℕ → ℕ
summary f j = if ltb j 3 then any_to f j (f count_at) else (if eqb j 3 then 1 else 0)

-- ---- its check, bytes 510 and 511

-- "the sum of the first 510 bytes, low sixteen bits"
unfoldable pub check_of : (ℕ → ℕ) → ℕ
check_of f = sum (table 510 f) % 65536

-- ---- its end, bytes 501 to 511

-- the first 510 bytes of the block that has f before byte 501
abbrev pub first510 : (ℕ → ℕ) → ℕ → ℕ
first510 f i = if ltb i room_end then f i else summary f (i - room_end)

-- all its places: "510 and 511 the sum .., high byte first"
unfoldable pub sealed : (ℕ → ℕ) → ℕ → ℕ
sealed f i =
    if ltb i 510 then first510 f i
    else (if eqb i 510 then check_of (first510 f) / 256 else check_of (first510 f) % 256)

-- the n places from a on hold f 0 to f (n - 1)
unfoldable pub holds : ℕ → ℕ → (ℕ → ℕ) → List ℕ → Bool
holds a zero f b = true
holds a (suc n) f b = holds a n f b && eqb (at b (a + n)) (f n)

abbrev pub has_summary : List ℕ → Bool
has_summary b = holds room_end 9 (summary (at b)) b

-- "Blocks with 501 to 504 all zero remain sound .. Any other content of 501 to 509 is unsound"
abbrev pub summed : List ℕ → Bool
summed b = has_summary b || holds room_end 9 (λ j. 0) b

abbrev pub checked : List ℕ → Bool
checked b = eqb (at b 510) (check_of (at b) / 256) && eqb (at b 511) (check_of (at b) % 256)

-- bytes 501 to 511 are as they must be
abbrev pub ended : List ℕ → Bool
ended b = summed b && checked b

-- ---- sound by itself

-- "a count of 0 to 16"; "Unused room is zero"; its end
unfoldable pub sound_block : List ℕ → Bool
sound_block b =
    leb (count b) most_samples && (holds (slot (count b)) (room_end - slot (count b)) (λ j. 0) b && ended b)

-- ---- blocks that are written

-- block n with no samples
unfoldable pub fresh : ℕ → List ℕ
fresh n = table block_size (sealed (at (number_bytes n)))

-- block b with one sample more, x: its places before its end
abbrev pub grown_at : List ℕ → List ℕ → ℕ → ℕ
grown_at b x i = if eqb i count_at then suc (count b) else (if covers (slot (count b)) sample_size i then at x (i - slot (count b)) else at b i)

unfoldable pub grown : List ℕ → List ℕ → List ℕ
grown b x = table block_size (sealed (grown_at b x))

-- ---- memory of bytes

-- every number of the memory is a byte
abbrev pub Bytes : List ℕ → Type 0
Bytes s = (i : ℕ) → at s i < 256
