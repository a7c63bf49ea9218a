-- The numbers that the definitions work out are the paper's: computed, one after the other.
-- Assumes nothing.
use mathlib.Core.Path.{◌≡◌, refl}
use mathlib.Core.List.{[], ◌∷◌, map}
use Prim.Native.Nat.{◌*◌}
use Rattle.laws.specs.Tests.{Run}
use Rattle.laws.specs.Lists.{table}
use Rattle.model.specs.Ports.{operator, recorder}
use Rattle.model.specs.Map.{page_size, paged, memory_size, record_size, state_size, base, flag_of, low_mask_of, high_mask_of, page_at}
use Rattle.model.specs.Samples.{Quantity, quantities, sample_size}
use Rattle.model.specs.Readout.{fields, field_start, trimmed, field_length, divisor, monitored, monitor_at, quantity}
use Rattle.model.specs.Interrupt.{Pair, pairs}

-- "0 to 127: lower memory. 128 to 255: page 00h. 256 to 383: page 01h. 384 to 511: page 02h. 512 to 639: page 03h. 640 to 663: the
-- operator's record. 664 to 687: the recorder's record."
map_numbers : paged 0 128 ∷ paged 1 128 ∷ paged 2 128 ∷ paged 3 128 ∷ memory_size ∷ base operator ∷ base recorder ∷ state_size ∷ []
    ≡ 128 ∷ 256 ∷ 384 ∷ 512 ∷ 640 ∷ 640 ∷ 664 ∷ 688 ∷ []
map_numbers = refl

-- "A record's 24 bytes: 0 to 11, the flags of lower bytes 3 to 14; 12 to 16, the masks at lower 100 to 104; 17 to 22, the masks at
-- page 03h 242 to 247; 23, the selected page."
record_numbers : flag_of 3 ∷ flag_of 14 ∷ low_mask_of 100 ∷ low_mask_of 104 ∷ high_mask_of 242 ∷ high_mask_of 247 ∷ page_at ∷ record_size ∷ []
    ≡ 0 ∷ 11 ∷ 12 ∷ 16 ∷ 17 ∷ 22 ∷ 23 ∷ 24 ∷ []
record_numbers = refl

-- "Mask 100 serves flag byte 3, 101 byte 4, 102 byte 5, 103 byte 6, 104 byte 7; 242 to 247 serve 9 to 14": eleven pairs
pair_flags : map (λ (pr : Pair). pr.flag_byte) pairs ≡ map flag_of (3 ∷ 4 ∷ 5 ∷ 6 ∷ 7 ∷ 9 ∷ 10 ∷ 11 ∷ 12 ∷ 13 ∷ 14 ∷ [])
pair_flags = refl

pair_masks : map (λ (pr : Pair). pr.mask_byte) pairs
    ≡ low_mask_of 100 ∷ low_mask_of 101 ∷ low_mask_of 102 ∷ low_mask_of 103 ∷ low_mask_of 104 ∷ high_mask_of 242 ∷ high_mask_of 243 ∷ high_mask_of 244
    ∷ high_mask_of 245 ∷ high_mask_of 246 ∷ high_mask_of 247 ∷ []
pair_masks = refl

-- "three status bytes .., then 14 numbers of two bytes": 31 bytes, the numbers of the five quantities one after the other
sample_numbers : sample_size ∷ map (λ (q : Quantity). q.number) quantities ≡ 31 ∷ 0 ∷ 1 ∷ 2 ∷ 6 ∷ 10 ∷ []
sample_numbers = refl

-- "22-23, 26-27, 34-41, 42-49, 50-57": where each quantity's numbers begin, and how many bytes they are
stored_numbers : (map (λ (q : Quantity). q.stored_from) quantities ≡ 22 ∷ 26 ∷ 34 ∷ 42 ∷ 50 ∷ [])
    × (map (λ (q : Quantity). 2 * q.channels) quantities ≡ 2 ∷ 2 ∷ 8 ∷ 8 ∷ 8 ∷ [])
stored_numbers = (refl, refl)

-- the lengths of the six identity fields
field_numbers : map (λ (r : Run). r.many) fields ≡ 16 ∷ 3 ∷ 16 ∷ 2 ∷ 16 ∷ 8 ∷ []
field_numbers = refl

-- "0 to 13 in sample order": where each monitor is stored, and what its number is divided by
monitor_numbers : table 14 (λ n. monitor_at (monitored n quantities) n)
    ≡ 22 ∷ 26 ∷ 34 ∷ 36 ∷ 38 ∷ 40 ∷ 42 ∷ 44 ∷ 46 ∷ 48 ∷ 50 ∷ 52 ∷ 54 ∷ 56 ∷ []
unfolding table
monitor_numbers = refl

divisor_numbers : table 14 (λ n. divisor (monitored n quantities).kind)
    ≡ 256 ∷ 10000 ∷ 10000 ∷ 10000 ∷ 10000 ∷ 10000 ∷ 500 ∷ 500 ∷ 500 ∷ 500 ∷ 10000 ∷ 10000 ∷ 10000 ∷ 10000 ∷ []
unfolding table
divisor_numbers = refl

-- "quantity 0 to 4: temperature, supply, Rx power, bias, Tx power": where the thresholds of each begin
limits_numbers : map (λ n. paged 3 (quantity n).limits_from) (0 ∷ 1 ∷ 2 ∷ 3 ∷ 4 ∷ []) ≡ 512 ∷ 528 ∷ 560 ∷ 568 ∷ 576 ∷ []
limits_numbers = refl

-- where each of the six identity fields begins in its page
start_numbers : map field_start (1 ∷ 2 ∷ 3 ∷ 4 ∷ 5 ∷ 6 ∷ []) ≡ 20 ∷ 37 ∷ 40 ∷ 56 ∷ 68 ∷ 84 ∷ []
start_numbers = refl

-- "without trailing 20h bytes (the OUI whole)": the lengths of the six fields in a page of 20h alone
blank_numbers : map (field_length (table page_size (λ i. 0x20))) (1 ∷ 2 ∷ 3 ∷ 4 ∷ 5 ∷ 6 ∷ []) ≡ 0 ∷ 3 ∷ 0 ∷ 0 ∷ 0 ∷ 0 ∷ []
unfolding trimmed table
blank_numbers = refl
