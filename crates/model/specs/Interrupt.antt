-- The count and the interrupt: document 01 gives the masks under "Writing", the count under "Refusal numbers and their order".
-- Assumes nothing.
use Rattle.std.specs.Prelude.{◌∷◌}
use Rattle.laws.specs.Words.{ℕ, Bool, List, []}
use Rattle.ports.specs.Interrupt.{count_of, stands_of}
pub use Rattle.ports.specs.Interrupt.{Pair, through, bits, count_pair}
use Rattle.model.specs.Ports.{Places}
use Rattle.model.specs.Map.{flag_of, low_mask_of, high_mask_of}

-- flag byte b with the mask byte that serves it: of lower memory, of page 03h
abbrev pub low_pair : ℕ → ℕ → Pair
low_pair b a = record { flag_byte = flag_of b; mask_byte = low_mask_of a }

abbrev pub high_pair : ℕ → ℕ → Pair
high_pair b a = record { flag_byte = flag_of b; mask_byte = high_mask_of a }

-- the eleven: "Mask 100 serves flag byte 3, 101 byte 4, 102 byte 5, 103 byte 6, 104 byte 7; 242 to 247 serve 9 to 14"
abbrev pub pairs : List Pair
pairs =
    low_pair 3 100 ∷ low_pair 4 101 ∷ low_pair 5 102 ∷ low_pair 6 103 ∷ low_pair 7 104
    ∷ high_pair 9 242 ∷ high_pair 10 243 ∷ high_pair 11 244 ∷ high_pair 12 245 ∷ high_pair 13 246 ∷ high_pair 14 247 ∷ []

-- "the number of raised flags that its masks let through"
abbrev pub count : Places → ℕ
count o = count_of pairs o

-- "The interrupt stands exactly when that number isn't 0"
abbrev pub stands : Places → Bool
stands o = stands_of pairs o
