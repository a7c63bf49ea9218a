-- Which bits are flags, and which are masks, "paired by name": source document 002 (QSFP-DD revision 2.0), Tables 18 and 27; docs/EIGHT.md
-- has them bit by bit. And where a record keeps them.
-- Assumes nothing.
use Rattle.std.specs.Prelude.{◌+◌, ◌∷◌, ◌++◌}
use Rattle.laws.specs.Words.{ℕ, List, [], map, Run, ◌to◌}
use Rattle.ports.specs.Interrupt.{Pair}

-- lower bytes 3 to 16, and the mask bytes that serve them: 102 serves 3, .., 115 serves 16, bit by bit
abbrev pub flags : Run
flags = 3 to 16

abbrev pub masks : Run
masks = 102 to 115

-- byte 8 has bits 7 to 4 alone; bits 5 and 4 of byte 9 are reserved
abbrev pub flag_bits : List ℕ
flag_bits = 255 ∷ 255 ∷ 255 ∷ 255 ∷ 255 ∷ 240 ∷ 207 ∷ 255 ∷ 255 ∷ 255 ∷ 255 ∷ 255 ∷ 255 ∷ 255 ∷ []

-- "flags without a mask there are never held back": State Changed, bit 0 of byte 9, is one; bit 0 of byte 108 is Init-Complete's
abbrev pub mask_bits : List ℕ
mask_bits = 255 ∷ 255 ∷ 255 ∷ 255 ∷ 255 ∷ 240 ∷ 206 ∷ 255 ∷ 255 ∷ 255 ∷ 255 ∷ 255 ∷ 255 ∷ 255 ∷ []

-- a record's 42 bytes: the flags of 3 to 16, the masks of 102 to 115, the pending bits of 3 to 16; each by its number, 0 to 13
abbrev pub mask_of : ℕ → ℕ
mask_of i = flags.many + i

abbrev pub pending_of : ℕ → ℕ
pending_of i = flags.many + masks.many + i

abbrev pub record_size : ℕ
record_size = flags.many + masks.many + flags.many

-- the bits that each of them may have
abbrev pub record_bits : List ℕ
record_bits = flag_bits ++ mask_bits ++ flag_bits

-- a byte of pending bits, and the mask byte that serves it
abbrev pub pair_of : ℕ → Pair
pair_of i = record { flag_byte = pending_of i; mask_byte = mask_of i }

abbrev pub pairs : List Pair
pairs = map pair_of (0 ∷ 1 ∷ 2 ∷ 3 ∷ 4 ∷ 5 ∷ 6 ∷ 7 ∷ 8 ∷ 9 ∷ 10 ∷ 11 ∷ 12 ∷ 13 ∷ [])
