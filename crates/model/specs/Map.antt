-- Document 01, "The 688 bytes": the memory, a record's bytes by name, where an address leads, supported pages, soundness.
--
--    place   0  lower memory        addresses 0 to 127
--          128  page 00h            addresses 128 to 255 of the port's selected page
--          256  page 01h
--          384  page 02h
--          512  page 03h
--          640  operator's record   flags of 3 to 14, masks 100 to 104, masks 242 to 247, page
--          664  recorder's record   the same
-- Assumes nothing.
use Rattle.std.specs.Prelude.{◌+◌, ◌-◌, ◌*◌, ◌%◌, ◌&&◌, ◌||◌, if◌then◌else◌}
use Rattle.laws.specs.Words.{ℕ, Bool, not, ltb, eqb, Run, ◌to◌, covers, within, has}
use Rattle.model.specs.Ports.{Port, operator, recorder, Places}

-- ---- the memory

-- lower memory is 0 to 127, and each page is as long
abbrev pub page_size : ℕ
page_size = 128

-- the place of address a, 128 to 255, of page g: "256 to 383: page 01h", and so on
abbrev pub paged : ℕ → ℕ → ℕ
paged g a = a + page_size * g

-- place i lies in the addresses r of page g
abbrev pub in_page : ℕ → Run → ℕ → Bool
in_page g r i = covers (paged g r.first) r.many i

-- lower memory and pages 00h to 03h, 640 bytes
abbrev pub memory_size : ℕ
memory_size = paged 4 page_size

-- lower byte 2: bit 2 flat memory, bit 0 Data_Not_Ready
abbrev pub status_at : ℕ
status_at = 2

-- ---- a record's 24 bytes

-- "the flags of lower bytes 3 to 14"
abbrev pub flags : Run
flags = 3 to 14

-- "the masks at lower 100 to 104"
abbrev pub low_masks : Run
low_masks = 100 to 104

-- "the masks at page 03h 242 to 247"
abbrev pub high_masks : Run
high_masks = 242 to 247

-- where these stand in a record: the flags at 0 to 11, the masks at 12 to 16 and 17 to 22, the page at 23
abbrev pub flag_of : ℕ → ℕ
flag_of b = b - flags.first

abbrev pub low_mask_of : ℕ → ℕ
low_mask_of a = flags.many + (a - low_masks.first)

abbrev pub high_mask_of : ℕ → ℕ
high_mask_of a = flags.many + low_masks.many + (a - high_masks.first)

abbrev pub page_at : ℕ
page_at = flags.many + low_masks.many + high_masks.many

abbrev pub record_size : ℕ
record_size = page_at + 1

-- where a port's record begins in the state: 640 and 664
abbrev pub base : Port → ℕ
base operator = memory_size
base recorder = memory_size + record_size

-- 688
abbrev pub state_size : ℕ
state_size = memory_size + 2 * record_size

-- ---- host addresses

-- "A host address and a place in the state are different numbers": where an address leads
pub data Seat : Type 0 where
  flag : ℕ → Seat  -- this byte of the port's record, a flag byte
  mine : ℕ → Seat  -- this byte of the port's record, a mask or the page
  common : ℕ → Seat  -- this place of the memory
  status : Seat  -- lower byte 2
  blank : Seat  -- no place

-- address a, with page g selected: "0 to 127 are lower memory; 128 to 255 lie in the port's selected page", and "Bytes 3 to 14,
-- 100 to 104, 127 and page 03h 242 to 247 come from the port's own record"; "119 to 126 read 0"
unfoldable pub seat : ℕ → ℕ → Seat
seat g a =
    if within flags a then flag (flag_of a)
    else (if within low_masks a then mine (low_mask_of a)
    else (if eqb a 127 then mine page_at
    else (if within (119 to 126) a then blank
    else (if eqb a status_at then status
    else (if ltb a page_size then common a
    else (if eqb g 3 && within high_masks a then mine (high_mask_of a)
    else common (paged g a)))))))

-- ---- supported pages and soundness

-- "00h always. If bit 2 of lower byte 2 is 0 then also 03h, 01h if bit 6 of page 00h byte 195 is 1, and 02h if bit 7 of it is 1"
unfoldable pub supported : Places → ℕ → Bool
supported mem g =
    eqb g 0
    || (not (has 2 (mem status_at)) && (eqb g 3 || ((eqb g 1 && has 6 (mem (paged 0 195))) || (eqb g 2 && has 7 (mem (paged 0 195))))))

-- "the flags for byte 8 are 0, and bits 3 to 0 are 0 in the flags of bytes 6 and 7 and in the masks 103 and 104"
unfoldable pub tidy : Places → Bool
tidy o =
    eqb (o (flag_of 8)) 0
    && (eqb (o (flag_of 6) % 16) 0 && (eqb (o (flag_of 7) % 16) 0
    && (eqb (o (low_mask_of 103) % 16) 0 && eqb (o (low_mask_of 104) % 16) 0)))

-- "A record is sound if its page is supported, .."
unfoldable pub sound : Places → Places → Bool
sound mem o = supported mem (o page_at) && tidy o
