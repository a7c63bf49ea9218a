-- Document 01, "Reset": the check codes, and the memory after an accepted reset.
-- Assumes nothing.
use Rattle.std.specs.Prelude.{◌+◌, ◌-◌, ◌*◌, ◌%◌, ◌&&◌, ◌||◌, ◌∷◌, if◌then◌else◌}
use Rattle.laws.specs.Words.{ℕ, Bool, not, List, [], length, eqb, Row, Run, ◌to◌, within, bit, at, part, sum}
use Rattle.model.specs.Map.{page_size, memory_size, in_page, status_at}

-- ---- check codes

-- "the sum .., low eight bits"
abbrev pub check_code : List ℕ → ℕ
check_code l = sum l % 256

-- the bytes r of a page given by its 128 bytes
abbrev pub page_part : List ℕ → Run → List ℕ
page_part page r = part (r.first - page_size) r.many page

-- the byte after the run r is the check code of the run
abbrev pub code_right : List ℕ → Run → Bool
code_right page r = eqb (at page (r.first + r.many - page_size)) (check_code (page_part page r))

-- "byte 191 is the sum of bytes 128 to 190 ..; byte 223 is the same for bytes 192 to 222"
unfoldable pub codes_right : List ℕ → Bool
codes_right page = code_right page (page_size to 190) && code_right page (192 to 222)

-- 9: "the factory image isn't 640 bytes"; 10: "a check code of the factory image is wrong", in its page 00h
abbrev pub reset_rows : List ℕ → List Row
reset_rows img = (9, not (eqb (length img) memory_size)) ∷ (10, not (codes_right (part page_size page_size img))) ∷ []

-- ---- after an accepted reset

-- "lower 3 to 14, 22 to 57, 100 to 104, 119 to 127 and page 03h 242 to 247 are 0"
unfoldable pub emptied : ℕ → Bool
emptied i =
    within (3 to 14) i || (within (22 to 57) i || (within (100 to 104) i || (within (119 to 127) i || in_page 3 (242 to 247) i)))

abbrev pub in_page02 : ℕ → Bool
in_page02 i = in_page 2 (128 to 255) i

-- what stands at place i where `old` stood: "the factory image, except: page 02h keeps its old bytes; lower byte 2 is the
-- factory's bit 2 with bit 0 (Data_Not_Ready) set and all else 0; .."
unfoldable pub fresh : List ℕ → ℕ → ℕ → ℕ
fresh img i old =
    if eqb i status_at then 4 * bit 2 (at img status_at) + 1
    else (if emptied i then 0
    else (if in_page02 i then old else at img i))
