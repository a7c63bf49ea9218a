-- Document 01, "Reading": what each address reads, what a read clears, and the shared list.
-- Assumes nothing.
use Rattle.std.specs.Prelude.{◌+◌, ◌*◌, ◌&&◌, ◌||◌, if◌then◌else◌}
use Rattle.laws.specs.Words.{ℕ, Bool, false, not, ltb, eqb, one, ◌to◌, covers, within, bit}
use Rattle.model.specs.Ports.{Places}
use Rattle.model.specs.Map.{in_page, status_at, flags, page_at, Seat, flag, mine, common, status, blank, seat}
use Rattle.model.specs.Reset.{in_page02}
use Rattle.model.specs.Interrupt.{stands}

-- "Byte 2 has bits 2 and 0 as stored, bit 1 the level of the port's IntL pin (1 when no interrupt stands), others 0"
abbrev pub status_byte : Places → Places → ℕ
status_byte mem o = 4 * bit 2 (mem status_at) + 2 * one (not (stands o)) + bit 0 (mem status_at)

-- what a port with the record o reads there: "Anything else is as stored"
unfoldable pub look : Places → Places → Seat → ℕ
look mem o (flag k) = o k
look mem o (mine k) = o k
look mem o (common i) = mem i
look mem o status = status_byte mem o
look mem o blank = 0

-- what address a reads for it
unfoldable pub seen : Places → Places → ℕ → ℕ
seen mem o a = look mem o (seat (o page_at) a)

-- "then the flag bytes inside the run become 0": the run is of n bytes from address a on
unfoldable pub cleared : ℕ → ℕ → Places → Places
cleared a n o k = if ltb k flags.many && covers a n (flags.first + k) then 0 else o k

-- ---- the shared list: "both see it, the operator alone writes it": lower 86, 87, 88, 93, 98, page 02h, page 03h 234 to 241

unfoldable pub shared : ℕ → Bool
shared i =
    eqb i 86 || (within (87 to 88) i || (eqb i 93 || (eqb i 98
    || (in_page02 i || in_page 3 (234 to 241) i))))

-- an address leads there
abbrev pub is_shared : Seat → Bool
is_shared (flag k) = false
is_shared (mine k) = false
is_shared (common i) = shared i
is_shared status = false
is_shared blank = false
