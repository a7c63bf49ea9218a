-- Document 01, "Identity, monitors, limits".
-- Assumes nothing.
use Rattle.std.specs.Prelude.{◌+◌, ◌-◌, ◌*◌, ◌&&◌, ◌||◌, ◌∷◌, if◌then◌else◌}
use Rattle.laws.specs.Words.{ℕ, zero, suc, Bool, not, List, [], length, get_or, eqb, ℤ, pos, nat_abs, non_neg, div, of_int, Float, binary64, HasValue, covers, Run, ◌to◌, has, at, part}
use Rattle.model.specs.Ports.{Places}
use Rattle.model.specs.Map.{page_size, status_at}
use Rattle.model.specs.Reset.{codes_right}
use Rattle.model.specs.Samples.{word, value, Kind, degrees, volts, milliwatts, milliamperes, Quantity, temperature, quantities, offered, threshold}

-- ---- identity

-- "A page is sound at 128 bytes with both check codes right"
unfoldable pub sound_page : List ℕ → Bool
sound_page page = eqb (length page) page_size && codes_right page

-- "1 vendor name 148-163, 2 OUI 165-167, 3 part number 168-183, 4 revision 184-185, 5 serial 196-211, 6 date 212-219"
abbrev pub fields : List Run
fields = 148 to 163 ∷ 165 to 167 ∷ 168 to 183 ∷ 184 to 185 ∷ 196 to 211 ∷ 212 to 219 ∷ []

abbrev pub field_run : ℕ → Run
field_run f = get_or fields (f - 1) (page_size to page_size)

-- "A sound live page is used, else the factory one"
abbrev pub page_used : List ℕ → List ℕ → List ℕ
page_used live factory = if sound_page live then live else factory

-- where a field starts in its page
abbrev pub field_start : ℕ → ℕ
field_start f = (field_run f).first - page_size

-- how many of the n bytes from a on are left "without trailing 20h bytes"
unfoldable pub trimmed : List ℕ → ℕ → ℕ → ℕ
trimmed page a zero = 0
trimmed page a (suc n) = if eqb (at page (a + n)) 0x20 then trimmed page a n else suc n

abbrev pub field_length : List ℕ → ℕ → ℕ
field_length page f = if eqb f 2 then (field_run f).many else trimmed page (field_start f) (field_run f).many

-- "The field is handed back as a part of the page it came from"
abbrev pub field_of : List ℕ → ℕ → List ℕ
field_of page f = part (field_start f) (field_length page f) page

-- ---- monitors

-- "one f64 division by 256 .. for temperature; by 10000 for volts and milliwatts; by 500 for milliamperes"
abbrev pub divisor : Kind → ℕ
divisor degrees = 256
divisor volts = 10000
divisor milliwatts = 10000
divisor milliamperes = 500

abbrev pub over : ℤ → ℕ → Float
over n d = div binary64 (of_int binary64 n) (of_int binary64 (pos d))

-- two bytes in a unit
abbrev pub in_unit : Kind → ℕ → Float
in_unit k n = over (value k n) (divisor k)

-- x is the number z / d, and nothing was rounded
abbrev pub Exactly : Float → ℤ → ℕ → Type 0
Exactly x z d = HasValue x (not (non_neg z)) (nat_abs z) d

-- "degrees, volts, milliwatts, milliamperes, or nothing measured"
pub data Measured : Type 0 where
  measured : Kind → Float → Measured
  nothing : Measured

-- "0 to 13 in sample order": the quantity that monitor n belongs to
abbrev pub monitored : ℕ → List Quantity → Quantity
monitored n [] = temperature
monitored n (q ∷ qs) = if covers q.number q.channels n then q else monitored n qs

-- its number is where a sample stored it
abbrev pub monitor_at : Quantity → ℕ → ℕ
monitor_at q n = q.stored_from + 2 * (n - q.number)

-- "the last exactly while Data_Not_Ready is 1 or for Tx power that byte 220 doesn't offer"
abbrev pub monitor_of : Places → Quantity → ℕ → Measured
monitor_of mem q n =
    if has 0 (mem status_at) || not (offered mem q) then nothing
    else measured q.kind (in_unit q.kind (word mem (monitor_at q n)))

-- what monitor n answers, where it is not refused
unfoldable pub monitor : Places → ℕ → Measured
monitor mem n = monitor_of mem (monitored n quantities) n

-- ---- limits

-- "quantity 0 to 4: temperature, supply, Rx power, bias, Tx power"
abbrev pub quantity : ℕ → Quantity
quantity n = get_or quantities n temperature

-- "the four limits of a quantity in its own unit": w is 0 high alarm, 1 low alarm, 2 high warning, 3 low warning
abbrev pub limit : Places → ℕ → ℕ → Float
limit mem n w = in_unit (quantity n).kind (threshold mem (quantity n) w)

unfoldable pub limits : Places → ℕ → List Float
limits mem n = limit mem n 0 ∷ limit mem n 1 ∷ limit mem n 2 ∷ limit mem n 3 ∷ []
