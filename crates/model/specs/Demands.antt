-- The words that the demands use beside those of any module with two ports (ports, specs/Demands.antt): which conditions stood since,
-- which bit a write reaches, what lasts.
-- Assumes nothing.
use Rattle.std.specs.Prelude.{◌+◌, ◌<◌, ◌≡◌, if◌then◌else◌}
use Rattle.laws.specs.Words.{ℕ, Bool, true, false, Option, none, some, List, length, none_of, bit, has, at}
use Rattle.ports.specs.Demands
unfoldable pub use Rattle.ports.specs.Demands.{only}
pub use Rattle.model.specs.Ports.{is_by, concerns, is_reset}
use Rattle.model.specs.Ports.{Port, caller, reset, sample, read, write}
use Rattle.model.specs.Map.{paged, state_size, page_at, base, supported, Seat, flag, mine, common, status, blank, seat}
use Rattle.model.specs.Reset.{reset_rows}
use Rattle.model.specs.Samples.{conds}
use Rattle.model.specs.Writing.{Class, page, class_of, reaches}
use Rattle.model.specs.Readout.{limit}
use Rattle.model.specs.Module.{document01}
use Rattle.model.specs.Calls.{Calls, start, ◌▷◌}
use Rattle.model.specs.Bytes.{state_of, after}

-- ---- demand 2, flags: with no state in it

-- the factory image of the last accepted reset; img is that of a reset before the history
unfoldable pub image_of : List ℕ → Calls → List ℕ
image_of img start = img
image_of img (h ▷ reset new) = if none_of (reset_rows new) then new else image_of img h
image_of img (h ▷ sample x) = image_of img h
image_of img (h ▷ read n a k out) = image_of img h
image_of img (h ▷ write n a vs) = image_of img h

-- in the sample x, after older calls, the condition of bit j of flag byte b stands
abbrev pub stood : List ℕ → ℕ → ℕ → Calls → List ℕ → Bool
stood img b j older x = has j (conds (at (image_of img older)) x b)

-- it "stood in an accepted sample since the later of that port's last accepted read of that byte and the last accepted reset"
abbrev pub Since : List ℕ → Port → ℕ → ℕ → Calls → Type 0
Since img p b j h = Demands.StoodSince document01 (stood img b j) p b h

-- ---- demand 2, writes

-- the place in the state of a seat of port p, if it has one
abbrev pub seat_place : Port → Seat → Option ℕ
seat_place p (flag k) = some (base p + k)
seat_place p (mine k) = some (base p + k)
seat_place p (common i) = some i
seat_place p status = none
seat_place p blank = none

-- for the port of number n and the page that it has selected in the bytes s, address a leads to place i of the state
abbrev pub Leads : List ℕ → ℕ → ℕ → ℕ → Type 0
Leads s n a i = seat_place (caller n) (seat ((state_of s).own (caller n) page_at) a) ≡ some i

-- what may be written there
abbrev pub class_at : List ℕ → ℕ → ℕ → Class
class_at s n a = class_of (caller n) (seat ((state_of s).own (caller n) page_at) a)

-- "A write changes the writable bits it addresses and nothing else."
pub record WriteRule (s : List ℕ) (n a : ℕ) (vs : List ℕ) : Type 0 where
  -- each addressed byte: its writable bits take the written value, its other bits stay
  pub bits : (k i j : ℕ) → k < length vs → Leads s n (a + k) i → (class_at s n (a + k) ≡ page → supported (state_of s).mem (at vs k) ≡ true)
      → bit j (at (after s (write n a vs)) i) ≡ (if reaches (class_at s n (a + k)) j then bit j (at vs k) else bit j (at s i))
  -- "A page number that isn't supported, written to 127, selects 00h"
  pub unsupported : (k i : ℕ) → k < length vs → Leads s n (a + k) i → class_at s n (a + k) ≡ page → supported (state_of s).mem (at vs k) ≡ false
      → at (after s (write n a vs)) i ≡ 0
  -- every other byte of the state stays
  pub elsewhere : (i : ℕ) → i < state_size → ((k : ℕ) → k < length vs → Leads s n (a + k) i → ⊥) → at (after s (write n a vs)) i ≡ at s i

-- ---- what lasts

-- the supported pages, the limits and byte 220 say the same
pub record SaysTheSame (s t : List ℕ) : Type 0 where
  pub pages_same : (g : ℕ) → supported (state_of s).mem g ≡ supported (state_of t).mem g
  pub limits_same : (q w : ℕ) → w < 4 → limit (state_of s).mem q w ≡ limit (state_of t).mem q w
  pub offer_same : at s (paged 0 220) ≡ at t (paged 0 220)
