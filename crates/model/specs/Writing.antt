-- Document 01, "Writing": writable bits by class, and what a written byte leaves.
-- Assumes nothing.
use Rattle.std.specs.Prelude.{◌+◌, ◌&&◌, ◌||◌, ◌∷◌, if◌then◌else◌}
use Rattle.laws.specs.Words.{ℕ, zero, suc, Bool, true, false, List, [], leb, ltb, eqb, covers, splice}
use Rattle.model.specs.Ports.{Port, operator, recorder, Places, State, give}
use Rattle.model.specs.Map.{flags, low_masks, high_masks, low_mask_of, page_at, supported, Seat, flag, mine, common, status, blank, seat}
use Rattle.model.specs.Reading.{shared}

-- ---- classes

pub data Class : Type 0 where
  no_bits all low_four low_three high_four page : Class

-- "86 bits 3-0; 87, 88, 98 all; 93 bits 2-0; .. page 02h all; page 03h 234 to [241] all"
abbrev pub common_class : ℕ → Class
common_class i = if shared i then (if eqb i 86 then low_four else (if eqb i 93 then low_three else all)) else no_bits

-- of byte k of a record: "100 to 102 all; 103, 104 bits 7-4; 127; .. page 03h [242] to 247 all"
abbrev pub own_class : ℕ → Class
own_class k =
    if eqb k (low_mask_of 103) || eqb k (low_mask_of 104) then high_four
    else (if eqb k page_at then page
    else (if covers flags.many (low_masks.many + high_masks.many) k then all else no_bits))

-- of a place, for the port that writes there: "The recorder's own bytes are 100 to 104, 127 and page 03h 242 to 247, with the same bits"
abbrev pub class_of : Port → Seat → Class
class_of p (flag k) = no_bits
class_of p (mine k) = own_class k
class_of operator (common i) = common_class i
class_of recorder (common i) = no_bits
class_of p status = no_bits
class_of p blank = no_bits

-- the bits of a class that a write reaches
abbrev pub reaches : Class → ℕ → Bool
reaches no_bits j = false
reaches all j = true
reaches low_four j = ltb j 4
reaches low_three j = ltb j 3
reaches high_four j = leb 4 j
reaches page j = true

-- ---- a written byte

-- "A writable bit takes the written value"; "A page number that isn't supported, written to 127, selects 00h"
unfoldable pub written : Places → Class → ℕ → ℕ → ℕ
written mem no_bits old v = old
written mem all old v = v
written mem low_four old v = splice 4 old v
written mem low_three old v = splice 3 old v
written mem high_four old v = splice 4 v old
written mem page old v = if supported mem v then v else 0

-- the places f, of these classes, with v written at place k
abbrev pub entered : Places → (ℕ → Class) → ℕ → ℕ → Places → Places
entered mem class k v f i = if eqb i k then written mem (class i) (f i) v else f i

-- "bytes 100 to 104, 127 and page 03h 242 to 247 land in the calling port's own record alone"
unfoldable pub store : State → Port → ℕ → Seat → State
store m p v (flag k) = m
store m p v (mine k) = record { mem = m.mem; own = give m.own p (entered m.mem own_class k v (m.own p)) }
store m p v (common i) = record { mem = entered m.mem (λ j. class_of p (common j)) i v m.mem; own = m.own }
store m p v status = m
store m p v blank = m

-- the bytes of a write at address a, one after the other; g is the page selected before the call
unfoldable pub puts : State → Port → ℕ → ℕ → List ℕ → State
puts m p g a [] = m
puts m p g a (v ∷ vs) = puts (store m p v (seat g a)) p g (suc a) vs

-- ---- a port's own bytes

abbrev pub is_mine : Seat → Bool
is_mine (flag k) = false
is_mine (mine k) = true
is_mine (common i) = false
is_mine status = false
is_mine blank = false

-- all n addresses from a on are the port's own bytes
unfoldable pub all_mine : ℕ → ℕ → ℕ → Bool
all_mine g a zero = true
all_mine g a (suc n) = is_mine (seat g a) && all_mine g (suc a) n
