-- Document 01, "Marked examples": M1 to M12, a row each. A row holds whatever stands in all that the example does not give: any other
-- memory, any other sample bytes, any state with a sound record, any bytes written.
-- Assumes nothing.
use Rattle.std.specs.Prelude.{◌<◌, ◌≤◌, ◌≡◌, ◌∷◌}
use Rattle.laws.specs.Words.{ℕ, ℤ, pos, neg_ℤ, false, true, List, [], length, bit, at}
use Rattle.model.specs.Ports.{Places, State, nobody, caller, read, write}
use Rattle.model.specs.Map.{sound}
use Rattle.model.specs.Samples.{degrees, temperature, supply, rx_power, threshold, sampled, conds}
use Rattle.model.specs.Readout.{Exactly, in_unit}
use Rattle.model.specs.Refusals.{refusal}

pub data Example : Type 0 where
  gains : ℕ → ℕ → ℕ → Example  -- Rx1, Rx2 (Rx3 and Rx4 are 501), what byte 9 gains; byte 10 gains nothing
  degree : ℕ → ℤ → ℕ → Example  -- two bytes, and the degrees that they are, as a fraction
  temperature_alarm : ℕ → ℕ → ℕ → Example  -- the high alarm, the temperature, bit 7 of byte 6
  supply_warning : ℕ → ℕ → ℕ → Example  -- the low warning, the supply, bit 4 of byte 7
  reads : ℕ → ℕ → ℕ → Example  -- address, count, refusal: for either port
  writes : ℕ → ℕ → ℕ → ℕ → Example  -- port, address, count, refusal

-- "Rx limits from 000"
abbrev pub rx_limits : List ℕ
rx_limits = 0x8A99 ∷ 0x00FB ∷ 0x6E18 ∷ 0x01F5 ∷ []

-- f 0, f 1 and so on are the numbers of a list
abbrev pub Are : (ℕ → ℕ) → List ℕ → Type 0
Are f l = (i : ℕ) → i < length l → f i ≡ at l i

abbrev pub Holds : Example → Type 0
Holds (gains a b g) =
    (mem : Places) (x : List ℕ) → Are (threshold mem rx_power) rx_limits → Are (sampled x rx_power) (a ∷ b ∷ 501 ∷ 501 ∷ [])
    → (conds mem x 9 ≡ g) × (conds mem x 10 ≡ 0)
Holds (degree n z d) = Exactly (in_unit degrees n) z d
Holds (temperature_alarm limit n raised) =
    (mem : Places) (x : List ℕ) → threshold mem temperature 0 ≡ limit → sampled x temperature 0 ≡ n → bit 7 (conds mem x 6) ≡ raised
Holds (supply_warning limit n raised) =
    (mem : Places) (x : List ℕ) → threshold mem supply 3 ≡ limit → sampled x supply 0 ≡ n → bit 4 (conds mem x 7) ≡ raised
Holds (reads a k r) =
    (m : State) (n : ℕ) → nobody n ≡ false → sound m.mem (m.own (caller n)) ≡ true → (out : List ℕ) → k ≤ length out
    → refusal m (read n a k out) ≡ r
Holds (writes n a k r) =
    (m : State) → sound m.mem (m.own (caller n)) ≡ true → (vs : List ℕ) → length vs ≡ k → refusal m (write n a vs) ≡ r

abbrev pub examples : List Example
examples =
    gains 251 501 0x10  -- M1
    ∷ gains 250 501 0x50  -- M2
    ∷ gains 35481 501 0x20  -- M3
    ∷ gains 35482 501 0xA0  -- M4
    ∷ gains 501 500 0x01  -- M5
    ∷ gains 501 501 0  -- M6
    ∷ degree 0xFF00 (neg_ℤ (pos 1)) 1  -- M7
    ∷ degree 0x8000 (neg_ℤ (pos 128)) 1
    ∷ degree 0x7FFF (pos 12799609375) 100000000
    ∷ temperature_alarm 0x4B00 0xFFFF 0  -- M8
    ∷ supply_warning 0x7A76 0x7A75 1  -- M9
    ∷ supply_warning 0x7A76 0x7A76 0
    ∷ reads 255 1 0  -- M10
    ∷ reads 255 2 5
    ∷ writes 1 127 1 0  -- M11
    ∷ writes 2 127 1 0
    ∷ writes 1 127 2 5
    ∷ writes 2 127 2 5
    ∷ writes 2 86 1 7  -- M12
    ∷ []
