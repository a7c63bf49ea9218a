-- Document 01, "Samples and conditions": the five quantities, the one alarm rule, what a sample stores and raises.
-- Assumes nothing.
use Rattle.std.specs.Prelude.{◌+◌, ◌-◌, ◌*◌, ◌/◌, ◌%◌, ◌&&◌, ◌||◌, ◌∷◌, if◌then◌else◌}
use Rattle.laws.specs.Words.{ℕ, suc, Bool, true, false, not, List, [], bit_or, ltb, eqb, ℤ, pos, negsuc, lt_z, one, covers, has, at}
use Rattle.model.specs.Ports.{Places}
use Rattle.model.specs.Map.{paged, status_at, flags}

-- ---- numbers

-- "numbers of two bytes, high byte first"
abbrev pub word : Places → ℕ → ℕ
word f i = f i * 256 + f (i + 1)

pub data Kind : Type 0 where
  degrees volts milliwatts milliamperes : Kind

-- sixteen bits as a signed number
abbrev pub signed : ℕ → ℤ
signed n = if ltb n 32768 then pos n else negsuc (65535 - n)

-- the number that two bytes stand for: "temperature (signed ..)", "the rest unsigned"
abbrev pub value : Kind → ℕ → ℤ
value degrees n = signed n
value volts n = pos n
value milliwatts n = pos n
value milliamperes n = pos n

-- ---- quantities

pub record Quantity : Type 0 where
  pub number : ℕ  -- its first number, in sample order
  pub channels : ℕ  -- how many numbers it has
  pub stored_from : ℕ  -- where a sample stores them in lower memory
  pub limits_from : ℕ  -- where its thresholds stand in page 03h
  pub flagged : ℕ  -- its first flag byte
  pub optional : Bool  -- there only if byte 220 offers it
  pub kind : Kind

-- "temperature .., supply .., Rx power 1 to 4 .., Tx bias 1 to 4 .., Tx power 1 to 4 .. stored at lower 22-23, 26-27, 34-41, 42-49,
-- 50-57"; thresholds "temperature at 128, supply at 144, Rx power at 176, Tx bias at 184, Tx power at 192"; flags "bytes 9 and 10 Rx
-- power, 11 and 12 Tx bias, 13 and 14 Tx power"
abbrev pub temperature : Quantity
temperature = record { number = 0; channels = 1; stored_from = 22; limits_from = 128; flagged = 6; optional = false; kind = degrees }

abbrev pub supply : Quantity
supply = record { number = 1; channels = 1; stored_from = 26; limits_from = 144; flagged = 7; optional = false; kind = volts }

abbrev pub rx_power : Quantity
rx_power = record { number = 2; channels = 4; stored_from = 34; limits_from = 176; flagged = 9; optional = false; kind = milliwatts }

abbrev pub tx_bias : Quantity
tx_bias = record { number = 6; channels = 4; stored_from = 42; limits_from = 184; flagged = 11; optional = false; kind = milliamperes }

abbrev pub tx_power : Quantity
tx_power = record { number = 10; channels = 4; stored_from = 50; limits_from = 192; flagged = 13; optional = true; kind = milliwatts }

abbrev pub quantities : List Quantity
quantities = temperature ∷ supply ∷ rx_power ∷ tx_bias ∷ tx_power ∷ []

-- "three status bytes .., then 14 numbers of two bytes"
abbrev pub sample_size : ℕ
sample_size = 3 + 2 * 14

-- number j of a sample
abbrev pub number_of : List ℕ → ℕ → ℕ
number_of x j = word (at x) (3 + 2 * j)

-- "If bit 2 of page 00h byte 220 is 0 .. Tx power has no conditions"
abbrev pub offered : Places → Quantity → Bool
offered mem q = not q.optional || has 2 (mem (paged 0 220))

-- ---- conditions

-- threshold w of a quantity: 0 high alarm, 1 low alarm, 2 high warning, 3 low warning
abbrev pub threshold : Places → Quantity → ℕ → ℕ
threshold mem q w = word mem (paged 3 (q.limits_from + 2 * w))

abbrev pub limit_of : Places → Quantity → ℕ → ℤ
limit_of mem q w = value q.kind (threshold mem q w)

-- channel c (from 0) of a quantity, as it is sampled
abbrev pub sampled : List ℕ → Quantity → ℕ → ℕ
sampled x q c = number_of x (q.number + c)

-- "A high condition holds if the number is greater than its threshold, a low one if it is less"; in that order from bit 3 down
abbrev pub four_of : ℤ → (ℕ → ℤ) → ℕ
four_of n limit =
    8 * one (lt_z (limit 0) n) + 4 * one (lt_z n (limit 1)) + 2 * one (lt_z (limit 2) n) + one (lt_z n (limit 3))

-- the one rule: the conditions of channel c of a quantity
unfoldable pub conditions : Places → List ℕ → Quantity → ℕ → ℕ
conditions mem x q c = if ltb c q.channels then four_of (value q.kind (sampled x q c)) (limit_of mem q) else 0

-- "odd channel in bits 7 to 4, even channel in 3 to 0": flag byte j (from 0) of a quantity
abbrev pub condition_byte : Places → List ℕ → Quantity → ℕ → ℕ
condition_byte mem x q j = 16 * conditions mem x q (2 * j) + conditions mem x q (2 * j + 1)

-- the conditions of flag byte b that the quantities have
abbrev pub measured_at : Places → List ℕ → ℕ → List Quantity → ℕ
measured_at mem x b [] = 0
measured_at mem x b (q ∷ qs) =
    if covers q.flagged (suc q.channels / 2) b && offered mem q then condition_byte mem x q (b - q.flagged) else measured_at mem x b qs

-- the conditions of flag byte b: "three status bytes (for flag bytes 3, 4, 5, same bits)", then those of the numbers
unfoldable pub conds : Places → List ℕ → ℕ → ℕ
conds mem x b = if covers flags.first 3 b then at x (b - flags.first) else measured_at mem x b quantities

-- ---- after an accepted sample

-- what a quantity's numbers leave at place i of the memory, where `old` stood
abbrev pub stored_of : Places → List ℕ → List Quantity → ℕ → ℕ → ℕ
stored_of mem x [] i old = old
stored_of mem x (q ∷ qs) i old =
    if covers q.stored_from (2 * q.channels) i && offered mem q then at x (3 + 2 * q.number + (i - q.stored_from)) else stored_of mem x qs i old

-- "They are stored .., and bit 0 of byte 2 becomes 0"
unfoldable pub stored : Places → List ℕ → ℕ → ℕ → ℕ
stored mem x i old = if eqb i status_at then old - old % 2 else stored_of mem x quantities i old

-- "A sample ORs its conditions into both ports' flags. It never clears one."
unfoldable pub raised : Places → List ℕ → Places → Places
raised mem x o k = if ltb k flags.many then bit_or (o k) (conds mem x (flags.first + k)) else o k
