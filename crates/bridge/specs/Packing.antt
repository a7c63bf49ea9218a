-- The numbers that C is handed: an answer's bytes in one number, and the parts of what a monitor or a limits call tells.
-- Assumes nothing.
use Rattle.std.specs.Prelude.{◌/◌, ◌%◌}
use Rattle.laws.specs.Words.{ℕ, zero, suc, List, get_or, Float, of_int, binary64, pos}
use Rattle.model.specs.Samples.{Kind, degrees, volts, milliwatts, milliamperes}
use Rattle.model.specs.Readout.{Measured, measured, nothing}
use Rattle.model.specs.Outcomes.{Told, refused, given}

-- byte k of an answer, its bits 8 k to 8 k + 7
abbrev pub byte_of : ℕ → ℕ → ℕ
byte_of zero r = r % 256
byte_of (suc k) r = byte_of k (r / 256)

-- ---- monitors and limits

abbrev pub refusal_in : {A : Type 0} → Told A → ℕ
refusal_in (refused n) = n
refusal_in (given a) = 0

abbrev pub kind_number : Kind → ℕ
kind_number = elim [ degrees ↦ 1 | volts ↦ 2 | milliwatts ↦ 3 | milliamperes ↦ 4 ]

-- 0 where there is no value
abbrev pub kind_in : Told Measured → ℕ
kind_in (refused n) = 0
kind_in (given nothing) = 0
kind_in (given (measured k x)) = kind_number k

abbrev pub no_number : Float
no_number = of_int binary64 (pos 0)

abbrev pub value_in : Told Measured → Float
value_in (refused n) = no_number
value_in (given nothing) = no_number
value_in (given (measured k x)) = x

-- one limit, in the order of the four
abbrev pub limit_in : Told (List Float) → ℕ → Float
limit_in (refused n) i = no_number
limit_in (given l) i = get_or l i no_number
