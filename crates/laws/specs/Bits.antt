-- The bits of a number.
-- Assumes nothing.
use Rattle.std.specs.Prelude.{ℕ, ◌+◌, ◌-◌, ◌/◌, ◌%◌, ◌^◌, Bool, eqb}

-- bit k of a number, 0 or 1; bit 0 is the lowest
abbrev pub bit : ℕ → ℕ → ℕ
bit k n = n / 2 ^ k % 2

abbrev pub has : ℕ → ℕ → Bool
has k n = eqb (bit k n) 1

-- the number `high` with its k lowest bits replaced by those of `low`
abbrev pub splice : ℕ → ℕ → ℕ → ℕ
splice k high low = high - high % 2 ^ k + low % 2 ^ k
