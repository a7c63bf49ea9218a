-- Pairs as the code goes over them: from a flag byte and a mask byte on, side by side.
-- Assumes nothing.
use Rattle.std.specs.Prelude.{◌∷◌}
use Rattle.laws.specs.Words.{ℕ, zero, suc, List, []}
use Rattle.ports.specs.Interrupt.{Pair}

-- n of them
abbrev pub beside : ℕ → ℕ → ℕ → List Pair
beside zero f m = []
beside (suc n) f m = record { flag_byte = f; mask_byte = m } ∷ beside n (suc f) (suc m)
