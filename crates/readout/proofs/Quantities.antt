-- Of the five quantities: the divisors as the code writes them, and the four limits, computed for each.
-- Assumes nothing.
use Rattle.std.proofs.Common.{◌≡◌, List, ℕ, pos, refl, map}
use lib.Ieee.{binary64, of_bits, of_int}
use Rattle.model.specs.Map.{paged}
use Rattle.model.specs.Readout.{in_unit, limits}
use Rattle.model.specs.Bytes.{memory_of}
use Rattle.alarms.specs.Decoded.{quantity_number, meant, row}
use Rattle.alarms.specs.declared.quantities.Quantity.{Quantity}
use Rattle.alarms.specs.declared.quantities.Quantity.TheVariants.{Temperature, Supply, RxPower, TxBias, TxPower}

-- ---- divisors

pub by_256 : of_bits binary64 4643211215818981376 ≡ of_int binary64 (pos 256)
unfolding of_bits of_int
by_256 = refl

pub by_500 : of_bits binary64 4647503709213818880 ≡ of_int binary64 (pos 500)
unfolding of_bits of_int
by_500 = refl

pub by_10000 : of_bits binary64 4666723172467343360 ≡ of_int binary64 (pos 10000)
unfolding of_bits of_int
by_10000 = refl

-- ---- limits

-- four numbers from the first threshold on, in their unit
pub limits_row : (s : List ℕ) (q : Quantity) → map (in_unit (meant q).kind) (row s (paged 3 (meant q).limits_from)) ≡ limits (memory_of s) (quantity_number q)
unfolding limits
limits_row s = elim [ Temperature ↦ refl | Supply ↦ refl | RxPower ↦ refl | TxBias ↦ refl | TxPower ↦ refl ]
