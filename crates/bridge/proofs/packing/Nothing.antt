-- The number that stands where there is none.
-- Assumes nothing.
use mathlib.Core.Path.{◌≡◌, refl, sym, ◌∙◌}
use Prim.Native.Nat.{ℕ, ◌≤◌}
use lib.Ieee.{binary64, of_bits, of_int}
use lib.ListN.{get_or-eq_default}
use Rattle.readout.specs.Meaning.{four}
use Rattle.readout.specs.declared.FourLimits.{FourLimits}
use Rattle.model.specs.Outcomes.{given}
use Rattle.bridge.specs.Packing.{no_number, limit_in}

-- 0.0 as the code writes it
pub none_is : of_bits binary64 0 ≡ no_number
unfolding of_bits of_int
none_is = refl

-- there are four limits
pub no_limit : (x : FourLimits) (i : ℕ) → 4 ≤ i → of_bits binary64 0 ≡ limit_in (given (four x)) i
no_limit x i h = none_is ∙ sym (get_or-eq_default (four x) no_number h)
