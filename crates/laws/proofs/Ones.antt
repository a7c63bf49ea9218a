-- The ones of a number are the sum of its bits: the lowest bit, and the ones of the half.
-- Assumes nothing.
use mathlib.Core.Path.{◌≡◌, ap, ◌∙◌}
use mathlib.Core.List.{map}
use Prim.Native.Nat.{ℕ, zero, suc, ◌+◌, ◌/◌, ◌%◌, ◌^◌, ◌<◌}
use native.Mathlib.Nat.{div-one}
use native.Mathlib.Omega.{arith}
use native.Mathlib.Numerals.{add-one}
use lib.Arith.{lt-one}
use lib.Count.{ones, ones_step}
use lib.Pow.{shr-shr}
use Rattle.laws.specs.Bits.{bit}
use Rattle.laws.specs.Lists.{sum}
use Rattle.laws.proofs.Picks.{count_up}

-- the ones of a number of w bits are the sum of its bits; here the w bits from bit a on
ones_bits_from : (w a n : ℕ) → n / 2 ^ a < 2 ^ w → ones (n / 2 ^ a) ≡ sum (map (λ j. bit j n) (count_up a w))
unfolding sum ones
ones_bits_from zero a n h = ap ones (lt-one h)
ones_bits_from (suc w) a n h =
    let e : n / 2 ^ a / 2 ≡ n / 2 ^ suc a = shr-shr n a 1 ∙ rw add-one in
    ones_step (n / 2 ^ a) ∙ rw e (ap (λ (x : ℕ). n / 2 ^ a % 2 + x) (ones_bits_from w (suc a) n (omega arith)))

pub ones_bits : (w n : ℕ) → n < 2 ^ w → ones n ≡ sum (map (λ j. bit j n) (count_up 0 w))
ones_bits w n h = rw div-one at (ones_bits_from w 0 n (rw div-one h))
