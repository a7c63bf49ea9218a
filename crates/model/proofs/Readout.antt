-- Document 01, "Monitors, limits": a whole number of at most 53 binary digits over 256 is a float, so the one division rounds nothing and
-- a temperature is exact. When nothing is measured goes by which monitors are optional, and that is computed.
-- Assumes nothing.
use Rattle.std.specs.Prelude.{if◌then◌else◌}
use mathlib.Core.Path.{◌≡◌, refl, sym, ap, ◌∙◌}
use mathlib.Core.Logic.{◌↔◌}
use mathlib.Core.Bool.{Bool, true, false, false≢true, not, ◌&&◌, ◌||◌, beq}
use mathlib.Core.List.{List}
use Prim.Native.Nat.{ℕ, suc, ◌+◌, ◌*◌, ◌^◌, ◌<◌}
use native.Mathlib.Nat.{mul_assoc, mul_comm, mul-pos, lt_of_lt_of_le, le_of_lt, mul-lt-mul_of_pos_right}
use native.Mathlib.Omega.{arith}
use lib.IntN.{ℤ, pos, negsuc, nat_abs}
use lib.Dec.{lit<, lit≤, leb, ltb, eqb}
use lib.Pow.{pow_pos}
use lib.Ieee.{Float, nan, inf, fin, binary64, div, of_int, round, unlike, up, down}
use lib.Ieee.Fits.{down_pos}
use lib.Ieee.Exact.{HasValue, round_exact}
use lib.Ieee.Back.{round_whole}
use lib.Ieee.Scale.{round_same}
use Rattle.laws.specs.Tests.{first_of}
use Rattle.laws.specs.Bits.{has}
use Rattle.laws.specs.Lists.{at}
use Rattle.laws.proofs.Tests.{case, if_elim, beq_same}
use Rattle.laws.proofs.Finite.{always_at}
use Rattle.model.specs.Ports.{Places}
use Rattle.model.specs.Map.{memory_size, status_at, paged}
use Rattle.model.specs.Samples.{word, degrees, signed, value, quantities, offered}
use Rattle.model.specs.Readout.{Exactly, over, in_unit, Measured, measured, nothing, monitored, monitor, limit}
use Rattle.model.specs.Refusals.{monitor_rows}
use Rattle.model.specs.Bytes.{memory_of}
use Rattle.model.specs.Outcomes.{Told, refused, given, monitor_told}

-- ---- a temperature is exact

-- a number of at most 53 binary digits, by 256, is rounded to itself
round_256 : (s : Bool) (n : ℕ) → n < 2 ^ 53 → HasValue (round binary64 s n 256) s n 256
round_256 s n h =
    round_exact binary64 s n 256 n 1066 (lit< tt) h
    (lt_of_lt_of_le (mul-lt-mul_of_pos_right h (pow_pos 1066)) (lit≤ tt))
    (sym (mul_assoc n (2 ^ 1066) 256))

-- a quotient by a positive number keeps its sign
unlike_positive : (t : Bool) → unlike t false ≡ t
unlike_positive true = refl
unlike_positive false = refl

-- by 256, which is 1 * 2 ^ 8
div_256 : (x : Float) (s : Bool) (n : ℕ) → n < 2 ^ 53 → HasValue x s n 1 → HasValue (div binary64 x (fin false 1 (pos 8))) s n 256
unfolding div
div_256 nan s n h v = absurd v
div_256 (inf t) s n h v = absurd v
div_256 (fin t m e) s n h v =
    let sign : unlike t false ≡ s = unlike_positive t ∙ v.0 in
    let cross : m * up e * 1 * 256 ≡ n * (256 * down e) =
    ap (λ (x : ℕ). x * 256) v.1 ∙ mul_assoc n (down e) 256 ∙ ap (λ (x : ℕ). n * x) (mul_comm (down e) 256) in
    let same = round_same binary64 s (m * up e * 1) (256 * down e) n 256 (mul-pos (lit< tt) (down_pos e)) (lit< tt) cross in
    rw (sign, same) (round_256 s n h)

-- a whole number of at most 53 binary digits, by 256
whole_256 : (z : ℤ) → nat_abs z < 2 ^ 53 → Exactly (over z 256) z 256
unfolding of_int
whole_256 (pos n) h = div_256 (round binary64 false n 1) false n h (round_whole binary64 false n (le_of_lt h))
whole_256 (negsuc k) h = div_256 (round binary64 true (suc k) 1) true (suc k) h (round_whole binary64 true (suc k) (le_of_lt h))

-- "one f64 division by 256, which is exact, for temperature"
pub temperature_exact : (n : ℕ) → n < 65536 → Exactly (in_unit degrees n) (value degrees n) 256
temperature_exact n h = whole_256 (signed n) (lt_of_lt_of_le small (lit≤ tt))
  where
    small : nat_abs (signed n) < 65537
    small = if_elim (λ z. nat_abs z < 65537) (ltb n 32768) (λ e. omega arith) (λ e. omega arith)

-- ---- of bytes that a caller lends

module _ (s : List ℕ) (bytes : (i : ℕ) → at s i < 256) where
  memory_byte : (i : ℕ) → memory_of s i < 256
  memory_byte i = if_elim (λ n. n < 256) (ltb i memory_size) (λ e. bytes i) (λ e. omega arith)

  word_fits : (i : ℕ) → word (memory_of s) i < 65536
  word_fits i =
      let a = memory_byte i in
      let b = memory_byte (i + 1) in
      omega arith

  -- the number that an answer shows, or else y
  abbrev shown : Told Measured → Float → Float
  shown (refused n) y = y
  shown (given nothing) y = y
  shown (given (measured k x)) y = x

  -- the temperature that monitor 0 shows is the number at 22 over 256
  pub monitor_exact : (x : Float) → monitor_told s 0 ≡ given (measured degrees x) → Exactly x (signed (word (memory_of s) 22)) 256
  unfolding monitor
  monitor_exact x e = rw x_is (temperature_exact (word (memory_of s) 22) (word_fits 22))
    where
      y : Float
      y = in_unit degrees (word (memory_of s) 22)

      x_is : x ≡ y
      x_is =
          sym (ap (λ t. shown t y) e) ∙ if_elim (λ t. shown t y ≡ y) (eqb (first_of (monitor_rows s 0)) 0)
          (λ t. if_elim (λ m. shown (given m) y ≡ y) (has 0 (memory_of s status_at) || false) (λ u. refl) (λ u. refl)) (λ t. refl)

  -- so is each of its limits
  pub limits_exact : (w : ℕ) → Exactly (limit (memory_of s) 0 w) (signed (word (memory_of s) (paged 3 (128 + 2 * w)))) 256
  limits_exact w = temperature_exact (word (memory_of s) (paged 3 (128 + 2 * w))) (word_fits (paged 3 (128 + 2 * w)))

-- ---- nothing measured

abbrev is_nothing : Measured → Bool
is_nothing (measured k x) = false
is_nothing nothing = true

-- "the last exactly while Data_Not_Ready is 1 or for Tx power that byte 220 doesn't offer": monitors 10 to 13
pub nothing_exactly : (mem : Places) (n : ℕ) → n < 14
    → (monitor mem n ≡ nothing) ↔ ((has 0 (mem status_at) || (leb 10 n && not (has 2 (mem (paged 0 220))))) ≡ true)
unfolding monitor
nothing_exactly mem n h =
    rw test (case (has 0 (mem status_at) || not (offered mem (monitored n quantities)))
    (λ t. rw t (λ e. refl, λ e. refl))
    (λ t. rw t (λ e. ap is_nothing e, λ e. absurd (false≢true e))))
  where
    optional : (monitored n quantities).optional ≡ leb 10 n
    optional =
        beq_same (monitored n quantities).optional (leb 10 n) (always_at (λ k. beq (monitored k quantities).optional (leb 10 k)) 14 refl n h)

    test : (has 0 (mem status_at) || (leb 10 n && not (has 2 (mem (paged 0 220))))) ≡ (has 0 (mem status_at) || not (offered mem (monitored n quantities)))
    test = rw optional (case (leb 10 n) (λ t. rw t) (λ t. rw t))

-- computed: a memory of 0 but for Data_Not_Ready
unready_shows_nothing : monitor (λ i. if eqb i status_at then 1 else 0) 0 ≡ nothing
unfolding monitor
unready_shows_nothing = refl
