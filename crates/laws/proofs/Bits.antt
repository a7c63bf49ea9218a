-- Single bits: bit j is the lowest digit after a shift by j, so that and, or and exclusive or are taken digit by digit. A splice at k is
-- known by its remainder and its quotient by 2 ^ k, which have the bits below k and the others.
-- Assumes nothing.
use Rattle.std.specs.Prelude.{if◌then◌else◌}
use mathlib.Core.Path.{◌≡◌, refl, sym, ap, ◌∙◌}
use mathlib.Core.Bool.{true, false, not, ◌&&◌, ◌||◌}
use Prim.Native.Nat.{ℕ, zero, suc, ◌+◌, ◌-◌, ◌*◌, ◌/◌, ◌%◌, ◌^◌, ◌≤◌, ◌<◌, min, max}
use native.Mathlib.Nat.{zero-div, div-eq_of_lt, mod-lt, lt_of_le_of_lt}
use native.Mathlib.Omega.{arith}
use lib.Arith.{digits_div, digits_mod}
use lib.Bits.{bit_and, bit_or, bit_xor, differ, and_step, and_shr, and_le_l, or_step, or_shr, or_mod, or_zero_r, xor_step, xor_shr, xor_lt}
use lib.Dec.{ltb, eqb}
use lib.Pow.{split, field, mod-mod-pow, shr-shr, pow_pos}
use borrow.Author.Tests.{eqb-true, eqb-false, eq-eqb, ne_eqb, ltb-true, ltb-false}
use Rattle.laws.specs.Bits.{bit, has, splice}
use Rattle.laws.proofs.Tests.{case}

-- ---- one bit

pub bit_small : (j n : ℕ) → bit j n < 2
bit_small j n = omega arith

pub bit_none : (j : ℕ) → bit j 0 ≡ 0
bit_none j = ap (λ (q : ℕ). q % 2) (zero-div (2 ^ j))

pub has_bit : (j n : ℕ) → has j n ≡ true → bit j n ≡ 1
has_bit j n e = eqb-true (bit j n) 1 e

pub bit_has : (j n : ℕ) → bit j n ≡ 1 → has j n ≡ true
bit_has j n e = eq-eqb (bit j n) 1 e

pub lacks_bit : (j n : ℕ) → has j n ≡ false → bit j n ≡ 0
lacks_bit j n e = let d = eqb-false (bit j n) 1 e in omega (arith, bit_small j n)

pub bit_lacks : (j n : ℕ) → bit j n ≡ 0 → has j n ≡ false
bit_lacks j n e = ne_eqb (bit j n) 1 (λ z. omega arith)

-- ---- and, or, exclusive or

pub bit_and_lem : (j a b : ℕ) → bit j (bit_and a b) ≡ min (bit j a) (bit j b)
bit_and_lem j a b =
    ap (λ (x : ℕ). x % 2) (and_shr a b j ∙ and_step (a / 2 ^ j) (b / 2 ^ j))
    ∙ digits_mod (bit_and (a / 2 ^ j / 2) (b / 2 ^ j / 2)) (omega arith)

pub bit_xor_lem : (j a b : ℕ) → bit j (bit_xor a b) ≡ differ (bit j a) (bit j b)
bit_xor_lem j a b =
    ap (λ (x : ℕ). x % 2) (xor_shr a b j ∙ xor_step (a / 2 ^ j) (b / 2 ^ j))
    ∙ digits_mod (bit_xor (a / 2 ^ j / 2) (b / 2 ^ j / 2)) (differ_small (bit j a) (bit j b) (bit_small j a) (bit_small j b))
  where
    differ_small : (x y : ℕ) → x < 2 → y < 2 → differ x y < 2
    differ_small zero y h k = k
    differ_small (suc zero) zero h k = h
    differ_small (suc zero) (suc y) h k = omega arith
    differ_small (suc (suc x)) y h k = absurd (omega arith)

pub bit_or_lem : (j a b : ℕ) → bit j (bit_or a b) ≡ max (bit j a) (bit j b)
bit_or_lem j a b =
    ap (λ (x : ℕ). x % 2) (or_shr a b j ∙ or_step (a / 2 ^ j) (b / 2 ^ j))
    ∙ digits_mod (bit_or (a / 2 ^ j / 2) (b / 2 ^ j / 2)) (omega arith)

-- a number with some of its bits taken away has no more bits
pub without_lt : (w a b : ℕ) → a < 2 ^ w → bit_xor a (bit_and a b) < 2 ^ w
without_lt w a b h = xor_lt w a (bit_and a b) h (lt_of_le_of_lt (and_le_l a b) h)

-- a bit of an OR is 1 exactly if it is in one of the two
pub or_bit_other : (j a b : ℕ) → bit j (bit_or a b) ≡ 1 → bit j a ≡ 0 → bit j b ≡ 1
or_bit_other j a b e z = let l = bit_or_lem j a b in omega (arith, bit_small j b)

pub or_bit_left : (j a b : ℕ) → bit j a ≡ 1 → bit j (bit_or a b) ≡ 1
or_bit_left j a b e = let l = bit_or_lem j a b in omega (arith, bit_small j b)

pub or_bit_right : (j a b : ℕ) → bit j b ≡ 1 → bit j (bit_or a b) ≡ 1
or_bit_right j a b e = let l = bit_or_lem j a b in omega (arith, bit_small j a)

pub has_or : (j a b : ℕ) → has j (bit_or a b) ≡ (has j a || has j b)
has_or j a b = case (has j a)
    (λ t. rw t (bit_has j (bit_or a b) (or_bit_left j a b (has_bit j a t))))
    (λ t. case (has j b)
    (λ u. rw (t, u) (bit_has j (bit_or a b) (or_bit_right j a b (has_bit j b u))))
    (λ u. let l = bit_or_lem j a b in let x = lacks_bit j a t in let y = lacks_bit j b u in rw (t, u) (bit_lacks j (bit_or a b) (omega arith))))

-- an OR with a number whose four low bits are 0
pub or_high : (a z : ℕ) → z % 16 ≡ 0 → bit_or a z % 16 ≡ a % 16
or_high a z e = or_mod a z 4 ∙ ap (bit_or (a % 16)) e ∙ or_zero_r (a % 16)

-- ---- splice

-- the bits below k are those of the remainder by 2 ^ k
bits_below : (k j a b : ℕ) → j < k → a % 2 ^ k ≡ b % 2 ^ k → bit j a ≡ bit j b
bits_below k j a b h e = sym (field a 1 j) ∙ ap (λ (x : ℕ). x / 2 ^ j) (low a ∙ ap (λ (x : ℕ). x % 2 ^ (1 + j)) e ∙ sym (low b)) ∙ field b 1 j
  where
    d : k - (1 + j) + (1 + j) ≡ k
    d = omega arith

    low : (n : ℕ) → n % 2 ^ (1 + j) ≡ n % 2 ^ k % 2 ^ (1 + j)
    low n = sym (mod-mod-pow n (k - (1 + j)) (1 + j)) ∙ ap (λ (x : ℕ). n % 2 ^ x % 2 ^ (1 + j)) d

-- and those from k on those of the quotient
bits_above : (k j a b : ℕ) → k ≤ j → a / 2 ^ k ≡ b / 2 ^ k → bit j a ≡ bit j b
bits_above k j a b h e = ap (λ (x : ℕ). x % 2) (high a ∙ ap (λ (x : ℕ). x / 2 ^ (j - k)) e ∙ sym (high b))
  where
    d : k + (j - k) ≡ j
    d = omega arith

    high : (n : ℕ) → n / 2 ^ j ≡ n / 2 ^ k / 2 ^ (j - k)
    high n = sym (shr-shr n k (j - k) ∙ ap (λ (x : ℕ). n / 2 ^ x) d)

-- a number below 2 ^ k has no bit from k on
pub bit_beyond : (k j n : ℕ) → n < 2 ^ k → k ≤ j → bit j n ≡ 0
bit_beyond k j n h l = bits_above k j n 0 l (div-eq_of_lt h ∙ sym (zero-div (2 ^ k))) ∙ bit_none j

splice_digits : (k high low : ℕ) → splice k high low ≡ high / 2 ^ k * 2 ^ k + low % 2 ^ k
splice_digits k high low =
    ap (λ (x : ℕ). x + low % 2 ^ k) (ap (λ (x : ℕ). x - high % 2 ^ k) (sym (split high k)) ∙ cut (high / 2 ^ k * 2 ^ k) (high % 2 ^ k))
  where
    cut : (x y : ℕ) → x + y - y ≡ x
    cut x y = omega arith

-- the k low bits are the one's, the others are the other's
pub bit_splice : (k j high low : ℕ) → bit j (splice k high low) ≡ (if ltb j k then bit j low else bit j high)
bit_splice k j high low = case (ltb j k)
    (λ t. rw t (bits_below k j (splice k high low) low (ltb-true j k t) (rw (splice_digits k high low) (digits_mod (high / 2 ^ k) (mod-lt low (pow_pos k))))))
    (λ t. rw t (bits_above k j (splice k high low) high (ltb-false j k t) (rw (splice_digits k high low) (digits_div (high / 2 ^ k) (mod-lt low (pow_pos k))))))

-- the part that is replaced
pub splice_low : (k high low : ℕ) → splice k high low % 2 ^ k ≡ low % 2 ^ k
splice_low k high low = ap (λ (x : ℕ). x % 2 ^ k) (splice_digits k high low) ∙ digits_mod (high / 2 ^ k) (mod-lt low (pow_pos k))

-- ---- bits taken away

-- a with the bits of b taken away
pub has_without : (j a b : ℕ) → has j (bit_xor a (bit_and a b)) ≡ (has j a && not (has j b))
has_without j a b = ap (λ (x : ℕ). eqb x 1) (bit_xor_lem j a (bit_and a b) ∙ ap (differ (bit j a)) (bit_and_lem j a b)) ∙ digit (bit j a) (bit j b) (bit_small j a) (bit_small j b)
  where
    digit : (x y : ℕ) → x < 2 → y < 2 → eqb (differ x (min x y)) 1 ≡ (eqb x 1 && not (eqb y 1))
    digit zero y h k = let e : min 0 y ≡ 0 = omega arith in rw e
    digit (suc zero) zero h k = refl
    digit (suc zero) (suc zero) h k = refl
    digit (suc zero) (suc (suc y)) h k = absurd (omega arith)
    digit (suc (suc x)) y h k = absurd (omega arith)

pub has_and : (j a b : ℕ) → has j (bit_and a b) ≡ (has j a && has j b)
has_and j a b = ap (λ (x : ℕ). eqb x 1) (bit_and_lem j a b) ∙ digit (bit j a) (bit j b) (bit_small j a) (bit_small j b)
  where
    digit : (x y : ℕ) → x < 2 → y < 2 → eqb (min x y) 1 ≡ (eqb x 1 && eqb y 1)
    digit zero y h k = let e : min 0 y ≡ 0 = omega arith in rw e
    digit (suc zero) zero h k = refl
    digit (suc zero) (suc zero) h k = refl
    digit (suc zero) (suc (suc y)) h k = absurd (omega arith)
    digit (suc (suc x)) y h k = absurd (omega arith)
