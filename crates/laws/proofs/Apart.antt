-- Numbers that have no bit in common: a number none of whose bits is 1 is 0 (by halves), so `bit_and n c` is 0 exactly if n lacks each bit
-- of c, and that lasts under or, and, and the taking away of bits.
-- Assumes nothing.
use mathlib.Core.Path.{◌≡◌, refl, ap, ◌∙◌}
use mathlib.Core.Bool.{true, false, and-false}
use Prim.Native.Nat.{ℕ, ◌+◌, ◌%◌}
use native.Mathlib.Nat.{div-one}
use native.Mathlib.Omega.{arith}
use lib.Arith.{bin_ind}
use lib.Bits.{bit_and, bit_or, bit_xor}
use lib.Pow.{shr-shr}
use Rattle.laws.specs.Bits.{bit, has}
use Rattle.laws.proofs.Tests.{case, not_both}
use Rattle.laws.proofs.Bits.{bit_none, lacks_bit, bit_lacks, has_or, has_and, has_without}

no_bits : (n : ℕ) → ((j : ℕ) → bit j n ≡ 0) → n ≡ 0
no_bits = bin_ind (λ n. ((j : ℕ) → bit j n ≡ 0) → n ≡ 0) (λ f. refl) (λ n ih f.
    let low : n % 2 ≡ 0 = rw div-one at (f 0) in
    let high = ih (λ j. ap (λ (x : ℕ). x % 2) (shr-shr n 1 j) ∙ f (1 + j)) in
    omega arith)

pub apart_by : (n c : ℕ) → ((j : ℕ) → has j c ≡ true → has j n ≡ false) → bit_and n c ≡ 0
apart_by n c f = no_bits (bit_and n c) (λ j. lacks_bit j (bit_and n c) (has_and j n c ∙ case (has j c) (λ t. rw (f j t)) (λ t. rw t (and-false (has j n)))))

pub apart_at : (j n c : ℕ) → bit_and n c ≡ 0 → has j c ≡ true → has j n ≡ false
apart_at j n c e t =
    case (has j n) (λ u. not_both (has j (bit_and n c)) (has_and j n c ∙ rw (t, u)) (ap (has j) e ∙ bit_lacks j 0 (bit_none j))) (λ u. u)

pub apart_or : (c m n : ℕ) → bit_and m c ≡ 0 → bit_and n c ≡ 0 → bit_and (bit_or m n) c ≡ 0
apart_or c m n p q = apart_by (bit_or m n) c (λ j t. has_or j m n ∙ rw (apart_at j m c p t, apart_at j n c q t))

pub apart_and : (c n b : ℕ) → bit_and b c ≡ 0 → bit_and (bit_and n b) c ≡ 0
apart_and c n b p = apart_by (bit_and n b) c (λ j t. has_and j n b ∙ rw (apart_at j b c p t) (and-false (has j n)))

pub apart_without : (c n p : ℕ) → bit_and n c ≡ 0 → bit_and (bit_xor n (bit_and n p)) c ≡ 0
apart_without c n p e = apart_by (bit_xor n (bit_and n p)) c (λ j t. has_without j n p ∙ rw (apart_at j n c e t))
