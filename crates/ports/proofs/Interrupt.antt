-- The count and the interrupt, over any list of pairs: of all bits of the flag bytes those that are 1 and whose mask bit is 0 are picked;
-- the count is the length of that list, and the interrupt stands exactly when there is one in it.
-- Assumes nothing.
use mathlib.Core.Path.{◌≡◌, refl, sym, ap, ◌∙◌}
use mathlib.Core.Logic.{◌↔◌}
use mathlib.Core.Bool.{Bool, true, not, ◌&&◌}
use mathlib.Core.List.Memᴰ
use mathlib.Core.List.Nodup
use mathlib.Core.List.{List, map, Memᴰ, Nodup}
use Prim.Native.Nat.{ℕ, zero, suc, ◌+◌, ◌*◌, ◌≤◌, ◌<◌, min}
use native.Mathlib.Omega.{arith}
use lib.Bits.{bit_and, bit_xor, differ}
use lib.Count.{ones}
use lib.Dec.{eqb}
use lib.ListN.{length}
use borrow.Author.Tests.{eqb-false, ne_eqb, not-true}
use Rattle.laws.specs.Tests.{one}
use Rattle.laws.specs.Bits.{bit, has}
use Rattle.laws.specs.Lists.{sum}
use Rattle.laws.proofs.Tests.{one_le, and_left, and_right}
use Rattle.laws.proofs.Bits.{bit_small, has_bit, bit_has, lacks_bit, bit_lacks, bit_and_lem, bit_xor_lem, without_lt}
use Rattle.laws.proofs.Picks.{counted_within, within_counted, picked, picked_length, picked_passes, passes_picked, picked_sublist, rises, rises_once, some_member, member_some, crossed, crossed_both, both_crossed, crossed_sum}
use Rattle.laws.proofs.Ones.{ones_bits}
use Rattle.laws.proofs.Sums.{sum_same, sum_le}
use Rattle.ports.specs.Ports.{Places}
use Rattle.ports.specs.Interrupt.{Pair, bits, through, count_pair, count_of, stands_of, UnmaskedOf}

-- ---- one bit of a pair

-- a flag byte with its mask byte, and a bit: the flag bit is raised and let through
abbrev pub passes : Places → Pair × ℕ → Bool
passes o x = through o x.0 x.1

-- a flag bit is let through exactly if it is 1 and its mask bit is 0
through_exact : (o : Places) (pr : Pair) (j : ℕ)
    → (through o pr j ≡ true) ↔ ((bit j (o pr.flag_byte) ≡ 1) × (bit j (o pr.mask_byte) ≡ 0))
through_exact o pr j =
    let f = o pr.flag_byte in
    let m = o pr.mask_byte in (
      λ e. (has_bit j f (and_left (has j f) (not (has j m)) e), lacks_bit j m (not-true (has j m) (and_right (has j f) (not (has j m)) e))),
      λ b. rw (bit_has j f b.0, bit_lacks j m b.1),
    )

-- "Ones counted in each flag byte with its masked bits taken away" are the bits of it that are let through
pub ones_through : (f m : ℕ) → f < 256 → ones (bit_xor f (bit_and f m)) ≡ sum (map (λ j. one (has j f && not (has j m))) bits)
ones_through f m h =
    ones_bits 8 (bit_xor f (bit_and f m)) (without_lt 8 f m h)
    ∙ sum_same (λ j. bit j (bit_xor f (bit_and f m))) (λ j. one (has j f && not (has j m))) bits
    (λ j i. bit_xor_lem j f (bit_and f m) ∙ ap (differ (bit j f)) (bit_and_lem j f m) ∙ digit (bit j f) (bit j m) (bit_small j f) (bit_small j m))
  where
    digit : (x y : ℕ) → x < 2 → y < 2 → differ x (min x y) ≡ one (eqb x 1 && not (eqb y 1))
    digit zero y h k = omega arith
    digit (suc zero) zero h k = refl
    digit (suc zero) (suc zero) h k = refl
    digit (suc zero) (suc (suc y)) h k = absurd (omega arith)
    digit (suc (suc x)) y h k = absurd (omega arith)

-- ---- all of them

-- the pairs' bits, the flag bytes rising: computed for a list of pairs
abbrev pub rise : List Pair → Bool
rise pairs = rises (λ x. 8 * x.0.flag_byte + x.1) 0 (crossed pairs bits)

module _ (pairs : List Pair) where
  -- all that are let through, of the pairs and the eight bits
  unfoldable unmasked_of : Places → List (Pair × ℕ)
  unmasked_of o = picked (passes o) (crossed pairs bits)

  count_length : (o : Places) → count_of pairs o ≡ length (unmasked_of o)
  unfolding count_of unmasked_of
  count_length o = sym (picked_length (passes o) (crossed pairs bits) ∙ crossed_sum (λ x. one (passes o x)) pairs bits)

  -- each of them is a flag bit that is 1 and whose mask bit is 0, and each such bit is one of them
  listed_unmasked : (o : Places) (x : Pair × ℕ) → Memᴰ x (unmasked_of o) ↔ ((u : UnmaskedOf pairs o) × (x ≡ (u.pair, u.j)))
  unfolding unmasked_of
  listed_unmasked o x = (to, λ (u, e). Memᴰ.cast e (of u))
    where
      to : Memᴰ x (unmasked_of o) → (u : UnmaskedOf pairs o) × (x ≡ (u.pair, u.j))
      to m =
          let r = picked_passes (passes o) (crossed pairs bits) m in
          let b = crossed_both pairs bits r.0 in
          let t = (through_exact o x.0 x.1).0 r.1 in
          (record { pair = x.0; among = b.0; j = x.1; small = (counted_within 0 8 x.1 b.1).1; up = t.0; unheld = t.1 }, refl)

      of : (u : UnmaskedOf pairs o) → Memᴰ (u.pair, u.j) (unmasked_of o)
      of u =
          passes_picked (passes o) (crossed pairs bits) (both_crossed pairs bits u.among (within_counted 0 8 u.j (omega arith) u.small))
          ((through_exact o u.pair u.j).1 (u.up, u.unheld))

  -- each of them once
  listed_once : rise pairs ≡ true → (o : Places) → Nodup (unmasked_of o)
  unfolding unmasked_of
  listed_once e o = Nodup.sublist (picked_sublist (passes o) (crossed pairs bits)) (rises_once (λ x. 8 * x.0.flag_byte + x.1) 0 (crossed pairs bits) e)

  -- "the number of raised flags that its masks let through": there is a list of these, each once, and the count is its length
  pub count_listed : rise pairs ≡ true → (o : Places)
      → (l : List (Pair × ℕ)) × (count_of pairs o ≡ length l) × Nodup l × ((x : Pair × ℕ) → Memᴰ x l ↔ ((u : UnmaskedOf pairs o) × (x ≡ (u.pair, u.j))))
  count_listed e o = (unmasked_of o, count_length o, listed_once e o, listed_unmasked o)

  -- Demand 2: "A port's interrupt stands exactly when a raised flag is unmasked there."
  pub interrupt_rule : (o : Places) → (stands_of pairs o ≡ true) ↔ UnmaskedOf pairs o
  unfolding stands_of
  interrupt_rule o = (to, of)
    where
      to : stands_of pairs o ≡ true → UnmaskedOf pairs o
      to e =
          let d = eqb-false (count_of pairs o) 0 (not-true (eqb (count_of pairs o) 0) e) in
          let r = some_member (unmasked_of o) (λ z. d (count_length o ∙ z)) in
          ((listed_unmasked o r.0).0 r.1).0

      of : UnmaskedOf pairs o → stands_of pairs o ≡ true
      of u =
          let m = (listed_unmasked o (u.pair, u.j)).1 (u, refl) in
          rw (ne_eqb (count_of pairs o) 0 (λ z. member_some (unmasked_of o) m (sym (count_length o) ∙ z)))

  -- the ones of each byte, added over the pairs
  pub count_ones : (o : Places) → ((k : ℕ) → o k < 256)
      → count_of pairs o ≡ sum (map (λ pr. ones (bit_xor (o pr.flag_byte) (bit_and (o pr.flag_byte) (o pr.mask_byte)))) pairs)
  unfolding count_of
  count_ones o small =
      sum_same (count_pair o) (λ pr. ones (bit_xor (o pr.flag_byte) (bit_and (o pr.flag_byte) (o pr.mask_byte)))) pairs
      (λ pr i. sym (ones_through (o pr.flag_byte) (o pr.mask_byte) (small pr.flag_byte)))

  -- pairs of eight bits
  pub count_most : (o : Places) → count_of pairs o ≤ length pairs * 8
  unfolding count_of
  count_most o = sum_le (count_pair o) pairs 8 (λ pr. sum_le (λ j. one (through o pr j)) bits 1 (λ j. one_le (through o pr j)))
