-- What goes over bytes one after the other, as a sum and an OR.
-- Assumes nothing.
use Rattle.std.proofs.Common.{◌≡◌, ℕ, zero, suc, ◌+◌, ◌%◌, ◌&&◌, eqb, List, [], ◌∷◌, length, fold, bit_or, sym, ◌∙◌, arith}
use mathlib.Core.Bool.{and_assoc, and-true}
use Rattle.laws.specs.Lists.{at, sum}
use Rattle.laws.proofs.Zeros.{or_none}
use Rattle.block.specs.Block.{holds}

pub sum_folded : (a : ℕ) (xs : List ℕ) → fold (λ s b. (s + b) % 65536) (a % 65536) xs ≡ (a + sum xs) % 65536
unfolding sum
sum_folded a [] = omega arith
sum_folded a (x ∷ xs) =
    let z : (a % 65536 + x) % 65536 ≡ (a + x) % 65536 = omega arith in
    let y : a + x + sum xs ≡ a + (x + sum xs) = omega arith in
    rw z (rw y at (sum_folded (a + x) xs))

holds_cons : (n : ℕ) (f : ℕ → ℕ) (x : ℕ) (xs : List ℕ) → holds 0 (suc n) f (x ∷ xs) ≡ (eqb x (f 0) && holds 0 n (λ j. f (suc j)) xs)
unfolding holds
holds_cons zero f x xs = sym (and-true (eqb x (f 0)))
holds_cons (suc n) f x xs =
    let y : 0 + suc n ≡ suc n = omega arith in
    let z : 0 + n ≡ n = omega arith in
    rw (holds_cons n f x xs, y, z) (and_assoc (eqb x (f 0)) (holds 0 n (λ j. f (suc j)) xs) (eqb (at xs n) (f (suc n))))

pub blank_folded : (a : ℕ) (xs : List ℕ) → eqb (fold bit_or a xs) 0 ≡ (eqb a 0 && holds 0 (length xs) (λ j. 0) xs)
unfolding holds
blank_folded a [] = sym (and-true (eqb a 0))
blank_folded a (x ∷ xs) =
    blank_folded (bit_or a x) xs
    ∙ rw (holds_cons (length xs) (λ j. 0) x xs, or_none a x) (and_assoc (eqb a 0) (eqb x 0) (holds 0 (length xs) (λ j. 0) xs))
