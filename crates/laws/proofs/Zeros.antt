-- Laws of an or that is 0, and of one place more in a sum.
-- Assumes nothing.
use mathlib.Core.Path.{◌≡◌, sym}
use mathlib.Core.Bool.{◌&&◌}
use Prim.Native.Nat.{ℕ, zero, suc, ◌+◌}
use native.Mathlib.Omega.{arith}
use lib.Bits.{bit_or, and_le_l, or_comm, or_add_and}
use lib.Dec.{eqb}
use borrow.Author.Tests.{eqb-true, eqb-false, ne_eqb}
use Rattle.laws.specs.Lists.{table, sum}
use Rattle.laws.proofs.Tests.{case}

-- an or is 0 where both are
pub or_none : (a b : ℕ) → eqb (bit_or a b) 0 ≡ (eqb a 0 && eqb b 0)
or_none a b = case (eqb (bit_or a b) 0)
    (λ t. let z = eqb-true (bit_or a b) 0 t in
    let x = or_add_and a b in let y = or_add_and b a in let c = or_comm a b in let u = and_le_l a b in let v = and_le_l b a in
    let p : a ≡ 0 = omega arith in let q : b ≡ 0 = omega arith in rw (t, p, q))
    (λ t. case (eqb a 0)
    (λ u. let p = eqb-true a 0 u in rw (t, u) (sym (ne_eqb b 0 (λ q. eqb-false (bit_or a b) 0 t (rw (p, q))))))
    (λ u. rw (t, u)))

-- one place more of a table
pub sum_table : (n : ℕ) (f : ℕ → ℕ) → sum (table (suc n) f) ≡ sum (table n f) + f n
unfolding sum table
sum_table zero f = omega arith
sum_table (suc n) f = let e = sum_table n (λ k. f (suc k)) in omega arith
