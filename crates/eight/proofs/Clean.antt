-- Bytes that have no bit but their own, one after the other.
-- Assumes nothing.
use mathlib.Core.Path.{◌≡◌, refl}
use mathlib.Core.Bool.{true}
use mathlib.Core.List.{List, [], ◌∷◌}
use Prim.Native.Nat.{ℕ, zero, suc, ◌+◌, ◌-◌, ◌<◌}
use native.Mathlib.Omega.{arith}
use lib.Bits.{bit_and}
use lib.Dec.{eqb}
use lib.ListN.{length}
use borrow.Author.Tests.{eqb-true, eq-eqb}
use Rattle.laws.specs.Lists.{at}
use Rattle.laws.proofs.Tests.{and_left, and_right, and_both}
use Rattle.ports.specs.Ports.{Places}
use Rattle.eight.specs.Module.{clean}

pub clean_by : (o : Places) (k : ℕ) (bs : List ℕ) → ((i : ℕ) → i < length bs → bit_and (o (k + i)) (255 - at bs i) ≡ 0) → clean o k bs ≡ true
clean_by o k [] f = refl
clean_by o k (b ∷ bs) f =
    let z : k + 0 ≡ k = omega arith in
    and_both (eq-eqb (bit_and (o k) (255 - b)) 0 (rw z at (f 0 (omega arith))))
    (clean_by o (suc k) bs (λ i h. let q : k + suc i ≡ suc k + i = omega arith in rw q at (f (suc i) (omega arith))))

pub clean_at : (o : Places) (k : ℕ) (bs : List ℕ) → clean o k bs ≡ true → (i : ℕ) → i < length bs → bit_and (o (k + i)) (255 - at bs i) ≡ 0
clean_at o k [] e i h = absurd (omega arith)
clean_at o k (b ∷ bs) e zero h =
    let z : k + 0 ≡ k = omega arith in
    rw z (eqb-true (bit_and (o k) (255 - b)) 0 (and_left (eqb (bit_and (o k) (255 - b)) 0) (clean o (suc k) bs) e))
clean_at o k (b ∷ bs) e (suc i) h =
    let q : k + suc i ≡ suc k + i = omega arith in
    rw q (clean_at o (suc k) bs (and_right (eqb (bit_and (o k) (255 - b)) 0) (clean o (suc k) bs) e) i (omega arith))
