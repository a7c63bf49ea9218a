-- Sums, by one element more at the front or at the end.
-- Assumes nothing.
use mathlib.Core.Path.{◌≡◌, refl, sym}
use mathlib.Core.List.{List, [], ◌∷◌, ◌++◌, map, Memᴰ}
use Prim.Native.Nat.{ℕ, ◌+◌, ◌*◌, ◌%◌, ◌≤◌}
use native.Mathlib.Nat.{zero-add, add-mod, suc-mul}
use native.Mathlib.Omega.{arith}
use lib.ListN.{length}
use Rattle.laws.specs.Lists.{sum}

pub sum_append : (a b : List ℕ) → sum (a ++ b) ≡ sum a + sum b
unfolding sum
sum_append [] b = sym (zero-add (sum b))
sum_append (x ∷ xs) b = omega (arith, sum_append xs b)

-- one element more at the end
pub sum_last : (l : List ℕ) (x : ℕ) → sum (l ++ (x ∷ [])) ≡ sum l + x
unfolding sum
sum_last l x = rw sum_append (omega arith)

-- a sum modulo m, part by part
pub sum_append_mod : (m : ℕ) (a b : List ℕ) → sum (a ++ b) % m ≡ (sum a % m + sum b % m) % m
sum_append_mod m a b = rw (sum_append a b) (add-mod (sum a) (sum b) m)

-- ---- sums over a list

pub sum_same : {A : Type 0} (f g : A → ℕ) (l : List A) → ((x : A) → Memᴰ x l → f x ≡ g x) → sum (map f l) ≡ sum (map g l)
unfolding sum
sum_same f g [] e = refl
sum_same f g (x ∷ xs) e = let u = e x (Memᴰ.head refl) in let v = sum_same f g xs (λ y m. e y (Memᴰ.tail m)) in omega arith

-- a sum of numbers none of which is above k
pub sum_le : {A : Type 0} (f : A → ℕ) (l : List A) (k : ℕ) → ((x : A) → f x ≤ k) → sum (map f l) ≤ length l * k
unfolding sum
sum_le f [] k h = omega arith
sum_le f (x ∷ xs) k h = let u = h x in let v = sum_le f xs k h in rw suc-mul (omega arith)
