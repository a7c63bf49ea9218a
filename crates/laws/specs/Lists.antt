-- Lists of numbers: what stands at each place, parts, a run of places replaced, sums.
-- Assumes nothing.
use Rattle.std.specs.Prelude.{ℕ, zero, suc, ◌+◌, ◌-◌, List, [], ◌∷◌, length, get_or, take, drop, if◌then◌else◌}
use Rattle.laws.specs.Tests.{covers}

-- what stands at place i, 0 past the end
abbrev pub at : List ℕ → ℕ → ℕ
at s i = get_or s i 0

-- the n elements from place a on
abbrev pub part : ℕ → ℕ → List ℕ → List ℕ
part a n s = take n (drop a s)

-- the list of n elements that has f i at place i
unfoldable pub table : ℕ → (ℕ → ℕ) → List ℕ
table zero f = []
table (suc n) f = f zero ∷ table n (λ k. f (suc k))

-- the n places from a on hold f 0 to f (n - 1), and the rest is as it was
unfoldable pub patch : ℕ → ℕ → (ℕ → ℕ) → List ℕ → List ℕ
patch a n f s = table (length s) (λ i. if covers a n i then f (i - a) else at s i)

unfoldable pub sum : List ℕ → ℕ
sum [] = 0
sum (x ∷ xs) = x + sum xs
