-- A sum of bytes that is wrapped at each step is the sum, wrapped once.
-- Assumes nothing.
use Rattle.std.proofs.Common.{◌≡◌, ℕ, ◌+◌, ◌%◌, List, [], ◌∷◌, fold, ◌∙◌, arith}
use Rattle.laws.specs.Lists.{sum}
use Rattle.model.specs.Reset.{check_code}

from_any : (c : ℕ) (l : List ℕ) → fold (λ s b. (s + b) % 256) (c % 256) l ≡ (c + sum l) % 256
unfolding sum
from_any c [] = omega arith
from_any c (x ∷ xs) =
    let e : (c % 256 + x) % 256 ≡ (c + x) % 256 = omega arith in
    rw e (from_any (c + x) xs ∙ omega arith)

pub code_folds : (l : List ℕ) → fold (λ s b. (s + b) % 256) 0 l ≡ check_code l
code_folds l = from_any 0 l ∙ omega arith
