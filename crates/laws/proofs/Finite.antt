-- A rule for all numbers below a bound, by one test that is computed over them.
-- Assumes nothing.
use mathlib.Core.Path.{◌≡◌, ap, ◌∙◌}
use mathlib.Core.Bool.{Bool, true, ◌&&◌}
use Prim.Native.Nat.{ℕ, zero, suc, ◌<◌}
use native.Mathlib.Omega.{arith}
use lib.Dec.{eqb}
use borrow.Author.Tests.{eqb-true, eqb-false}
use Rattle.laws.proofs.Tests.{case, and_left, and_right}

-- the test passes at each number below n
abbrev pub always : (ℕ → Bool) → ℕ → Bool
always f zero = true
always f (suc n) = f n && always f n

pub always_at : (f : ℕ → Bool) (n : ℕ) → always f n ≡ true → (i : ℕ) → i < n → f i ≡ true
always_at f zero e i h = absurd (omega arith)
always_at f (suc n) e i h = case (eqb i n)
    (λ t. ap f (eqb-true i n t) ∙ and_left (f n) (always f n) e)
    (λ t. let d = eqb-false i n t in always_at f n (and_right (f n) (always f n) e) i (omega arith))

-- the same of statements that are no test: one proof for each number
abbrev pub every : (ℕ → Type 0) → ℕ → Type 0
every P zero = Unit
every P (suc n) = P 0 × every (λ k. P (suc k)) n

pub every_at : (P : ℕ → Type 0) (n : ℕ) → every P n → (i : ℕ) → i < n → P i
every_at P zero h i l = absurd (omega arith)
every_at P (suc n) h zero l = h.0
every_at P (suc n) h (suc i) l = every_at (λ k. P (suc k)) n h.1 i (omega arith)
