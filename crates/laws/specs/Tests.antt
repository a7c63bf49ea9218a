-- Tests: a choice by a test, runs of numbers, and the first of several tests that passes.
-- Assumes nothing.
use Rattle.std.specs.Prelude.{ℕ, suc, ◌+◌, ◌-◌, ◌≡◌, ◌↔◌, Bool, true, not, ◌&&◌, List, [], ◌∷◌, ◌++◌, map, if◌then◌else◌, eqb, leb, ltb}

-- 1 where the test passes
abbrev pub one : Bool → ℕ
one t = if t then 1 else 0

-- i is one of the n numbers from a on
abbrev pub covers : ℕ → ℕ → ℕ → Bool
covers a n i = leb a i && ltb i (a + n)

-- some numbers in a row
pub record Run : Type 0 where
  pub first : ℕ
  pub many : ℕ

-- 3 to 14: from 3 up to 14, both of them too
infix 70 ◌to◌
abbrev pub ◌to◌ : ℕ → ℕ → Run
a to b = record { first = a; many = suc b - a }

abbrev pub within : Run → ℕ → Bool
within r i = covers r.first r.many i

-- a number, and the test by which it applies
abbrev pub Row : Type 0
Row = ℕ × Bool

-- the number of the first row that applies, 0 where none does
abbrev pub first_of : List Row → ℕ
first_of [] = 0
first_of (r ∷ rs) = if r.1 then r.0 else first_of rs

-- none of them applies
abbrev pub none_of : List Row → Bool
none_of [] = true
none_of (r ∷ rs) = not r.1 && none_of rs

-- the numbers of rows, in their order
abbrev pub numbers_of : List Row → List ℕ
numbers_of rs = map (λ (r : Row). r.0) rs

-- Which number is given: given that no earlier row applies, a row's exactly when its test passes; and 0 exactly when no row applies.
pub record InOrder (rs : List Row) : Type 0 where
  pub exact : (before after : List Row) (k : ℕ) (t : Bool) → rs ≡ before ++ (k, t) ∷ after → none_of before ≡ true → (first_of rs ≡ k) ↔ (t ≡ true)
  pub free : (first_of rs ≡ 0) ↔ (none_of rs ≡ true)

-- the number of a refusal, or what was asked for
pub data Told (A : Type 0) : Type 0 where
  refused : ℕ → Told A
  given : A → Told A

abbrev pub told : {A : Type 0} → List Row → A → Told A
told rows a = if eqb (first_of rows) 0 then given a else refused (first_of rows)
