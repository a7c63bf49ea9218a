-- Several runs of places replaced one after the other, by one function: a place in any of them holds the function's number for it, so
-- their order makes no difference.
-- Assumes nothing.
use Rattle.std.specs.Prelude.{if◌then◌else◌}
use mathlib.Core.Path.{◌≡◌, refl, ◌∙◌}
use mathlib.Core.Bool.{Bool, true, false, ◌&&◌, ◌||◌, beq}
use mathlib.Core.List.{List, [], ◌∷◌}
use Prim.Native.Nat.{ℕ, ◌+◌, ◌-◌, ◌<◌}
use native.Mathlib.Omega.{arith}
use lib.Dec.{ltb}
use lib.ListN.{length}
use Rattle.laws.specs.Tests.{Run, within}
use Rattle.laws.specs.Lists.{at, patch}
use Rattle.laws.proofs.Tests.{case, beq_same, covers_true}
use Rattle.laws.proofs.Finite.{always, always_at}
use Rattle.laws.proofs.Lists.{patch_length, patch_at}
use Rattle.laws.proofs.Fronts.{is_front}

-- the runs are replaced by what f has for their places, the last run first
abbrev pub overlaid : (ℕ → ℕ) → List Run → List ℕ → List ℕ
overlaid f [] s = s
overlaid f (r ∷ rs) s = patch r.first r.many (λ j. f (r.first + j)) (overlaid f rs s)

-- i is in one of the runs
abbrev pub any_of : List Run → ℕ → Bool
any_of [] i = false
any_of (r ∷ rs) i = within r i || any_of rs i

module _ (f : ℕ → ℕ) (s : List ℕ) where
  pub overlaid_length : (rs : List Run) → length (overlaid f rs s) ≡ length s
  overlaid_length [] = refl
  overlaid_length (r ∷ rs) = patch_length r.first r.many (λ j. f (r.first + j)) (overlaid f rs s) ∙ overlaid_length rs

  -- what then stands at each place
  pub overlaid_at : (rs : List Run) (i : ℕ) → i < length s → at (overlaid f rs s) i ≡ (if any_of rs i then f i else at s i)
  overlaid_at [] i h = refl
  overlaid_at (r ∷ rs) i h =
      patch_at r.first r.many (λ j. f (r.first + j)) (overlaid f rs s) i (rw (overlaid_length rs) h)
      ∙ case (within r i)
      (λ t. let d = covers_true r.first r.many i t in let z : r.first + (i - r.first) ≡ i = omega arith in rw (t, z))
      (λ t. rw t (overlaid_at rs i h))

  -- together they are the places below n where the test t passes: computed over all m places
  pub overlaid_front : (rs : List Run) (n : ℕ) (t : ℕ → Bool) (m : ℕ) → length s ≡ m → always (λ i. beq (any_of rs i) (ltb i n && t i)) m ≡ true
      → overlaid f rs s ≡ patch 0 n (λ i. if t i then f i else at s i) s
  overlaid_front rs n t m e all =
      is_front n (λ i. if t i then f i else at s i) s (overlaid f rs s) (overlaid_length rs)
      (λ i h. overlaid_at rs i h
      ∙ rw (beq_same (any_of rs i) (ltb i n && t i) (always_at (λ i. beq (any_of rs i) (ltb i n && t i)) m all i (omega arith)))
      (case (ltb i n) (λ q. rw q) (λ q. rw q)))
