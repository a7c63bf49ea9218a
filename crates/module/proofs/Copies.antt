-- What a copy of a part of a list leaves.
-- Assumes nothing.
use mathlib.Core.Path.{◌≡◌}
use mathlib.Core.List.{List}
use Prim.Native.Nat.{ℕ, ◌+◌, ◌-◌, ◌≤◌}
use lib.ListN.{length, take, drop}
use Rattle.laws.specs.Lists.{at, patch}
use Rattle.laws.proofs.Lists.{patch_same}
use Rattle.laws.proofs.Parts.{slice_length, slice_at}

-- the n places of x from a on, as `&x[a..a + n]` has them, are copied to those of s from `to` on
pub part_copied : (to a n : ℕ) (x s : List ℕ) → a + n ≤ length x
    → patch to (length (take (a + n - a) (drop a x))) (at (take (a + n - a) (drop a x))) s ≡ patch to n (λ j. at x (a + j)) s
part_copied to a n x s fits = rw (slice_length a n x fits) (patch_same to n _ (λ j. at x (a + j)) s (λ j h. slice_at a n x fits j h))
