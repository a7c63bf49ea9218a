-- `moves::join` meets its contract: after k turns the first k places have the source's bits too, and all else is as it was.
use Rattle.std.proofs.Common.{◌≡◌, refl, List, ℕ, ◌+◌, ◌<◌, arith, rules, bit_or, length, set, length-set}
use Rattle.laws.specs.Lists.{at, patch}
use Rattle.laws.proofs.Lists.{patch_none, patch_next, patch_more}
use Rattle.moves.proofs.join.Goals as goal

module _ (s cs : List ℕ) (b : ℕ) where
  abbrev joined : ℕ → ℕ
  joined j = bit_or (at s (b + j)) (at cs j)

  -- one place more
  joined_more : (k : ℕ) → b + k < length s
      → set (patch b k joined s) (b + k) (bit_or (at (patch b k joined s) (b + k)) (at cs k)) ≡ patch b (k + 1) joined s
  joined_more k h = rw (patch_next b joined s k h) (patch_more b joined s k h)

pub loop-k-init : goal.loop-k-init
loop-k-init c = (refl, patch_none _ _ _)

pub loop-k-preserved : goal.loop-k-preserved
loop-k-preserved c =
    let x = c.args in
    let more = joined_more x.dst.now x.src.now x.to c.loop-k.k (omega arith) in
    (simp length-set (search rules), rw c.loop-k.invariant.1 more)
