-- `moves::copy` meets its contract: after k turns the first k places have the source's bytes, and all else is as it was.
use Rattle.std.proofs.Common.{refl, arith, rules, length-set}
use Rattle.laws.proofs.Lists.{patch_none, patch_more}
use Rattle.moves.proofs.copy.Goals as goal

pub loop-k-init : goal.loop-k-init
loop-k-init c = (refl, patch_none _ _ _)

pub loop-k-preserved : goal.loop-k-preserved
loop-k-preserved c = (simp length-set (search rules), rw c.loop-k.invariant.1 (patch_more _ _ _ _ (omega arith)))
