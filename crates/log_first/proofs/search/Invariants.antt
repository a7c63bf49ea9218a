use Rattle.std.proofs.Common.{length}
use Rattle.log_first.proofs.Laws.{Gone}
use Rattle.log_first.proofs.search.Given as goal

abbrev pub invariant-loop-rest : goal.invariant-loop-rest
invariant-loop-rest l = Gone l.blocks l.rest l.bit.number l.before

abbrev pub decreases-loop-rest : goal.decreases-loop-rest
decreases-loop-rest l = length l.rest
