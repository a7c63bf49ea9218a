use Rattle.std.proofs.Common.{◌≡◌}
use Rattle.laws.specs.Lists.{at}
use Rattle.block.specs.Block.{any_to}
use Rattle.log_block.proofs.status_of.Given as goal

abbrev pub invariant-loop-sample : goal.invariant-loop-sample
invariant-loop-sample l =
    (l.first ≡ any_to (at l.block) 0 l.sample-index) × (l.second ≡ any_to (at l.block) 1 l.sample-index) × (l.third ≡ any_to (at l.block) 2 l.sample-index)
