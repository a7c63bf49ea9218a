-- `log_calls::sample::find` meets its contract: the samples of the blocks already gone through and `left` make up the position, and a
-- turn finds it in the next block or takes that block's count off.
use Rattle.std.proofs.Common.{◌<◌, ◌∙◌, [], get_or}
use Rattle.block.specs.Block.{count}
use Rattle.log_calls.proofs.sample.Laws.{found_here}
use Rattle.log_calls.proofs.sample.find.Goals as goal

pub returns-then-left-count-clause-accepted : goal.returns-then-left-count-clause-accepted
returns-then-left-count-clause-accepted c =
    let l = c.loop-i in
    let b = c.args.blocks.now in
    let h : l.left < count (get_or b l.i []) = rw (c.from-count.ensures ∙ c.count_of.ensures) at c.if-left-count.true in
    found_here b l.i l.left c.args.position l.invariant c.told-blocks c.loop-i-test.true h
