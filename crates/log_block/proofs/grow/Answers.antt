-- `log_block::grow` meets its contract: once the sample and the count are put, the places before byte 501 are those of the grown block,
-- and `seal` goes by these alone (`grow_done`).
use Rattle.std.proofs.Common.{◌≡◌, ◌∙◌, arith}
use Rattle.block.specs.Block.{count}
use Rattle.log_block.proofs.Laws.{grow_done}
use Rattle.log_block.proofs.grow.Goals as goal

pub returns : goal.returns
returns c =
    let x = c.args in
    let k : c.from.result ≡ count x.block.now = c.from.ensures ∙ c.count_of-count.ensures in
    let e = c.count_of-count.ensures in
    c.seal.ensures ∙ rw c.copy_from_slice.ensures.after
    (grow_done x.block.now x.sample.now c.told-block c.told-sample c.requires _ _ _ (omega arith) (omega arith) (omega arith))
