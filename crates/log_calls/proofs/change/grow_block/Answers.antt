-- `log_calls::change::grow_block` meets its contract: the block that was lent comes back grown and of the same length, so it is put
-- (`block_back`).
use Rattle.std.proofs.Common.{◌≡◌, ap, ◌∙◌, take}
use Rattle.block.specs.Block.{block_size, grown}
use Rattle.block.proofs.Blocks.{grown_length}
use Rattle.log_model.specs.Log.{block}
use Rattle.log_calls.proofs.change.Laws.{block_back}
use Rattle.log_calls.proofs.change.grow_block.Goals as goal

pub returns : goal.returns
returns c =
    let x = c.args in
    let s = c.split_at_mut-rest.ensures in
    let here = rw c.unwrap.ensures at c.first_chunk_mut.ensures.cases in
    let b = block x.log.now x.i in
    let e : c.grow.new.block ≡ grown b x.sample.now = c.grow.ensures ∙ ap (λ l. grown l x.sample.now) (here.same ∙ ap (take block_size) s.back) in
    rw (s.front, s.back, e) (block_back x.log.now x.i (grown b x.sample.now) c.requires.0 (grown_length b x.sample.now c.requires.1 c.told-sample))
