-- `log_calls::walk::block_of` meets its contract.
use Rattle.std.proofs.Common.{◌/◌, ◌∙◌, ap, List, [], ℕ, get_or, length, arith}
use Rattle.block.specs.Block.{block_size}
use Rattle.log_block.proofs.Chunks.{chunk_at}
use Rattle.log_calls.proofs.walk.block_of.Goals as goal

pub returns : goal.returns
returns c =
    let log = c.args.log.now in
    let i = c.args.i in
    let n : ℕ = length log / block_size in
    ap (λ (l : List (List ℕ)). get_or l i []) c.as_chunks.ensures.front ∙ chunk_at block_size n log i (omega arith)
