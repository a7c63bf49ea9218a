-- `log_block::seal` meets its contract: the sum of the first 510 bytes, the summary among them, is put behind them.
use Rattle.std.proofs.Common.{◌∙◌}
use Rattle.log_block.proofs.Ends.{seal_done}
use Rattle.log_block.proofs.seal.Goals as goal

pub returns : goal.returns
returns c =
    seal_done c.args.block.now c.told-block _ _ c.put_summary.ensures (c.copy_from_slice.ensures.after ∙ c.to_be_bytes-check.ensures ∙ rw c.sum16.ensures)
