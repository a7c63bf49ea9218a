-- `log_block::has_summary` meets its contract: its tests are those of the summary's nine places, one after the other.
use Rattle.std.proofs.Common.{◌∙◌, arith}
use Rattle.log_block.proofs.Ends.{part_blank, summary_parts}
use Rattle.log_block.proofs.has_summary.Goals as goal

pub returns : goal.returns
returns c =
    let b = c.args.block.now in
    let rest = c.is_blank.ensures ∙ part_blank 505 5 b (omega arith) in
    rw (c.eq.ensures, c.status_of.ensures, rest) (summary_parts b c.told-block)
