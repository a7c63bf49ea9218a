-- `log_block::is_summed` meets its contract: byte 504 tells whether bytes 501 to 509 must be a summary or zeros.
use Rattle.std.proofs.Common.{◌∙◌, arith}
use Rattle.log_block.proofs.Ends.{part_blank, unmarked_summed, marked_summed}
use Rattle.log_block.proofs.is_summed.Goals as goal

pub returns-then-block-eq0 : goal.returns-then-block-eq0
returns-then-block-eq0 c =
    let b = c.args.block.now in
    c.is_blank.ensures ∙ part_blank 501 9 b (omega arith) ∙ unmarked_summed b c.if-block-eq0.true

pub returns : goal.returns
returns c = c.has_summary.ensures ∙ marked_summed c.args.block.now c.if-block-eq0.false
