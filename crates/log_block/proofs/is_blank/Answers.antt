-- `log_block::is_blank` meets its contract: an OR is 0 exactly if each of the bytes is.
use Rattle.std.proofs.Common.{◌≡◌, fold, bit_or, rules}
use Rattle.log_block.proofs.Folds.{blank_folded}
use Rattle.log_block.proofs.is_blank.Goals as goal

pub returns : goal.returns
returns c =
    let e : c.fold.result ≡ fold bit_or 0 c.args.bytes.now = search rules in
    rw e (blank_folded 0 c.args.bytes.now)
