-- `log_block::sum16` meets its contract: a sum whose high bits are dropped at each byte is the sum, its high bits dropped once.
use Rattle.std.proofs.Common.{◌≡◌, ◌+◌, ◌%◌, fold, zero-add, rules}
use Rattle.log_block.proofs.Folds.{sum_folded}
use Rattle.log_block.proofs.sum16.Goals as goal

pub returns : goal.returns
returns c =
    let e : c.fold.result ≡ fold (λ s b. (s + b) % 65536) 0 c.args.bytes.now = search rules in
    rw (e, sum_folded 0 c.args.bytes.now, zero-add)
