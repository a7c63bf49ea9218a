-- `both::let_by` meets its contract.
use Rattle.std.proofs.Common.{refl, arith}
use lib.Count.{ones-le}
use Rattle.laws.proofs.Bits.{without_lt}
use Rattle.both.proofs.let_by.Goals as goal

pub returns : goal.returns
returns c = (refl, ones-le 8 _ (without_lt 8 c.args.flags c.args.mask (omega arith)))
