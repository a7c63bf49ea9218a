-- `bridge::packing::limit` meets its contract: where there is no limit, 0.0 as the code writes it is the definition's (Nothing.antt).
use Rattle.std.proofs.Common.{arith}
use Rattle.bridge.proofs.packing.Nothing.{none_is, no_limit}
use Rattle.bridge.proofs.packing.limit.Goals as goal

pub returns-in_default : goal.returns-in_default
returns-in_default c = rw c.in-Ok.is (no_limit _ c.args.which (omega arith))

pub returns-in-Err : goal.returns-in-Err
returns-in-Err c = rw c.in-Err.is none_is
