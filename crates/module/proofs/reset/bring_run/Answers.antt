-- `module::reset::bring_run` meets its contract.
use Rattle.std.proofs.Common.{arith}
use Rattle.module.proofs.Copies.{part_copied}
use Rattle.module.proofs.reset.bring_run.Goals as goal

pub returns : goal.returns
returns c =
    let x = c.args in
    rw (c.copy.ensures, c.from-first.ensures) (part_copied _ x.run.first.0 x.run.many x.image.now x.state.now (omega arith))
