-- `module::reset::bring` meets its contract.
use Rattle.module.proofs.reset.Laws.{bring_all}
use Rattle.module.proofs.reset.bring.Goals as goal

pub returns : goal.returns
returns c =
    let e = c.memory_before.ensures in
    let g = c.memory_behind.ensures in
    rw (c.bring_run-2.ensures, g.0, g.1, c.bring_run.ensures, e.0, e.1) (bring_all c.args.state.now c.told-state c.args.image.now)
