-- `module::reset::restore` meets its contract.
use Rattle.module.proofs.reset.Laws.{restore_all}
use Rattle.module.proofs.reset.restore.Goals as goal

pub returns : goal.returns
returns c =
    rw (c.from-status.ensures, c.place.ensures.0, c.empty.ensures)
    (restore_all c.args.state.now c.told-state c.args.image.now _ c.bring.ensures)
