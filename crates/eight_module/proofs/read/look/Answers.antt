-- `eight_module::read::look` meets its contract: three layers, one over the other: zeros, the masks, the flags.
use Rattle.eight_module.proofs.read.Laws.{look_shown}
use Rattle.eight_module.proofs.read.look.Goals as goal

pub returns : goal.returns
returns c =
    let x = c.args in
    rw (← c.record_of-base.ensures) (look_shown x.state.now c.record_of-base.result x.out.now x.run.first x.run.many c.requires c.fill.ensures c.copy_part.ensures c.copy_part-2.ensures)
