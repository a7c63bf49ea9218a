-- `module::read::look` meets its contract.
use Rattle.module.proofs.read.Shown.{look_shown}
use Rattle.module.proofs.read.look.Goals as goal

pub returns : goal.returns
returns c =
    let x = c.args in
    let page = c.selected-page in
    look_shown x.state.now x.base.place.0 page.result.number x.out.now x.run.first.0 x.run.many page.ensures page.result.there x.run.fits c.requires.room
    c.put_memory.ensures c.put_high_masks.ensures c.put_status.ensures c.put_own.ensures
