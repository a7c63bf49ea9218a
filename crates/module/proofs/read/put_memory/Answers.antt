-- `module::read::put_memory` meets its contract.
use Rattle.module.proofs.read.Shown.{memory_shown}
use Rattle.module.proofs.read.put_memory.Goals as goal

pub returns : goal.returns
returns c =
    let x = c.args in
    let l = c.lower_lane.ensures in
    let p = c.page_lane.ensures in
    memory_shown x.out.now x.run.first.0 x.run.many c.requires x.state.now x.page.number x.run.fits
    (rw (l.0, l.1, l.2) at c.put_lane.ensures) (rw (p.0, p.1, p.2) at c.put_lane-2.ensures)
