-- `module::read::put_status` meets its contract.
use Rattle.module.proofs.read.Shown.{status_shown, status_kept}
use Rattle.module.proofs.read.put_status.Goals as goal

pub returns-then-many-ne0 : goal.returns-then-many-ne0
returns-then-many-ne0 c =
    let x = c.args in
    let h = c.hosts.ensures in
    let e = rw (h.0, h.1) at c.part-skip.ensures in
    rw c.status.ensures (status_shown x.out.now x.run.first.0 x.run.many c.requires _ _ _ e.0 e.1 c.if-many-ne0.true)

pub returns-else-many-ne0 : goal.returns-else-many-ne0
returns-else-many-ne0 c =
    let x = c.args in
    let h = c.hosts.ensures in
    let e = rw (h.0, h.1) at c.part-skip.ensures in
    status_kept x.out.now x.run.first.0 x.run.many c.requires _ _ e.1 c.if-many-ne0.false
