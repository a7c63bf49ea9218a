-- `module::write::write_bytes` meets its contract: after k turns the state is what the model's first k stores leave, each by the page
-- that was selected before the call.
use Rattle.std.proofs.Common.{arith}
use Rattle.model.specs.Ports.{caller}
use Rattle.both.specs.Ports.{port_number}
use Rattle.module.proofs.write.Laws.{puts_none, puts_next}
use Rattle.module.proofs.write.write_bytes.Goals as goal

pub loop-k-init : goal.loop-k-init
loop-k-init c =
    let x = c.args in
    puts_none x.state.now (caller (port_number x.port)) x.page.number x.run.first.0 x.bytes.now c.told-state

pub loop-k-preserved : goal.loop-k-preserved
loop-k-preserved c =
    let x = c.args in
    puts_next x.state.now (caller (port_number x.port)) x.page.number x.run.first.0 x.bytes.now _ _ c.loop-k.k (omega arith) c.loop-k.invariant (rw c.nth.ensures at c.write_byte.ensures)
