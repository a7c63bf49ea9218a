-- `eight_module::sample::raise` meets its contract.
use Rattle.std.proofs.Common.{arith, drop}
use Rattle.ports.specs.Ports.{caller}
use Rattle.both.specs.Ports.{port_number}
use Rattle.eight_module.proofs.Laws.{record_fits}
use Rattle.eight_module.proofs.sample.Laws.{raise_both}
use Rattle.eight_module.proofs.sample.raise.Goals as goal

pub returns : goal.returns
returns c =
    let x = c.args in
    let f = record_fits (caller (port_number x.port)) in
    rw (← c.record_of-base.ensures) (raise_both x.state.now _ _ (drop 2 x.cs.bytes) (drop 2 x.os.bytes) _ (omega arith) c.join.ensures c.join-2.ensures)
