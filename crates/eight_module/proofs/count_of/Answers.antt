-- `eight_module::count_of` meets its contract.
use Rattle.std.proofs.Common.{lit≤}
use Rattle.ports.specs.Ports.{caller}
use Rattle.ports.specs.Interrupt.{count_of}
use Rattle.ports.specs.Modules.{base}
use Rattle.eight.specs.Module.{eight}
use Rattle.both.specs.Ports.{port_number}
use Rattle.both.proofs.Laws.{count_record}
use Rattle.eight_module.proofs.count_of.Goals as goal

pub returns : goal.returns
unfolding count_of
returns c =
    let x = c.args in
    rw (c.count_beside.ensures.0, c.record_of.ensures) (count_record eight x.state.now (base eight (caller (port_number x.port))) 14 28 14 (lit≤ tt) (lit≤ tt))
