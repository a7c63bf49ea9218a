-- `eight_module::read::clear` meets its contract: the flags of the run, and then its pending bits.
use Rattle.std.proofs.Common.{arith}
use Rattle.both.specs.Ports.{port_number}
use Rattle.ports.specs.Ports.{caller}
use Rattle.eight_module.proofs.Laws.{record_fits}
use Rattle.eight_module.proofs.read.Laws.{clear_both}
use Rattle.eight_module.proofs.read.clear.Goals as goal

pub returns : goal.returns
returns c =
    let x = c.args in
    let f = record_fits (caller (port_number x.port)) in
    rw (← c.record_of-base.ensures) (clear_both x.state.now _ _ _ x.run.first x.run.many (omega arith) c.fill_part.ensures c.fill_part-2.ensures)
