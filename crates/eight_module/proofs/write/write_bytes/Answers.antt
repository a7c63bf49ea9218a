-- `eight_module::write::write_bytes` meets its contract: after k turns the first k bytes are written.
use Rattle.std.proofs.Common.{◌≡◌, ◌∙◌, arith, length}
use Rattle.ports.specs.Ports.{caller}
use Rattle.ports.specs.Modules.{base}
use Rattle.eight.specs.Module.{eight}
use Rattle.both.specs.Ports.{port_number}
use Rattle.eight_module.proofs.Laws.{record_fits}
use Rattle.eight_module.proofs.write.Laws.{none_yet, one_more, all_written}
use Rattle.eight_module.proofs.write.write_bytes.Goals as goal

pub loop-k-init : goal.loop-k-init
loop-k-init c = let x = c.args in none_yet x.state.now x.bytes.now (base eight (caller (port_number x.port))) x.a

pub loop-k-preserved : goal.loop-k-preserved
loop-k-preserved c =
    let x = c.args in
    let f = record_fits (caller (port_number x.port)) in
    one_more x.state.now x.bytes.now (base eight (caller (port_number x.port))) x.a (omega arith) c.loop-k.k c.loop-k.state _ c.loop-k.invariant c.write_byte.ensures

pub returns : goal.returns
returns c =
    let x = c.args in
    let f = record_fits (caller (port_number x.port)) in
    let k : c.loop-k.k ≡ length x.bytes.now = omega arith in
    rw k at c.loop-k.invariant ∙ all_written x.state.now x.bytes.now (base eight (caller (port_number x.port))) x.a (omega arith)
