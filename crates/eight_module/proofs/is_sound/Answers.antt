-- `eight_module::is_sound` meets its contract.
use Rattle.std.proofs.Common.{sym}
use Rattle.ports.specs.Ports.{caller}
use Rattle.ports.specs.Modules.{base}
use Rattle.ports.specs.Bytes.{record_of}
use Rattle.eight.specs.Module.{eight}
use Rattle.both.specs.Ports.{port_number}
use Rattle.eight_module.proofs.Laws.{sound_short}
use Rattle.eight_module.proofs.is_sound.Goals as goal

pub returns : goal.returns
returns c =
    let x = c.args in
    rw c.record_of-base.ensures (sym (sound_short (record_of eight x.state.now (base eight (caller (port_number x.port))))))
