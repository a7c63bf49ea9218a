-- `eight_module::write::accept` meets its contract.
use Rattle.std.proofs.Common.{refl}
use Rattle.ports.specs.Bytes.{state_of}
use Rattle.ports.proofs.Taken.{write_relies}
use Rattle.ports.proofs.Left.{write_done}
use Rattle.eight.specs.Module.{written, eight}
use Rattle.eight.proofs.Lawful.{lawful}
use Rattle.eight_module.proofs.write.accept.Goals as goal

pub write_bytes-requires : goal.write_bytes-requires
write_bytes-requires c = (write_relies eight _ _ _ _ c.requires).inside

pub returns : goal.returns
unfolding state_of
returns c =
    let x = c.args in
    write_done eight lawful _ _ _ _ c.requires (written x.address x.bytes.now) refl _ _ _ refl c.write_bytes.ensures c.count_of.ensures
