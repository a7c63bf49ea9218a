-- `eight_module::read::accept` meets its contract: that it is not refused gives what the callees ask for; the bytes are shown from
-- the state as it was, and only then is it cleared.
use Rattle.std.proofs.Common.{refl, arith}
use Rattle.ports.proofs.Taken.{read_relies}
use Rattle.ports.proofs.Left.{read_done}
use Rattle.eight.specs.Tables.{record_size}
use Rattle.eight.specs.Module.{eight}
use Rattle.eight.proofs.Lawful.{lawful}
use Rattle.eight_module.proofs.read.accept.Goals as goal

pub invariant_of-run : goal.invariant_of-run
invariant_of-run c = let t = read_relies eight _ _ _ _ _ _ c.requires refl in record { fits = omega arith }

pub look-requires : goal.look-requires
look-requires c = let t = read_relies eight _ _ _ _ _ _ c.requires refl in t.fits

pub returns : goal.returns
returns c =
    read_done eight lawful _ _ _ _ _ c.requires _ _ record_size _ _ refl (omega arith) (λ i l h. absurd (omega arith)) c.clear.ensures c.count_of.ensures c.look.ensures
