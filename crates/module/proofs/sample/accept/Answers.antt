-- `module::sample::accept` meets its contract.
use Rattle.std.proofs.Common.{◌≡◌}
use Rattle.model.specs.Interrupt.{count}
use Rattle.model.specs.Bytes.{record_of}
use Rattle.module.proofs.sample.Laws.{sample_done}
use Rattle.module.proofs.sample.accept.Goals as goal

pub returns : goal.returns
returns c =
    let a = rw c.into.ensures at c.record_of-first.ensures.0 in
    let b = rw c.into-2.ensures at c.record_of-second.ensures.0 in
    let recorder : c.count_of-2.result ≡ count (record_of c.raise-2.new.state c.record_of-second.result.place.0) = c.count_of-2.ensures in
    sample_done _ _ c.requires _ c.conditions-cs.ensures _ _ _ c.store.ensures (rw a at c.raise.ensures) (rw b at c.raise-2.ensures) _ _
    (rw a at c.count_of.ensures) (rw b at recorder)
