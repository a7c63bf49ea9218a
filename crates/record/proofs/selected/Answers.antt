-- `record::selected` meets its contract.
use Rattle.model.specs.Bytes.{memory_of, record_of}
use Rattle.model.proofs.Sound.{sound_page_lem}
use Rattle.record.proofs.selected.Goals as goal

pub invariant_of-result : goal.invariant_of-result
invariant_of-result c =
    let x = c.args in
    let record_there = record_of x.state.now x.base.place.0 in
    record { there = rw c.page_of.ensures (sound_page_lem (memory_of x.state.now) record_there c.requires) }
