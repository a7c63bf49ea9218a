-- `module::sample::store` meets its contract: the quantities are stored the last one first, each a run over the others, and byte 2 at
-- the end.
use Rattle.model.specs.Bytes.{memory_of}
use Rattle.module.proofs.sample.Laws.{store_all}
use Rattle.module.proofs.sample.store.Goals as goal

pub returns : goal.returns
returns c =
    let s = c.args.state.now in
    rw (c.from-status.ensures, c.place.ensures.0)
    (store_all (memory_of s) c.args.x.now s c.store_in-4.new.state
    (rw (c.store_in-4.ensures, c.store_in-3.ensures, c.store_in-2.ensures, c.store_in.ensures, c.store_tx.ensures)) c.told-state)
