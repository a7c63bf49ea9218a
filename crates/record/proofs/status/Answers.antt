-- `record::status` meets its contract: bits 2 and 0 are taken from the stored byte by division; bit 1 is 1 just where the count, which
-- is what an interrupt stands by, is 0.
use Rattle.std.proofs.Common.{ℕ, arith, eqb}
use Rattle.laws.proofs.Tests.{case}
use Rattle.ports.specs.Interrupt
use Rattle.model.specs.Interrupt.{count}
use Rattle.model.specs.Bytes.{record_of}
use Rattle.record.proofs.status.Goals as goal

pub returns : goal.returns
unfolding Interrupt.stands_of
returns c =
    let raised : ℕ = count (record_of c.args.state.now c.args.base.place.0) in
    rw (← c.stored-stored.ensures, c.from-pin.ensures, c.count_of.ensures)
    (case (eqb raised 0) (λ t. rw t (omega arith)) (λ t. rw t (omega arith)))
