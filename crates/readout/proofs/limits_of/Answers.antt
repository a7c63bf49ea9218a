-- `readout::limits_of` meets its contract.
use Rattle.readout.proofs.Quantities.{limits_row}
use Rattle.readout.proofs.limits_of.Goals as goal

pub returns : goal.returns
returns c =
    rw (c.in_unit.ensures, c.in_unit-2.ensures, c.in_unit-3.ensures, c.in_unit-4.ensures, c.limits_at.ensures)
    (limits_row c.args.state.now c.args.q)
