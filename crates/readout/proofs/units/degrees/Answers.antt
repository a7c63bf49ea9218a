-- `readout::units::degrees` meets its contract: what is passed signed is read back as the number that it is.
use Rattle.std.proofs.Common.{◌≡◌, refl, to_z, of_z, w16, rules}
use Rattle.model.proofs.Readout.{temperature_exact}
use Rattle.readout.proofs.Quantities.{by_256}
use Rattle.readout.proofs.units.degrees.Goals as goal

pub returns : goal.returns
returns c =
    let n = c.signed_of.result in
    let passed : to_z w16 (of_z w16 n) ≡ n = search rules in
    rw (c.from.ensures, passed, c.signed_of.ensures, by_256) (refl, temperature_exact c.args.n (search rules))
