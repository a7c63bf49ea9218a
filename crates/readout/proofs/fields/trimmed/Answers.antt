-- `readout::fields::trimmed` meets its contract: behind the last byte that is no blank all are.
use Rattle.std.proofs.Common.{arith}
use Rattle.std.proofs.lemmas.Grind.{common_steps}
use Rattle.readout.proofs.Trimmed.{trimmed_is}
use Rattle.readout.proofs.fields.trimmed.Goals as goal

pub returns-clause-left : goal.returns-clause-left
returns-clause-left c =
    trimmed_is c.map_or.result c.args.field.now _ (grind (arith, common_steps)) (grind (arith, common_steps)) (grind (arith, common_steps))
