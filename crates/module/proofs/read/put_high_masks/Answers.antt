-- `module::read::put_high_masks` meets its contract.
use Rattle.std.proofs.Common.{◌≡◌, sym, ◌∙◌, false, eqb}
use Rattle.laws.proofs.Fronts.{front_self}
use Rattle.module.proofs.read.put_high_masks.Goals as goal

pub returns-else-is_on : goal.returns-else-is_on
returns-else-is_on c =
    let off : eqb c.args.page.number 3 ≡ false = sym c.is_on.ensures ∙ c.if-is_on.false in
    rw off (front_self c.args.run.many c.args.out.now c.requires)
