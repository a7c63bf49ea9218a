-- `eight_module::read::read` meets its contract.
use Rattle.std.proofs.Common.{rules}
use Rattle.ports.specs.Ports.{read}
use Rattle.ports.proofs.Outcomes.{read_refused}
use Rattle.eight.specs.Module.{eight}
use Rattle.refusal.proofs.Unique.{none_is_0}
use Rattle.eight_module.proofs.Laws.{wrong_long}
use Rattle.eight_module.proofs.read.read.Goals as goal

pub returns-in_err-state-clause-refused : goal.returns-in_err-state-clause-refused
returns-in_err-state-clause-refused c =
    let x = c.args in
    let e = c.in_err-state.ensures in
    search (rules, read_refused eight, none_is_0, wrong_long _ x.state.now (read x.port x.address x.count x.out.now) _ _ c.as_mut_array.ensures.cases e.ok_part e.value)

pub returns-in_err-port-clause-refused : goal.returns-in_err-port-clause-refused
returns-in_err-port-clause-refused c = search (rules, read_refused eight, none_is_0)
