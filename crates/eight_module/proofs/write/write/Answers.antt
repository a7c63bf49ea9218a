-- `eight_module::write::write` meets its contract.
use Rattle.std.proofs.Common.{rules}
use Rattle.ports.specs.Ports.{write}
use Rattle.ports.proofs.Outcomes.{write_refused}
use Rattle.eight.specs.Module.{eight}
use Rattle.refusal.proofs.Unique.{none_is_0}
use Rattle.eight_module.proofs.Laws.{wrong_long}
use Rattle.eight_module.proofs.write.write.Goals as goal

pub returns-in_err-state-clause-refused : goal.returns-in_err-state-clause-refused
returns-in_err-state-clause-refused c =
    let x = c.args in
    let e = c.in_err-state.ensures in
    search (rules, write_refused eight, none_is_0, wrong_long _ x.state.now (write x.port x.address x.bytes.now) _ _ c.as_mut_array.ensures.cases e.ok_part e.value)

pub returns-in_err-port-clause-refused : goal.returns-in_err-port-clause-refused
returns-in_err-port-clause-refused c = search (rules, write_refused eight, none_is_0)
