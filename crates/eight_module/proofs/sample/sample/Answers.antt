-- `eight_module::sample::sample` meets its contract.
use Rattle.std.proofs.Common.{rules}
use Rattle.ports.specs.Ports.{sample}
use Rattle.ports.proofs.Outcomes.{reported_refused}
use Rattle.eight.specs.Module.{eight}
use Rattle.refusal.proofs.Unique.{none_is_0}
use Rattle.eight_module.proofs.Laws.{wrong_long}
use Rattle.eight_module.proofs.sample.sample.Goals as goal

pub returns-in_err-state-clause-refused : goal.returns-in_err-state-clause-refused
returns-in_err-state-clause-refused c =
    let x = c.args in
    let e = c.in_err-state.ensures in
    search (rules, reported_refused eight, none_is_0, wrong_long _ x.state.now (sample x.x.now) _ _ c.as_mut_array.ensures.cases e.ok_part e.value)

pub returns-in_err-x-clause-refused : goal.returns-in_err-x-clause-refused
returns-in_err-x-clause-refused c = search (rules, reported_refused eight, none_is_0)
