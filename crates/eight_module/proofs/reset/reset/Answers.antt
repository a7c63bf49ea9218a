-- `eight_module::reset::reset` meets its contract.
use Rattle.std.proofs.Common.{rules, arith, ◌≡◌, length, replicate}
use Rattle.ports.specs.Ports.{reset}
use Rattle.ports.proofs.Outcomes.{reported_refused}
use Rattle.eight.specs.Module.{eight}
use Rattle.refusal.proofs.Unique.{none_is_0}
use Rattle.eight_module.proofs.Laws.{wrong_long}
use Rattle.eight_module.proofs.reset.Laws.{reset_done}
use Rattle.eight_module.proofs.reset.reset.Goals as goal

pub returns-in_err-state-clause-refused : goal.returns-in_err-state-clause-refused
returns-in_err-state-clause-refused c =
    let x = c.args in
    let e = c.in_err-state.ensures in
    search (rules, reported_refused eight, none_is_0, wrong_long _ x.state.now (reset tt) _ _ c.as_mut_array.ensures.cases e.ok_part e.value)

pub returns-clause-accepted : goal.returns-clause-accepted
returns-clause-accepted c =
    let whole = rw c.in_ok-state.ensures.ok_part at c.as_mut_array.ensures.cases in
    let zeros : c.fill.new.self ≡ replicate (length c.in_ok-state.state.now) 0 = c.fill.ensures.after (λ y h. h) in
    let long : length c.in_ok-state.state.now ≡ 98 = omega arith in
    reset_done _ _ whole.long (rw long at zeros)
