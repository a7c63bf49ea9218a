-- `module::write::write` meets its contract.
use Rattle.std.proofs.Common.{◌≡◌, ◌≢◌, rules, length, Err}
use Rattle.refusal.specs.declared.Refusal.TheVariants.{StateSize}
use Rattle.refusal.specs.Numbers.{number}
use Rattle.refusal.proofs.Unique.{none_is_0}
use Rattle.model.specs.Ports.{write}
use Rattle.model.proofs.Outcomes.{write_refused}
use Rattle.module.proofs.Calls.{size_refused}
use Rattle.module.proofs.write.write.Goals as goal

pub returns-in_err-state-clause-refused : goal.returns-in_err-state-clause-refused
returns-in_err-state-clause-refused c =
    let x = c.args in
    let other : length x.state.now ≢ 688 = search rules in
    let is : c.from_residual.result ≡ Err StateSize = search rules in
    rw is (write_refused x.state.now x.port x.address x.bytes.now 1 (size_refused x.state.now (write x.port x.address x.bytes.now) other) (none_is_0 StateSize))

pub returns-in_err-port-clause-refused : goal.returns-in_err-port-clause-refused
returns-in_err-port-clause-refused c =
    let x = c.args in
    let same : c.in_ok-state.state.now ≡ x.state.now = search rules in
    let is : c.from_residual-in_err-port.result ≡ Err c.in_err-port.field-0.0 = search rules in
    rw (is, same) (write_refused x.state.now x.port x.address x.bytes.now (number c.in_err-port.field-0.0) (rw same at c.in_err-port.ensures.refusal) (none_is_0 c.in_err-port.field-0.0))
