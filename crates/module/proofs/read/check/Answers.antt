-- `module::read::check` meets its contract: a refusal of any call by a port comes first, then those of the read's own numbers.
use Rattle.std.proofs.Common.{◌≡◌, ◌∙◌, rules, length}
use Rattle.ports.specs.Bytes
use Rattle.ports.specs.Modules
use Rattle.model.specs.Refusals.{read_rows}
use Rattle.refusal.specs.Numbers.{number, number_of}
use Rattle.refusal.proofs.Unique.{none_is_0}
use Rattle.module.proofs.Calls.{port_refused, port_accepted}
use Rattle.module.proofs.read.check.Goals as goal

pub returns-in_err-port-clause-refusal : goal.returns-in_err-port-clause-refusal
unfolding Bytes.refusal_of Bytes.rows_of Modules.rows
returns-in_err-port-clause-refusal c =
    let x = c.args in
    let told : number_of c.from_residual.result ≡ number c.in_err-port.field-0.0 = search rules in
    told ∙ port_refused x.state.now x.port (read_rows x.address x.count (length x.out.now)) c.in_err-port.ensures.refusal (none_is_0 _)

pub returns-in_err-check_read-clause-refusal : goal.returns-in_err-check_read-clause-refusal
unfolding Bytes.refusal_of Bytes.rows_of Modules.rows
returns-in_err-check_read-clause-refusal c =
    let x = c.args in
    search (rules, port_accepted x.state.now x.port (read_rows x.address x.count (length x.out.now)) c.in_ok-port.ensures.refusal c.in_err-check_read.ensures)

pub returns-clause-refusal : goal.returns-clause-refusal
unfolding Bytes.refusal_of Bytes.rows_of Modules.rows
returns-clause-refusal c =
    let x = c.args in
    port_accepted x.state.now x.port (read_rows x.address x.count (length x.out.now)) c.in_ok-port.ensures.refusal c.in_ok-check_read.ensures
