-- `module::write::check` meets its contract: a refusal of any call by a port comes first, then those of the write's own numbers.
use Rattle.std.proofs.Common.{◌≡◌, ◌∙◌, rules, length}
use Rattle.ports.specs.Bytes
use Rattle.ports.specs.Modules
use Rattle.model.specs.Refusals.{write_rows}
use Rattle.model.specs.Bytes.{state_of}
use Rattle.refusal.specs.Numbers.{number, number_of}
use Rattle.refusal.proofs.Unique.{none_is_0}
use Rattle.module.proofs.Calls.{port_refused, port_accepted, port_sound}
use Rattle.module.proofs.write.check.Goals as goal

pub check_run-requires : goal.check_run-requires
check_run-requires c = rw c.in_ok-port.ensures.found (port_sound c.args.state.now c.args.port c.in_ok-port.ensures.refusal)

pub returns-in_err-port-clause-refusal : goal.returns-in_err-port-clause-refusal
unfolding Bytes.refusal_of Bytes.rows_of Modules.rows
returns-in_err-port-clause-refusal c =
    let x = c.args in
    let s = x.state.now in
    let told : number_of c.from_residual.result ≡ number c.in_err-port.field-0.0 = search rules in
    told ∙ port_refused s x.port (write_rows (state_of s) x.port x.address (length x.bytes.now)) c.in_err-port.ensures.refusal (none_is_0 _)

pub returns-in_err-check_run-clause-refusal : goal.returns-in_err-check_run-clause-refusal
unfolding Bytes.refusal_of Bytes.rows_of Modules.rows
returns-in_err-check_run-clause-refusal c =
    let x = c.args in
    let s = x.state.now in
    search (rules, port_accepted s x.port (write_rows (state_of s) x.port x.address (length x.bytes.now)) c.in_ok-port.ensures.refusal (rw c.in_ok-port.ensures.found at c.in_err-check_run.ensures))

pub returns-clause-refusal : goal.returns-clause-refusal
unfolding Bytes.refusal_of Bytes.rows_of Modules.rows
returns-clause-refusal c =
    let x = c.args in
    let s = x.state.now in
    port_accepted s x.port (write_rows (state_of s) x.port x.address (length x.bytes.now)) c.in_ok-port.ensures.refusal (rw c.in_ok-port.ensures.found at c.in_ok-check_run.ensures)
