-- `eight_module::write::check` meets its contract.
use Rattle.std.proofs.Common.{rules, length}
use Rattle.ports.specs.Modules.{write_rows, rows}
use Rattle.ports.specs.Bytes.{state_of, rows_of, refusal_of}
use Rattle.eight.specs.Module.{eight}
use Rattle.eight_module.proofs.Laws.{refused_first, taken_first}
use Rattle.eight_module.proofs.write.check.Goals as goal

pub returns-in_err-port-clause-refusal : goal.returns-in_err-port-clause-refusal
unfolding refusal_of rows_of rows
returns-in_err-port-clause-refusal c =
    let x = c.args in
    search (rules, refused_first x.state.now x.port (write_rows eight (state_of eight x.state.now) x.port x.address (length x.bytes.now)) c.told-state c.in_err-port.field-0.0 c.in_err-port.ensures.refusal)

pub returns-in_err-check_run-clause-refusal : goal.returns-in_err-check_run-clause-refusal
unfolding refusal_of rows_of rows
returns-in_err-check_run-clause-refusal c =
    let x = c.args in
    search (rules, taken_first x.state.now x.port (write_rows eight (state_of eight x.state.now) x.port x.address (length x.bytes.now)) c.told-state c.in_ok-port.ensures.refusal (rw c.in_ok-port.ensures.found at (c.in_err-check_run.ensures x.state.now)))

pub returns-clause-refusal : goal.returns-clause-refusal
unfolding refusal_of rows_of rows
returns-clause-refusal c =
    let x = c.args in
    taken_first x.state.now x.port (write_rows eight (state_of eight x.state.now) x.port x.address (length x.bytes.now)) c.told-state c.in_ok-port.ensures.refusal (rw c.in_ok-port.ensures.found at (c.in_ok-check_run.ensures x.state.now))
