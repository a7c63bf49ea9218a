-- `eight_module::read::check` meets its contract.
use Rattle.std.proofs.Common.{rules, length}
use Rattle.ports.specs.Modules.{read_rows, rows}
use Rattle.ports.specs.Bytes.{rows_of, refusal_of}
use Rattle.eight.specs.Module.{eight}
use Rattle.eight_module.proofs.Laws.{refused_first, taken_first}
use Rattle.eight_module.proofs.read.check.Goals as goal

pub returns-in_err-port-clause-refusal : goal.returns-in_err-port-clause-refusal
unfolding refusal_of rows_of rows
returns-in_err-port-clause-refusal c =
    let x = c.args in
    search (rules, refused_first x.state.now x.port (read_rows eight x.address x.count (length x.out.now)) c.told-state c.in_err-port.field-0.0 c.in_err-port.ensures.refusal)

pub returns-in_err-check_read-clause-refusal : goal.returns-in_err-check_read-clause-refusal
unfolding refusal_of rows_of rows
returns-in_err-check_read-clause-refusal c =
    let x = c.args in
    search (rules, taken_first x.state.now x.port (read_rows eight x.address x.count (length x.out.now)) c.told-state c.in_ok-port.ensures.refusal c.in_err-check_read.ensures)

pub returns-clause-refusal : goal.returns-clause-refusal
unfolding refusal_of rows_of rows
returns-clause-refusal c =
    let x = c.args in
    taken_first x.state.now x.port (read_rows eight x.address x.count (length x.out.now)) c.told-state c.in_ok-port.ensures.refusal c.in_ok-check_read.ensures
