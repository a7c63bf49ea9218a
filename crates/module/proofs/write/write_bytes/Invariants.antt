use Rattle.std.proofs.Common.{◌≡◌}
use Rattle.model.specs.Ports.{caller}
use Rattle.both.specs.Ports.{port_number}
use Rattle.module.proofs.write.Laws.{puts_to}
use Rattle.module.proofs.write.write_bytes.Given as goal

abbrev pub invariant-loop-k : goal.invariant-loop-k
invariant-loop-k l = l.state ≡ puts_to l.initial.state (caller (port_number l.port)) l.fn.page.number l.fn.run.first.0 l.bytes l.k
