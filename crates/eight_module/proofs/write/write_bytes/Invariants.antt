use Rattle.std.proofs.Common.{◌≡◌}
use Rattle.ports.specs.Ports.{caller}
use Rattle.ports.specs.Modules.{base}
use Rattle.eight.specs.Module.{eight}
use Rattle.both.specs.Ports.{port_number}
use Rattle.eight_module.proofs.write.Laws.{so_far}
use Rattle.eight_module.proofs.write.write_bytes.Given as goal

abbrev pub invariant-loop-k : goal.invariant-loop-k
invariant-loop-k l = l.state ≡ so_far l.initial.state l.bytes (base eight (caller (port_number l.port))) l.a l.k
