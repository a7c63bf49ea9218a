-- `eight_module::check_port` meets its contract.
use Rattle.std.proofs.Common.{sym, ◌∙◌}
use Rattle.eight_module.proofs.Laws.{port_found}
use Rattle.eight_module.proofs.check_port.Goals as goal

pub returns-then-not-is_sound-clause-refusal : goal.returns-then-not-is_sound-clause-refusal
returns-then-not-is_sound-clause-refusal c = sym (port_found _ _ c.in_ok-port.ensures (sym c.if-not-is_sound.true ∙ c.is_sound.ensures))

pub returns-clause-refusal : goal.returns-clause-refusal
returns-clause-refusal c = sym (port_found _ _ c.in_ok-port.ensures (sym c.if-not-is_sound.false ∙ c.is_sound.ensures))
