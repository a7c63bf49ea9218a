-- Document 01, "The module, its two ports, and the edge of the work": the ports, the state, the calls. They are those of any module with
-- two ports; a reset here takes a factory image.
-- Assumes nothing.
use Rattle.laws.specs.Words.{ℕ, List}
use Rattle.ports.specs.Ports.{CallOf}
pub use Rattle.ports.specs.Ports.{Port, operator, recorder, same, nobody, caller, is_by, Places, State, give, reset, sample, read, write, concerns, is_reset, lent}

abbrev pub Call : Type 0
Call = CallOf (List ℕ)
