-- What a call leaves and answers, and histories of calls: those of any module with two ports (ports, specs/Effects.antt), with what
-- document 01 says of each call.
-- Assumes nothing.
use Rattle.std.specs.Prelude.{if◌then◌else◌}
use Rattle.laws.specs.Words.{ℕ, List, [], eqb}
use Rattle.ports.specs.Effects
pub use Rattle.ports.specs.Effects.{Answer}
use Rattle.ports.specs.Histories.{History, run_of}
pub use Rattle.ports.specs.Histories.{start, ◌▷◌}
unfoldable pub use Rattle.ports.specs.Histories.{◌▷▷◌}
use Rattle.model.specs.Ports.{Port, State, Call}
use Rattle.model.specs.Module.{document01}
use Rattle.model.specs.Refusals.{identity_refusal}
use Rattle.model.specs.Readout.{page_used, field_of}

-- ---- one call

-- "A refusal alters no lent byte"
abbrev pub step : State → Call → State
step m c = Effects.step document01 m c

-- what the call answers, with the count of port p; "All values are those before the call"
abbrev pub answer : State → Port → Call → Answer
answer m p c = Effects.answer document01 m p c

-- what an identity call shows: "its view is empty" where it is refused
abbrev pub view_of : List ℕ → List ℕ → ℕ → List ℕ
view_of live factory f = if eqb (identity_refusal live factory f) 0 then field_of (page_used live factory) f else []

-- ---- histories, the newest call last

abbrev pub Calls : Type 0
Calls = History Call

abbrev pub run : State → Calls → State
run m h = run_of step m h
