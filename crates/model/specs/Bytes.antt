-- The state as the bytes that the caller lends, and each call on them: those of any module with two ports (ports, specs/Bytes.antt).
-- Assumes nothing.
use Rattle.laws.specs.Words.{ℕ, List, Row}
use Rattle.ports.specs.Bytes
pub use Rattle.ports.specs.Ports.{lent}
use Rattle.model.specs.Ports.{Port, Places, State, Call}
use Rattle.model.specs.Module.{document01}
use Rattle.model.specs.Calls.{Answer, Calls}

abbrev pub memory_of : List ℕ → Places
memory_of s = Bytes.memory_of document01 s

-- the record that begins at b
abbrev pub record_of : List ℕ → ℕ → Places
record_of s b = Bytes.record_of document01 s b

abbrev pub state_of : List ℕ → State
state_of s = Bytes.state_of document01 s

abbrev pub bytes_of : State → List ℕ
bytes_of m = Bytes.bytes_of document01 m

-- refusal 1, then those of the state
abbrev pub rows_of : List ℕ → Call → List Row
rows_of s c = Bytes.rows_of document01 s c

abbrev pub refusal_of : List ℕ → Call → ℕ
refusal_of s c = Bytes.refusal_of document01 s c

abbrev pub after : List ℕ → Call → List ℕ
after s c = Bytes.after document01 s c

abbrev pub answer_of : List ℕ → Port → Call → Answer
answer_of s p c = Bytes.answer_of document01 s p c

abbrev pub runs : List ℕ → Calls → List ℕ
runs s h = Bytes.runs document01 s h
