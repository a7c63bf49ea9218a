-- Short histories after an accepted reset, and what is shown then: for the faults that document 01 expects and the four idle programs.
-- Assumes nothing.
use Rattle.std.specs.Prelude.{◌&&◌, ◌∷◌, ◌||◌, if◌then◌else◌}
use Rattle.laws.specs.Words.{ℕ, Bool, true, List, [], eqb, replicate, table}
use Rattle.model.specs.Ports.{Port, operator, recorder, State, Call, reset, sample, read, write}
use Rattle.model.specs.Map.{page_size}
use Rattle.model.specs.Reading.{seen}
use Rattle.model.specs.Interrupt.{count, stands}
use Rattle.model.specs.Refusals.{accepted}
use Rattle.model.specs.Calls.{step, Calls, start, ◌▷◌, run}

-- ---- the calls

-- a factory image of zeros: its check codes are right
unfoldable pub image : List ℕ
image = replicate 640 0

-- a sample in which these are the conditions of flag byte 3, and nothing else
abbrev pub losing : ℕ → Call
losing n = sample (n ∷ replicate 30 0)

abbrev pub port_number : Port → ℕ
port_number operator = 1
port_number recorder = 2

abbrev pub other_port : Port → Port
other_port operator = recorder
other_port recorder = operator

-- port p reads byte b
abbrev pub looks : Port → ℕ → Call
looks p b = read (port_number p) b 1 (0 ∷ [])

-- it writes v at address a: 1 at 100 masks bit 0 of flag byte 3
abbrev pub enters : Port → ℕ → ℕ → Call
enters p a v = write (port_number p) a (v ∷ [])

-- ---- what they leave and show

-- all calls of a history are accepted
unfoldable pub accepts : State → Calls → Bool
accepts m start = true
accepts m (h ▷ c) = accepts m h && accepted (run m h) c

-- the state after an accepted reset and the calls h
abbrev pub after_reset : State → Calls → State
after_reset m h = run (step m (reset image)) h

-- what address a reads for port p
abbrev pub reads : State → Port → ℕ → ℕ
reads m p a = seen m.mem (m.own p) a

-- flag byte 3, the count, and whether the interrupt stands
abbrev pub shown : State → Port → ℕ × ℕ × Bool
shown m p = (reads m p 3, count (m.own p), stands (m.own p))

-- ---- a page

-- a sound page 00h whose OUI is v 0 0
unfoldable pub page_with : ℕ → List ℕ
page_with v = table page_size (λ i. if eqb i 37 || eqb i 63 then v else 0)
