-- Bytes and states are the same thing, and a run on the bytes is the model's run: each is what ports proves of any lawful module, at
-- document 01's.
-- Assumes nothing.
use mathlib.Core.Path.{◌≡◌}
use mathlib.Core.List.{List}
use Prim.Native.Nat.{ℕ, ◌+◌, ◌≤◌, ◌<◌}
use lib.ListN.{length}
use Rattle.ports.specs.Bytes.{Fits}
use Rattle.laws.specs.Lists.{at}
use Rattle.ports.proofs.Bytes
use Rattle.ports.proofs.Steps
pub use Rattle.ports.proofs.Bytes.{in_memory, in_record}
use Rattle.model.specs.Ports.{Port, State, Call}
use Rattle.model.specs.Map.{memory_size, record_size, state_size, base}
use Rattle.model.specs.Refusals.{refusal}
use Rattle.model.specs.Module.{document01}
use Rattle.model.specs.Calls.{step, answer, Calls, run}
use Rattle.model.specs.Bytes.{state_of, bytes_of, refusal_of, after, answer_of, runs}
use Rattle.model.proofs.Names.{place}
use Rattle.model.proofs.Lawful.{lawful}

-- ---- bytes and states are the same thing

pub base_fits : (p : Port) (k : ℕ) → k < record_size → (memory_size ≤ base p + k) × (base p + k < state_size)
base_fits = Bytes.base_fits document01

pub place_memory : (m : State) (i : ℕ) → i < memory_size → place m i ≡ m.mem i
place_memory = Bytes.place_memory document01

pub place_own : (m : State) (p : Port) (k : ℕ) → k < record_size → place m (base p + k) ≡ m.own p k
place_own = Bytes.place_own document01

-- a place is in the memory or in one record
abbrev pub Spot : ℕ → Type 0
Spot i = Bytes.Spot document01 i

pub spot : (i : ℕ) → i < state_size → Spot i
spot = Bytes.spot document01

pub bytes_at : (m : State) (i : ℕ) → i < state_size → at (bytes_of m) i ≡ place m i
bytes_at = Bytes.bytes_at document01

pub state_bytes : (m : State) → Fits document01 m → state_of (bytes_of m) ≡ m
state_bytes = Bytes.state_bytes document01

pub memory_at : (s : List ℕ) (i : ℕ) → i < memory_size → (state_of s).mem i ≡ at s i
memory_at = Bytes.memory_at document01

pub record_at : (s : List ℕ) (p : Port) (k : ℕ) → k < record_size → (state_of s).own p k ≡ at s (base p + k)
record_at = Bytes.record_at document01

pub place_state : (s : List ℕ) (i : ℕ) → i < state_size → place (state_of s) i ≡ at s i
place_state = Bytes.place_state document01

-- bytes that agree with a state at each place are the state's
pub bytes_by_place : (m : State) (s : List ℕ) → length s ≡ state_size → ((i : ℕ) → i < state_size → at s i ≡ place m i) → s ≡ bytes_of m
bytes_by_place = Bytes.bytes_by_place document01

-- bytes whose memory and records are a state's are the state's
pub bytes_by_part : (m : State) (s : List ℕ) → length s ≡ state_size → ((i : ℕ) → i < memory_size → at s i ≡ m.mem i)
    → ((p : Port) (k : ℕ) → k < record_size → at s (base p + k) ≡ m.own p k) → s ≡ bytes_of m
bytes_by_part = Bytes.bytes_by_part document01

-- the bytes of a list's state are the list
pub bytes_state : (s : List ℕ) → length s ≡ state_size → bytes_of (state_of s) ≡ s
bytes_state = Bytes.bytes_state document01

-- ---- a run on the bytes is the model's run

pub refusal_long : (s : List ℕ) (c : Call) → length s ≡ state_size → refusal_of s c ≡ refusal (state_of s) c
refusal_long = Steps.refusal_long document01 lawful

pub answer_long : (s : List ℕ) (p : Port) (c : Call) → length s ≡ state_size → answer_of s p c ≡ answer (state_of s) p c
answer_long = Steps.answer_long document01 lawful

pub after_length : (s : List ℕ) (c : Call) → length s ≡ state_size → length (after s c) ≡ state_size
after_length = Steps.after_length document01 lawful

pub state_after : (s : List ℕ) (c : Call) → length s ≡ state_size → state_of (after s c) ≡ step (state_of s) c
state_after = Steps.state_after document01 lawful

pub state_runs : (s : List ℕ) (h : Calls) → length s ≡ state_size → state_of (runs s h) ≡ run (state_of s) h
state_runs = Steps.state_runs document01 lawful
