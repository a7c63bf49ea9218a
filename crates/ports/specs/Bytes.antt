-- The state as the bytes that the caller lends, and each call on them.
-- Assumes nothing.
use Rattle.std.specs.Prelude.{◌+◌, ◌-◌, ◌≤◌, ◌≡◌, ◌∷◌, if◌then◌else◌}
use Rattle.laws.specs.Words.{ℕ, List, ltb, eqb, Row, first_of, at, table}
use Rattle.ports.specs.Ports.{Port, operator, recorder, Places, State, CallOf, lent}
use Rattle.ports.specs.Histories.{History, run_of}
use Rattle.ports.specs.Modules.{Module, base, state_size, wrong_size, rows}
use Rattle.ports.specs.Effects.{done, Answer, answer}

module _ {Image : Type 0} (M : Module Image) where
  -- ---- a list of bytes to a state and back

  abbrev pub memory_of : List ℕ → Places
  memory_of s i = if ltb i M.memory_size then at s i else 0

  -- the record that begins at b
  abbrev pub record_of : List ℕ → ℕ → Places
  record_of s b k = if ltb k M.record_size then at s (b + k) else 0

  unfoldable pub state_of : List ℕ → State
  state_of s = record { mem = memory_of s; own = λ p. record_of s (base M p) }

  -- what place i of the state holds
  unfoldable pub place : State → ℕ → ℕ
  place m i =
      if ltb i M.memory_size then m.mem i
      else (if ltb i (base M recorder) then m.own operator (i - base M operator) else m.own recorder (i - base M recorder))

  unfoldable pub bytes_of : State → List ℕ
  bytes_of m = table (state_size M) (place m)

  -- nothing stands past the ends: so is the state of every list, and a state that does is that of its bytes
  pub record Fits (m : State) : Type 0 where
    pub mem_end : (i : ℕ) → M.memory_size ≤ i → m.mem i ≡ 0
    pub own_end : (p : Port) (k : ℕ) → M.record_size ≤ k → m.own p k ≡ 0

  -- ---- calls on the bytes

  -- refusal 1, then those of the state
  unfoldable pub rows_of : List ℕ → CallOf Image → List Row
  rows_of s c = (1, wrong_size M s) ∷ rows M (state_of s) c

  unfoldable pub refusal_of : List ℕ → CallOf Image → ℕ
  refusal_of s c = first_of (rows_of s c)

  unfoldable pub after : List ℕ → CallOf Image → List ℕ
  after s c = if eqb (refusal_of s c) 0 then bytes_of (done M (state_of s) c) else s

  unfoldable pub answer_of : List ℕ → Port → CallOf Image → Answer
  answer_of s p c = if wrong_size M s then record { refusal = 1; counted = 0; output = lent c } else answer M (state_of s) p c

  unfoldable pub runs : List ℕ → History (CallOf Image) → List ℕ
  unfolding run_of
  runs s h = run_of after s h
