-- Short names for what document 01's module is among modules with two ports, that no statement needs.
-- Assumes nothing.
use mathlib.Core.Bool.{Bool}
use mathlib.Core.List.{List}
use Prim.Native.Nat.{ℕ}
use Rattle.laws.specs.Tests.{Row}
use Rattle.ports.specs.Modules
use Rattle.ports.specs.Effects
use Rattle.ports.specs.Bytes
use Rattle.model.specs.Ports.{State, Call}
use Rattle.model.specs.Module.{document01}

-- 5: "address + count above 256"
abbrev pub beyond : ℕ → ℕ → Bool
beyond a n = Modules.beyond document01.reach a n

-- 8: "a sample isn't 31 bytes"
abbrev pub sample_rows : List ℕ → List Row
sample_rows x = Modules.sample_rows document01 x

abbrev pub rows : State → Call → List Row
rows m c = Modules.rows document01 m c

-- the state after an accepted call
abbrev pub done : State → Call → State
done m c = Effects.done document01 m c

-- what place i of the state holds
abbrev pub place : State → ℕ → ℕ
place m i = Bytes.place document01 m i
