-- Demand 3, over the bytes: "Take two runs that begin with the same state and the same accepted reset, with the same samples, resets
-- and recorder calls in the same order, and operator calls added, dropped or altered at will."
-- Assumes nothing.
use mathlib.Core.Path.{◌≡◌}
use mathlib.Core.Bool.{false}
use mathlib.Core.List.{List}
use Prim.Native.Nat.{ℕ}
use Rattle.ports.specs.Demands.{RecorderAgrees, OperatorAgrees}
use Rattle.ports.proofs.Histories
use Rattle.ports.proofs.Views
use Rattle.model.specs.Ports.{Port, operator, recorder, reset, Call}
use Rattle.model.specs.Module.{document01}
use Rattle.model.specs.Calls.{Calls, ◌▷◌, ◌▷▷◌}
use Rattle.model.specs.Bytes.{refusal_of, after, runs}
use Rattle.model.specs.Demands.{concerns, only}
use Rattle.model.proofs.Lawful.{lawful}

-- two histories that go on alike
pub only_next : (p : Port) (h k : Calls) (c : Call) → only p h ≡ only p k → only p (h ▷ c) ≡ only p (k ▷ c)
unfolding only
only_next p = Histories.only_next (concerns p)

-- ---- the first half

pub recorder_undisturbed : (s img : List ℕ) → refusal_of s (reset img) ≡ 0 → (h k : Calls) → only recorder h ≡ only recorder k
    → RecorderAgrees document01 (after s (reset img)) h k
recorder_undisturbed s img b = Views.recorder_undisturbed document01 lawful (after s (reset img)) (Views.begun_whole document01 lawful s img b)

-- ---- the second half

pub operator_undisturbed : (s img : List ℕ) → refusal_of s (reset img) ≡ 0 → (h k : Calls) → only operator h ≡ only operator k
    → OperatorAgrees document01 (after s (reset img)) h k
operator_undisturbed s img b = Views.operator_undisturbed document01 lawful (after s (reset img)) (Views.begun_whole document01 lawful s img b)

-- ---- what the two hypotheses allow

-- calls that are not port p's, nor a sample or a reset, may be added or dropped anywhere, and so altered
pub dropped_anywhere : (p : Port) (h : Calls) (c : Call) (cs : List Call) → concerns p c ≡ false → only p ((h ▷ c) ▷▷ cs) ≡ only p (h ▷▷ cs)
unfolding only
dropped_anywhere p = Histories.dropped_anywhere (concerns p)

-- ---- neighbours may change places

-- two histories with the same operator calls, samples and resets in the same order, and the same recorder calls, samples and resets in
-- the same order, leave the same state to the last byte
pub neighbours : (s img : List ℕ) → refusal_of s (reset img) ≡ 0 → (h k : Calls) → ((p : Port) → only p h ≡ only p k)
    → runs (after s (reset img)) h ≡ runs (after s (reset img)) k
neighbours s img b = Views.neighbours document01 lawful (after s (reset img)) (Views.begun_whole document01 lawful s img b)
