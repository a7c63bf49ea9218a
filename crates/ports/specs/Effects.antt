-- What a call leaves and answers.
-- Assumes nothing.
use Rattle.std.specs.Prelude.{◌+◌, if◌then◌else◌}
use Rattle.laws.specs.Words.{ℕ, List, [], patch}
use Rattle.ports.specs.Ports.{Port, caller, State, give, CallOf, reset, sample, read, write}
use Rattle.ports.specs.Modules.{Module, refusal, accepted}

-- the refusal, a port's count, and the output memory of a read
pub record Answer : Type 0 where
  pub refusal : ℕ
  pub counted : ℕ
  pub output : List ℕ

module _ {Image : Type 0} (M : Module Image) where
  -- the state after an accepted call; "Both records are all 0" after a reset
  unfoldable pub done : State → CallOf Image → State
  done m (reset img) = record { mem = M.fresh img m.mem; own = λ p k. 0 }
  done m (sample x) = record { mem = M.stored m.mem x; own = λ p. M.raised m.mem x (m.own p) }
  done m (read n a k out) = record { mem = m.mem; own = give m.own (caller n) (M.cleared m.mem a k (m.own (caller n))) }
  done m (write n a vs) = M.puts m (caller n) a vs

  -- "A refusal alters no lent byte"
  unfoldable pub step : State → CallOf Image → State
  step m c = if accepted M m c then done m c else m

  -- the output memory: "The read puts its bytes at the front of the output and leaves the rest"; "All values are those before the call"
  abbrev pub output_of : State → Port → CallOf Image → List ℕ
  output_of m p (reset img) = []
  output_of m p (sample x) = []
  output_of m p (read n a k out) =
      if accepted M m (read n a k out) then patch 0 k (λ j. M.seen m.mem (m.own p) (a + j)) out else out
  output_of m p (write n a vs) = []

  -- what the call answers, with the count of port p: of a read or a write its caller's, of a sample or a reset either port's. "its port's
  -- count, .., as it stands after the call"; "its counts are 0" where refused
  unfoldable pub answer : State → Port → CallOf Image → Answer
  answer m p c = record {
    refusal = refusal M m c;
    counted = if accepted M m c then M.count ((step m c).own p) else 0;
    output = output_of m p c;
  }
