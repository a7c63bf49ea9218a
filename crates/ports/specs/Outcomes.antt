-- What each call promises, for every input: an equation for each thing that it leaves or answers.
-- Assumes nothing.
use Rattle.std.specs.Prelude.{◌≡◌}
use Rattle.laws.specs.Words.{ℕ, List}
use Rattle.ports.specs.Ports.{operator, recorder, caller, CallOf, read, write}
use Rattle.ports.specs.Histories.{History, start, ◌▷◌}
use Rattle.ports.specs.Modules.{Module}
use Rattle.ports.specs.Bytes.{refusal_of, after, answer_of}

module _ {Image : Type 0} (M : Module Image) where
  -- ---- the calls that are lent the state to change it

  -- a reset or a sample, on the state s: it answers a refusal and both ports' counts, and leaves the state t
  pub record Reported (s : List ℕ) (c : CallOf Image) (refusal first second : ℕ) (t : List ℕ) : Type 0 where
    pub refusal_is : refusal ≡ refusal_of M s c
    pub operator_is : first ≡ (answer_of M s operator c).counted
    pub recorder_is : second ≡ (answer_of M s recorder c).counted
    pub state_is : t ≡ after M s c

  -- a read of k bytes at address a by port n, into the memory out: it answers a refusal and the port's count, and leaves the state t
  -- and the output memory shown
  pub record ReadDone (s : List ℕ) (n a k : ℕ) (out : List ℕ) (refusal counted : ℕ) (t shown : List ℕ) : Type 0 where
    pub refusal_is : refusal ≡ refusal_of M s (read n a k out)
    pub count_is : counted ≡ (answer_of M s (caller n) (read n a k out)).counted
    pub state_is : t ≡ after M s (read n a k out)
    pub out_is : shown ≡ (answer_of M s (caller n) (read n a k out)).output

  -- a write of the bytes vs at address a by port n
  pub record WriteDone (s : List ℕ) (n a : ℕ) (vs : List ℕ) (refusal counted : ℕ) (t : List ℕ) : Type 0 where
    pub refusal_is : refusal ≡ refusal_of M s (write n a vs)
    pub count_is : counted ≡ (answer_of M s (caller n) (write n a vs)).counted
    pub state_is : t ≡ after M s (write n a vs)

  -- the bytes t are what calls leave of the bytes s, one after the other, each keeping its contract; the history is of these calls
  pub data Served (s : List ℕ) : History (CallOf Image) → List ℕ → Type 0 where
    unused : Served s start s
    reported : {h : History (CallOf Image)} {c : CallOf Image} {r x y : ℕ} {t u : List ℕ} → Served s h t → Reported t c r x y u → Served s (h ▷ c) u
    reading : {h : History (CallOf Image)} {n a k r x : ℕ} {t u out o : List ℕ} → Served s h t → ReadDone t n a k out r x u o → Served s (h ▷ read n a k out) u
    writing : {h : History (CallOf Image)} {n a r x : ℕ} {t u vs : List ℕ} → Served s h t → WriteDone t n a vs r x u → Served s (h ▷ write n a vs) u
