-- Refusals as the code finds them: those of any call by a port first, and then those of the call's own numbers.
-- Assumes nothing.
use mathlib.Core.Path.{◌≡◌, sym}
use mathlib.Core.Logic.{◌≢◌}
use mathlib.Core.Bool.{true}
use mathlib.Core.List.{List, ◌∷◌, ◌++◌}
use Prim.Native.Nat.{ℕ}
use lib.ListN.{length}
use borrow.Author.Tests.{ne_eqb}
use Rattle.laws.specs.Tests.{Row, first_of}
use Rattle.ports.specs.Bytes
use Rattle.ports.proofs.Taken.{port_first, port_taken}
use Rattle.model.specs.Ports.{caller, Call}
use Rattle.model.specs.Map.{state_size, base, sound}
use Rattle.model.specs.Refusals.{wrong_size, port_rows}
use Rattle.model.specs.Module.{document01}
use Rattle.model.specs.Bytes.{memory_of, record_of, state_of, refusal_of}

-- a state of another length
pub size_refused : (s : List ℕ) (c : Call) → length s ≢ state_size → 1 ≡ refusal_of s c
unfolding Bytes.refusal_of Bytes.rows_of
size_refused s c other = rw (ne_eqb (length s) state_size other)

module _ (s : List ℕ) (n : ℕ) where
  -- a port that is refused none of those of any call has a sound record
  pub port_sound : 0 ≡ first_of ((1, wrong_size s) ∷ port_rows (state_of s) n) → sound (memory_of s) (record_of s (base (caller n))) ≡ true
  port_sound e = (port_taken document01 s n (sym e)).1

  module _ (own : List Row) where
    -- one of those, so that its own are not asked for
    pub port_refused : {r : ℕ} → r ≡ first_of ((1, wrong_size s) ∷ port_rows (state_of s) n) → r ≢ 0 → r ≡ first_of ((1, wrong_size s) ∷ port_rows (state_of s) n ++ own)
    port_refused {r} e some = port_first document01 s n own {r = r} {q = r} e (rw (ne_eqb r 0 some))

    -- none of those
    pub port_accepted : {q : ℕ} → 0 ≡ first_of ((1, wrong_size s) ∷ port_rows (state_of s) n) → q ≡ first_of own → q ≡ first_of ((1, wrong_size s) ∷ port_rows (state_of s) n ++ own)
    port_accepted {q} e f = port_first document01 s n own {r = 0} {q = q} e f
