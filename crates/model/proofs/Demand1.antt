-- Demand 1: "Any bytes, address, port or sample gets an answer, and nobody need check first. A refused call changes none of the
-- state or output memory, reports a count of 0, and gives the refusal that document 01's order picks."
-- (Every call has an answer: `refusal_of`, `after` and `answer_of` are total functions of any bytes, numbers and lists.)
-- Assumes nothing.
use mathlib.Core.Path.{◌≡◌, refl}
use mathlib.Core.Logic.{◌≢◌}
use mathlib.Core.Bool.{true}
use mathlib.Core.List.{List, [], ◌∷◌, Memᴰ}
use Prim.Native.Nat.{ℕ, ◌≤◌}
use Rattle.laws.specs.Tests.{Row, first_of, numbers_of, InOrder}
use Rattle.laws.proofs.Rows.{in_order}
use Rattle.ports.proofs.Steps
use Rattle.ports.proofs.Answers
use Rattle.model.specs.Ports.{Port, Call}
use Rattle.model.specs.Refusals.{identity_rows, monitor_rows, limits_rows}
use Rattle.model.specs.Readout.{sound_page}
use Rattle.model.specs.Module.{document01}
use Rattle.model.specs.Bytes.{rows_of, refusal_of, after, lent, answer_of}
use Rattle.model.proofs.Lawful.{lawful}

-- the refusal that a call answers
pub answer_refused : (s : List ℕ) (p : Port) (c : Call) → (answer_of s p c).refusal ≡ refusal_of s c
answer_refused = Answers.answer_refused document01

-- "A refused call changes none of the state or output memory, reports a count of 0"
pub refused_changes_nothing : (s : List ℕ) (c : Call) → refusal_of s c ≢ 0
    → (after s c ≡ s) × ((p : Port) → answer_of s p c ≡ record { refusal = refusal_of s c; counted = 0; output = lent c })
refused_changes_nothing = Answers.refused_changes_nothing document01

-- "gives the refusal that document 01's order picks": each number exactly when its row of the table says so, given that no lower
-- one applies; accepted exactly when none applies
pub refusals_in_order : (s : List ℕ) (c : Call) → InOrder (rows_of s c)
refusals_in_order = Steps.refusals_in_order document01 lawful

-- "The lowest number wins"
pub refusals_lowest : (s : List ℕ) (c : Call) (r : Row) → Memᴰ r (rows_of s c) → r.1 ≡ true → refusal_of s c ≤ r.0
refusals_lowest = Steps.refusals_lowest document01 lawful

pub monitor_in_order : (s : List ℕ) (n : ℕ) → (numbers_of (monitor_rows s n) ≡ 1 ∷ 13 ∷ []) × InOrder (monitor_rows s n)
monitor_in_order s n = (refl, in_order (monitor_rows s n) refl)

pub limits_in_order : (s : List ℕ) (q : ℕ) → (numbers_of (limits_rows s q) ≡ 1 ∷ 13 ∷ []) × InOrder (limits_rows s q)
limits_in_order s q = (refl, in_order (limits_rows s q) refl)

-- "with one exception: 12 comes before 11"
pub identity_in_order : (live factory : List ℕ) (f : ℕ) → (numbers_of (identity_rows live factory f) ≡ 12 ∷ 11 ∷ []) × InOrder (identity_rows live factory f)
identity_in_order live factory f = (refl, in_order (identity_rows live factory f) refl)

-- a wrong field of two pages that are not sound: computed
pub field_before_page : first_of (identity_rows [] [] 0) ≡ 12
unfolding sound_page
field_before_page = refl
