-- Demand 1 of the eight-channel module, and what lasts: each is what ports proves of any lawful module. "Refusals are 01's, with this
-- map's lengths".
-- Assumes nothing.
use mathlib.Core.Path.{◌≡◌, refl, ◌∙◌}
use mathlib.Core.Logic.{◌↔◌, ◌≢◌}
use mathlib.Core.Bool.{true}
use mathlib.Core.List.{List, Memᴰ}
use Prim.Native.Nat.{ℕ, ◌≤◌}
use lib.ListN.{length}
use Rattle.laws.specs.Tests.{Row, InOrder}
use Rattle.ports.specs.Ports.{Port, reset, lent}
use Rattle.ports.specs.Modules.{state_size, refusal, rows}
use Rattle.ports.specs.Bytes.{state_of, rows_of, refusal_of, after, answer_of, runs}
use Rattle.ports.specs.Demands.{AcceptedPlainly}
use Rattle.ports.proofs.Steps
use Rattle.ports.proofs.Answers
use Rattle.eight.specs.Module.{Call, Calls, sound, eight}
use Rattle.eight.specs.Demands.{since}
use Rattle.eight.proofs.Lawful.{lawful}

-- ---- refusals

-- "A refused call changes none of the state or output memory, reports a count of 0"
pub refused_changes_nothing : (s : List ℕ) (c : Call) → refusal_of eight s c ≢ 0
    → (after eight s c ≡ s) × ((p : Port) → answer_of eight s p c ≡ record { refusal = refusal_of eight s c; counted = 0; output = lent c })
refused_changes_nothing = Answers.refused_changes_nothing eight

-- "gives the refusal that document 01's order picks": each number exactly when its row of the table says so, given that no lower
-- one applies; accepted exactly when none applies
pub refusals_in_order : (s : List ℕ) (c : Call) → InOrder (rows_of eight s c)
refusals_in_order = Steps.refusals_in_order eight lawful

-- "The lowest number wins"
pub refusals_lowest : (s : List ℕ) (c : Call) (r : Row) → Memᴰ r (rows_of eight s c) → r.1 ≡ true → refusal_of eight s c ≤ r.0
refusals_lowest = Steps.refusals_lowest eight lawful

-- ---- from an accepted reset on

-- "Reset takes no image": it is refused for the length of the state alone, so that every 98 bytes have an accepted reset
pub reset_accepted : (s : List ℕ) → (refusal_of eight s (reset tt) ≡ 0) ↔ (length s ≡ state_size eight)
reset_accepted s = (Steps.taken_size eight lawful s (reset tt), λ e. Steps.refusal_long eight lawful s (reset tt) e ∙ (unfold refusal rows in refl))

-- what the flag rule and the onset rule call accepted is what the calls accept: it goes by their own arguments
pub accepted_plainly : (s : List ℕ) → refusal_of eight s (reset tt) ≡ 0 → (h : Calls) → AcceptedPlainly eight (since s h)
accepted_plainly s begun h = Answers.accepted_plainly eight lawful s tt begun h

-- ---- what lasts

-- a sound state stays sound, whatever is called
pub sound_lasts : (s : List ℕ) → length s ≡ state_size eight → ((p : Port) → sound ((state_of eight s).own p) ≡ true)
    → (h : Calls) (p : Port) → sound ((state_of eight (runs eight s h)).own p) ≡ true
sound_lasts s e g h p = (Steps.sound_lasts eight lawful s e (record { both = g }) h).both p

-- from an accepted reset on both records are sound
pub sound_since : (s : List ℕ) → refusal_of eight s (reset tt) ≡ 0 → (h : Calls) (p : Port) → sound ((state_of eight (since s h)).own p) ≡ true
sound_since s begun h p = sound_lasts (after eight s (reset tt)) (Steps.begun_size eight lawful s tt begun) (Steps.begun_good eight lawful s tt begun).both h p
