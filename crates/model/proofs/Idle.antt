-- Document 01, "How far each contract reaches", "Four idle programs have to be shut out": the rules are not met by idling. From any
-- state, after an accepted reset, short histories are computed: a flag rises for both ports, a read clears it for its reader alone,
-- the condition raises it again, a mask holds it back from the interrupt but not from a reader. All these calls are accepted.
-- Assumes nothing.
use Rattle.std.specs.Prelude.{if◌then◌else◌}
use mathlib.Core.Path.{◌≡◌, refl, ap, ◌∙◌}
use mathlib.Core.Bool.{true, false}
use mathlib.Core.List.{List}
use Prim.Native.Nat.{ℕ, zero, suc, ◌+◌, ◌*◌}
use lib.Dec.{eqb}
use lib.ListN.{length, replicate}
use borrow.Author.Tests.{eqb-true}
use Rattle.laws.specs.Tests.{within}
use Rattle.laws.specs.Bits.{bit}
use Rattle.laws.specs.Lists.{at, sum, table, patch}
use Rattle.laws.proofs.Tests.{and_left, and_right}
use Rattle.ports.specs.Effects
use Rattle.ports.specs.Histories
use Rattle.ports.specs.Interrupt
use Rattle.ports.specs.Modules
use Rattle.model.specs.Ports.{Port, operator, recorder, State, reset}
use Rattle.model.specs.Map.{flags, status_at, state_size, supported, tidy, sound, seat}
use Rattle.model.specs.Reset.{codes_right, emptied, in_page02, fresh}
use Rattle.model.specs.Samples.{conditions, conds, stored, raised}
use Rattle.model.specs.Writing.{written, store, puts}
use Rattle.model.specs.Refusals.{all_mine, refusal, accepted}
use Rattle.model.specs.Reading.{shared, look, seen, cleared}
use Rattle.model.specs.Calls.{step, Calls, start, ◌▷◌, run}
use Rattle.model.specs.Bytes.{state_of, refusal_of}
use Rattle.model.specs.Stories.{image, looks, accepts, after_reset, shown, losing, enters, other_port}
use Rattle.model.proofs.Names.{done}
use Rattle.model.proofs.Bytes.{refusal_long}

-- ---- histories of accepted calls

-- what a history leaves if all its calls are accepted
unfoldable pub leaves : State → Calls → State
leaves m start = m
leaves m (h ▷ c) = done (leaves m h) c

run_leaves : (m : State) (h : Calls) → accepts m h ≡ true → run m h ≡ leaves m h
unfolding accepts leaves Histories.run_of Effects.step
run_leaves m start e = refl
run_leaves m (h ▷ c) e =
    let l = and_left (accepts m h) (accepted (run m h) c) e in
    rw (and_right (accepts m h) (accepted (run m h) c) e) (ap (λ (s : State). done s c) (run_leaves m h l))

-- ---- what they show

-- the state after the reset, in which no place of the image has to be looked up
unfoldable pub begun : State → State
begun m = record { mem = λ i. if eqb i status_at then 1 else (if emptied i then 0 else (if in_page02 i then m.mem i else 0)); own = λ p k. 0 }

zeros : (n i : ℕ) → at (replicate n 0) i ≡ 0
zeros zero i = refl
zeros (suc n) zero = refl
zeros (suc n) (suc i) = zeros n i

pub reset_begun : (m : State) → step m (reset image) ≡ begun m
unfolding image begun Effects.step Effects.done fresh Modules.refusal Modules.rows codes_right sum
reset_begun m = λ z. record { mem = λ i. if eqb i status_at then 4 * bit 2 (zeros 640 status_at z) + 1 else (if emptied i then 0 else (if in_page02 i then m.mem i else zeros 640 i z)); own = λ p k. 0 }

-- anything that is read off a state after it, where all calls are accepted
pub story : {A : Type 0} (f : State → A) (m : State) (h : Calls) → accepts (begun m) h ≡ true → f (after_reset m h) ≡ f (leaves (begun m) h)
story f m h e = rw (reset_begun m) (ap f (run_leaves (begun m) h e))

-- nothing but a name for the definitions that a story computes through
unfoldable pub computed : ℕ
unfolding image begun accepts leaves Histories.run_of Effects.step Effects.done Modules.refusal Modules.rows all_mine codes_right sum emptied fresh conditions conds stored raised shared written store puts supported tidy sound seat look seen cleared Interrupt.count_of Interrupt.stands_of Effects.answer patch table
computed = 0

-- ---- the histories

-- each of the calls is accepted, from any state on
pub all_accepted : (m : State) (p : Port)
    → (accepted m (reset image) ≡ true) × (accepts (step m (reset image)) (start ▷ losing 1 ▷ looks p 3 ▷ losing 1) ≡ true)
    × (accepts (step m (reset image)) (start ▷ losing 1 ▷ enters p 100 1) ≡ true)
all_accepted m operator = (unfold computed in refl, rw (reset_begun m) (unfold computed in refl), rw (reset_begun m) (unfold computed in refl))
all_accepted m recorder = (unfold computed in refl, rw (reset_begun m) (unfold computed in refl), rw (reset_begun m) (unfold computed in refl))

-- so every 688 bytes have an accepted reset, as the demands ask for
pub begins : (s : List ℕ) → length s ≡ state_size → refusal_of s (reset image) ≡ 0
begins s e = refusal_long s (reset image) e ∙ eqb-true (refusal (state_of s) (reset image)) 0 (all_accepted (state_of s) operator).0

-- "Both records are all 0" after a reset: no flag is up
pub none_at_first : (m : State) (p : Port) (b : ℕ) → within flags b ≡ true → seen (after_reset m start).mem ((after_reset m start).own p) b ≡ 0
none_at_first m p b e = rw (reset_begun m) (unfold computed in rw e)

-- "A sample ORs its conditions into both ports' flags": it raises a flag for either port, and its interrupt stands
pub rises_for_both : (m : State) (p : Port) → shown (after_reset m (start ▷ losing 1)) p ≡ (1, 1, true)
unfolding computed
rises_for_both m operator = story (λ s. shown s operator) m (start ▷ losing 1) refl
rises_for_both m recorder = story (λ s. shown s recorder) m (start ▷ losing 1) refl

-- "then the flag bytes inside the run become 0 for this port alone": the reader's is clear, the other's still stands
pub read_clears_one : (m : State) (p : Port)
    → (shown (after_reset m (start ▷ losing 1 ▷ looks p 3)) p ≡ (0, 0, false)) × (shown (after_reset m (start ▷ losing 1 ▷ looks p 3)) (other_port p) ≡ (1, 1, true))
unfolding computed
read_clears_one m operator = (story (λ s. shown s operator) m (start ▷ losing 1 ▷ looks operator 3) refl, story (λ s. shown s recorder) m (start ▷ losing 1 ▷ looks operator 3) refl)
read_clears_one m recorder = (story (λ s. shown s recorder) m (start ▷ losing 1 ▷ looks recorder 3) refl, story (λ s. shown s operator) m (start ▷ losing 1 ▷ looks recorder 3) refl)

-- "If the condition persists, the next sample raises the flag again"
pub rises_again : (m : State) (p : Port) → shown (after_reset m (start ▷ losing 1 ▷ looks p 3 ▷ losing 1)) p ≡ (1, 1, true)
unfolding computed
rises_again m operator = story (λ s. shown s operator) m (start ▷ losing 1 ▷ looks operator 3 ▷ losing 1) refl
rises_again m recorder = story (λ s. shown s recorder) m (start ▷ losing 1 ▷ looks recorder 3 ▷ losing 1) refl

-- "A mask bit of 1 holds its flag back": it reads 1 still, but is not counted; the other port's still stands
pub mask_holds_back : (m : State) (p : Port)
    → (shown (after_reset m (start ▷ losing 1 ▷ enters p 100 1)) p ≡ (1, 0, false)) × (shown (after_reset m (start ▷ losing 1 ▷ enters p 100 1)) (other_port p) ≡ (1, 1, true))
unfolding computed
mask_holds_back m operator = (story (λ s. shown s operator) m (start ▷ losing 1 ▷ enters operator 100 1) refl, story (λ s. shown s recorder) m (start ▷ losing 1 ▷ enters operator 100 1) refl)
mask_holds_back m recorder = (story (λ s. shown s recorder) m (start ▷ losing 1 ▷ enters recorder 100 1) refl, story (λ s. shown s operator) m (start ▷ losing 1 ▷ enters recorder 100 1) refl)
