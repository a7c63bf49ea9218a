-- Document 01, "Faults we expect to see", its idle programs, and rules of writes: for each a short history, computed from any state, in
-- which it would show. (Clearing for both ports is `read_clears_one` of Idle.antt, temperature compared unsigned is M8 of Marked.antt.)
-- Assumes nothing.
use mathlib.Core.Path.{◌≡◌, refl}
use mathlib.Core.Bool.{true, false}
use mathlib.Core.List.{[], ◌∷◌}
use Rattle.model.specs.Ports.{Port, operator, recorder, State}
use Rattle.model.specs.Calls.{answer, start, ◌▷◌}
use Rattle.model.specs.Stories.{losing, looks, enters, after_reset, reads, shown}
use Rattle.model.proofs.Idle.{story, computed}

-- "Showing byte 2 bit 1 as 1 while the interrupt stands": byte 2 is 0 while it stands
pub pin_follows : (m : State) (p : Port) → reads (after_reset m (start ▷ losing 1)) p 2 ≡ 0
unfolding computed
pin_follows m operator = story (λ s. reads s operator 2) m (start ▷ losing 1) refl
pin_follows m recorder = story (λ s. reads s recorder 2) m (start ▷ losing 1) refl

-- and 2 after the flag is read
pub pin_released : (m : State) (p : Port) → reads (after_reset m (start ▷ losing 1 ▷ looks p 3)) p 2 ≡ 2
unfolding computed
pin_released m operator = story (λ s. reads s operator 2) m (start ▷ losing 1 ▷ looks operator 3) refl
pin_released m recorder = story (λ s. reads s recorder 2) m (start ▷ losing 1 ▷ looks recorder 3) refl

-- "Clearing flags first and copying zeros out": the read that clears the flag shows it
pub read_shows_it : (m : State) (p : Port) → (answer (after_reset m (start ▷ losing 1)) p (looks p 3)).output ≡ 1 ∷ []
unfolding computed
read_shows_it m operator = story (λ s. (answer s operator (looks operator 3)).output) m (start ▷ losing 1) refl
read_shows_it m recorder = story (λ s. (answer s recorder (looks recorder 3)).output) m (start ▷ losing 1) refl

-- "Clearing on a read of byte 2": such a read clears no flag
pub status_clears_nothing : (m : State) (p : Port) → shown (after_reset m (start ▷ losing 1 ▷ looks p 2)) p ≡ (1, 1, true)
unfolding computed
status_clears_nothing m operator = story (λ s. shown s operator) m (start ▷ losing 1 ▷ looks operator 2) refl
status_clears_nothing m recorder = story (λ s. shown s recorder) m (start ▷ losing 1 ▷ looks recorder 2) refl

-- "Dropping a flag when its condition ends"
pub stays_when_over : (m : State) (p : Port) → shown (after_reset m (start ▷ losing 1 ▷ losing 0)) p ≡ (1, 1, true)
unfolding computed
stays_when_over m operator = story (λ s. shown s operator) m (start ▷ losing 1 ▷ losing 0) refl
stays_when_over m recorder = story (λ s. shown s recorder) m (start ▷ losing 1 ▷ losing 0) refl

-- ".. or when it is masked": it is raised all the same
pub rises_masked : (m : State) (p : Port) → shown (after_reset m (start ▷ enters p 100 1 ▷ losing 1)) p ≡ (1, 0, false)
unfolding computed
rises_masked m operator = story (λ s. shown s operator) m (start ▷ enters operator 100 1 ▷ losing 1) refl
rises_masked m recorder = story (λ s. shown s recorder) m (start ▷ enters recorder 100 1 ▷ losing 1) refl

-- "one right for the first sample only": a second sample brings its conditions too
pub second_sample_too : (m : State) (p : Port) → shown (after_reset m (start ▷ losing 1 ▷ losing 2)) p ≡ (3, 2, true)
unfolding computed
second_sample_too m operator = story (λ s. shown s operator) m (start ▷ losing 1 ▷ losing 2) refl
second_sample_too m recorder = story (λ s. shown s recorder) m (start ▷ losing 1 ▷ losing 2) refl

-- a supported page number, written to 127, selects the page
pub selects : (m : State) (p : Port) → reads (after_reset m (start ▷ enters p 127 3)) p 127 ≡ 3
unfolding computed
selects m operator = story (λ s. reads s operator 127) m (start ▷ enters operator 127 3) refl
selects m recorder = story (λ s. reads s recorder 127) m (start ▷ enters recorder 127 3) refl

-- "A page number that isn't supported, written to 127, selects 00h"
pub selects_zero : (m : State) (p : Port) → reads (after_reset m (start ▷ enters p 127 3 ▷ enters p 127 9)) p 127 ≡ 0
unfolding computed
selects_zero m operator = story (λ s. reads s operator 127) m (start ▷ enters operator 127 3 ▷ enters operator 127 9) refl
selects_zero m recorder = story (λ s. reads s recorder 127) m (start ▷ enters recorder 127 3 ▷ enters recorder 127 9) refl

-- "103, 104 bits 7-4"
pub high_bits_alone : (m : State) (p : Port) → reads (after_reset m (start ▷ enters p 103 255)) p 103 ≡ 240
unfolding computed
high_bits_alone m operator = story (λ s. reads s operator 103) m (start ▷ enters operator 103 255) refl
high_bits_alone m recorder = story (λ s. reads s recorder 103) m (start ▷ enters recorder 103 255) refl

-- "86 bits 3-0"; "Shared list (both see it, ..)"
pub shared_seen : (m : State) (p : Port) → reads (after_reset m (start ▷ enters operator 86 255)) p 86 ≡ 15
unfolding computed
shared_seen m operator = story (λ s. reads s operator 86) m (start ▷ enters operator 86 255) refl
shared_seen m recorder = story (λ s. reads s recorder 86) m (start ▷ enters operator 86 255) refl
