-- What the monitors show over calls: a sample stores each number where its monitor looks, and no monitor looks at the shared list, where
-- alone writes change the memory (both computed over the fourteen); a reset sets Data_Not_Ready, and a sample clears it.
-- Assumes nothing.
use mathlib.Core.Path.{◌≡◌, refl, sym, ap, ◌∙◌}
use mathlib.Core.Bool.{Bool, true, false, not, ◌&&◌}
use mathlib.Core.List.{List}
use Prim.Native.Nat.{ℕ, ◌+◌, ◌-◌, ◌*◌, ◌%◌, ◌<◌}
use native.Mathlib.Omega.{arith}
use lib.Dec.{eqb}
use lib.ListN.{length}
use borrow.Author.Tests.{eqb-true, lt-leb, not-true}
use Rattle.laws.specs.Bits.{bit, has}
use Rattle.laws.specs.Lists.{at}
use Rattle.laws.proofs.Tests.{case, and_left, and_right}
use Rattle.laws.proofs.Finite.{always_at, every_at}
use Rattle.ports.specs.Bytes
use Rattle.ports.specs.Effects
use Rattle.model.specs.Ports.{Places, Call, reset, sample, read, write, caller}
use Rattle.model.specs.Map.{paged, status_at, state_size, page_at}
use Rattle.model.specs.Reset.{fresh}
use Rattle.model.specs.Samples.{word, number_of, quantities, offered, stored}
use Rattle.model.specs.Reading.{shared}
use Rattle.model.specs.Readout.{in_unit, measured, nothing, monitored, monitor_at, monitor}
use Rattle.model.specs.Bytes.{memory_of, state_of, refusal_of, after}
use Rattle.model.specs.Outcomes.{given, monitor_told}
use Rattle.model.proofs.Names.{done}
use Rattle.model.proofs.Lasting.{off_puts}
use Rattle.model.proofs.Bytes.{after_length}
use Rattle.model.proofs.Begun.{taken_size, taken_memory}

-- ---- the numbers of a sample

-- each is stored where its monitor looks
number_stored : (mem : Places) (x : List ℕ) (n : ℕ) → n < 14 → offered mem (monitored n quantities) ≡ true
    → word (λ i. stored mem x i (mem i)) (monitor_at (monitored n quantities) n) ≡ number_of x n
unfolding stored
number_stored mem x =
    every_at (λ n. offered mem (monitored n quantities) ≡ true → word (λ i. stored mem x i (mem i)) (monitor_at (monitored n quantities) n) ≡ number_of x n) 14
    (same, (same, (same, (same, (same, (same, (same, (same, (same, (same, ((λ e. rw e), ((λ e. rw e), ((λ e. rw e), ((λ e. rw e), tt))))))))))))))
  where
    same : {t : Bool} {k : ℕ} → t ≡ true → k ≡ k
    same e = refl

-- ---- what no read and no write changes

-- a monitor looks at no place on the shared list
monitor_same : {f g : Places} → ((i : ℕ) → shared i ≡ false → f i ≡ g i) → (n : ℕ) → n < 14 → monitor f n ≡ monitor g n
unfolding monitor shared
monitor_same {f} {g} l n h =
    let p = monitor_at (monitored n quantities) n in
    let t = off n h in
    let a : f p ≡ g p = l p (not-true (shared p) (and_left (not (shared p)) (not (shared (p + 1))) t)) in
    let b : f (p + 1) ≡ g (p + 1) = l (p + 1) (not-true (shared (p + 1)) (and_right (not (shared p)) (not (shared (p + 1))) t)) in
    let c : f status_at ≡ g status_at = l status_at refl in
    let d : f (paged 0 220) ≡ g (paged 0 220) = l (paged 0 220) refl in
    rw (a, b, c, d)
  where
    off : (n : ℕ) → n < 14
        → (not (shared (monitor_at (monitored n quantities) n)) && not (shared (monitor_at (monitored n quantities) n + 1))) ≡ true
    off = always_at (λ n. not (shared (monitor_at (monitored n quantities) n)) && not (shared (monitor_at (monitored n quantities) n + 1))) 14 refl

-- ---- Data_Not_Ready

even : (n : ℕ) → bit 0 (n - n % 2) ≡ 0
even n = omega arith

odd : (n : ℕ) → bit 0 (4 * n + 1) ≡ 1
odd n = omega arith

-- ---- the calls, on bytes

-- a state of 688 bytes gives what the monitor says
monitor_given : (s : List ℕ) (n : ℕ) → length s ≡ state_size → n < 14 → monitor_told s n ≡ given (monitor (memory_of s) n)
monitor_given s n e h = rw (e, lt-leb 14 n h)

module _ (s : List ℕ) (n : ℕ) (h : n < 14) where
  taken_monitor : (c : Call) → refusal_of s c ≡ 0 → monitor_told (after s c) n ≡ given (monitor (done (state_of s) c).mem n)
  taken_monitor c e = monitor_given (after s c) n (after_length s c (taken_size s c e)) h ∙ ap (λ (mem : Places). given (monitor mem n)) (taken_memory s c e)

  -- after an accepted sample a monitor shows its number of the sample, in its unit, if it is offered
  pub monitor_sampled : (x : List ℕ) → refusal_of s (sample x) ≡ 0 → offered (memory_of s) (monitored n quantities) ≡ true
      → monitor_told (after s (sample x)) n ≡ given (measured (monitored n quantities).kind (in_unit (monitored n quantities).kind (number_of x n)))
  unfolding monitor Effects.done Bytes.state_of
  monitor_sampled x e o =
      let ready : has 0 (stored (memory_of s) x status_at (memory_of s status_at)) ≡ false = unfold stored in rw (even (memory_of s status_at)) in
      let offer : stored (memory_of s) x (paged 0 220) (memory_of s (paged 0 220)) ≡ memory_of s (paged 0 220) = unfold stored in refl in
      taken_monitor (sample x) e ∙ rw (ready, offer, o, number_stored (memory_of s) x n h o)

  -- after an accepted reset it shows nothing
  pub monitor_begun : (img : List ℕ) → refusal_of s (reset img) ≡ 0 → monitor_told (after s (reset img)) n ≡ given nothing
  unfolding monitor Effects.done Bytes.state_of
  monitor_begun img e =
      let waits : has 0 (fresh img status_at (memory_of s status_at)) ≡ true = unfold fresh in rw (odd (bit 2 (at img status_at))) in
      taken_monitor (reset img) e ∙ rw waits

  -- a read and a write leave it as it was
  kept : (c : Call) → ((i : ℕ) → shared i ≡ false → (done (state_of s) c).mem i ≡ memory_of s i) → monitor_told (after s c) n ≡ monitor_told s n
  unfolding Bytes.after
  kept c l = case (eqb (refusal_of s c) 0)
      (λ t.
      let e = eqb-true (refusal_of s c) 0 t in
      taken_monitor c e ∙ ap given (monitor_same l n h) ∙ sym (monitor_given s n (taken_size s c e) h))
      (λ t. rw t)

  pub monitor_read : (p a k : ℕ) (out : List ℕ) → monitor_told (after s (read p a k out)) n ≡ monitor_told s n
  unfolding Effects.done Bytes.state_of
  monitor_read p a k out = kept (read p a k out) (λ i e. refl)

  pub monitor_written : (p a : ℕ) (vs : List ℕ) → monitor_told (after s (write p a vs)) n ≡ monitor_told s n
  unfolding Effects.done Bytes.state_of
  monitor_written p a vs = kept (write p a vs) (λ i e. off_puts (state_of s) (caller p) ((state_of s).own (caller p) page_at) a vs i e)
