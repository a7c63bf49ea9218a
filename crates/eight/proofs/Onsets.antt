-- The onsets: the memory has the conditions of the accepted sample before (by the history, call by call), so what a sample marks as pending
-- are its onsets, and a byte of pending bits latches them as a flag byte does its conditions.
-- Assumes nothing.
use mathlib.Core.Path.{◌≡◌, refl, sym, ◌∙◌}
use mathlib.Core.Logic.{◌↔◌}
use mathlib.Core.Bool.{true, false≢true, not, ◌&&◌}
use mathlib.Core.List.{List, []}
use Prim.Native.Nat.{ℕ, ◌+◌, ◌-◌, ◌<◌}
use native.Mathlib.Omega.{arith}
use lib.Bits.{and_zero_l}
use borrow.Author.Tests.{lt-ltb, le-ltb}
use Rattle.laws.specs.Tests.{none_of}
use Rattle.laws.specs.Bits.{bit, has}
use Rattle.laws.specs.Lists.{at}
use Rattle.laws.proofs.Tests.{case, and_left, and_right, and_both, covers_in, covers_above}
use Rattle.laws.proofs.Bits.{has_without}
use Rattle.ports.specs.Ports.{Port, State, reset, sample, read, write}
use Rattle.ports.specs.Histories.{start, ◌▷◌, run_of}
use Rattle.ports.specs.Modules.{refusal, rows, accepted, sample_rows}
use Rattle.ports.specs.Effects.{done, step}
use Rattle.ports.specs.Bytes.{state_of, refusal_of}
use Rattle.ports.specs.Demands.{brings, wipes}
use Rattle.ports.proofs.Histories.{since_more}
use Rattle.ports.proofs.Lawful.{Good}
use Rattle.ports.proofs.Steps.{sample_taken, good_run, good_after, taken_state, since_state, begun_state}
use Rattle.ports.proofs.Flags.{Latched, stored_rule}
use Rattle.eight.specs.Tables.{flags, masks, flag_bits, mask_of, pending_of}
use Rattle.eight.specs.Module.{Call, Calls, conditions, onset, raised, cleared, eight}
use Rattle.eight.specs.Demands.{since, sample_before, present, begins, PresentSince, OnsetSince}
use Rattle.eight.proofs.Lawful.{lawful}
use Rattle.eight.proofs.Flags.{written_else, flag_stored}

pending_latched : (i : ℕ) → i < flags.many → Latched eight (flags.first + i) (pending_of i) (λ f x. onset f x i)
unfolding raised cleared
pending_latched i l =
    let z : pending_of i - pending_of 0 ≡ i = omega arith in
    let c = covers_in (pending_of 0) flags.many (pending_of i) (omega arith) (omega arith) in
    let f = le-ltb (pending_of i) flags.many (omega arith) in
    record {
      raised_is = λ h x o. rw (f, c, z);
      cleared_is = λ h a n o. rw (f, c, z);
      puts_is = λ m p q a vs. written_else m p q a vs (pending_of i) (covers_above (mask_of 0) masks.many (pending_of i) (omega arith));
    }

-- ---- the conditions in the memory

-- "before the first sample after reset all are absent"
none_before : (i : ℕ) → conditions [] i ≡ 0
none_before i = and_zero_l (at flag_bits i)

-- from a sound state with none of them on
before_run : (s : State) → Good eight s → ((i : ℕ) → s.mem i ≡ 0) → (h : Calls) (i : ℕ) → i < flags.many
    → (run_of (step eight) s h).mem i ≡ conditions (sample_before h) i
unfolding run_of sample_before step done refusal rows
before_run s g z start i l = z i ∙ sym (none_before i)
before_run s g z (h ▷ reset none) i l = sym (none_before i)
before_run s g z (h ▷ sample x) i l =
    rw (sample_taken eight lawful (run_of (step eight) s h) x (good_run eight lawful s h g))
    (case (none_of (sample_rows eight x)) (λ t. rw (t, lt-ltb i flags.many l)) (λ t. rw t (before_run s g z h i l)))
before_run s g z (h ▷ read n a k out) i l =
    case (accepted eight (run_of (step eight) s h) (read n a k out)) (λ t. rw t (before_run s g z h i l)) (λ t. rw t (before_run s g z h i l))
before_run s g z (h ▷ write n a vs) i l =
    case (accepted eight (run_of (step eight) s h) (write n a vs)) (λ t. rw t (before_run s g z h i l)) (λ t. rw t (before_run s g z h i l))

-- "the accepted sample before": its conditions are in the memory
pub before_since : (s : List ℕ) → refusal_of eight s (reset tt) ≡ 0 → (h : Calls) (i : ℕ) → i < flags.many
    → (state_of eight (since s h)).mem i ≡ conditions (sample_before h) i
before_since s begun h i l =
    rw (since_state eight lawful s tt begun h, begun_state eight lawful s tt begun)
    (before_run (step eight (state_of eight s) (reset tt)) (good_after eight lawful (state_of eight s) tt (taken_state eight lawful s (reset tt) begun)) empty h i l)
  where
    empty : (i : ℕ) → (step eight (state_of eight s) (reset tt)).mem i ≡ 0
    empty i = unfold step done refusal rows in refl

-- ---- pending bits

-- "An onset marks the bit as pending for both ports, and a port's read of the byte clears both flag and pending there": it is pending
-- exactly if an onset stood in an accepted sample since the later of that port's last accepted read of the byte and the last accepted reset
pub pending_rule : (s : List ℕ) → refusal_of eight s (reset tt) ≡ 0 → (h : Calls) (p : Port) (i j : ℕ) → i < flags.many
    → (bit j ((state_of eight (since s h)).own p (pending_of i)) ≡ 1) ↔ OnsetSince p i j h
pending_rule s begun h p i j l =
    stored_rule eight lawful (flags.first + i) (pending_of i) j (λ f x. onset f x i) (pending_latched i l) s tt begun p (begins i j)
    (λ h x. sym (has_without j (conditions x i) ((state_of eight (since s h)).mem i) ∙ rw (before_since s begun h i l))) h

-- where an onset stood the condition was present
pub onset_present : (h : Calls) (p : Port) (i j : ℕ) → OnsetSince p i j h → PresentSince p i j h
onset_present h p i j o = since_more (brings eight (begins i j)) (brings eight (present i j)) (wipes eight p (flags.first + i)) more h o
  where
    more : (h : Calls) (c : Call) → brings eight (begins i j) h c ≡ true → brings eight (present i j) h c ≡ true
    more h (reset none) e = absurd (false≢true (unfold brings in e))
    more h (sample x) e = unfold brings in
        let t = none_of (sample_rows eight x) in
        let u = has j (conditions x i) in
        let v = not (has j (conditions (sample_before h) i)) in
        and_both (and_left t (u && v) e) (and_left u v (and_right t (u && v) e))
    more h (read n a k out) e = absurd (false≢true (unfold brings in e))
    more h (write n a vs) e = absurd (false≢true (unfold brings in e))

-- so a pending bit's flag is raised
pub pending_raised : (s : List ℕ) → refusal_of eight s (reset tt) ≡ 0 → (h : Calls) (p : Port) (i j : ℕ) → i < flags.many
    → bit j ((state_of eight (since s h)).own p (pending_of i)) ≡ 1 → bit j ((state_of eight (since s h)).own p i) ≡ 1
pending_raised s begun h p i j l b = (flag_stored s begun h p i j l).1 (onset_present h p i j ((pending_rule s begun h p i j l).0 b))
