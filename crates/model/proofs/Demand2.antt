-- Demand 2, over the bytes: "Each port sees SFF-8636 as document 01 states it." An accepted call on bytes is that call on their state, so
-- the rules are put together from those on states: the work lies in Flags, Since, Interrupt, Writes and Lasting.
-- Assumes nothing.
use mathlib.Core.Path.{◌≡◌, refl, sym, ap, ◌∙◌}
use mathlib.Core.Logic.{◌↔◌, ◌≢◌}
use mathlib.Core.Bool.{true, false, ◌&&◌}
use mathlib.Core.List.{List}
use Prim.Native.Nat.{ℕ, ◌+◌, ◌-◌, ◌≤◌, ◌<◌}
use native.Mathlib.Omega.{arith}
use lib.Dec.{eqb}
use lib.ListN.{length}
use borrow.Author.Tests.{eq-eqb, ne_eqb}
use Rattle.ports.specs.Demands.{AcceptedPlainly}
use Rattle.laws.specs.Tests.{covers, within}
use Rattle.laws.specs.Bits.{bit, has}
use Rattle.laws.specs.Lists.{at}
use Rattle.laws.proofs.Tests.{not_both, covers_true}
use Rattle.ports.specs.Effects
use Rattle.ports.specs.Bytes
use Rattle.ports.specs.Interrupt.{stands_of, UnmaskedOf}
use Rattle.ports.proofs.Steps
use Rattle.ports.proofs.Answers
use Rattle.model.specs.Ports.{Port, nobody, caller, Places, State, Call, reset, read, write}
use Rattle.model.specs.Interrupt.{count, stands, pairs}
use Rattle.model.specs.Map.{status_at, seat, state_size, flags, paged, page_at, sound}
use Rattle.model.specs.Samples.{conds}
use Rattle.model.specs.Reading.{status_byte, look, seen}
use Rattle.model.specs.Module.{document01}
use Rattle.model.specs.Refusals.{accepted}
use Rattle.model.specs.Calls.{Calls}
use Rattle.model.specs.Bytes.{state_of, refusal_of, after, answer_of, runs}
use Rattle.model.specs.Writing.{Class, written}
use Rattle.model.specs.Demands.{is_reset, image_of, stood, Since, Leads, class_at, WriteRule, SaysTheSame}
use Rattle.model.proofs.Names.{done, place}
use Rattle.model.proofs.Bytes.{memory_at, bytes_at, place_state}
use Rattle.model.proofs.Writes.{leads_inside, puts_hit, puts_miss, written_bits, page_unsupported, accepted_range}
use Rattle.model.proofs.Lasting.{lasting, supported_lasts, limit_same}
use Rattle.model.proofs.Flags.{flag_latched, flag_seen}
use Rattle.model.proofs.Since.{conds_run}
use Rattle.model.proofs.Interrupt.{interrupt_rule, pin_rule}
use Rattle.model.proofs.Begun.{taken_state, after_lasts, begun_size, begun_state, begun_good, since_state}
use Rattle.model.proofs.Lawful.{lawful}

-- ---- what an accepted read shows

-- the output memory is long enough
pub read_room : (m : State) (n a k : ℕ) (out : List ℕ) → accepted m (read n a k out) ≡ true → k ≤ length out
read_room = Answers.read_room document01

-- byte b of the run stands at b - a in the output, as it was before the call
pub read_shows : (s : List ℕ) (n a k : ℕ) (out : List ℕ) → refusal_of s (read n a k out) ≡ 0 → (b : ℕ) → covers a k b ≡ true
    → at (answer_of s (caller n) (read n a k out)).output (b - a) ≡ seen (state_of s).mem ((state_of s).own (caller n)) b
read_shows = Answers.read_shows document01 lawful

-- "The read puts its bytes at the front of the output and leaves the rest": as long as it was, and as it was past the read's k bytes
pub read_leaves : (s : List ℕ) (n a k : ℕ) (out : List ℕ)
    → (length (answer_of s (caller n) (read n a k out)).output ≡ length out)
    × ((j : ℕ) → k ≤ j → at (answer_of s (caller n) (read n a k out)).output j ≡ at out j)
read_leaves = Answers.read_leaves document01

-- ---- flags

-- conditions go by the image of the last accepted reset
conds_since : (s img : List ℕ) → refusal_of s (reset img) ≡ 0 → (h : Calls) (x : List ℕ) (b : ℕ)
    → conds (state_of (runs (after s (reset img)) h)).mem x b ≡ conds (at (image_of img h)) x b
conds_since s img begun h x b =
    rw (since_state s img begun h, begun_state s img begun) (conds_run (state_of s) img (taken_state s (reset img) begun) h x b)

-- "From an accepted reset on, with the state touched by these calls alone, a flag reads 1 exactly if its condition stood in an
-- accepted sample since the later of that port's last accepted read of that byte and the last accepted reset."
-- s and img are of the accepted reset, h is any history of calls after it; the read is the next call.
pub flag_rule : (s img : List ℕ) → refusal_of s (reset img) ≡ 0 → (h : Calls) (n a k : ℕ) (out : List ℕ)
    → refusal_of (runs (after s (reset img)) h) (read n a k out) ≡ 0 → (b j : ℕ) → within flags b ≡ true → covers a k b ≡ true
    → (bit j (at (answer_of (runs (after s (reset img)) h) (caller n) (read n a k out)).output (b - a)) ≡ 1) ↔ Since img (caller n) b j h
flag_rule s img begun h n a k out e b j f c =
    let r = covers_true 3 12 b f in
    let l = r.0 in let u = r.1 in
    let q : 3 + (b - 3) ≡ b = omega arith in
    rw q at (Answers.flag_rule document01 lawful (3 + (b - 3)) (b - 3) j (λ mem x. conds mem x (3 + (b - 3))) (flag_latched (b - 3) (omega arith))
    (λ mem o. flag_seen mem o (b - 3) (omega arith)) s img begun (stood img (3 + (b - 3)) j)
    (λ h x. ap (has j) (sym (conds_since s img begun h x (3 + (b - 3))))) h n a k out e (rw q c))

-- what `Since` calls accepted is what the calls accept: from an accepted reset on it goes by their own arguments
pub accepted_plainly : (s img : List ℕ) → refusal_of s (reset img) ≡ 0 → (h : Calls) → AcceptedPlainly document01 (runs (after s (reset img)) h)
accepted_plainly = Answers.accepted_plainly document01 lawful

-- ---- the interrupt (its rule, of any record, is `interrupt_rule` of Interrupt.antt)

-- "An accepted read or write reports its port's count, .., as it stands after the call. A sample and a reset report both ports' counts."
pub count_reported : (s : List ℕ) (p : Port) (c : Call) → refusal_of s c ≡ 0
    → ((answer_of s p c).counted ≡ count ((state_of (after s c)).own p)) × (((answer_of s p c).counted ≢ 0) ↔ UnmaskedOf pairs ((state_of (after s c)).own p))
unfolding stands_of
count_reported s p c e =
    let o : Places = (state_of (after s c)).own p in
    let q : (answer_of s p c).counted ≡ count o = Answers.count_reported document01 lawful s p c e in
    let r = interrupt_rule o in
    (q, (λ d. r.0 (rw (ne_eqb (count o) 0 (λ y. d (q ∙ y)))), λ u y. not_both (stands o) (r.1 u) (rw (← q, y))))

-- "bit 1 the level of the port's IntL pin (1 when no interrupt stands)", before the call
pub pin_shown : (s : List ℕ) (n a k : ℕ) (out : List ℕ) → refusal_of s (read n a k out) ≡ 0 → covers a k status_at ≡ true
    → (bit 1 (at (answer_of s (caller n) (read n a k out)).output (status_at - a)) ≡ 0) ↔ (stands ((state_of s).own (caller n)) ≡ true)
pin_shown s n a k out e c =
    let q : seen (state_of s).mem ((state_of s).own (caller n)) status_at ≡ status_byte (state_of s).mem ((state_of s).own (caller n)) = unfold seen seat look in refl in
    rw (read_shows s n a k out e status_at c, q) (pin_rule (state_of s).mem ((state_of s).own (caller n)))

-- ---- writes

-- what an accepted call leaves at each place
after_at : (s : List ℕ) (c : Call) → refusal_of s c ≡ 0 → (i : ℕ) → i < state_size → at (after s c) i ≡ place (done (state_of s) c) i
unfolding Bytes.after
after_at s c e i h = rw (eq-eqb (refusal_of s c) 0 e) (bytes_at (done (state_of s) c) i h)

-- "A write changes the writable bits it addresses and nothing else."
pub write_rule : (s : List ℕ) (n a : ℕ) (vs : List ℕ) → refusal_of s (write n a vs) ≡ 0 → WriteRule s n a vs
write_rule s n a vs e = record {
  bits = λ k i j h l y. ap (bit j) (addressed k i h l) ∙ written_bits m.mem (class_at s n (a + k)) j (at s i) (at vs k) y;
  unsupported = λ k i h l y z. addressed k i h l ∙ ap (λ (c : Class). written m.mem c (at s i) (at vs k)) y ∙ page_unsupported m.mem (at s i) (at vs k) z;
  elsewhere = λ i h z. after_at s (write n a vs) e i h ∙ unfold Effects.done in puts_miss m (caller n) g a vs i h z ∙ place_state s i h;
}
  where
    m : State
    m = state_of s

    g : ℕ
    g = m.own (caller n) page_at

    ok : (a + length vs ≤ 256) × (g < 4) × (nobody n ≡ false) × (sound m.mem (m.own (caller n)) ≡ true)
    ok = accepted_range m n a vs (taken_state s (write n a vs) e)

    addressed : (k i : ℕ) → k < length vs → Leads s n (a + k) i → at (after s (write n a vs)) i ≡ written m.mem (class_at s n (a + k)) (at s i) (at vs k)
    addressed k i h l =
        let r = ok.0 in
        let b = leads_inside (caller n) g (a + k) i ok.1 (omega arith) l in
        after_at s (write n a vs) e i b ∙ unfold Effects.done in puts_hit m (caller n) g a vs ok.1 r k i h l
        ∙ ap (λ (x : ℕ). written m.mem (class_at s n (a + k)) x (at vs k)) (place_state s i b)

-- ---- what lasts

-- a sound state stays sound, whatever is called
pub sound_lasts : (s : List ℕ) → length s ≡ state_size → ((p : Port) → sound (state_of s).mem ((state_of s).own p) ≡ true)
    → (h : Calls) (p : Port) → sound (state_of (runs s h)).mem ((state_of (runs s h)).own p) ≡ true
sound_lasts s e g h p = (Steps.sound_lasts document01 lawful s e (record { both = g }) h).both p

-- from an accepted reset on both records are sound
pub sound_since : (s img : List ℕ) → refusal_of s (reset img) ≡ 0 → (h : Calls) (p : Port)
    → sound (state_of (runs (after s (reset img)) h)).mem ((state_of (runs (after s (reset img)) h)).own p) ≡ true
sound_since s img b h p = sound_lasts (after s (reset img)) (begun_size s img b) (begun_good s img b).both h p

-- nothing but an accepted reset changes what the supported pages, the limits and byte 220 say
pub only_reset_changes : (s : List ℕ) (c : Call) → length s ≡ state_size → (eqb (refusal_of s c) 0 && is_reset c) ≡ false → SaysTheSame (after s c) s
only_reset_changes s c e r =
    let l = after_lasts s c e r in
    record {
      pages_same = supported_lasts l;
      limits_same = limit_same l.places;
      offer_same = sym (memory_at (after s c) (paged 0 220) (omega arith)) ∙ l.places (paged 0 220) (unfold lasting in refl) ∙ memory_at s (paged 0 220) (omega arith);
    }
