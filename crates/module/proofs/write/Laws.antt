-- A written byte changes one place: where a slot lies, the entered state is the model's store, and the bytes of a write follow one by
-- one; and what an accepted write relies on.
-- Assumes nothing.
use mathlib.Core.Path.{◌≡◌, sym, ap, ◌∙◌}
use mathlib.Core.Bool.{true}
use mathlib.Core.Logic.{◌⊎◌, inl, inr}
use mathlib.Core.Option.{some}
use mathlib.Core.List.{List, [], ◌∷◌}
use Prim.Native.Nat.{ℕ, zero, suc, ◌+◌, ◌≤◌, ◌<◌}
use native.Mathlib.Omega.{arith}
use lib.Dec.{eqb}
use lib.ListN.{length, set, take, length-set}
use borrow.Author.Tests.{eqb-true, eqb-false}
use Rattle.laws.specs.Lists.{at}
use Rattle.laws.proofs.Tests.{case}
use Rattle.laws.proofs.Lists.{at_set}
use Rattle.address.specs.Meaning.{seat_of}
use Rattle.address.specs.declared.Slot.{Slot}
use Rattle.address.specs.declared.Slot.TheVariants.{Flag, Status, Blank}
use Rattle.ports.specs.Bytes
use Rattle.ports.specs.Effects
use Rattle.ports.proofs.Taken.{write_relies}
use Rattle.model.specs.Ports.{Port, caller, State, write}
use Rattle.model.specs.Map.{state_size, base, page_at, sound, Seat, seat}
use Rattle.model.specs.Writing.{class_of, written, store, puts}
use Rattle.model.specs.Interrupt.{count}
use Rattle.model.specs.Bytes.{memory_of, record_of, state_of, bytes_of, refusal_of}
use Rattle.model.specs.Outcomes.{WriteDone}
use Rattle.model.specs.Module.{document01}
use Rattle.model.specs.Demands.{seat_place}
use Rattle.model.proofs.Names.{place}
use Rattle.model.proofs.Fits.{fits_of, fits_puts}
use Rattle.model.proofs.Bytes.{state_bytes, place_state, bytes_by_place, bytes_state}
use Rattle.model.proofs.Writes.{Within, store_hit, store_miss, accepted_range}
use Rattle.model.proofs.Begun.{taken_state}
use Rattle.model.proofs.Outcomes.{taken_after, taken_count}

-- ---- one byte

module _ (s : List ℕ) (p : Port) (v : ℕ) (long : length s ≡ state_size) where
  pub stored : (t : Seat) (i : ℕ) → Within t → seat_place p t ≡ some i → i < state_size
      → set s i (written (memory_of s) (class_of p t) (at s i) v) ≡ bytes_of (store (state_of s) p v t)
  unfolding Bytes.state_of
  stored t i w e h =
      let new : ℕ = written (memory_of s) (class_of p t) (at s i) v in
      let hit : place (store (state_of s) p v t) i ≡ new = rw (place_state s i h) at (store_hit (state_of s) p v t i w e) in
      bytes_by_place (store (state_of s) p v t) (set s i new) (length-set s i new ∙ long)
      (λ j l. at_set s i new j (omega arith) ∙ case (eqb j i)
      (λ q. rw (q, eqb-true j i q) (sym hit))
      (λ q. rw q (sym (place_state s j l) ∙ sym (store_miss (state_of s) p v t j l (λ z. eqb-false j i q cc)))))

  -- a slot that takes no byte
  pub slot_kept : (r : Slot) → ((k : ℕ) × r ≡ Flag k) ⊎ (r ≡ Status ⊎ r ≡ Blank) → s ≡ bytes_of (store (state_of s) p v (seat_of r))
  unfolding store
  slot_kept r (inl (k, e)) = rw e (sym (bytes_state s long))
  slot_kept r (inr (inl e)) = rw e (sym (bytes_state s long))
  slot_kept r (inr (inr e)) = rw e (sym (bytes_state s long))

-- ---- the bytes of a write

-- one byte further
puts_more : (m : State) (p : Port) (g a : ℕ) (vs : List ℕ) (k : ℕ) → k < length vs
    → puts m p g a (take (k + 1) vs) ≡ store (puts m p g a (take k vs)) p (at vs k) (seat g (a + k))
unfolding puts
puts_more m p g a [] k h = absurd (omega arith)
puts_more m p g a (v ∷ vs) zero h = let e : a + 0 ≡ a = omega arith in rw e
puts_more m p g a (v ∷ vs) (suc k) h =
    let e : a + suc k ≡ suc a + k = omega arith in
    let f : suc k + 1 ≡ suc (k + 1) = omega arith in
    rw (f, e) (puts_more (store m p v (seat g a)) p g (suc a) vs k (omega arith))

module _ (s : List ℕ) (p : Port) (g a : ℕ) (vs : List ℕ) where
  -- the first k bytes
  abbrev pub puts_to : ℕ → List ℕ
  puts_to k = bytes_of (puts (state_of s) p g a (take k vs))

  pub puts_none : length s ≡ state_size → s ≡ puts_to 0
  unfolding puts
  puts_none e = sym (bytes_state s e)

  pub puts_next : (t u : List ℕ) (k : ℕ) → k < length vs → t ≡ puts_to k → u ≡ bytes_of (store (state_of t) p (at vs k) (seat g (a + k))) → u ≡ puts_to (k + 1)
  puts_next t u k h e f =
      let before : State = puts (state_of s) p g a (take k vs) in
      let q : state_of t ≡ before = ap state_of e ∙ state_bytes before (fits_puts (state_of s) p g a (take k vs) (fits_of s)) in
      rw (puts_more (state_of s) p g a vs k h, ← q) f

-- ---- an accepted write

-- what it relies on: its addresses end at 255, and so does the first; its record is sound
pub record Taken (s : List ℕ) (b a n : ℕ) : Type 0 where
  pub some : 1 ≤ n
  pub inside : a + n ≤ 256
  pub whole : sound (memory_of s) (record_of s b) ≡ true

module _ (s : List ℕ) (n a : ℕ) (vs : List ℕ) (taken : refusal_of s (write n a vs) ≡ 0) where
  pub write_taken : Taken s (base (caller n)) a (length vs)
  unfolding Bytes.state_of
  write_taken =
      let r = accepted_range (state_of s) n a vs (taken_state s (write n a vs) taken) in
      let w = write_relies document01 s n a vs taken in
      record { some = w.some; inside = w.inside; whole = r.3 }

  pub write_done : (t : List ℕ) (c : ℕ) → t ≡ bytes_of (puts (state_of s) (caller n) (record_of s (base (caller n)) page_at) a vs)
      → c ≡ count (record_of t (base (caller n))) → WriteDone s n a vs 0 c t
  unfolding Effects.done Bytes.state_of
  write_done t c e f = record {
    refusal_is = sym taken;
    count_is = taken_count s (write n a vs) taken t e (caller n) c f;
    state_is = taken_after s (write n a vs) taken t e;
  }
