-- Writes: an accepted write replaces one record by one in which the addressed mask bytes are what was written, cut to their mask bits. The
-- bits that are cut off are 0 before and after, since the record is sound.
-- Assumes nothing.
use Rattle.std.specs.Prelude.{if◌then◌else◌}
use mathlib.Core.Path.{◌≡◌, refl, sym, ap, ◌∙◌}
use mathlib.Core.Bool.{true, false}
use mathlib.Core.List.{List}
use Prim.Native.Nat.{ℕ, ◌+◌, ◌-◌, ◌<◌}
use native.Mathlib.Omega.{arith}
use lib.Bits.{bit_and}
use lib.Dec.{eqb}
use lib.ListN.{length}
use borrow.Author.Tests.{eqb-true, eq-eqb, not-true, not-false}
use Rattle.laws.specs.Tests.{covers}
use Rattle.laws.specs.Bits.{bit, has}
use Rattle.laws.specs.Lists.{at}
use Rattle.laws.proofs.Tests.{case, and_left, and_right, covers_in, covers_true}
use Rattle.laws.proofs.Bits.{has_bit, lacks_bit, bit_small, bit_and_lem}
use Rattle.laws.proofs.Rows.{first_none}
use Rattle.ports.specs.Ports.{caller, Places, State, write}
use Rattle.ports.specs.Modules.{base, state_size, refusal, rows}
use Rattle.ports.specs.Effects.{done}
use Rattle.ports.specs.Bytes.{state_of, place, refusal_of, after}
use Rattle.ports.proofs.Ports.{give_elim, give_own}
use Rattle.ports.proofs.Bytes.{base_fits, place_memory, place_own, Spot, in_memory, in_record, spot, bytes_at, memory_at, record_at}
use Rattle.ports.proofs.Steps.{taken_state}
use Rattle.eight.specs.Tables.{masks, mask_bits, mask_of}
use Rattle.eight.specs.Module.{written, sound, eight}
use Rattle.eight.specs.Demands.{WriteRule}
use Rattle.eight.proofs.Sound.{sound_exact}
use Rattle.eight.proofs.Lawful.{lawful}
use Rattle.eight.proofs.Shown.{mask_bits_lem}

-- the record of a write's caller is sound: refusal 3
caller_sound : (m : State) (n a : ℕ) (vs : List ℕ) → eqb (refusal eight m (write n a vs)) 0 ≡ true → sound (m.own (caller n)) ≡ true
unfolding refusal rows
caller_sound m n a vs e =
    let r = (first_none (rows eight m (write n a vs)) refl).0 (eqb-true (refusal eight m (write n a vs)) 0 e) in
    search (and_left, and_right, not-true, not-false)

-- an addressed mask byte takes what is written there, cut to its mask bits
written_mask : (a : ℕ) (vs : List ℕ) (o : Places) (i : ℕ) → i < masks.many → covers a (length vs) (masks.first + i) ≡ true
    → written a vs o (mask_of i) ≡ bit_and (at vs (masks.first + i - a)) (at mask_bits i)
unfolding written
written_mask a vs o i l c =
    let z : mask_of i - mask_of 0 ≡ i = omega arith in
    rw (covers_in (mask_of 0) masks.many (mask_of i) (omega arith) (omega arith), z, c)

module _ (s : List ℕ) (n a : ℕ) (vs : List ℕ) (taken : refusal_of eight s (write n a vs) ≡ 0) where
  m : State
  m = state_of eight s

  left : State
  left = eight.puts m (caller n) a vs

  after_at : (k : ℕ) → k < state_size eight → at (after eight s (write n a vs)) k ≡ place eight left k
  unfolding after done left m
  after_at k h = rw (eq-eqb (refusal_of eight s (write n a vs)) 0 taken) (bytes_at eight (done eight (state_of eight s) (write n a vs)) k h)

  mask_after : (i : ℕ) → i < masks.many → covers a (length vs) (masks.first + i) ≡ true
      → at (after eight s (write n a vs)) (base eight (caller n) + mask_of i) ≡ bit_and (at vs (masks.first + i - a)) (at mask_bits i)
  unfolding left m
  mask_after i l c =
      after_at (base eight (caller n) + mask_of i) (base_fits eight (caller n) (mask_of i) (omega arith)).1
      ∙ place_own eight left (caller n) (mask_of i) (omega arith)
      ∙ ap (λ (o : Places). o (mask_of i)) (give_own m.own (caller n) (written a vs (m.own (caller n))))
      ∙ written_mask a vs (m.own (caller n)) i l c

  -- a bit that takes no write is 0 before it
  spare : (i j : ℕ) → i < masks.many → j < 8 → has j (at mask_bits i) ≡ false → bit j (at s (base eight (caller n) + mask_of i)) ≡ 0
  spare i j l h t =
      let o : Places = (state_of eight s).own (caller n) in
      let whole = caller_sound (state_of eight s) n a vs (taken_state eight lawful s (write n a vs) taken) in
      ap (bit j) (sym (record_at eight s (caller n) (mask_of i) (omega arith)))
      ∙ lacks_bit j (o (mask_of i)) ((sound_exact o).0 whole (mask_of i) j (omega arith) h (ap (has j) (mask_bits_lem i l) ∙ t))

  -- of an addressed mask byte the mask bits take the written value, the others stay
  write_bits : (i j : ℕ) → i < masks.many → j < 8 → covers a (length vs) (masks.first + i) ≡ true
      → bit j (at (after eight s (write n a vs)) (base eight (caller n) + mask_of i))
      ≡ (if has j (at mask_bits i) then bit j (at vs (masks.first + i - a)) else bit j (at s (base eight (caller n) + mask_of i)))
  write_bits i j l h c =
      let v = at vs (masks.first + i - a) in
      let b = at mask_bits i in
      ap (bit j) (mask_after i l c) ∙ bit_and_lem j v b ∙ case (has j b)
      (λ t. let q = has_bit j b t in rw t (omega (arith, bit_small j v)))
      (λ t. let q = lacks_bit j b t in let z = spare i j l h t in rw t (omega arith))

  -- every other byte of the state stays
  write_elsewhere : (k : ℕ) → k < state_size eight
      → ((i : ℕ) → i < masks.many → covers a (length vs) (masks.first + i) ≡ true → k ≡ base eight (caller n) + mask_of i → ⊥)
      → at (after eight s (write n a vs)) k ≡ at s k
  unfolding left m
  write_elsewhere k h off = after_at k h ∙ go k (spot eight k h) off
    where
      Off : ℕ → Type 0
      Off k = (i : ℕ) → i < masks.many → covers a (length vs) (masks.first + i) ≡ true → k ≡ base eight (caller n) + mask_of i → ⊥

      kept : (r : ℕ) → Off (base eight (caller n) + r) → written a vs (m.own (caller n)) r ≡ m.own (caller n) r
      kept r off = unfold written in case (covers (mask_of 0) masks.many r)
          (λ t. case (covers a (length vs) (masks.first + (r - mask_of 0)))
          (λ u. let e = covers_true (mask_of 0) masks.many r t in
          let x = e.0 in let y = e.1 in
          let q : r ≡ mask_of (r - mask_of 0) = omega arith in
          absurd (off (r - mask_of 0) (omega arith) u (ap (λ (z : ℕ). base eight (caller n) + z) q)))
          (λ u. rw (t, u)))
          (λ t. rw t)

      go : (k : ℕ) → Spot eight k → Off k → place eight left k ≡ at s k
      go k (in_memory i l) off = place_memory eight left i l ∙ memory_at eight s i l
      go k (in_record p r l) off =
          place_own eight left p r l
          ∙ give_elim (λ q o. Off (base eight q + r) → o r ≡ m.own q r) m.own (caller n) (written a vs (m.own (caller n))) (kept r) (λ q off. refl) p off
          ∙ record_at eight s p r l

-- "A write changes the writable bits it addresses and nothing else."
pub write_rule : (s : List ℕ) (n a : ℕ) (vs : List ℕ) → refusal_of eight s (write n a vs) ≡ 0 → WriteRule s n a vs
write_rule s n a vs taken = record { bits = write_bits s n a vs taken; elsewhere = write_elsewhere s n a vs taken }
