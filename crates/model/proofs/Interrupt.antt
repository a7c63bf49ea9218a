-- Demand 2, the interrupt, and document 01's count: what ports proves of any list of pairs, at the eleven. Byte 2 is a number of three
-- binary digits, the second of which is the pin.
-- Assumes nothing.
use mathlib.Core.Path.{◌≡◌, refl, sym, ◌∙◌}
use mathlib.Core.Logic.{◌↔◌}
use mathlib.Core.Bool.{true, not}
use mathlib.Core.List.{List, map, Memᴰ, Nodup}
use Prim.Native.Nat.{ℕ, ◌+◌, ◌*◌, ◌≤◌, ◌<◌}
use native.Mathlib.Omega.{arith}
use lib.Bits.{bit_and, bit_xor}
use lib.Count.{ones}
use lib.ListN.{length}
use borrow.Author.Tests.{not-false}
use Rattle.ports.specs.Interrupt.{UnmaskedOf}
use Rattle.laws.specs.Tests.{one}
use Rattle.laws.specs.Bits.{bit}
use Rattle.laws.specs.Lists.{sum}
use Rattle.laws.proofs.Tests.{one_le, one_none}
use Rattle.laws.proofs.Bits.{bit_small, bit_beyond}
use Rattle.ports.proofs.Interrupt
pub use Rattle.ports.proofs.Interrupt.{ones_through}
use Rattle.model.specs.Ports.{Places}
use Rattle.model.specs.Map.{status_at}
use Rattle.model.specs.Interrupt.{Pair, pairs, count, stands}
use Rattle.model.specs.Reading.{status_byte}

-- "the number of raised flags that its masks let through": there is a list of these, each once, and the count is its length
pub count_listed : (o : Places) → (l : List (Pair × ℕ)) × (count o ≡ length l) × Nodup l × ((x : Pair × ℕ) → Memᴰ x l ↔ ((u : UnmaskedOf pairs o) × (x ≡ (u.pair, u.j))))
count_listed = Interrupt.count_listed pairs refl

-- Demand 2: "A port's interrupt stands exactly when a raised flag is unmasked there."
pub interrupt_rule : (o : Places) → (stands o ≡ true) ↔ UnmaskedOf pairs o
interrupt_rule = Interrupt.interrupt_rule pairs

-- "Ones counted in each flag byte with its masked bits taken away .., added over eleven pairs"
pub count_ones : (o : Places) → ((k : ℕ) → o k < 256)
    → count o ≡ sum (map (λ pr. ones (bit_xor (o pr.flag_byte) (bit_and (o pr.flag_byte) (o pr.mask_byte)))) pairs)
count_ones = Interrupt.count_ones pairs

-- eleven pairs of eight bits
pub count_most : (o : Places) → count o ≤ 88
count_most = Interrupt.count_most pairs

-- ---- byte 2

-- its bits 2 and 0 are those that are stored, its bit 1 is the pin
status_digits : (mem o : Places) → (status_byte mem o < 8) × (bit 2 (status_byte mem o) ≡ bit 2 (mem status_at))
    × (bit 1 (status_byte mem o) ≡ one (not (stands o))) × (bit 0 (status_byte mem o) ≡ bit 0 (mem status_at))
status_digits mem o =
    digits (bit 2 (mem status_at)) (one (not (stands o))) (bit 0 (mem status_at))
    (bit_small 2 (mem status_at)) (one_le (not (stands o))) (bit_small 0 (mem status_at))
  where
    digits : (a b c : ℕ) → a < 2 → b ≤ 1 → c < 2
        → (4 * a + 2 * b + c < 8) × (bit 2 (4 * a + 2 * b + c) ≡ a) × (bit 1 (4 * a + 2 * b + c) ≡ b) × (bit 0 (4 * a + 2 * b + c) ≡ c)
    digits a b c h k l = omega arith

-- "Byte 2 has .. bit 1 the level of the port's IntL pin (1 when no interrupt stands)"
pub pin_rule : (mem o : Places) → (bit 1 (status_byte mem o) ≡ 0) ↔ (stands o ≡ true)
pin_rule mem o =
    let d = (status_digits mem o).2 in
    (λ z. not-false (stands o) (one_none (not (stands o)) (sym d ∙ z)), λ e. d ∙ rw e)

-- "Byte 2 has bits 2 and 0 as stored, .. others 0"
pub status_bits : (mem o : Places)
    → (bit 2 (status_byte mem o) ≡ bit 2 (mem status_at)) × (bit 0 (status_byte mem o) ≡ bit 0 (mem status_at))
    × ((j : ℕ) → 3 ≤ j → bit j (status_byte mem o) ≡ 0)
status_bits mem o =
    let d = status_digits mem o in
    (d.1, d.3, λ j h. bit_beyond 3 j (status_byte mem o) d.0 h)
