-- Document 01, "Marked examples": M1 to M12 are a single proved table. Each kind of row has a computed test, and a row whose test passes
-- holds.
-- Assumes nothing.
use mathlib.Core.Path.{◌≡◌, refl, sym, ◌∙◌, subst}
use mathlib.Core.Logic.{⊎_elim}
use mathlib.Core.Bool.{Bool, true, false, false≢true, not, ◌&&◌, beq}
use mathlib.Core.List.Memᴰ
use mathlib.Core.List.{List, [], ◌∷◌, Memᴰ}
use Prim.Native.Nat.{ℕ, ◌+◌, ◌*◌}
use native.Mathlib.Omega.{arith}
use lib.Dec.{lit<, ltb, eqb}
use lib.IntN.{ℤ, pos, nat_abs}
use lib.Ieee.{Float, nan, inf, fin, up, down, div, of_int}
use lib.ListN.{length}
use lib.Signed.{non_neg, lt_z}
use borrow.Author.Tests.{eqb-true, le-ltb}
use Rattle.laws.specs.Tests.{one, first_of}
use Rattle.laws.specs.Bits.{bit}
use Rattle.laws.specs.Lists.{at}
use Rattle.laws.proofs.Tests.{one_le, beq_same, and_left, and_right}
use Rattle.ports.specs.Modules
use Rattle.model.specs.Ports.{State, nobody}
use Rattle.model.specs.Map.{seat}
use Rattle.model.specs.Samples.{degrees, value, temperature, supply, sampled, limit_of, four_of, conditions, conds}
use Rattle.model.specs.Readout.{Exactly, in_unit}
use Rattle.model.specs.Refusals.{read_rows, write_rows, all_mine}
use Rattle.model.specs.Marked.{Example, gains, degree, temperature_alarm, supply_warning, reads, writes, rx_limits, Holds, examples}

-- ---- one computed test for each kind

rx_limit : ℕ → ℤ
rx_limit w = pos (at rx_limits w)

-- the float is the number z / d
valued : Float → ℤ → ℕ → Bool
valued nan z d = false
valued (inf t) z d = false
valued (fin t m e) z d = beq t (not (non_neg z)) && eqb (m * up e * d) (nat_abs z * down e)

abbrev passes : State → Example → Bool
passes m (gains a b g) = eqb (16 * four_of (pos a) rx_limit + four_of (pos b) rx_limit) g
passes m (degree n z d) = valued (in_unit degrees n) z d
passes m (temperature_alarm limit n raised) = eqb (one (lt_z (value degrees limit) (value degrees n))) raised
passes m (supply_warning limit n raised) = eqb (one (ltb n limit)) raised
passes m (reads a k r) = eqb (first_of (read_rows a k k)) r
passes m (writes n a k r) = eqb (first_of ((2, nobody n) ∷ write_rows m n a k)) r

abbrev all_pass : State → List Example → Bool
all_pass m [] = true
all_pass m (r ∷ rs) = passes m r && all_pass m rs

-- ---- a row whose test passes holds

-- any state, for a test that does not look at it
any_state : State
any_state = record { mem = λ i. 0; own = λ p k. 0 }

valued_exactly : (x : Float) (z : ℤ) (d : ℕ) → valued x z d ≡ true → Exactly x z d
unfolding valued
valued_exactly nan z d e = absurd (false≢true e)
valued_exactly (inf t) z d e = absurd (false≢true e)
valued_exactly (fin t m x) z d e =
    let sign = beq t (not (non_neg z)) in
    let ratio = eqb (m * up x * d) (nat_abs z * down x) in
    (beq_same t (not (non_neg z)) (and_left sign ratio e), eqb-true (m * up x * d) (nat_abs z * down x) (and_right sign ratio e))

-- the first and the last of the four conditions of an odd channel
four_high : (n : ℤ) (limit : ℕ → ℤ)
    → (bit 7 (16 * four_of n limit + 0) ≡ one (lt_z (limit 0) n)) × (bit 4 (16 * four_of n limit + 0) ≡ one (lt_z n (limit 3)))
four_high n limit = digits (lt_z (limit 0) n) (lt_z n (limit 1)) (lt_z (limit 2) n) (lt_z n (limit 3))
  where
    digits : (a b c d : Bool)
        → (bit 7 (16 * (8 * one a + 4 * one b + 2 * one c + one d) + 0) ≡ one a) × (bit 4 (16 * (8 * one a + 4 * one b + 2 * one c + one d) + 0) ≡ one d)
    digits a b c d = let h = one_le a in let i = one_le b in let j = one_le c in let k = one_le d in omega arith

holds : (r : Example) → ((m : State) → passes m r ≡ true) → Holds r
unfolding conds conditions rx_limit Modules.refusal Modules.rows
holds (gains a b g) e = λ mem x limit number. (
  rw (limit 0 (lit< tt), limit 1 (lit< tt), limit 2 (lit< tt), limit 3 (lit< tt), number 0 (lit< tt), number 1 (lit< tt))
      (eqb-true (16 * four_of (pos a) rx_limit + four_of (pos b) rx_limit) g (e any_state)),
  rw (limit 0 (lit< tt), limit 1 (lit< tt), limit 2 (lit< tt), limit 3 (lit< tt), number 2 (lit< tt), number 3 (lit< tt)),
)
holds (degree n z d) e = valued_exactly (in_unit degrees n) z d (e any_state)
holds (temperature_alarm l n raised) e = λ mem x limit number.
    (four_high (value degrees (sampled x temperature 0)) (limit_of mem temperature)).0
    ∙ rw (limit, number) (eqb-true (one (lt_z (value degrees l) (value degrees n))) raised (e any_state))
holds (supply_warning l n raised) e = λ mem x limit number.
    (four_high (pos (sampled x supply 0)) (limit_of mem supply)).1
    ∙ rw (limit, number) (eqb-true (one (ltb n l)) raised (e any_state))
holds (reads a k r) e = λ m n port ok out room.
    rw (port, ok, le-ltb (length out) k room) (rw (le-ltb k k (omega arith)) at (eqb-true (first_of (read_rows a k k)) r (e m)))
holds (writes n a k r) e = λ m ok vs len. rw (ok, len) (eqb-true (first_of ((2, nobody n) ∷ write_rows m n a k)) r (e m))

all_hold : (rs : List Example) → ((m : State) → all_pass m rs ≡ true) → (r : Example) → Memᴰ r rs → Holds r
all_hold [] e r i = elim i [ ]
all_hold (q ∷ rs) e r i = ⊎_elim
    (λ z. subst Holds (sym z) (holds q (λ m. and_left (passes m q) (all_pass m rs) (e m))))
    (λ j. all_hold rs (λ m. and_right (passes m q) (all_pass m rs) (e m)) r j) (Memᴰ.cases_cons i)

-- "M1 to M12 form a single proved table"
pub marked : (r : Example) → Memᴰ r examples → Holds r
unfolding valued rx_limit div of_int all_mine seat
marked = all_hold examples (λ m. refl)
