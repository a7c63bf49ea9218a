-- Where the records stand. The refusals of a call in steps, as the code finds them. A record is sound by the two bytes that have fewer
-- than eight flags alone. And two runs of a record replaced.
-- Assumes nothing.
use Rattle.std.specs.Prelude.{if◌then◌else◌, Option, None, Err, MatchOption}
use Rattle.std.specs.Option.{ok_or}
use mathlib.Core.Path.{◌≡◌, refl, ap, ◌∙◌}
use mathlib.Core.Logic.{◌≢◌}
use mathlib.Core.Bool.{Bool, false, ◌&&◌, and-true}
use mathlib.Core.List.{List, ◌∷◌, ◌++◌}
use Prim.Native.Nat.{ℕ, ◌+◌, ◌-◌, ◌≤◌, ◌<◌}
use native.Mathlib.Omega.{arith}
use lib.Bits.{bit_and, and_zero_r}
use lib.Dec.{eqb, ltb}
use lib.ListN.{length}
use borrow.Author.Tests.{eq-eqb, ne_eqb, ltb-true, ltb-false}
use Rattle.std.proofs.Common.{lit≤}
use Rattle.std.proofs.Math.Bool.{and_assoc}
use Rattle.laws.specs.Tests.{Row, first_of}
use Rattle.laws.specs.Lists.{at, patch}
use Rattle.laws.proofs.Tests.{case, if_not}
use Rattle.laws.proofs.Lists.{patch_length, patch_in, patch_below, patch_above, patch_else, is_patch}
use Rattle.ports.specs.Ports.{Port, operator, recorder, nobody, caller, Places}
use Rattle.ports.specs.Modules.{base, state_size, wrong_size, port_rows}
use Rattle.ports.specs.Bytes.{record_of, state_of, rows_of, refusal_of}
use Rattle.ports.proofs.Taken.{port_first}
use Rattle.eight.specs.Tables.{record_size}
use Rattle.eight.specs.Module.{sound, eight, Call}
use Rattle.refusal.specs.Numbers.{number}
use Rattle.refusal.specs.declared.Refusal.{Refusal}
use Rattle.refusal.specs.declared.Refusal.TheVariants.{StateSize}
use Rattle.refusal.proofs.Unique.{none_is_0}
use Rattle.both.specs.Ports.{port_number}
use Rattle.both.specs.declared.Port.{Port as CodePort}
use Rattle.both.specs.declared.Port.TheVariants.{Operator, Recorder}

-- the records stand behind the memory
pub record_fits : (p : Port) → base eight p + record_size ≤ state_size eight
record_fits operator = lit≤ tt
record_fits recorder = lit≤ tt

-- a port's number is somebody's
a_port : (p : CodePort) → nobody (port_number p) ≡ false
a_port Operator = refl
a_port Recorder = refl

-- the refusals 2 and 3 of a port that was found, with the soundness of its record
pub port_found : (s : List ℕ) (p : CodePort) {n : ℕ} {a : Bool} → port_number p ≡ n → a ≡ sound (record_of eight s (base eight (caller (port_number p))))
    → first_of (port_rows eight (state_of eight s) n) ≡ (if a then 0 else 3)
unfolding state_of
port_found s p {n} {a} is e = rw (← is, a_port p, e) (if_not (sound (record_of eight s (base eight (caller (port_number p))))) 3 0)

-- of any call by a port those come first, and then its own
module _ (s : List ℕ) (n : ℕ) (own : List Row) (long : length s ≡ state_size eight) where
  abbrev first_own : ℕ
  first_own = first_of ((1, wrong_size eight s) ∷ port_rows eight (state_of eight s) n ++ own)

  pub refused_first : (r : Refusal) → number r ≡ first_of (port_rows eight (state_of eight s) n) → number r ≡ first_own
  refused_first r e = port_first eight s n own {r = number r} (rw (eq-eqb (length s) (state_size eight) long) e) (rw (ne_eqb (number r) 0 (none_is_0 r)))

  pub taken_first : {r : ℕ} → 0 ≡ first_of (port_rows eight (state_of eight s) n) → r ≡ first_of own → r ≡ first_own
  taken_first e f = port_first eight s n own {r = 0} (rw (eq-eqb (length s) (state_size eight) long) e) f

-- a state of another length is refused 1: `as_mut_array` has none
pub wrong_long : {A : Type 0} (P : A → Type 0) (s : List ℕ) (c : Call) (o : Option A) (r : Refusal) → MatchOption o (length s ≢ state_size eight) P → o ≡ None
    → Err r ≡ ok_or o StateSize → number r ≡ refusal_of eight s c
unfolding refusal_of rows_of
wrong_long P s c o r d none is =
    let off = rw none at d in
    let e : r ≡ StateSize = let k = rw none at is in cc in
    rw (e, ne_eqb (length s) (state_size eight) off)

-- of a byte that may have all eight bits there is nothing to test
pub sound_short : (o : Places)
    → sound o ≡ (eqb (bit_and (o 5) 15) 0 && eqb (bit_and (o 6) 48) 0 && eqb (bit_and (o 19) 15) 0 && eqb (bit_and (o 20) 49) 0 && eqb (bit_and (o 33) 15) 0 && eqb (bit_and (o 34) 48) 0)
unfolding sound
sound_short o = simp (and_zero_r, and-true, and_assoc)

-- ---- two runs of the record at b: its flags, and its pending bits

module _ (s t : List ℕ) (b : ℕ) (f : ℕ → ℕ) (room : b + 42 ≤ length s) (e : t ≡ patch b 14 f s) where
  t_long : length t ≡ length s
  t_long = ap length e ∙ patch_length b 14 f s

  -- the first leaves the second
  pub second_run : (k : ℕ) → k < 14 → at t (b + 28 + k) ≡ at s (b + 28 + k)
  second_run k l = rw e (patch_above b 14 f s (b + 28 + k) (omega arith) (omega arith))

  -- both leave what h says of the record
  pub two_runs : (u : List ℕ) (g : ℕ → ℕ) → u ≡ patch (b + 28) 14 g t → (h : ℕ → ℕ) → ((k : ℕ) → k < 14 → f k ≡ h k) → ((k : ℕ) → k < 14 → g k ≡ h (28 + k))
      → ((k : ℕ) → 14 ≤ k → k < 28 → at s (b + k) ≡ h k) → u ≡ patch b 42 h s
  two_runs u g d h first second between =
      let lt = t_long in
      let lu : length u ≡ length t = ap length d ∙ patch_length (b + 28) 14 g t in
      is_patch b 42 h s u (lu ∙ lt) (λ j l m. case (ltb j 14)
      (λ x. let y = ltb-true j 14 x in let here : at t (b + j) ≡ f j = rw e (patch_in b 14 f s j y m) in under j (omega arith) ∙ here ∙ first j y)
      (λ x. let y = ltb-false j 14 x in case (ltb j 28)
      (λ v. let w = ltb-true j 28 v in let here : at t (b + j) ≡ at s (b + j) = rw e (patch_above b 14 f s (b + j) m (omega arith)) in under j w ∙ here ∙ between j y w)
      (λ v. let w = ltb-false j 28 v in
      let z : b + 28 + (j - 28) ≡ b + j = omega arith in let q : 28 + (j - 28) ≡ j = omega arith in
      let here : at u (b + 28 + (j - 28)) ≡ g (j - 28) = rw d (patch_in (b + 28) 14 g t (j - 28) (omega arith) (omega arith)) in
      rw (z, q) at (here ∙ second (j - 28) (omega arith)))))
      (λ i l no.
      let over : at u i ≡ at t i = rw d (patch_else (b + 28) 14 g t i (omega arith) (λ x y. no (omega arith) (omega arith))) in
      let below : at t i ≡ at s i = rw e (patch_else b 14 f s i l (λ x y. no (omega arith) (omega arith))) in over ∙ below)
    where
      under : (j : ℕ) → j < 28 → at u (b + j) ≡ at t (b + j)
      under j l = let lt = t_long in rw d (patch_below (b + 28) 14 g t (b + j) (omega arith) (omega arith))
