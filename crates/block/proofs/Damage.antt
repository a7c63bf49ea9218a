-- A sound block of which any one byte is changed is unsound: a byte before 510 changes the sum by less than 256 and leaves the check, and
-- a byte of the check leaves the sum.
-- Assumes nothing.
use mathlib.Core.Path.{◌≡◌, sym, ap, ◌∙◌}
use mathlib.Core.Logic.{◌≢◌}
use mathlib.Core.Bool.{true, false}
use mathlib.Core.List.{List}
use Prim.Native.Nat.{ℕ, zero, suc, ◌+◌, ◌/◌, ◌%◌, ◌≤◌, ◌<◌}
use native.Mathlib.Omega.{arith}
use lib.Dec.{ltb, eqb}
use lib.ListN.{length, set}
use lib.Seq.{get_or-set_same, get_or-set_other}
use borrow.Author.Tests.{ltb-true, ltb-false, eqb-true, eqb-false}
use Rattle.laws.specs.Lists.{at, table, sum}
use Rattle.laws.proofs.Tests.{case}
use Rattle.laws.proofs.Parts.{table_same}
use Rattle.laws.proofs.Zeros.{sum_table}
use Rattle.block.specs.Block.{block_size, check_of, sound_block, Bytes}
use Rattle.block.proofs.Sealed.{check_by}
use Rattle.block.proofs.Blocks.{sound_check}

-- two tables that differ at one place alone
sum_change : (n : ℕ) (f g : ℕ → ℕ) (j : ℕ) → j < n → ((i : ℕ) → i < n → i ≢ j → g i ≡ f i) → sum (table n g) + f j ≡ sum (table n f) + g j
sum_change zero f g j h same = absurd (omega arith)
sum_change (suc n) f g j h same =
    let a = sum_table n f in
    let b = sum_table n g in
    case (eqb j n)
    (λ t. let z = eqb-true j n t in
    let e : sum (table n g) ≡ sum (table n f) = ap sum (table_same n g f (λ i k. same i (omega arith) (λ y. omega arith))) in
    let x : f j ≡ f n = ap f z in let y : g j ≡ g n = ap g z in omega arith)
    (λ t. let d = eqb-false j n t in
    let e = sum_change n f g j (omega arith) (λ i k. same i (omega arith)) in
    let x : g n ≡ f n = same n (omega arith) (λ y. d (sym y)) in omega arith)

module _ (b : List ℕ) (long : length b ≡ block_size) (bytes : Bytes b) (fine : sound_block b ≡ true) (j v : ℕ) (here : j < block_size) (byte : v < 256) (new : v ≢ at b j) where
  changed : List ℕ
  changed = set b j v

  at_new : at changed j ≡ v
  unfolding changed
  at_new = get_or-set_same b j v 0 (omega arith)

  at_old : (i : ℕ) → i ≢ j → at changed i ≡ at b i
  unfolding changed
  at_old i d = get_or-set_other b j i v 0 d

  -- before byte 510 the sum tells it
  told_by_sum : j < 510 → sound_block changed ≡ true → ⊥
  unfolding check_of
  told_by_sum h e =
      let (high, low) = sound_check changed e in
      let (was_high, was_low) = sound_check b fine in
      let same_high = at_old 510 (λ z. omega arith) in
      let same_low = at_old 511 (λ z. omega arith) in
      let sums = sum_change 510 (at b) (at changed) j h (λ i k d. at_old i d) in
      let now = at_new in
      let small = bytes j in
      omega (arith, new)

  -- the check itself is what the bytes before it say
  told_by_check : 510 ≤ j → sound_block changed ≡ true → ⊥
  told_by_check h e =
      let (high, low) = sound_check changed e in
      let (was_high, was_low) = sound_check b fine in
      let same : check_of (at changed) ≡ check_of (at b) = check_by (at changed) (at b) (λ i k. at_old i (λ z. omega arith)) in
      case (eqb j 510)
      (λ t. let z = eqb-true j 510 t in new (sym at_new ∙ ap (at changed) z ∙ high ∙ ap (λ n. n / 256) same ∙ sym was_high ∙ ap (at b) (sym z)))
      (λ t. let d = eqb-false j 510 t in let z : j ≡ suc 510 = omega (arith, d) in
      new (sym at_new ∙ ap (at changed) z ∙ low ∙ ap (λ n. n % 256) same ∙ sym was_low ∙ ap (at b) (sym z)))

  pub block_damaged : sound_block (set b j v) ≡ false
  unfolding changed
  block_damaged = case (sound_block (set b j v))
      (λ t. absurd (case (ltb j 510) (λ q. told_by_sum (ltb-true j 510 q) t) (λ q. told_by_check (ltb-false j 510 q) t)))
      (λ t. t)
