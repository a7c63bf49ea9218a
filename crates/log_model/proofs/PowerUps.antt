-- Document 02, Ask 1: what a power-up leaves. The new block follows the last used one, so a sound log stays sound; it is empty, so no
-- sample changes; and nothing is changed but that block.
-- Assumes nothing.
use mathlib.Core.Path.{◌≡◌, refl, ◌∙◌}
use mathlib.Core.Logic.{◌≢◌}
use mathlib.Core.Bool.{true, false, not, ◌&&◌}
use mathlib.Core.List.{List, append-nil}
use Prim.Native.Nat.{ℕ, zero, suc, ◌+◌, ◌*◌, ◌≤◌, ◌<◌}
use native.Mathlib.Omega.{arith}
use lib.Dec.{leb, eqb}
use lib.ListN.{length}
use borrow.Author.Tests.{eqb-false, leb-false, not-true}
use Rattle.laws.specs.Lists.{at}
use Rattle.laws.proofs.Tests.{and_left, and_right, or_left, or_right}
use Rattle.laws.proofs.Rows.{first_none}
use Rattle.block.specs.Block.{block_size, number, Bytes}
use Rattle.log_model.specs.Log.{blocks, samples, last_number, needs_new, new_block, after_power_up, unsound, none_left, power_up_rows, Fit}
use Rattle.log_model.specs.Outcomes.{power_up_refusal}
use Rattle.block.proofs.Blocks.{fresh_length, fresh_count, fresh_samples, fresh_sound, fresh_number}
use Rattle.log_model.proofs.BlockByBlock.{put_length, put_else, put_here, bytes_block}
use Rattle.log_model.proofs.Fits.{fit, next_new, put_fit, put_samples}

-- the last used block's number, where it is not the last of all
pub next_small : (log : List ℕ) (used : ℕ) → Bytes log → used ≤ blocks log → last_number log used ≢ 4294967295 → suc (last_number log used) < 4294967296
next_small log zero bytes h d = omega arith
next_small log (suc n) bytes h d =
    let byte = bytes_block log n bytes (omega arith) in
    let b₀ = byte 0 in
    let b₁ = byte 1 in
    let b₂ = byte 2 in
    let b₃ = byte 3 in
    omega (arith, d)

-- what is not refused 14
pub left_over : (log : List ℕ) (used : ℕ) → none_left log used ≡ false → (used < blocks log) × (last_number log used ≢ 4294967295)
left_over log used e = (
  leb-false (blocks log) used (or_left (leb (blocks log) used) (eqb (last_number log used) 4294967295) e),
  eqb-false (last_number log used) 4294967295 (or_right (leb (blocks log) used) (eqb (last_number log used) 4294967295) e),
)

module _ (log : List ℕ) (used : ℕ) (bytes : Bytes log) (was : Fit log used) (free : none_left log used ≡ false) where
  small : suc (last_number log used) < 4294967296
  small = next_small log used bytes was.fits (left_over log used free).1

  pub new_number : number (new_block log used) ≡ suc (last_number log used)
  new_number = fresh_number (suc (last_number log used)) small

  -- the sound log stays sound, with one block more
  pub power_up_sound : Fit (after_power_up log used) (suc used)
  power_up_sound =
      put_fit log used was.whole (left_over log used free).0 was.good (new_block log used) (fresh_length _)
      (fresh_sound _) (rw new_number (next_new log used))

  -- "a power-up changes no sample"
  pub power_up_samples : samples (after_power_up log used) (suc used) ≡ samples log used
  power_up_samples =
      put_samples log used was.whole (left_over log used free).0 was.good (new_block log used) (fresh_length _)
      (fresh_sound _) (rw new_number (next_new log used))
      ∙ rw (fresh_samples _) (append-nil (samples log used))

  -- numbers rise by one
  pub power_up_number : last_number (after_power_up log used) (suc used) ≡ suc (last_number log used)
  power_up_number =
      let room = (left_over log used free).0 in
      rw (put_here log used (new_block log used) (fresh_length _) (omega arith)) new_number

-- ---- a power-up that is accepted

module _ (log : List ℕ) (used : ℕ) (taken : power_up_refusal log used ≡ 0) where
  pub power_up_taken : Fit log used × (none_left log used ≡ false)
  power_up_taken =
      let u = unsound log used in
      let f = none_left log used in
      let all = (first_none (power_up_rows log used) refl).0 taken in
      (fit log used (not-true u (and_left (not u) (not f && true) all)), not-true f (and_left (not f) true (and_right (not u) (not f && true) all)))

  pub power_up_room : block_size * used + block_size ≤ length log
  power_up_room = let h = (left_over log used power_up_taken.1).0 in omega arith

  -- no byte is changed but those of the new block, and no length
  pub power_up_elsewhere : (i : ℕ) → i < length log → (block_size * used ≤ i → i < block_size * used + block_size → ⊥) → at (after_power_up log used) i ≡ at log i
  power_up_elsewhere i h = put_else log used (new_block log used) i h

  pub power_up_length : length (after_power_up log used) ≡ length log
  power_up_length = put_length log used (new_block log used)

  -- the sample that comes next goes into the new block
  pub power_up_takes : needs_new (after_power_up log used) (suc used) ≡ false
  power_up_takes = rw (put_here log used (new_block log used) (fresh_length _) power_up_room, fresh_count _)
