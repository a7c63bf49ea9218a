-- Document 02, Ask 1: each refusal of the calls on a log is given exactly when the ask says so, and in its order; what a log may be;
-- and that the first block is the ask's own.
-- Assumes nothing.
use mathlib.Core.Path.{◌≡◌, refl, ◌∙◌}
use mathlib.Core.Bool.{false, ◌&&◌, ◌||◌}
use mathlib.Core.List.{List, [], ◌∷◌}
use Prim.Native.Nat.{ℕ, suc, ◌≤◌, ◌<◌}
use native.Mathlib.Omega.{arith}
use lib.Dec.{leb, eqb}
use lib.ListN.{length}
use borrow.Author.Tests.{lt-leb, ne_eqb}
use Rattle.laws.specs.Tests.{none_of, numbers_of, InOrder}
use Rattle.laws.specs.Lists.{table}
use Rattle.laws.proofs.Rows.{in_order, first_none}
use Rattle.block.specs.Block.{block_size, number, count, fresh}
use Rattle.log_model.specs.Log.{blocks, block, needs_new, after_power_up, wrong_sample, unsound, none_left, add_rows, power_up_rows, sample_rows}
use Rattle.log_model.specs.Outcomes.{add_refusal, power_up_refusal}
use Rattle.block.specs.Examples.{first_opened}
use Rattle.block.proofs.Blocks.{fresh_length}
use Rattle.block.proofs.Examples.{first_block}
use Rattle.log_model.proofs.BlockByBlock.{put_here}

-- ---- in the ask's order

-- "refuse 8, before both"; "refuse 15, before 14"
pub add_in_order : (log : List ℕ) (used : ℕ) (x : List ℕ) → (numbers_of (add_rows log used x) ≡ 8 ∷ 15 ∷ 14 ∷ []) × InOrder (add_rows log used x)
add_in_order log used x = (refl, in_order (add_rows log used x) refl)

pub power_up_in_order : (log : List ℕ) (used : ℕ) → (numbers_of (power_up_rows log used) ≡ 15 ∷ 14 ∷ []) × InOrder (power_up_rows log used)
power_up_in_order log used = (refl, in_order (power_up_rows log used) refl)

-- "refuse 17, after 15, for a position past the last"
pub sample_in_order : (log : List ℕ) (used k : ℕ) → (numbers_of (sample_rows log used k) ≡ 15 ∷ 17 ∷ []) × InOrder (sample_rows log used k)
sample_in_order log used k = (refl, in_order (sample_rows log used k) refl)

-- ---- what a log may be

-- a last block with room takes a sample, whatever its number
pub room_suffices : (log : List ℕ) (used : ℕ) (x : List ℕ) → wrong_sample x ≡ false → unsound log used ≡ false → needs_new log used ≡ false → add_refusal log used x ≡ 0
room_suffices log used x a b c = (first_none (add_rows log used x) refl).1 (λ i. none_of ((8, a i) ∷ (15, b i) ∷ (14, (c i && none_left log used)) ∷ []))

-- a power-up opens a block also after an empty one, while a block is left and the last number is below 4294967295
pub opens_always : (log : List ℕ) (n : ℕ) → unsound log (suc n) ≡ false → count (block log n) ≡ 0 → suc n < blocks log
    → number (block log n) < 4294967295 → power_up_refusal log (suc n) ≡ 0
opens_always log n good empty room small =
    let l : leb (blocks log) (suc n) ≡ false = lt-leb (blocks log) (suc n) room in
    let e : eqb (number (block log n)) 4294967295 ≡ false = ne_eqb (number (block log n)) 4294967295 (λ q. omega (arith, q, small)) in
    (first_none (power_up_rows log (suc n)) refl).1 (λ i. none_of ((15, good i) ∷ (14, (l i || e i)) ∷ []))

-- ---- "Block 1 with no samples has 1 in byte 3 .. and zeros elsewhere"; "(Ask 1's empty block: 504 is 1, 511 is 2)"

-- it is what a power-up leaves of the first block of any memory
pub first_opened_lem : (log : List ℕ) → block_size ≤ length log → block (after_power_up log 0) 0 ≡ table block_size first_opened
first_opened_lem log h = put_here log 0 (fresh 1) (fresh_length 1) (omega arith) ∙ first_block
