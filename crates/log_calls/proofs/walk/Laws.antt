-- A log is sound if each of its blocks is, and each number but the first is the one before it plus 1.
-- Assumes nothing.
use Rattle.std.proofs.Common.{◌≡◌, ℕ, zero, suc, ◌+◌, ◌≤◌, ◌<◌, ◌↔◌, Bool, true, false, ◌&&◌, List, [], length, get_or, refl, sym, ap, ◌∙◌, add-one, arith, eq-eqb, eqb-true}
use Rattle.std.specs.List.{concat}
use Rattle.laws.proofs.Tests.{case, same_test, not_both, and_left, and_right, and_both}
use Rattle.block.specs.Block.{number, sound_block, Bytes}
use Rattle.log_model.specs.Log.{block, blocks, follows, sound, Fit}
use Rattle.log_model.proofs.BlockByBlock.{sound_block_lem, sound_follows, sound_less, bytes_block}
use Rattle.log_calls.proofs.Blocks.{Whole, joined_block}

module _ (bs : List (List ℕ)) (whole : Whole bs) where
  -- each block is sound
  abbrev pub AllFine : Type 0
  AllFine = (k : ℕ) → k < length bs → sound_block (get_or bs k []) ≡ true

  -- the numbers of neighbours rise by one
  abbrev pub AllNext : Type 0
  AllNext = (k : ℕ) → k + 1 < length bs → number (get_or bs (k + 1) []) ≡ suc (number (get_or bs k []))

  sound_to : AllFine → AllNext → (n : ℕ) → n ≤ length bs → sound (concat bs) n ≡ true
  unfolding sound
  sound_to fine next zero h = refl
  sound_to fine next (suc n) h =
      and_both (sound_to fine next n (omega arith)) (and_both (ap sound_block (joined_block bs whole n (omega arith)) ∙ fine n (omega arith)) (by n h))
    where
      by : (n : ℕ) → suc n ≤ length bs → follows (concat bs) n ≡ true
      by zero h = refl
      by (suc m) h =
          rw (joined_block bs whole (suc m) (omega arith), joined_block bs whole m (omega arith))
          (eq-eqb (number (get_or bs (suc m) [])) (suc (number (get_or bs m []))) (rw add-one at (next m (omega arith))))

  module _ (s : sound (concat bs) (length bs) ≡ true) where
    sound_fine : AllFine
    sound_fine k h = ap sound_block (sym (joined_block bs whole k h)) ∙ sound_block_lem (concat bs) (length bs) k h s

    sound_next : AllNext
    sound_next k h =
        let e : follows (concat bs) (suc k) ≡ true = sound_follows (concat bs) (length bs) (suc k) (omega arith) s in
        rw (add-one, ← joined_block bs whole (suc k) (omega arith), ← joined_block bs whole k (omega arith))
        (eqb-true (number (block (concat bs) (suc k))) (suc (number (block (concat bs) k))) e)

  module _ {fine : Bool} (p : (fine ≡ true) ↔ AllFine) where
    pub sound_is : {next : Bool} → (next ≡ true) ↔ AllNext → (fine && next) ≡ sound (concat bs) (length bs)
    sound_is {next} q =
        same_test (fine && next) (sound (concat bs) (length bs))
        (λ t. sound_to (p.0 (and_left fine next t)) (q.0 (and_right fine next t)) (length bs) (omega arith))
        (λ t. and_both (p.1 (sound_fine t)) (q.1 (sound_next t)))

    pub not_sound : fine ≡ false → false ≡ sound (concat bs) (length bs)
    not_sound f = case (sound (concat bs) (length bs)) (λ t. not_both fine (p.1 (sound_fine t)) f) (λ t. sym t)

-- numbers rise from the first block's on, so that there are no more blocks than numbers
few : (log : List ℕ) (n : ℕ) → sound log (suc n) ≡ true → n ≤ number (block log n)
few log zero s = omega arith
few log (suc n) s =
    let l = few log n (sound_less log (suc n) (suc (suc n)) (omega arith) s) in
    let e = eqb-true (number (block log (suc n))) (suc (number (block log n))) (sound_follows log (suc (suc n)) (suc n) (omega arith) s) in
    omega arith

pub at_most : (log : List ℕ) (used : ℕ) → Bytes log → Fit log used → used ≤ 4294967296
at_most log used bytes f = by used f.fits f.good
  where
    by : (n : ℕ) → n ≤ blocks log → sound log n ≡ true → n ≤ 4294967296
    by zero h s = omega arith
    by (suc n) h s =
        let l = few log n s in
        let b = bytes_block log n bytes (omega arith) in
        let b₀ = b 0 in
        let b₁ = b 1 in
        let b₂ = b 2 in
        let b₃ = b 3 in
        omega arith
