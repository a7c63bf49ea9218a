-- Document 02, Ask 1 and Ask 9: blocks, computed: the asks' own empty block, and which bytes 501 to 509 a block may have. Whether a block
-- is sound is computed by a test that goes along its bytes (`sound_in_turn`).
-- Assumes nothing.
use mathlib.Core.Path.{◌≡◌, refl, sym, ◌∙◌}
use mathlib.Core.Bool.{Bool, true, false, ◌&&◌}
use mathlib.Core.List.{List, [], ◌∷◌, ◌++◌}
use Prim.Native.Nat.{ℕ, zero, suc, ◌+◌, ◌-◌, ◌/◌, ◌%◌, ◌≤◌}
use native.Mathlib.Omega.{arith}
use lib.Dec.{eqb, leb}
use lib.ListN.{length, replicate}
use borrow.Author.Tests.{eqb-true, leb-true, le-leb}
use Rattle.laws.specs.Lists.{at, part, table, sum}
use Rattle.laws.proofs.Tests.{and_left, and_right, and_both}
use Rattle.laws.proofs.Lists.{part_at}
use Rattle.laws.proofs.Parts.{table_same, table_front}
use Rattle.laws.proofs.Finite.{always_at}
use Rattle.block.specs.Examples.{first_opened, status, blank, summarised, empty, old, lying, other}
use Rattle.block.specs.Block.{block_size, number_bytes, count, most_samples, slot, room_end, any_to, summary, check_of, sealed, holds, summed, sound_block, fresh, grown}
use Rattle.block.proofs.Sealed.{at_holds}

-- ---- whether a block is sound, read from its front to its end

abbrev zeros : List ℕ → Bool
zeros [] = true
zeros (x ∷ xs) = eqb x 0 && zeros xs

zeros_at : (l : List ℕ) → zeros l ≡ true → (i : ℕ) → at l i ≡ 0
zeros_at [] e i = refl
zeros_at (x ∷ xs) e zero = eqb-true x 0 (and_left (eqb x 0) (zeros xs) e)
zeros_at (x ∷ xs) e (suc i) = zeros_at xs (and_right (eqb x 0) (zeros xs) e) i

-- its room and its sum by the list's elements in turn, so that no place is looked up from the front again
abbrev in_turn : List ℕ → Bool
in_turn b =
    leb (count b) most_samples && (zeros (part (slot (count b)) (room_end - slot (count b)) b)
    && (summed b && (eqb (at b 510) (sum (part 0 510 b) % 65536 / 256) && eqb (at b 511) (sum (part 0 510 b) % 65536 % 256))))

sound_in_turn : (b : List ℕ) → length b ≡ block_size → in_turn b ≡ true → sound_block b ≡ true
unfolding sound_block check_of
sound_in_turn b long e =
    let few = leb-true (count b) most_samples (search and_left) in
    let blank : zeros (part (slot (count b)) (room_end - slot (count b)) b) ≡ true = search (and_left, and_right) in
    let room : slot (count b) + (room_end - slot (count b)) ≤ length b = omega arith in
    rw (
      table_front 510 b (omega arith),
      at_holds (slot (count b)) (room_end - slot (count b)) (λ j. 0) b
          (λ j h. sym (part_at (slot (count b)) (room_end - slot (count b)) b room j h) ∙ zeros_at (part (slot (count b)) (room_end - slot (count b)) b) blank j),
    ) (and_both (le-leb (count b) most_samples few) (search (and_left, and_right)))

-- ---- "Block 1 with no samples has 1 in byte 3 .. and zeros elsewhere"; "(Ask 1's empty block: 504 is 1, 511 is 2)"

pub first_block : fresh 1 ≡ table block_size first_opened
unfolding fresh sealed check_of summary any_to sum table
first_block = table_same block_size (sealed (at (number_bytes 1))) first_opened
    (λ i h. eqb-true (sealed (at (number_bytes 1)) i) (first_opened i) (always_at (λ i. eqb (sealed (at (number_bytes 1)) i) (first_opened i)) block_size refl i h))

-- the one that Ask 1 had, without a summary, remains sound
pub old_block : sound_block (0 ∷ 0 ∷ 0 ∷ 1 ∷ (replicate 507 0 ++ (1 ∷ []))) ≡ true
unfolding holds summary any_to sum
old_block = sound_in_turn _ refl refl

-- ---- which are sound

pub written_sound : (sound_block summarised ≡ true) × (sound_block old ≡ true)
unfolding holds summary any_to sum
written_sound = (sound_in_turn summarised refl refl, sound_in_turn old refl refl)

-- "bytes 501 to 503 are the OR of the three status bytes over their samples and byte 504 is 1": of all samples, and of all three bytes
pub summary_taken : (summed summarised ≡ true) × (summed empty ≡ true)
unfolding holds summary any_to
summary_taken = (refl, refl)

-- "Blocks with 501 to 504 all zero remain sound"
pub old_taken : summed old ≡ true
unfolding holds summary any_to
old_taken = refl

-- "Every block that adding .. writes gets one over all its samples": bytes 501 to 504 of the old block with a sample more, in which
-- bit 2 is 1
pub summary_gained : part room_end 4 (grown old (status 4 0 0)) ≡ 4 ∷ 1 ∷ 0 ∷ 1 ∷ []
unfolding grown sealed summary any_to table
summary_gained = refl

-- "Any other content of 501 to 509 is unsound": a bit too few, a bit too many, another mark, none
pub bit_too_few : summed lying ≡ false
unfolding holds summary any_to
bit_too_few = refl

pub bit_too_many : summed (other (0 ∷ 1 ∷ 1 ∷ 1 ∷ []) blank) ≡ false
unfolding holds summary any_to
bit_too_many = refl

pub mark_wrong : (summed (other (0 ∷ 1 ∷ 0 ∷ 2 ∷ []) blank) ≡ false) × (summed (other (0 ∷ 1 ∷ 0 ∷ 0 ∷ []) blank) ≡ false)
unfolding holds summary any_to
mark_wrong = (refl, refl)

-- and a byte after them that is not 0, with a summary and without
pub rest_read : (summed (other (0 ∷ 1 ∷ 0 ∷ 1 ∷ []) (0 ∷ 0 ∷ 0 ∷ 0 ∷ 1 ∷ [])) ≡ false) × (summed (other (0 ∷ 0 ∷ 0 ∷ 0 ∷ []) (0 ∷ 0 ∷ 0 ∷ 0 ∷ 1 ∷ [])) ≡ false)
unfolding holds summary any_to
rest_read = (refl, refl)
