-- A list cut into chunks of n: each is a part of the list.
-- Assumes nothing.
use Rattle.std.proofs.Common.{◌≡◌, ℕ, zero, suc, ◌+◌, ◌*◌, ◌≤◌, ◌<◌, List, [], ◌∷◌, length, get_or, take, drop, sym, refl, ap, ◌∙◌, arith}
use Rattle.std.specs.Simd.{first_chunks}
use lib.Seq.{ext_get_or}
use Rattle.laws.specs.Lists.{part}
use Rattle.laws.proofs.Parts.{part_tail, part_part}
use Rattle.block.specs.Block.{block_size, sample_size, most_samples, samples_to}
use Rattle.block.proofs.Blocks.{samples_length, samples_at}

module _ (n : ℕ) where
  pub chunks_length : (k : ℕ) (s : List ℕ) → length (first_chunks n k s) ≡ k
  chunks_length zero s = refl
  chunks_length (suc k) s = ap suc (chunks_length k (drop n s))

  pub chunk_at : (k : ℕ) (s : List ℕ) (i : ℕ) → i < k → get_or (first_chunks n k s) i [] ≡ part (n * i) n s
  chunk_at zero s i h = absurd (omega arith)
  chunk_at (suc k) s zero h = let z : n * 0 ≡ 0 = omega arith in rw z
  chunk_at (suc k) s (suc i) h =
      let z : n + n * i ≡ n * suc i = omega arith in
      chunk_at k (drop n s) i (omega arith) ∙ part_tail n (n * i) n s ∙ ap (λ a. part a n s) z

  -- the first of them
  pub chunks_front : (i k : ℕ) (s : List ℕ) → i ≤ k → take i (first_chunks n k s) ≡ first_chunks n i s
  chunks_front zero k s h = refl
  chunks_front (suc i) zero s h = absurd (omega arith)
  chunks_front (suc i) (suc k) s h = ap (λ l. take n s ∷ l) (chunks_front i k (drop n s) (omega arith))

-- the samples of a block are chunks of its room
pub samples_chunks : (b : List ℕ) (k : ℕ) → length b ≡ block_size → k ≤ most_samples → first_chunks sample_size k (part 5 496 b) ≡ samples_to b k
samples_chunks b k long few =
    ext_get_or [] (first_chunks sample_size k (part 5 496 b)) (samples_to b k) (chunks_length sample_size k (part 5 496 b) ∙ sym (samples_length b k))
    (λ i h. let l = chunks_length sample_size k (part 5 496 b) in
    chunk_at sample_size k (part 5 496 b) i (omega arith)
    ∙ part_part 5 496 (sample_size * i) sample_size b (omega arith) (omega arith)
    ∙ sym (samples_at b k i (omega arith)))
