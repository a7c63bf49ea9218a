-- Document 02, Ask 1 and Ask 9: blocks that the computed examples speak of.
-- Assumes nothing.
use Rattle.std.specs.Prelude.{◌-◌, ◌*◌, ◌||◌, ◌∷◌, ◌++◌, if◌then◌else◌}
use Rattle.laws.specs.Words.{ℕ, List, [], length, replicate, eqb}
use Rattle.block.specs.Block.{sample_size, most_samples}

-- "Block 1 with no samples has 1 in byte 3 .. and zeros elsewhere"; "(Ask 1's empty block: 504 is 1, 511 is 2)"
abbrev pub first_opened : ℕ → ℕ
first_opened i = if eqb i 3 || eqb i 504 then 1 else (if eqb i 511 then 2 else 0)

-- a sample of three status bytes that measures nothing
abbrev pub status : ℕ → ℕ → ℕ → List ℕ
status a b c = a ∷ b ∷ c ∷ replicate 28 0

abbrev pub joined : List (List ℕ) → List ℕ
joined [] = []
joined (x ∷ xs) = x ++ joined xs

-- block n of the samples xs, its bytes 501 to 504, 505 to 509 and 510 to 511
abbrev pub block_of : ℕ → List (List ℕ) → List ℕ → List ℕ → List ℕ → List ℕ
block_of n xs ors rest check =
    0 ∷ 0 ∷ 0 ∷ n ∷ length xs ∷ (joined xs ++ (replicate (sample_size * (most_samples - length xs)) 0 ++ (ors ++ (rest ++ check))))

abbrev pub blank : List ℕ
blank = replicate 5 0

-- two samples: bit 23 is 1 in both, bit 9 in the first, bits 0 and 1 in the second; a summary
abbrev pub summarised : List ℕ
summarised = block_of 1 (status 0 2 128 ∷ status 3 0 128 ∷ []) (3 ∷ 2 ∷ 128 ∷ 1 ∷ []) blank (1 ∷ 142 ∷ [])

-- no samples, as a power-up leaves it
abbrev pub empty : List ℕ
empty = block_of 2 [] (0 ∷ 0 ∷ 0 ∷ 1 ∷ []) blank (0 ∷ 3 ∷ [])

-- one sample: bit 8 is 1; no summary
abbrev pub old : List ℕ
old = block_of 3 (status 0 1 0 ∷ []) (0 ∷ 0 ∷ 0 ∷ 0 ∷ []) blank (0 ∷ 5 ∷ [])

-- one sample: bit 4 is 1; its summary lacks it
abbrev pub lying : List ℕ
lying = block_of 4 (status 16 0 0 ∷ []) (0 ∷ 0 ∷ 0 ∷ 1 ∷ []) blank (0 ∷ 22 ∷ [])

-- one sample: bits 0 and 16 are 1; 2 in byte 504, so there is no summary
abbrev pub marked2 : List ℕ
marked2 = block_of 5 (status 1 0 1 ∷ []) (0 ∷ 0 ∷ 0 ∷ 2 ∷ []) blank (0 ∷ 10 ∷ [])

-- the samples of `old`, its bytes 501 to 504 and 505 to 509 any others
abbrev pub other : List ℕ → List ℕ → List ℕ
other ors rest = block_of 3 (status 0 1 0 ∷ []) ors rest (0 ∷ 0 ∷ [])
