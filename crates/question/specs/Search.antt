-- Document 02, Ask 9: "When did that line die?" The first sample of a log that has a status bit.
-- Assumes nothing.
use Rattle.std.specs.Prelude.{◌+◌, ◌/◌, ◌%◌, ◌<◌, ◌≤◌, ◌≡◌, ◌&&◌, ◌||◌, ◌∷◌, if◌then◌else◌}
use Rattle.laws.specs.Words.{ℕ, zero, suc, Bool, true, false, not, List, [], Option, none, some, length, get_or, eqb, ltb, Row, has, at, part}
pub use Rattle.laws.specs.Words.{Told, refused, given, told}
use Rattle.block.specs.Block.{sample_size, count, most_samples, slot, room_end, samples_in}
use Rattle.log_model.specs.Log.{block, total, misfit}

-- ---- a status bit: "8 times the byte, 0 to 2, plus the bit"

-- the sample x has the bit k
abbrev pub lit : ℕ → List ℕ → Bool
lit k x = has (k % 8) (at x (k / 8))

-- ---- the first of several samples

-- n samples further on
abbrev pub further : ℕ → Option ℕ → Option ℕ
further n none = none
further n (some i) = some (n + i)

abbrev pub or_else : Option ℕ → Option ℕ → Option ℕ
or_else none later = later
or_else (some i) later = some i

-- "the position of the first sample in which it is 1, or none"
unfoldable pub first_in : ℕ → List (List ℕ) → Option ℕ
first_in k [] = none
first_in k (x ∷ xs) = if lit k x then some 0 else further 1 (first_in k xs)

-- ---- the first in a log

-- "A block with 1 in 504 whose 501 to 503 exclude the bit is passed over"
abbrev pub passed : ℕ → List ℕ → Bool
passed k b = eqb (at b 504) 1 && not (has (k % 8) (at b (room_end + k / 8)))

-- "by its count alone": what its samples are makes no difference
abbrev pub first_of_block : ℕ → List ℕ → Option ℕ
first_of_block k b = if passed k b then none else first_in k (samples_in b)

-- "the first such sample among the blocks not passed over"
unfoldable pub first_with : List ℕ → ℕ → ℕ → Option ℕ
first_with log zero k = none
first_with log (suc n) k = or_else (first_with log n k) (further (total log n) (first_of_block k (block log n)))

-- ---- refusals, in the ask's order

-- "a used block's count above 16"
unfoldable pub crowded : List ℕ → ℕ → Bool
crowded log zero = false
crowded log (suc n) = crowded log n || ltb most_samples (count (block log n))

-- 15: "memory that isn't whole blocks, a used number that is too large or a used block's count above 16"
abbrev pub misshapen : List ℕ → ℕ → Bool
misshapen log used = misfit log used || crowded log used

-- "then 17 for a bit above 23"
abbrev pub first_rows : List ℕ → ℕ → ℕ → List Row
first_rows log used k = (15, misshapen log used) ∷ (17, ltb 23 k) ∷ []

-- ---- the answer: a refusal, or the position, none where no sample that is looked at has the bit

abbrev pub first_told : List ℕ → ℕ → ℕ → Told (Option ℕ)
first_told log used k = told (first_rows log used k) (first_with log used k)

-- ---- what an answer says

-- what an answer says of the samples xs: the one there has the bit and none before it has, or none has it
abbrev pub FirstIs : ℕ → List (List ℕ) → Option ℕ → Type 0
FirstIs k xs none = (j : ℕ) → j < length xs → lit k (get_or xs j []) ≡ false
FirstIs k xs (some i) = (i < length xs) × (lit k (get_or xs i []) ≡ true) × ((j : ℕ) → j < i → lit k (get_or xs j []) ≡ false)

-- sample i of used block n is looked at, and has the bit
pub record Hit (log : List ℕ) (used k n i : ℕ) : Type 0 where
  pub used_block : n < used
  pub sample_there : i < count (block log n)
  pub looked_at : passed k (block log n) ≡ false
  pub has_it : lit k (part (slot i) sample_size (block log n)) ≡ true

-- what an answer says of them: it is the position of one, and no other has a lower one; or there is none
abbrev pub Least : List ℕ → ℕ → ℕ → Option ℕ → Type 0
Least log used k none = (n i : ℕ) → Hit log used k n i → ⊥
Least log used k (some p) =
    ((n : ℕ) × (i : ℕ) × Hit log used k n i × (p ≡ total log n + i)) × ((n i : ℕ) → Hit log used k n i → p ≤ total log n + i)
