-- Document 02, Ask 1: a log, lent memory of whole blocks "of which the first so many are used".
-- Assumes nothing.
use Rattle.std.specs.Prelude.{◌+◌, ◌-◌, ◌*◌, ◌/◌, ◌%◌, ◌≤◌, ◌≡◌, ◌&&◌, ◌||◌, ◌∷◌, ◌++◌, if◌then◌else◌}
use Rattle.laws.specs.Words.{ℕ, zero, suc, Bool, true, not, List, [], length, eqb, ltb, leb, Row, at, patch, part}
use Rattle.block.specs.Block.{block_size, sample_size, number, count, most_samples, slot, samples_in, sound_block, fresh, grown}

-- ---- blocks

abbrev pub blocks : List ℕ → ℕ
blocks log = length log / block_size

abbrev pub block : List ℕ → ℕ → List ℕ
block log i = part (block_size * i) block_size log

-- "the numbers rise by one from block to block"
abbrev pub follows : List ℕ → ℕ → Bool
follows log zero = true
follows log (suc i) = eqb (number (block log (suc i))) (suc (number (block log i)))

-- "A log is sound if each used block is and the numbers rise"; with no block used it is
unfoldable pub sound : List ℕ → ℕ → Bool
sound log zero = true
sound log (suc n) = sound log n && (sound_block (block log n) && follows log n)

-- ---- samples, in order

unfoldable pub samples : List ℕ → ℕ → List (List ℕ)
samples log zero = []
samples log (suc n) = samples log n ++ samples_in (block log n)

abbrev pub total : List ℕ → ℕ → ℕ
total log n = length (samples log n)

-- where the sample at position k begins in the log
unfoldable pub place_of : List ℕ → ℕ → ℕ → ℕ
place_of log zero k = 0
place_of log (suc n) k = if ltb k (total log n) then place_of log n k else block_size * n + slot (k - total log n)

-- ---- the last used block

-- 0 where none is used: "the first is number 1"
abbrev pub last_number : List ℕ → ℕ → ℕ
last_number log zero = 0
last_number log (suc n) = number (block log n)

-- "in the last block if that has room, else in a new one"
abbrev pub needs_new : List ℕ → ℕ → Bool
needs_new log zero = true
needs_new log (suc n) = leb most_samples (count (block log n))

-- ---- what the calls leave

-- block i of the memory is b
unfoldable pub put : List ℕ → ℕ → List ℕ → List ℕ
put log i b = patch (block_size * i) block_size (at b) log

-- the new block: "a power-up opens a new block"
abbrev pub new_block : List ℕ → ℕ → List ℕ
new_block log used = fresh (suc (last_number log used))

abbrev pub after_power_up : List ℕ → ℕ → List ℕ
after_power_up log used = put log used (new_block log used)

-- "A sample goes in the last block if that has room, else in a new one"
abbrev pub after_add : List ℕ → ℕ → List ℕ → List ℕ
after_add log used x =
    if needs_new log used then put log used (grown (new_block log used) x)
    else put log (used - 1) (grown (block log (used - 1)) x)

abbrev pub used_after : List ℕ → ℕ → ℕ
used_after log used = if needs_new log used then suc used else used

-- ---- refusals, in the ask's order

-- 8: "a wrong sample"
abbrev pub wrong_sample : List ℕ → Bool
wrong_sample x = not (eqb (length x) sample_size)

-- "memory that isn't whole blocks, a used number that is too large"
abbrev pub misfit : List ℕ → ℕ → Bool
misfit log used = not (eqb (length log % block_size) 0) || ltb (blocks log) used

-- 15: that, "or an unsound log"
abbrev pub unsound : List ℕ → ℕ → Bool
unsound log used = misfit log used || not (sound log used)

-- a log that is not refused 15
pub record Fit (log : List ℕ) (used : ℕ) : Type 0 where
  pub whole : length log % block_size ≡ 0
  pub fits : used ≤ blocks log
  pub good : sound log used ≡ true

-- 14: "none is unused or the number is 4294967295"
abbrev pub none_left : List ℕ → ℕ → Bool
none_left log used = leb (blocks log) used || eqb (last_number log used) 4294967295

abbrev pub add_rows : List ℕ → ℕ → List ℕ → List Row
add_rows log used x = (8, wrong_sample x) ∷ (15, unsound log used) ∷ (14, needs_new log used && none_left log used) ∷ []

abbrev pub power_up_rows : List ℕ → ℕ → List Row
power_up_rows log used = (15, unsound log used) ∷ (14, none_left log used) ∷ []

-- 17: "a position past the last"
abbrev pub sample_rows : List ℕ → ℕ → ℕ → List Row
sample_rows log used k = (15, unsound log used) ∷ (17, leb (total log used) k) ∷ []
