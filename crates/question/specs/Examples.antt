-- Document 02, Ask 9: the log that the computed examples speak of.
-- Assumes nothing.
use Rattle.std.specs.Prelude.{◌∷◌, ◌++◌}
use Rattle.laws.specs.Words.{ℕ, List, replicate}
use Rattle.block.specs.Examples.{summarised, empty, old, lying, marked2}

abbrev pub recorded : List ℕ
recorded = summarised ++ (empty ++ (old ++ (lying ++ marked2)))

-- a block of zeros but for its number, 1, and its count
abbrev pub counting : ℕ → List ℕ
counting n = 0 ∷ 0 ∷ 0 ∷ 1 ∷ n ∷ replicate 507 0
