-- What is read of a run of numbers, as of addresses, where bytes stand for some of them.
-- Assumes nothing.
use Rattle.std.specs.Prelude.{◌+◌, ◌-◌, if◌then◌else◌}
use Rattle.laws.specs.Words.{ℕ, List, at, covers}

-- what address a reads where the bytes of s from place p on stand for the m addresses from b on, and where else it would read v
abbrev pub copied : List ℕ → ℕ → ℕ → ℕ → ℕ → ℕ → ℕ
copied s p b m a v = if covers b m a then at s (p + (a - b)) else v
