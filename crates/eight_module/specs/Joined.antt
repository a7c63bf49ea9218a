-- What a sample makes of a byte of a record, with its conditions and its onsets as lists of fourteen.
-- Assumes nothing.
use Rattle.std.specs.Prelude.{◌-◌, if◌then◌else◌}
use Rattle.laws.specs.Words.{ℕ, List, ltb, bit_or, covers, at}
use Rattle.eight.specs.Tables.{flags, pending_of}

-- byte k, which held v
abbrev pub joined : List ℕ → List ℕ → ℕ → ℕ → ℕ
joined cs os k v =
    if ltb k flags.many then bit_or v (at cs k)
    else (if covers (pending_of 0) flags.many k then bit_or v (at os (k - pending_of 0)) else v)
