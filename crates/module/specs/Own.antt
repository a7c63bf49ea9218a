-- What the read puts over the bytes of the memory, in the order in which it does.
-- Assumes nothing.
use Rattle.std.specs.Prelude.{if◌then◌else◌}
use Rattle.laws.specs.Words.{ℕ, eqb, ◌to◌, within}
use Rattle.model.specs.Ports.{Places}
use Rattle.model.specs.Map.{flags, low_masks, flag_of, low_mask_of, page_at}

-- what address a reads of the record o in lower memory, where else it would read v
abbrev pub own_seen : Places → ℕ → ℕ → ℕ
own_seen o a v =
    if within flags a then o (flag_of a)
    else (if within low_masks a then o (low_mask_of a)
    else (if eqb a 127 then o page_at
    else (if within (119 to 126) a then 0 else v)))
