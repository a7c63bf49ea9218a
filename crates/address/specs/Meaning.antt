-- What the forms of `address` stand for: a register's places, and document 01's seats and classes.
-- Assumes nothing.
use Rattle.std.specs.Prelude.{◌-◌, if◌then◌else◌}
use Rattle.laws.specs.Words.{ℕ, suc, ltb}
use Rattle.model.specs.Map.{Seat, flag, mine, common, status, blank, page_size, paged}
use Rattle.model.specs.Writing as writing
use Rattle.address.specs.declared.registers.Register.{Register}
use Rattle.address.specs.declared.Slot.{Slot}
use Rattle.address.specs.declared.Slot.TheVariants.{Flag, Mine, Common, Status, Blank}
use Rattle.address.specs.declared.classes.Class.{Class}
use Rattle.address.specs.declared.classes.Class.TheVariants.{Nothing, All, LowFour, LowThree, HighFour, Page}

-- where the memory holds the byte of address a, with page g selected
abbrev pub stored_at : ℕ → ℕ → ℕ
stored_at g a = if ltb a page_size then a else paged g a

-- of a register, where the memory holds its first byte, and how many it has
abbrev pub held_at : Register → ℕ
held_at r = stored_at r.page r.first

abbrev pub length_of : Register → ℕ
length_of r = suc r.last - r.first

abbrev pub seat_of : Slot → Seat
seat_of (Flag k) = flag k
seat_of (Mine k) = mine k
seat_of (Common p) = common p.0
seat_of Status = status
seat_of Blank = blank

abbrev pub means : Class → writing.Class
means Nothing = writing.no_bits
means All = writing.all
means LowFour = writing.low_four
means LowThree = writing.low_three
means HighFour = writing.high_four
means Page = writing.page
