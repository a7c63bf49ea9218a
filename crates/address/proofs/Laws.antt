-- Laws of the crate's own shapes: where a slot lies.
-- Assumes nothing.
use mathlib.Core.Path.{◌≡◌}
use Prim.Native.Nat.{ℕ, ◌<◌}
use Rattle.model.specs.Map.{seat}
use Rattle.model.proofs.Writes.{Within, seat_within}
use Rattle.address.specs.Meaning.{seat_of}
use Rattle.address.specs.declared.Slot.{Slot}

-- the slot of an address lies inside its part of the state
pub slot_within : (r : Slot) (g a : ℕ) → g < 4 → a < 256 → seat_of r ≡ seat g a → Within (seat_of r)
slot_within r g a l h e = rw e (seat_within g a l h)
