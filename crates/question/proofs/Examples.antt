-- Document 02, Ask 9: examples, computed. What the question answers on a log of five blocks: one with a summary, one with no samples, an
-- old one, one whose summary lies, and one with 2 in byte 504.
-- Assumes nothing.
use mathlib.Core.Path.{◌≡◌, refl}
use mathlib.Core.List.{[], ◌∷◌, ◌++◌}
use mathlib.Core.Option.{none, some}
use Rattle.block.specs.Block.{samples_to}
use Rattle.log_model.specs.Log.{samples}
use Rattle.question.specs.Search.{first_in, first_with, crowded, refused, given, first_told}
use Rattle.block.specs.Examples.{empty}
use Rattle.question.specs.Examples.{recorded, counting}

-- ---- the answers on a log

-- bits of the first byte and of the third, the lowest and the highest: the first sample that has it
pub first_found : (first_told recorded 5 0 ≡ given (some 1)) × (first_told recorded 5 1 ≡ given (some 1)) × (first_told recorded 5 23 ≡ given (some 0))
unfolding first_with first_in crowded samples samples_to
first_found = (refl, refl, refl)

-- a block with no samples moves no position, and a block without a summary is read
pub found_in_old : first_told recorded 5 8 ≡ given (some 2)
unfolding first_with first_in crowded samples samples_to
found_in_old = refl

-- a lying summary is believed: its block is passed over
pub believed : first_told recorded 5 4 ≡ given none
unfolding first_with first_in crowded samples samples_to
believed = refl

-- and its sample is counted; a block with 2 in byte 504 is read, though its 501 to 503 lack the bit
pub found_in_marked : first_told recorded 5 16 ≡ given (some 4)
unfolding first_with first_in crowded samples samples_to
found_in_marked = refl

-- in no sample; in no used block; where none is used; where there is none
pub nowhere : (first_told recorded 5 10 ≡ given none) × (first_told recorded 2 8 ≡ given none) × (first_told recorded 0 0 ≡ given none) × (first_told [] 0 0 ≡ given none)
unfolding first_with first_in crowded samples samples_to
nowhere = (refl, refl, refl, refl)

-- ---- the refusals

-- a bit above 23; a used number that is too large, whatever the bit; memory that isn't whole blocks
pub refused_each : (first_told recorded 5 24 ≡ refused 17) × (first_told recorded 6 23 ≡ refused 15) × (first_told recorded 6 24 ≡ refused 15) × (first_told (0 ∷ recorded) 5 0 ≡ refused 15)
unfolding first_with first_in crowded samples samples_to
refused_each = (refl, refl, refl, refl)

-- a block may be full, and an unused one may have any count; a used one's of 17 is refused, be it the first or the last
pub full_taken : (first_told (counting 16) 1 0 ≡ given none) × (first_told (empty ++ counting 17) 1 0 ≡ given none)
unfolding first_with first_in crowded samples samples_to
full_taken = (refl, refl)

pub crowded_refused : (first_told (counting 17 ++ empty) 2 0 ≡ refused 15) × (first_told (empty ++ counting 17) 2 0 ≡ refused 15)
unfolding first_with first_in crowded samples samples_to
crowded_refused = (refl, refl)
