-- The forms that the code works on: the quantities by name, and three rows of four numbers.
-- Assumes nothing.
use Rattle.std.specs.Prelude.{◌+◌, ◌∷◌}
use Rattle.laws.specs.Words.{ℕ, List, [], get_or, at}
use Rattle.model.specs.Samples.{word, Quantity}
use Rattle.model.specs.Readout.{quantity}
use Rattle.alarms.specs.declared.quantities.Quantity as quantities
use Rattle.alarms.specs.declared.quantities.Quantity.TheVariants.{Temperature, Supply, RxPower, TxBias, TxPower}

-- a quantity's number, and the quantity that it is
abbrev pub quantity_number : quantities.Quantity → ℕ
quantity_number = elim [ Temperature ↦ 0 | Supply ↦ 1 | RxPower ↦ 2 | TxBias ↦ 3 | TxPower ↦ 4 ]

abbrev pub meant : quantities.Quantity → Quantity
meant q = quantity (quantity_number q)

-- four numbers of two bytes from i on
abbrev pub row : List ℕ → ℕ → List ℕ
row s i = word (at s) i ∷ word (at s) (i + 2) ∷ word (at s) (i + 4) ∷ word (at s) (i + 6) ∷ []

-- Rx power, Tx bias, Tx power: a row for each
abbrev pub rows : List ℕ → ℕ → List (List ℕ)
rows s i = row s i ∷ row s (i + 8) ∷ row s (i + 16) ∷ []

-- number c of row q
abbrev pub cell : List (List ℕ) → ℕ → ℕ → ℕ
cell a q c = at (get_or a q []) c
