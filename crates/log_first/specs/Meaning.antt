-- What an answer of a position, or none, is in Ask 9's words.
-- Assumes nothing.
use Rattle.std.specs.Prelude.{Option as Answer, Some, None}
use Rattle.laws.specs.Words.{Option, none, some}

abbrev pub found : {A : Type 0} → Answer A → Option A
found = elim [ None ↦ none | Some a ↦ some a ]
