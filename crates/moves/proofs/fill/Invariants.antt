use Rattle.std.proofs.Common.{◌≡◌}
use Rattle.laws.specs.Lists.{patch}
use Rattle.moves.proofs.fill.Given as goal

abbrev pub invariant-loop-place : goal.invariant-loop-place
invariant-loop-place l = l.place-items ≡ patch 0 l.place-index (λ j. l.v) l.initial.place-items
