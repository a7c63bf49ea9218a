use Rattle.std.proofs.Common.{◌≡◌, ◌+◌, bit_or, length}
use Rattle.laws.specs.Lists.{at, patch}
use Rattle.moves.proofs.join.Given as goal

abbrev pub invariant-loop-k : goal.invariant-loop-k
invariant-loop-k l = (length l.dst ≡ length l.initial.dst) × (l.dst ≡ patch l.to l.k (λ j. bit_or (at l.initial.dst (l.to + j)) (at l.src j)) l.initial.dst)
