use Rattle.std.proofs.Common.{◌≡◌, length}
use Rattle.laws.specs.Lists.{at, patch}
use Rattle.moves.proofs.copy.Given as goal

abbrev pub invariant-loop-k : goal.invariant-loop-k
invariant-loop-k l = (length l.dst ≡ length l.initial.dst) × (l.dst ≡ patch l.to l.k (at l.src) l.initial.dst)
