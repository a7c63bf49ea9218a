use Rattle.std.proofs.Common.{◌≤◌, ◌*◌, ◌+◌, ◌≡◌, length, map}
use Rattle.laws.specs.Lists.{at, sum}
use Rattle.ports.specs.Interrupt.{count_pair}
use Rattle.both.specs.Beside.{beside}
use Rattle.both.proofs.count_beside.Given as goal

abbrev pub invariant-loop-flag : goal.invariant-loop-flag
invariant-loop-flag l = (l.count ≡ sum (map (count_pair (λ k. at l.state (l.base + k))) (beside (length l.yielded) l.fn.pairs.flags l.fn.pairs.masks))) × (l.count ≤ 8 * length l.yielded)
