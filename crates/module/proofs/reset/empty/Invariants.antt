use Rattle.std.proofs.Common.{◌≡◌, drop}
use Rattle.module.proofs.reset.Laws.{wiped}
use Rattle.module.proofs.reset.empty.Given as goal

abbrev pub invariant-loop-r : goal.invariant-loop-r
invariant-loop-r l = wiped (drop l.r-index l.r-items) l.state ≡ wiped l.r-items l.initial.state
