use Rattle.std.proofs.Common.{◌≡◌, ◌+◌}
use Rattle.std.specs.List.{concat}
use Rattle.log_model.specs.Log.{total}
use Rattle.log_calls.proofs.sample.find.Given as goal

abbrev pub invariant-loop-i : goal.invariant-loop-i
invariant-loop-i l = total (concat l.blocks) l.i + l.left ≡ l.position
