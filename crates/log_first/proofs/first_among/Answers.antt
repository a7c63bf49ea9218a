-- `log_first::first_among` meets its contract: the library's search says of its answer what the definition's does.
use Rattle.std.proofs.Common.{MatchOption, rules}
use mathlib.Core.Option.{none, some}
use Rattle.question.specs.Search.{FirstIs}
use Rattle.log_first.proofs.Laws.{first_said}
use Rattle.log_first.proofs.first_among.Goals as goal

pub returns : goal.returns
returns c =
    let k = c.args.bit.number in
    let s = c.args.samples.now in
    let e : MatchOption c.position.result (FirstIs k s none) (λ i. FirstIs k s (some i)) = search rules in
    first_said k s c.position.result e
