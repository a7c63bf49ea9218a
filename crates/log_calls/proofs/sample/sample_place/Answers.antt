-- `log_calls::sample::sample_place` meets its contract: past the walk `find` speaks of the log's own blocks.
use Rattle.std.proofs.Common.{arith}
use Rattle.std.proofs.lemmas.Result.{MatchResult-weaker}
use Rattle.refusal.specs.Numbers.{number}
use Rattle.log_calls.proofs.sample.Laws.{placed, none_there}
use Rattle.log_calls.proofs.sample.sample_place.Goals as goal

pub returns-clause-accepted : goal.returns-clause-accepted
returns-clause-accepted c =
    let x = c.args in
    MatchResult-weaker c.find.result c.find.ensures.accepted
    (placed x.log.now x.used x.position c.in_ok-blocks.ensures.accepted (λ i. omega (arith, c.type_inv.log i))) (λ r t. t)

pub returns-clause-refused : goal.returns-clause-refused
returns-clause-refused c =
    let x = c.args in
    MatchResult-weaker c.find.result c.find.ensures.refused
    (λ s t. t) (λ r. none_there x.log.now x.used x.position c.in_ok-blocks.ensures.accepted (number r))
