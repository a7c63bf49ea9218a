-- `record::count_of` meets its contract.
use Rattle.std.proofs.Common.{◌≡◌, sym, map, ◌+◌, lit≤}
use Rattle.laws.specs.Lists.{at, sum}
use Rattle.laws.proofs.Sums.{sum_append}
use Rattle.ports.specs.Interrupt
use Rattle.model.specs.Interrupt.{count_pair}
use Rattle.model.specs.Module.{document01}
use Rattle.model.specs.Bytes.{record_of}
use Rattle.both.specs.Beside.{beside}
use Rattle.both.proofs.Laws.{count_record}
use Rattle.record.proofs.count_of.Goals as goal

pub returns : goal.returns
unfolding Interrupt.count_of
returns c =
    let s = c.args.state.now in
    let b = c.args.base.place.0 in
    let g = count_pair (record_of s b) in
    let high : c.count_beside-2.result ≡ sum (map (count_pair (λ k. at s (b + k))) (beside 6 6 17)) = rw c.from-first.ensures at c.count_beside-2.ensures.0 in
    rw (
      c.count_beside.ensures.0,
      high,
      c.from-first.ensures,
      count_record document01 s b 5 0 12 (lit≤ tt) (lit≤ tt),
      count_record document01 s b 6 6 17 (lit≤ tt) (lit≤ tt),
    )
    (sym (sum_append (map g (beside 5 0 12)) (map g (beside 6 6 17))))
