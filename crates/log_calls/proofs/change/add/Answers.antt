-- `log_calls::change::add` meets its contract: that there is room follows from its not being refused, and where a new block is needed,
-- that is opened and then grows, which is one put (`opened_added`).
use Rattle.std.proofs.Common.{sym, ◌∙◌}
use Rattle.log_calls.proofs.change.Laws.{last_room, opened_room, opened_added}
use Rattle.log_calls.proofs.change.add.Goals as goal

pub grow_block-requires : goal.grow_block-requires
grow_block-requires c =
    let x = c.args in
    let sample = rw c.in_ok-sample.ensures.ok_part at c.as_array.ensures.cases in
    let found = c.in_ok-number.ensures in
    last_room x.log.now x.used x.sample.now sample.long found.code (sym c.in-Last.is ∙ found.accepted)

pub grow_block-requires-in-New : goal.grow_block-requires-in-New
grow_block-requires-in-New c =
    let x = c.args in
    let sample = rw c.in_ok-sample.ensures.ok_part at c.as_array.ensures.cases in
    let found = c.in_ok-number.ensures in
    opened_room x.log.now x.used x.sample.now sample.long found.code (sym c.in-New.is ∙ found.accepted) c.open_block.ensures

pub returns-in-New-clause-accepted : goal.returns-in-New-clause-accepted
returns-in-New-clause-accepted c =
    let x = c.args in
    let sample = rw c.in_ok-sample.ensures.ok_part at c.as_array.ensures.cases in
    let found = c.in_ok-number.ensures in
    opened_added x.log.now x.used x.sample.now sample.long found.code (sym c.in-New.is ∙ found.accepted) c.open_block.ensures
    (rw sample.same at c.grow_block-in-New.ensures)
