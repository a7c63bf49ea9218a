-- `module::reset::empty` meets its contract: the six runs, laid over each other, are the places that the definition empties.
use Rattle.std.proofs.Common.{◌≡◌, ◌∙◌, arith}
use Rattle.module.proofs.reset.Laws.{empty_all, wiped_next}
use Rattle.module.proofs.reset.empty.Goals as goal

pub loop-r-preserved : goal.loop-r-preserved
loop-r-preserved c = wiped_next _ c.loop-r.r-index c.r-item.result c.loop-r.state c.wipe.new.state _ c.loop-r-test.true c.wipe.ensures c.loop-r.invariant

pub returns : goal.returns
returns c =
    let all : c.loop-r.r-index ≡ 6 = omega arith in
    rw all at c.loop-r.invariant ∙ empty_all _ c.told-state
