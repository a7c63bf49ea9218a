-- `record::clear` meets its contract: of the flag lane what the run has is emptied, which is what a read clears.
use Rattle.std.proofs.Common.{◌≡◌, ◌∙◌, add-zero, arith, lt-ltb}
use Rattle.laws.proofs.Lists.{patch_same}
use Rattle.model.specs.Map.{flags, record_size}
use Rattle.model.specs.Reading.{cleared}
use Rattle.model.specs.Bytes.{record_of}
use Rattle.record.proofs.clear.Goals as goal

pub returns : goal.returns
unfolding cleared
returns c =
    let x = c.args in
    let b = x.base.place.0 in
    let l = c.own_lane.ensures in
    let from : c.own_lane.result.from.0 ≡ b = l.2 ∙ add-zero b in
    rw (l.0, l.1, from) at c.clear_lane.ensures
    ∙ patch_same b flags.many _ (cleared x.run.first.0 x.run.many (record_of x.state.now b)) x.state.now
    (λ j h. rw (lt-ltb j flags.many h, lt-ltb j record_size (omega arith)))
