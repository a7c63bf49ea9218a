-- `log_block::status_of` meets its contract: each of the three numbers is the OR of its status byte over the samples already gone
-- through, and a turn ORs in that of the next one.
use Rattle.std.proofs.Common.{◌≡◌, ◌<◌, refl, arith, length}
use Rattle.block.specs.Block.{any_to, count}
use Rattle.block.proofs.Blocks.{samples_length}
use Rattle.log_block.proofs.Ends.{any_next, first_three}
use Rattle.log_block.proofs.status_of.Goals as goal

pub loop-sample-init : goal.loop-sample-init
unfolding any_to
loop-sample-init c = (refl, refl, refl)

pub loop-sample-preserved : goal.loop-sample-preserved
loop-sample-preserved c =
    let b = c.args.block.now in
    let i = c.loop-sample.sample-index in
    let z = c.loop-sample.invariant in
    let e = c.samples_of-samples.ensures in
    let h : i < count b = rw (e, samples_length b (count b)) at c.loop-sample-test.true in (
      rw e (any_next b (count b) i 0 c.told-block c.requires h (omega arith) z.0),
      rw e (any_next b (count b) i 1 c.told-block c.requires h (omega arith) z.1),
      rw e (any_next b (count b) i 2 c.told-block c.requires h (omega arith) z.2),
    )

pub returns : goal.returns
returns c =
    let b = c.args.block.now in
    let z = c.loop-sample.invariant in
    let l : length c.samples_of-samples.result.now ≡ count b = rw c.samples_of-samples.ensures (samples_length b (count b)) in
    let n : c.loop-sample.sample-index ≡ count b = omega arith in
    first_three b (rw n at z.0) (rw n at z.1) (rw n at z.2)
