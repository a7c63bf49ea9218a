-- `module::sample::store_in` meets its contract.
use Rattle.std.proofs.Common.{arith}
use Rattle.address.specs.Meaning.{length_of}
use Rattle.module.proofs.Copies.{part_copied}
use Rattle.module.proofs.sample.store_in.Goals as goal

pub returns : goal.returns
returns c =
    let x = c.args in
    let p = c.places-run.ensures in
    rw (c.copy.ensures, c.from.ensures, p.0, p.1) (part_copied _ x.from (length_of x.r) x.x.now x.state.now (omega arith))
