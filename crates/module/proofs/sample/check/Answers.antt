-- `module::sample::check` meets its contract.
use Rattle.ports.proofs.Taken.{sample_refusal_lem}
use Rattle.model.specs.Module.{document01}
use Rattle.module.proofs.sample.check.Goals as goal

pub returns-clause-refusal : goal.returns-clause-refusal
returns-clause-refusal c =
    rw (sample_refusal_lem document01 _ c.args.bytes.now c.told-state (rw c.into.ensures at c.record_of.ensures.0) (rw c.into-2.ensures at c.record_of-2.ensures.0) c.is_sound-first.ensures c.is_sound-second.ensures)
    c.check_sample.ensures.refusal
