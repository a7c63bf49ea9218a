-- `eight_module::sample::check` meets its contract.
use Rattle.std.proofs.Common.{refl}
use Rattle.ports.proofs.Taken.{sample_refusal_lem}
use Rattle.eight.specs.Module.{eight}
use Rattle.eight_module.proofs.sample.check.Goals as goal

pub returns-clause-refusal : goal.returns-clause-refusal
returns-clause-refusal c =
    rw (sample_refusal_lem eight _ _ c.told-state refl refl c.is_sound-operator.ensures c.is_sound-recorder.ensures) c.check_sample.ensures.refusal
