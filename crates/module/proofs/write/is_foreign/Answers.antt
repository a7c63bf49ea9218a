-- `module::write::is_foreign` meets its contract.
use Rattle.std.proofs.Common.{◌≡◌, rules}
use Rattle.ports.specs.Bytes
use Rattle.both.specs.declared.Port.TheVariants.{Recorder}
use Rattle.module.proofs.write.is_foreign.Goals as goal

pub returns-then-eq : goal.returns-then-eq
unfolding Bytes.state_of
returns-then-eq c =
    let recorder : c.args.port ≡ Recorder = search rules in
    rw (c.are_mine.ensures, c.selected.ensures, c.record_of.ensures.0, c.from.ensures, recorder)
