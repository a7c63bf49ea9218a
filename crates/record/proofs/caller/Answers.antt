-- `record::caller` meets its contract: a number that is a port's is nobody's, so that refusal 3 goes by the record alone.
use Rattle.std.proofs.Common.{rules, ◌≡◌, ℕ, false, length}
use Rattle.ports.proofs.Taken.{port_refusal}
use Rattle.model.specs.Ports.{nobody}
use Rattle.model.specs.Map.{state_size}
use Rattle.model.specs.Module.{document01}
use Rattle.both.specs.Ports.{port_number}
use Rattle.both.specs.declared.Port.{Port}
use Rattle.both.specs.declared.Port.TheVariants.{Operator, Recorder}
use Rattle.record.proofs.caller.Goals as goal

somebody : (p : Port) (n : ℕ) → port_number p ≡ n → nobody n ≡ false
somebody Operator n e = rw (← e)
somebody Recorder n e = rw (← e)

pub returns-then-not-is_sound-clause-refusal : goal.returns-then-not-is_sound-clause-refusal
returns-then-not-is_sound-clause-refusal c =
    let same : c.in_ok-state.state.now ≡ c.args.state.now = search rules in
    let there : length c.args.state.now ≡ state_size = search rules in
    let sound_is = rw same at c.is_sound.ensures in
    rw (port_refusal document01 _ _ there c.record_of.ensures.0 sound_is, somebody _ _ c.in_ok-caller.ensures, c.if-not-is_sound.true)

pub returns-clause-refusal : goal.returns-clause-refusal
returns-clause-refusal c =
    let same : c.in_ok-state.state.now ≡ c.args.state.now = search rules in
    let there : length c.args.state.now ≡ state_size = search rules in
    let sound_is = rw same at c.is_sound.ensures in
    rw (port_refusal document01 _ _ there c.record_of.ensures.0 sound_is, somebody _ _ c.in_ok-caller.ensures, c.if-not-is_sound.false)
