-- `eight_module::sample::join` meets its contract.
use Rattle.std.proofs.Common.{◌∙◌, arith}
use Rattle.eight_module.proofs.sample.Laws.{join_led}
use Rattle.eight_module.proofs.sample.join.Goals as goal

pub returns : goal.returns
returns c =
    let x = c.args in
    let lead = x.led.lead in
    c.join.ensures ∙ join_led x.state.now x.led.bytes x.to c.requires.0 c.requires.1 (omega arith) lead.0 lead.1
