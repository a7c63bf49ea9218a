-- `eight_module::sample::accept` meets its contract.
use Rattle.std.proofs.Common.{◌∙◌, arith}
use Rattle.eight_module.proofs.sample.Laws.{led_copied, sample_done}
use Rattle.eight_module.proofs.sample.accept.Goals as goal

pub returns : goal.returns
returns c =
    let cs = c.conditions-cs.result.bytes in
    let kept = c.copy.ensures ∙ led_copied c.args.state.now cs (omega arith) in
    sample_done _ _ c.requires _ _ _ _ _ c.conditions-cs.ensures c.onsets-os.ensures kept c.raise.ensures c.raise-2.ensures _ _
    c.count_of.ensures c.count_of-2.ensures
