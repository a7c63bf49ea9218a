-- `log_calls::change::target_block` meets its contract: past the first refusal the blocks are the log's, so both tests are those of the row.
use Rattle.std.proofs.Common.{◌≡◌, true, sym, ◌∙◌}
use Rattle.laws.proofs.Tests.{or_left}
use Rattle.log_model.specs.Log.{misfit, needs_new, none_left}
use Rattle.log_calls.proofs.Blocks.{cut_full, cut_none_left}
use Rattle.log_calls.proofs.change.target_block.Goals as goal

pub returns-then-none_left-clause-code : goal.returns-then-none_left-clause-code
returns-then-none_left-clause-code c =
    let log = c.args.log.now in
    let used = c.args.used in
    let (fine, cut) = c.in_ok-blocks.ensures.accepted in
    let fits = or_left (misfit log used) _ fine in
    let need : needs_new log used ≡ true = cc (cut_full log used cut fits) in
    let full : none_left log used ≡ true = sym (cut_none_left log used cut fits) ∙ (sym c.none_left.ensures ∙ c.if-none_left.true) in
    rw (fine, need, full)
