-- `log_calls::change::open_block` meets its contract: the block that was lent comes back empty, with the number after the last one's, so
-- it is put (`block_back`).
use Rattle.std.proofs.Common.{◌≡◌, ap, ◌∙◌, suc, add-one, rules}
use Rattle.block.specs.Block.{fresh}
use Rattle.block.proofs.Blocks.{fresh_length}
use Rattle.log_model.specs.Log.{last_number, new_block}
use Rattle.log_calls.proofs.change.Laws.{room, last_cut, next_fits, block_back}
use Rattle.log_calls.proofs.change.open_block.Goals as goal

pub overflow_add-number : goal.overflow_add-number
overflow_add-number c =
    let x = c.args in
    let l = c.last_number-number in
    search (rules, next_fits x.log.now x.used c.requires (l.ensures ∙ last_cut x.log.now x.used c.requires c.as_chunks.ensures.front) l.type_inv)

pub returns : goal.returns
returns c =
    let x = c.args in
    let s = c.split_at_mut-rest.ensures in
    let b = new_block x.log.now x.used in
    let n = c.last_number-number.ensures ∙ last_cut x.log.now x.used c.requires c.as_chunks.ensures.front in
    let e : c.begin.new.block ≡ b = c.begin.ensures ∙ ap fresh (c.from.ensures ∙ add-one _ ∙ ap suc n) in
    rw (s.front, s.back, e) (block_back x.log.now x.used b (room x.log.now x.used c.requires) (fresh_length (suc (last_number x.log.now x.used))))
