-- `log_block::begin` meets its contract: a number and zeros are the places before byte 501 that `seal` goes by (`begin_done`).
use Rattle.std.proofs.Common.{ℕ, List, ap, take, drop, refl, ◌∙◌}
use Rattle.log_block.proofs.Laws.{begin_done}
use Rattle.log_block.proofs.begin.Goals as goal

pub returns : goal.returns
returns c = c.seal.ensures ∙ rw c.copy_from_slice.ensures.after (begin_done c.args.n refl (ap (λ (b : List ℕ). take 4 (drop 4 b)) c.to_be_bytes.ensures))
