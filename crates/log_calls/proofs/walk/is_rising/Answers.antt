-- `log_calls::walk::is_rising` meets its contract: each block is sound, and each two neighbours have numbers that follow.
use Rattle.std.proofs.Common.{rules, ◌≡◌, ◌∙◌, ◌↔◌, true}
use Rattle.log_calls.proofs.walk.Laws.{AllFine, AllNext, sound_is, not_sound}
use Rattle.log_calls.proofs.walk.is_rising.Goals as goal

pub returns-then-all : goal.returns-then-all
returns-then-all c =
    let b = c.args.blocks.now in
    let fine : (c.all.result ≡ true) ↔ AllFine b c.told-blocks = search rules in
    let next : (c.all-then-all.result ≡ true) ↔ AllNext b c.told-blocks = search rules in
    rw c.if-all.true at (sound_is b c.told-blocks fine next)

pub returns-else-all : goal.returns-else-all
returns-else-all c =
    let b = c.args.blocks.now in
    let fine : (c.all.result ≡ true) ↔ AllFine b c.told-blocks = search rules in
    c.if-all.false ∙ not_sound b c.told-blocks fine c.if-all.false
