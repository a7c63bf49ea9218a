-- `log_first::check_counts` meets its contract: it finds none exactly if each count is at most 16.
use Rattle.std.proofs.Common.{◌≡◌, ◌↔◌, false, length, refl, sym, ◌∙◌, rules}
use Rattle.log_first.proofs.Laws.{Few, few_counts}
use Rattle.log_first.proofs.check_counts.Goals as goal

pub returns-then-any-clause-refused : goal.returns-then-any-clause-refused
returns-then-any-clause-refused c =
    let b = c.args.blocks.now in
    let few : (c.any.result ≡ false) ↔ Few b (length b) = search rules in
    (sym (few_counts b c.told-blocks few) ∙ c.if-any.true, refl)

pub returns-clause-accepted : goal.returns-clause-accepted
returns-clause-accepted c =
    let b = c.args.blocks.now in
    let few : (c.any.result ≡ false) ↔ Few b (length b) = search rules in
    sym (few_counts b c.told-blocks few) ∙ c.if-any.false
