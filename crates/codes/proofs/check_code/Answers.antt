-- `codes::check_code` meets its contract: it is the fold of a wrapped sum.
use Rattle.std.proofs.Common.{◌≡◌, ◌+◌, ◌%◌, fold, ◌∙◌, rules}
use Rattle.codes.proofs.Laws.{code_folds}
use Rattle.codes.proofs.check_code.Goals as goal

pub returns : goal.returns
returns c =
    let e : c.fold.result ≡ fold (λ s b. (s + b) % 256) 0 c.args.s.now = search rules in
    e ∙ code_folds _
