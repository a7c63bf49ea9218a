-- `log_first::first_with` meets its contract: its tests are the rows', but that the search asks for the counts itself.
use Rattle.std.proofs.Common.{◌∙◌, arith}
use Rattle.std.proofs.lemmas.Result.{err_from_is_err_and}
use Rattle.log_first.proofs.Laws.{answered, crowded_first, bit_refused}
use Rattle.log_first.proofs.first_with.Goals as goal

pub returns-then-bit-lt-STATUS_BITS : goal.returns-then-bit-lt-STATUS_BITS
returns-then-bit-lt-STATUS_BITS c =
    let x = c.args in
    c.search.ensures ∙ answered x.log.now x.used x.bit c.in_ok-blocks.ensures.accepted (omega arith)

pub returns-in_err-check_counts : goal.returns-in_err-check_counts
returns-in_err-check_counts c =
    let x = c.args in
    let (many, number_is) = c.in_err-check_counts.ensures.refused in
    let p = err_from_is_err_and c.from_residual-in_err-check_counts.result c.from_residual-in_err-check_counts.ensures.1 in
    rw (p.1, p.2, number_is) (crowded_first x.log.now x.used x.bit c.in_ok-blocks.ensures.accepted many)

pub returns : goal.returns
returns c =
    let x = c.args in
    bit_refused x.log.now x.used x.bit c.in_ok-blocks.ensures.accepted c.in_ok-check_counts.ensures.accepted (omega arith)
