-- `log_calls::sample::sample_view` meets its contract: the 31 bytes at the place that is told lie inside the log, and are the sample.
use Rattle.std.proofs.Common.{refl, arith}
use Rattle.log_calls.proofs.sample.Laws.{view_fits, view_found}
use Rattle.log_calls.proofs.sample.sample_view.Goals as goal

pub slice_bounds-result-end : goal.slice_bounds-result-end
slice_bounds-result-end c =
    omega (arith, view_fits c.args.log c.args.used c.args.position c.in-Ok.ensures.accepted.0)

pub returns-in-Ok : goal.returns-in-Ok
returns-in-Ok c =
    view_found c.args.log c.args.used c.args.position c.in-Ok.ensures.accepted.0 refl refl
