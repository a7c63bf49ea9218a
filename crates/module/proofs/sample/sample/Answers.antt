-- `module::sample::sample` meets its contract.
use Rattle.std.proofs.Common.{◌≡◌, ◌≢◌, rules, length, Err}
use Rattle.refusal.specs.declared.Refusal.TheVariants.{StateSize}
use Rattle.refusal.specs.Numbers.{number}
use Rattle.refusal.proofs.Unique.{none_is_0}
use Rattle.model.specs.Ports.{sample}
use Rattle.model.proofs.Outcomes.{reported_refused}
use Rattle.module.proofs.Calls.{size_refused}
use Rattle.module.proofs.sample.sample.Goals as goal

pub returns-in_err-state-clause-refused : goal.returns-in_err-state-clause-refused
returns-in_err-state-clause-refused c =
    let s = c.args.state.now in
    let x = c.args.x.now in
    let other : length s ≢ 688 = search rules in
    let is : c.from_residual.result ≡ Err StateSize = search rules in
    rw is (reported_refused s (sample x) 1 (size_refused s (sample x) other) (none_is_0 StateSize))

pub returns-in_err-x-clause-refused : goal.returns-in_err-x-clause-refused
returns-in_err-x-clause-refused c =
    let s = c.args.state.now in
    let x = c.args.x.now in
    let same : c.in_ok-state.state.now ≡ s = search rules in
    let is : c.from_residual-in_err-x.result ≡ Err c.in_err-x.field-0.0 = search rules in
    rw (is, same) (reported_refused s (sample x) (number c.in_err-x.field-0.0) (rw same at c.in_err-x.ensures.refusal) (none_is_0 c.in_err-x.field-0.0))
