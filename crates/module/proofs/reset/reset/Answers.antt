-- `module::reset::reset` meets its contract.
use Rattle.std.proofs.Common.{◌≡◌, ◌≢◌, sym, rules, length, Err}
use Rattle.refusal.specs.declared.Refusal.TheVariants.{StateSize}
use Rattle.refusal.specs.Numbers.{number}
use Rattle.refusal.proofs.Unique.{none_is_0}
use Rattle.model.specs.Ports.{reset}
use Rattle.model.proofs.Outcomes.{reported_refused}
use Rattle.module.proofs.Calls.{size_refused}
use Rattle.module.proofs.reset.Laws.{image_checked, reset_done}
use Rattle.module.proofs.reset.reset.Goals as goal

pub returns-in_err-state-clause-refused : goal.returns-in_err-state-clause-refused
returns-in_err-state-clause-refused c =
    let s = c.args.state.now in
    let image = c.args.image.now in
    let other : length s ≢ 688 = search rules in
    let is : c.from_residual.result ≡ Err StateSize = search rules in
    rw is (reported_refused s (reset image) 1 (size_refused s (reset image) other) (none_is_0 StateSize))

pub returns-in_err-image-clause-refused : goal.returns-in_err-image-clause-refused
returns-in_err-image-clause-refused c =
    let s = c.args.state.now in
    let image = c.args.image.now in
    let same : c.in_ok-state.state.now ≡ s = search rules in
    let long : length s ≡ 688 = search rules in
    let is : c.from_residual-in_err-image.result ≡ Err c.in_err-image.field-0.0 = search rules in
    rw (is, same) (reported_refused s (reset image) (number c.in_err-image.field-0.0) (image_checked s image long c.in_err-image.ensures.refusal) (none_is_0 c.in_err-image.field-0.0))

pub returns-clause-accepted : goal.returns-clause-accepted
returns-clause-accepted c =
    let s = c.args.state.now in
    let image = c.args.image.now in
    let same : c.in_ok-state.state.now ≡ s = search rules in
    let long : length s ≡ 688 = search rules in
    let bytes : c.in_ok-image.image.now ≡ image = search rules in
    reset_done s image (sym (image_checked s image long c.in_ok-image.ensures.refusal)) _ _ (rw (same, bytes) at c.restore.ensures) c.forget.ensures
