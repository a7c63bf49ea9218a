-- `log_calls::walk::sound_blocks` meets its contract: there are no more sound blocks than numbers.
use Rattle.std.proofs.Common.{◌≡◌, true, sym, ◌∙◌, arith}
use Rattle.log_model.specs.Log.{sound}
use Rattle.log_model.proofs.Fits.{fitting}
use Rattle.log_calls.proofs.Blocks.{cut_sound}
use Rattle.log_calls.proofs.walk.Laws.{at_most}
use Rattle.log_calls.proofs.walk.sound_blocks.Goals as goal

pub returns-clause-few : goal.returns-clause-few
returns-clause-few c =
    let log = c.args.log.now in
    let used = c.args.used in
    let cut = c.in_ok-blocks.ensures.accepted in
    let good : sound log used ≡ true = sym (cut_sound log used cut.1 cut.0) ∙ (sym c.is_rising.ensures ∙ c.if-not-is_rising.false) in
    let (whole, fits) = fitting log used cut.0 in
    at_most log used (λ i. omega (arith, c.type_inv.log i)) (record { whole = whole; fits = fits; good = good })
