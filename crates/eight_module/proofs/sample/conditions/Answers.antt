-- `eight_module::sample::conditions` meets its contract: each of the sixteen is 0 or, behind the lead, a condition.
use Rattle.std.proofs.Common.{◌≡◌, ◌+◌, ◌-◌, ltb, rules, arith, le-ltb}
use Rattle.std.specs.Prelude.{if◌then◌else◌}
use Rattle.eight.specs.Module.{conditions}
use Rattle.eight_module.proofs.sample.Laws.{led_made}
use Rattle.eight_module.proofs.sample.conditions.Goals as goal

pub returns : goal.returns
returns c =
    let x = c.args.x.now in
    led_made (λ k. if ltb k 2 then 0 else conditions x (k - 2)) (conditions x) (search rules) c.from_fn-bytes.ensures.items
    (λ k l. let z : k + 2 - 2 ≡ k = omega arith in rw (le-ltb (k + 2) 2 (omega arith), z))
