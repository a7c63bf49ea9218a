-- `eight_module::sample::onsets` meets its contract: each of the sixteen is 0 or, behind the lead, an onset.
use Rattle.std.proofs.Common.{◌≡◌, ◌+◌, ◌-◌, ltb, drop, rules, arith, le-ltb, bit_and, bit_xor}
use Rattle.std.specs.Prelude.{if◌then◌else◌}
use Rattle.laws.specs.Lists.{at}
use Rattle.eight_module.proofs.sample.Laws.{led_made, led_at}
use Rattle.eight_module.proofs.sample.onsets.Goals as goal

pub returns : goal.returns
returns c =
    let cs = c.args.cs.bytes in
    let s = c.args.state.now in
    led_made (λ k. if ltb k 2 then 0 else bit_xor (at cs k) (bit_and (at cs k) (at s (k - 2)))) (λ i. bit_xor (at (drop 2 cs) i) (bit_and (at (drop 2 cs) i) (at s i))) (search rules)
    c.from_fn-bytes.ensures.items
    (λ k l. let z : k + 2 - 2 ≡ k = omega arith in rw (le-ltb (k + 2) 2 (omega arith), z, led_at cs k))
