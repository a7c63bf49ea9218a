-- Document 02, Ask 9: the block that an add or a power-up writes has a summary over all its samples, whatever it had before.
-- Assumes nothing.
use mathlib.Core.Path.{◌≡◌, ap, ◌∙◌}
use mathlib.Core.Bool.{true}
use mathlib.Core.List.{List}
use Prim.Native.Nat.{ℕ, suc, ◌-◌, ◌<◌}
use native.Mathlib.Omega.{arith}
use Rattle.block.specs.Block.{count, most_samples, has_summary, grown}
use Rattle.log_model.specs.Log.{block, new_block, after_power_up, after_add, used_after}
use Rattle.log_model.specs.Outcomes.{add_refusal, power_up_refusal}
use Rattle.block.proofs.Blocks.{fresh_length, fresh_count, fresh_summary, grown_length, grown_summary}
use Rattle.log_model.proofs.BlockByBlock.{put_here}
use Rattle.log_model.proofs.PowerUps.{left_over, power_up_room}
use Rattle.log_model.proofs.Adds.{add_elim, add_taken}

-- block `used_after - 1` is the one that an add writes
pub add_summary : (log : List ℕ) (used : ℕ) (x : List ℕ) → add_refusal log used x ≡ 0 → has_summary (block (after_add log used x) (used_after log used - 1)) ≡ true
add_summary log used x taken =
    let (long, was, free) = add_taken log used x taken in
    add_elim log used x (λ t n. has_summary (block t (n - 1)) ≡ true) free
    (λ t l. let z : suc used - 1 ≡ used = omega arith in
    let h = (left_over log used l).0 in
    let few : count (new_block log used) < most_samples = rw (fresh_count _) (omega arith) in
    rw z (ap has_summary (put_here log used (grown (new_block log used) x) (grown_length (new_block log used) x few long) (omega arith)) ∙ grown_summary (new_block log used) x few long))
    (λ n e t r. let z : suc n - 1 ≡ n = omega arith in
    let h = was.fits in
    rw z (ap has_summary (put_here log n (grown (block log n) x) (grown_length (block log n) x r long) (omega arith)) ∙ grown_summary (block log n) x r long))

pub power_up_summary : (log : List ℕ) (used : ℕ) → power_up_refusal log used ≡ 0 → has_summary (block (after_power_up log used) used) ≡ true
power_up_summary log used taken =
    ap has_summary (put_here log used (new_block log used) (fresh_length _) (power_up_room log used taken)) ∙ fresh_summary _
