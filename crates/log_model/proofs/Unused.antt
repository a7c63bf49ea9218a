-- Document 02, Ask 1: unused memory may hold anything. What is refused and what is left goes by the used blocks, which one by one are
-- the same; what a call writes is made of them.
-- Assumes nothing.
use mathlib.Core.Path.{◌≡◌, refl, sym, ◌∙◌}
use mathlib.Core.Logic.{◌≢◌}
use mathlib.Core.List.{List}
use Prim.Native.Nat.{ℕ, zero, suc, ◌+◌, ◌-◌, ◌*◌, ◌≤◌, ◌<◌}
use native.Mathlib.Omega.{arith}
use lib.Dec.{eqb}
use lib.ListN.{length}
use borrow.Author.Tests.{eqb-true, eqb-false}
use Rattle.laws.specs.Lists.{at}
use Rattle.laws.proofs.Tests.{case}
use Rattle.block.specs.Block.{block_size, grown}
use Rattle.log_model.specs.Log.{block, samples, last_number, needs_new, put, new_block, after_power_up, after_add, used_after}
use Rattle.log_model.specs.Outcomes.{add_refusal, power_up_refusal, sample_refusal}
use Rattle.block.proofs.Blocks.{fresh_length, fresh_count, grown_length}
use Rattle.log_model.proofs.BlockByBlock.{sound_same, samples_same, blocks_same, put_here, put_other}
use Rattle.log_model.proofs.PowerUps.{power_up_room}
use Rattle.log_model.proofs.Adds.{add_taken, add_room, add_last_room}

-- two logs that agree in their used blocks
module _ (log t : List ℕ) (used : ℕ) (long : length t ≡ length log) (fits : block_size * used ≤ length log)
    (agree : (i : ℕ) → i < block_size * used → at t i ≡ at log i) where
  same : (i : ℕ) → i < used → block t i ≡ block log i
  same = blocks_same log t used long fits agree

  last_same : (last_number t used ≡ last_number log used) × (needs_new t used ≡ needs_new log used)
  last_same = by used same
    where
      by : (n : ℕ) → ((i : ℕ) → i < n → block t i ≡ block log i) → (last_number t n ≡ last_number log n) × (needs_new t n ≡ needs_new log n)
      by zero e = (refl, refl)
      by (suc n) e = (rw (e n (omega arith)), rw (e n (omega arith)))

  -- the same is refused, 14 too, and the samples are the same
  pub unused_free : (samples t used ≡ samples log used) × ((x : List ℕ) → add_refusal t used x ≡ add_refusal log used x) × (power_up_refusal t used ≡ power_up_refusal log used)
      × ((k : ℕ) → sample_refusal t used k ≡ sample_refusal log used k)
  unused_free = (
    samples_same log t used same,
    λ x. rw (long, sound_same log t used same, last_same.0, last_same.1),
    rw (long, sound_same log t used same, last_same.0),
    λ k. rw (long, sound_same log t used same, samples_same log t used same),
  )

  put_agree : (m : ℕ) (b : List ℕ) → length b ≡ block_size → block_size * m + block_size ≤ length log → (i : ℕ) → (i ≢ m → i < used) → block (put t m b) i ≡ block (put log m b) i
  put_agree m b l room i near = case (eqb i m)
      (λ q. rw (eqb-true i m q, put_here t m b l (omega arith), put_here log m b l room))
      (λ q. let d = eqb-false i m q in let h = near d in
      put_other t m b i d (omega arith) ∙ same i h ∙ sym (put_other log m b i d (omega arith)))

  -- and what the calls leave agrees in the blocks that are used then
  pub unused_power_up : power_up_refusal log used ≡ 0 → (i : ℕ) → i < suc used → block (after_power_up t used) i ≡ block (after_power_up log used) i
  unused_power_up e i h = rw last_same.0 (put_agree used (new_block log used) (fresh_length _) (power_up_room log used e) i (λ d. omega arith))

  pub unused_add : (x : List ℕ) → add_refusal log used x ≡ 0 → (i : ℕ) → i < used_after log used → block (after_add t used x) i ≡ block (after_add log used x) i
  unused_add x e i h =
      let wide = (add_taken log used x e).0 in
      rw (last_same.0, last_same.1) (case (needs_new log used)
      (λ n. let l : i < suc used = rw n at h in
      rw n (put_agree used (grown (new_block log used) x) (grown_length (new_block log used) x (rw (fresh_count (suc (last_number log used))) (omega arith)) wide) (add_room log used x e n) i (λ d. omega arith)))
      (λ n. let l : i < used = rw n at h in
      let (some_used, room, few) = add_last_room log used x e n in
      rw (n, same (used - 1) (omega arith)) (put_agree (used - 1) (grown (block log (used - 1)) x) (grown_length (block log (used - 1)) x few wide) room i (λ d. l))))
