-- Document 02, Ask 1: positions. By the used blocks, the last one last: a position below the samples of those before it lies in one of
-- these, and else in the last, as far into it as the position is above them. So the bytes at its place are that sample of the list.
-- Assumes nothing.
use mathlib.Core.Path.{◌≡◌, sym, ap, ◌∙◌}
use mathlib.Core.Bool.{true}
use mathlib.Core.List.{List, [], ◌∷◌, ◌++◌}
use Prim.Native.Nat.{ℕ, zero, suc, ◌+◌, ◌-◌, ◌*◌, ◌≤◌, ◌<◌}
use native.Mathlib.Omega.{arith}
use lib.Dec.{ltb}
use lib.ListN.{get_or, get_or-append}
use lib.Seq.{get_or-append-add}
use borrow.Author.Tests.{lt-ltb, le-ltb, lt-leb, ltb-true, ltb-false}
use Rattle.laws.specs.Tests.{first_of}
use Rattle.laws.specs.Lists.{part}
use Rattle.laws.proofs.Tests.{case}
use Rattle.laws.proofs.Parts.{part_part}
use Rattle.block.specs.Block.{block_size, sample_size, count, slot, samples_in}
use Rattle.log_model.specs.Log.{blocks, block, sound, samples, total, place_of, Fit}
use Rattle.log_model.specs.Outcomes.{sample_refusal, Placed}
use Rattle.block.proofs.Blocks.{sound_count, samples_length, samples_at}
use Rattle.log_model.proofs.BlockByBlock.{sound_less, sound_block_lem, total_more}
use Rattle.log_model.proofs.Fits.{fit_sound}

module _ (log : List ℕ) where
  -- the walk: before block n there are at most k samples, with it more
  pub place_found : (used n k : ℕ) → n < used → total log n ≤ k → k < total log n + count (block log n)
      → (k < total log used) × (place_of log used k ≡ block_size * n + slot (k - total log n))
  unfolding place_of
  place_found zero n k h l u = absurd (omega arith)
  place_found (suc m) n k h l u = case (ltb n m)
      (λ t. let (i, e) = place_found m n k (ltb-true n m t) l u in
      let g = total_more log m in
      let w : k < total log (suc m) = omega arith in
      (w, rw (lt-ltb k (total log m) i) e))
      (λ t. let g = ltb-false n m t in
      let z : n ≡ m = omega arith in
      let more = total_more log n in
      let w : k < total log (suc n) = omega arith in
      (rw z at w, rw (← z, le-ltb k (total log n) l)))

  -- the sample at position k of a log whose used blocks are there: it lies inside them, and it is that sample of the list
  pub sample_lies : (n k : ℕ) → n ≤ blocks log → sound log n ≡ true → k < total log n
      → (place_of log n k + sample_size ≤ block_size * n) × (part (place_of log n k) sample_size log ≡ get_or (samples log n) k [])
  unfolding place_of samples
  sample_lies zero k h s l = absurd (omega arith)
  sample_lies (suc n) k h s l =
      let b : List ℕ = block log n in
      let rows = samples_length b (count b) in
      let few = sound_count b (sound_block_lem log (suc n) n (omega arith) s) in
      let more = total_more log n in
      case (ltb k (total log n))
      (λ t. let (i, e) = sample_lies n k (omega arith) (sound_less log n (suc n) (omega arith) s) (ltb-true k (total log n) t) in
      rw t (omega arith, e ∙ sym (get_or-append (samples log n) (samples_in b) [] k (ltb-true k (total log n) t))))
      (λ t. let g = ltb-false k (total log n) t in
      let j : ℕ = k - total log n in
      let z : total log n + j ≡ k = omega arith in
      let r : j < count b = omega arith in
      rw t (
        omega arith,
        sym (part_part (block_size * n) block_size (slot j) sample_size log (omega arith) (omega arith))
            ∙ sym (samples_at b (count b) j r)
            ∙ sym (get_or-append-add (samples log n) (samples_in b) j [])
            ∙ ap (λ i. get_or (samples log n ++ samples_in b) i []) z,
      ))

-- a position of a sound log: the reading is accepted, and the 31 bytes at the place that C is told are that sample
module _ (log : List ℕ) (used k : ℕ) (was : Fit log used) (there : k < total log used) where
  pub sample_taken : sample_refusal log used k ≡ 0
  sample_taken = λ i. first_of ((15, fit_sound was i) ∷ (17, lt-leb (total log used) k there i) ∷ [])

  pub sample_placed : {r s : ℕ} → Placed log used k r s → (r ≡ 0) × (part s sample_size log ≡ get_or (samples log used) k [])
  sample_placed {r} {s} d =
      let e : s ≡ place_of log used k = d.start_is ∙ rw sample_taken in
      (d.refusal_is ∙ sample_taken, rw e (sample_lies log used k was.fits was.good there).1)
