-- A stretch of a log is a log: past m blocks of a sound one the rest, with a used block in it and the memory to the log's end, is sound, and
-- its last block, by which the calls go, is the whole's. So it takes a sample or a power-up as the whole does, and whoever has looked at the
-- whole once need not do so for every sample.
-- Assumes nothing.
use mathlib.Core.Path.{◌≡◌, refl, sym, ap, ◌∙◌}
use mathlib.Core.Bool.{true, false, ◌&&◌, ◌||◌}
use mathlib.Core.List.{List, [], ◌∷◌, ◌++◌}
use Prim.Native.Nat.{ℕ, suc, ◌+◌, ◌-◌, ◌*◌, ◌≤◌, ◌<◌}
use native.Mathlib.Omega.{arith}
use lib.Dec.{leb, eqb}
use lib.ListN.{length, drop, length-drop}
use lib.Seq.{get_or-drop}
use borrow.Author.Tests.{le-leb, lt-leb, leb-true, leb-false}
use Rattle.laws.specs.Tests.{first_of}
use Rattle.laws.specs.Lists.{at, part}
use Rattle.laws.proofs.Tests.{case}
use Rattle.laws.proofs.Lists.{patch_length, patch_in, patch_else, is_patch}
use Rattle.laws.proofs.Parts.{part_part, part_tail}
use Rattle.block.specs.Block.{block_size, number, count, fresh, grown}
use Rattle.log_model.specs.Log.{blocks, block, sound, samples, last_number, needs_new, put, new_block, after_power_up, after_add, used_after, wrong_sample, unsound, none_left, Fit}
use Rattle.log_model.specs.Outcomes.{add_refusal, power_up_refusal}
use Rattle.log_model.proofs.BlockByBlock.{sound_same, samples_same, stretch_block, stretch_samples, stretch_sound}
use Rattle.log_model.proofs.Fits.{fit_sound}

-- past m blocks there are n + 1 used ones more
module _ (log : List ℕ) (m n : ℕ) (was : Fit log (m + suc n)) where
  abbrev rest : List ℕ
  rest = drop (block_size * m) log

  long : length rest ≡ length log - block_size * m
  long = length-drop (block_size * m) log

  count_of : blocks rest ≡ blocks log - m
  count_of = let h = was.fits in rw long (omega arith)

  -- it is sound
  pub stretch_fit : Fit (drop (block_size * m) log) (suc n)
  stretch_fit =
      let h = was.fits in
      let w = was.whole in
      let c = count_of in
      record { whole = rw long (omega arith); fits = omega arith; good = stretch_sound log m (suc n) was.good }

  pub stretch_last : last_number rest (suc n) ≡ last_number log (m + suc n)
  stretch_last = let z : m + suc n ≡ suc (m + n) = omega arith in rw z (ap number (stretch_block log m n))

  stretch_needs : needs_new rest (suc n) ≡ needs_new log (m + suc n)
  stretch_needs = let z : m + suc n ≡ suc (m + n) = omega arith in rw z (ap (λ b. leb 16 (count b)) (stretch_block log m n))

  stretch_left : none_left rest (suc n) ≡ none_left log (m + suc n)
  stretch_left =
      let c = count_of in
      let h = was.fits in
      let full : leb (blocks rest) (suc n) ≡ leb (blocks log) (m + suc n) = case (leb (blocks log) (m + suc n))
      (λ t. let k = leb-true (blocks log) (m + suc n) t in rw t (le-leb (blocks rest) (suc n) (omega arith)))
      (λ t. let k = leb-false (blocks log) (m + suc n) t in rw t (lt-leb (blocks rest) (suc n) (omega arith))) in
      λ i. full i || eqb (stretch_last i) 4294967295

  stretch_unsound : unsound rest (suc n) ≡ unsound log (m + suc n)
  stretch_unsound = fit_sound stretch_fit ∙ sym (fit_sound was)

  -- each call is refused what the whole is refused
  pub stretch_add_refusal : (x : List ℕ) → add_refusal (drop (block_size * m) log) (suc n) x ≡ add_refusal log (m + suc n) x
  stretch_add_refusal x = λ i. first_of ((8, wrong_sample x) ∷ (15, stretch_unsound i) ∷ (14, (stretch_needs i && stretch_left i)) ∷ [])

  pub stretch_power_up_refusal : power_up_refusal (drop (block_size * m) log) (suc n) ≡ power_up_refusal log (m + suc n)
  stretch_power_up_refusal = λ i. first_of ((15, stretch_unsound i) ∷ (14, stretch_left i) ∷ [])

  -- a block that is put into it
  put_rest : (i : ℕ) (b : List ℕ) → drop (block_size * m) (put log (m + i) b) ≡ put rest i b
  unfolding put
  put_rest i b =
      let l = long in
      let p : List ℕ = put log (m + i) b in
      let lp : length p ≡ length log = patch_length (block_size * (m + i)) block_size (at b) log in
      is_patch (block_size * i) block_size (at b) rest (drop (block_size * m) p) (length-drop (block_size * m) p ∙ rw lp (sym long))
      (λ j k h. let z : block_size * m + (block_size * i + j) ≡ block_size * (m + i) + j = omega arith in
      get_or-drop (block_size * m) p (block_size * i + j) 0 ∙ ap (at p) z ∙ patch_in (block_size * (m + i)) block_size (at b) log j k (omega arith))
      (λ j h no. get_or-drop (block_size * m) p j 0
      ∙ patch_else (block_size * (m + i)) block_size (at b) log (block_size * m + j) (omega arith) (λ u v. no (omega arith) (omega arith))
      ∙ sym (get_or-drop (block_size * m) log j 0))

  -- and leaves what the whole leaves
  pub stretch_add : (x : List ℕ) → (after_add (drop (block_size * m) log) (suc n) x ≡ drop (block_size * m) (after_add log (m + suc n) x))
      × (m + used_after (drop (block_size * m) log) (suc n) ≡ used_after log (m + suc n))
  stretch_add x = case (needs_new log (m + suc n))
      (λ t. let s : needs_new rest (suc n) ≡ true = stretch_needs ∙ t in
      rw (t, s) (ap (λ k. put rest (suc n) (grown (fresh (suc k)) x)) stretch_last ∙ sym (put_rest (suc n) (grown (new_block log (m + suc n)) x)), omega arith))
      (λ t. let s : needs_new rest (suc n) ≡ false = stretch_needs ∙ t in
      let y : suc n - 1 ≡ n = omega arith in
      let z : m + suc n - 1 ≡ m + n = omega arith in
      rw (t, s, y, z) (ap (λ b. put rest n (grown b x)) (stretch_block log m n) ∙ sym (put_rest n (grown (block log (m + n)) x)), refl))

  pub stretch_power_up : after_power_up (drop (block_size * m) log) (suc n) ≡ drop (block_size * m) (after_power_up log (m + suc n))
  stretch_power_up = ap (λ k. put rest (suc n) (fresh (suc k))) stretch_last ∙ sym (put_rest (suc n) (new_block log (m + suc n)))

-- n blocks past m of a log, alone: sound, if the log is, and its samples come after those of the m blocks before it
module _ (log : List ℕ) (m n : ℕ) (fits : m + n ≤ blocks log) where
  middle_block : (i : ℕ) → i < n → block (part (block_size * m) (block_size * n) log) i ≡ block (drop (block_size * m) log) i
  middle_block i h =
      part_part (block_size * m) (block_size * n) (block_size * i) block_size log (omega arith) (omega arith) ∙ sym (part_tail (block_size * m) (block_size * i) block_size log)

  pub middle_sound : sound log (m + n) ≡ true → sound (part (block_size * m) (block_size * n) log) n ≡ true
  middle_sound e = sound_same (drop (block_size * m) log) (part (block_size * m) (block_size * n) log) n middle_block ∙ stretch_sound log m n e

  pub middle_samples : samples log (m + n) ≡ samples log m ++ samples (part (block_size * m) (block_size * n) log) n
  middle_samples = rw (samples_same (drop (block_size * m) log) (part (block_size * m) (block_size * n) log) n middle_block) (stretch_samples log m n)
