-- Document 02, Ask 1: what an add leaves. Whether the block that is written is the last or a new one, it follows the one before it and
-- has one sample more: so a sound log stays sound, the sample comes after those that were there, and no other block is changed.
-- Assumes nothing.
use Rattle.std.specs.Prelude.{if◌then◌else◌}
use mathlib.Core.Path.{◌≡◌, refl, sym, ap, ◌∙◌}
use mathlib.Core.Bool.{true, false, true≢false, not, ◌&&◌}
use mathlib.Core.List.{List, [], ◌∷◌, ◌++◌, append_assoc}
use Prim.Native.Nat.{ℕ, zero, suc, ◌+◌, ◌-◌, ◌*◌, ◌≤◌, ◌<◌}
use native.Mathlib.Omega.{arith}
use lib.Dec.{eqb}
use lib.ListN.{length}
use borrow.Author.Tests.{eqb-true, leb-false, not-true, not-false}
use Rattle.laws.specs.Lists.{at}
use Rattle.laws.proofs.Tests.{case, and_left, and_right}
use Rattle.laws.proofs.Lists.{part_length}
use Rattle.laws.proofs.Rows.{first_none}
use Rattle.block.specs.Block.{block_size, sample_size, number, count, most_samples, samples_in, sound_block, grown, Bytes}
use Rattle.log_model.specs.Log.{blocks, block, samples, last_number, needs_new, put, new_block, after_add, used_after, wrong_sample, unsound, none_left, add_rows, Fit}
use Rattle.log_model.specs.Outcomes.{add_refusal}
use Rattle.block.proofs.Blocks.{fresh_length, fresh_count, fresh_samples, fresh_sound, grown_length, grown_number, grown_samples, grown_sound}
use Rattle.log_model.proofs.BlockByBlock.{sound_less, sound_block_lem, sound_follows, put_length, put_else, put_here}
use Rattle.log_model.proofs.Fits.{fit, Next, next_of, next_new, put_fit, put_samples}
use Rattle.log_model.proofs.PowerUps.{left_over, new_number}

-- in a new block
module _ (log : List ℕ) (used : ℕ) (x : List ℕ) (bytes : Bytes log) (was : Fit log used) (long : length x ≡ sample_size) (free : none_left log used ≡ false) where
  first : List ℕ
  first = grown (new_block log used) x

  none : count (new_block log used) < most_samples
  none = rw (fresh_count _) (omega arith)

  first_long : length first ≡ block_size
  unfolding first
  first_long = grown_length (new_block log used) x none long

  first_fine : sound_block first ≡ true
  unfolding first
  first_fine = grown_sound (new_block log used) x none long (fresh_sound _)

  first_number : number first ≡ suc (last_number log used)
  unfolding first
  first_number = grown_number (new_block log used) x none long ∙ new_number log used bytes was free

  first_samples : samples_in first ≡ x ∷ []
  unfolding first
  first_samples = grown_samples (new_block log used) x none long (fresh_length _) ∙ rw (fresh_samples _)

  new_fit : Fit (put log used first) (suc used)
  new_fit = put_fit log used was.whole (left_over log used free).0 was.good first first_long first_fine (rw first_number (next_new log used))

  new_samples : samples (put log used first) (suc used) ≡ samples log used ++ (x ∷ [])
  new_samples =
      put_samples log used was.whole (left_over log used free).0 was.good first first_long first_fine (rw first_number (next_new log used))
      ∙ rw first_samples

  new_last : last_number (put log used first) (suc used) ≡ suc (last_number log used)
  new_last = let room = (left_over log used free).0 in rw (put_here log used first first_long (omega arith)) first_number

-- in the last block, block n
module _ (log : List ℕ) (n : ℕ) (x : List ℕ) (was : Fit log (suc n)) (long : length x ≡ sample_size) (room : count (block log n) < most_samples) where
  old_long : length (block log n) ≡ block_size
  old_long = let h = was.fits in part_length (block_size * n) block_size log (omega arith)

  more : List ℕ
  more = grown (block log n) x

  more_long : length more ≡ block_size
  unfolding more
  more_long = grown_length (block log n) x room long

  more_fine : sound_block more ≡ true
  unfolding more
  more_fine = grown_sound (block log n) x room long (sound_block_lem log (suc n) n (omega arith) was.good)

  more_number : number more ≡ number (block log n)
  unfolding more
  more_number = grown_number (block log n) x room long

  more_next : Next log n (number more)
  more_next = rw more_number (next_of log n (sound_follows log (suc n) n (omega arith) was.good))

  last_fit : Fit (put log n more) (suc n)
  last_fit = put_fit log n was.whole was.fits (sound_less log n (suc n) (omega arith) was.good) more more_long more_fine more_next

  last_samples : samples (put log n more) (suc n) ≡ samples log (suc n) ++ (x ∷ [])
  unfolding more samples
  last_samples =
      put_samples log n was.whole was.fits (sound_less log n (suc n) (omega arith) was.good) more more_long more_fine more_next
      ∙ rw (grown_samples (block log n) x room long old_long) (sym (append_assoc (samples log n) (samples_in (block log n)) (x ∷ [])))

  last_last : last_number (put log n more) (suc n) ≡ last_number log (suc n)
  last_last = let h = was.fits in rw (put_here log n more more_long (omega arith)) more_number

-- what holds of both holds of an add that is not refused 14
pub add_elim : (log : List ℕ) (used : ℕ) (x : List ℕ) (P : List ℕ → ℕ → Type 0) → (needs_new log used && none_left log used) ≡ false
    → (needs_new log used ≡ true → none_left log used ≡ false → P (put log used (grown (new_block log used) x)) (suc used))
    → ((n : ℕ) → used ≡ suc n → needs_new log used ≡ false → count (block log n) < most_samples → P (put log n (grown (block log n) x)) (suc n))
    → P (after_add log used x) (used_after log used)
add_elim log zero x P e new last = new refl e
add_elim log (suc n) x P e new last = case (needs_new log (suc n))
    (λ t. rw t (new t (rw t at e)))
    (λ t. let z : suc n - 1 ≡ n = omega arith in rw (t, z) (last n refl t (leb-false most_samples (count (block log n)) t)))

module _ (log : List ℕ) (used : ℕ) (x : List ℕ) (taken : add_refusal log used x ≡ 0) where
  -- an accepted add is refused none of 8, 15 and 14
  pub add_taken : (length x ≡ sample_size) × Fit log used × ((needs_new log used && none_left log used) ≡ false)
  add_taken =
      let w = wrong_sample x in
      let u = unsound log used in
      let f = needs_new log used && none_left log used in
      let all = (first_none (add_rows log used x) refl).0 taken in
      let rest = and_right (not w) (not u && (not f && true)) all in (
        eqb-true (length x) sample_size (not-false (eqb (length x) sample_size) (not-true w (and_left (not w) (not u && (not f && true)) all))),
        fit log used (not-true u (and_left (not u) (not f && true) rest)),
        not-true f (and_left (not f) true (and_right (not u) (not f && true) rest)),
      )

  long : length x ≡ sample_size
  long = add_taken.0

  was : Fit log used
  was = add_taken.1

  free : (needs_new log used && none_left log used) ≡ false
  free = add_taken.2

  -- the last block, by whichever number it has
  at_last : (n : ℕ) → used ≡ suc n → Fit log (suc n)
  at_last n e = rw e at was

  -- the log that is left is sound; its samples are the old ones and then this one; its last number is the old one, or with a new block one
  -- more
  pub add_sound : Bytes log → Fit (after_add log used x) (used_after log used)
  unfolding first more
  add_sound bytes = add_elim log used x Fit free (λ t l. new_fit log used x bytes was long l) (λ n e t r. last_fit log n x (at_last n e) long r)

  pub add_samples : Bytes log → samples (after_add log used x) (used_after log used) ≡ samples log used ++ (x ∷ [])
  unfolding first more
  add_samples bytes =
      add_elim log used x (λ t n. samples t n ≡ samples log used ++ (x ∷ [])) free
      (λ t l. new_samples log used x bytes was long l) (λ n e t r. rw e (last_samples log n x (at_last n e) long r))

  pub add_number : Bytes log → last_number (after_add log used x) (used_after log used) ≡ (if needs_new log used then suc (last_number log used) else last_number log used)
  unfolding first more
  add_number bytes =
      add_elim log used x (λ t n. last_number t n ≡ (if needs_new log used then suc (last_number log used) else last_number log used)) free
      (λ t l. rw t (new_last log used x bytes was long l))
      (λ n e t r. rw t (last_last log n x (at_last n e) long r ∙ ap (last_number log) (sym e)))

  -- no byte is changed but those of block `used_after - 1`, which is the last used block or the new one
  pub add_elsewhere : (i : ℕ) → i < length log
      → (block_size * used_after log used ≤ i + block_size → i < block_size * used_after log used → ⊥) → at (after_add log used x) i ≡ at log i
  add_elsewhere i h =
      add_elim log used x (λ t n. (block_size * n ≤ i + block_size → i < block_size * n → ⊥) → at t i ≡ at log i) free
      (λ t l no. put_else log used (grown (new_block log used) x) i h (λ u v. no (omega arith) (omega arith)))
      (λ n e t r no. put_else log n (grown (block log n) x) i h (λ u v. no (omega arith) (omega arith)))

  pub add_length : length (after_add log used x) ≡ length log
  add_length = add_elim log used x (λ t n. length t ≡ length log) free (λ t l. put_length log used (grown (new_block log used) x)) (λ n e t r. put_length log n (grown (block log n) x))

  -- there is room for the new block
  pub add_room : needs_new log used ≡ true → block_size * used + block_size ≤ length log
  add_room n = let h = (left_over log used (rw n at free)).0 in omega arith

  -- or in the last one
  pub add_last_room : needs_new log used ≡ false → (1 ≤ used) × (block_size * (used - 1) + block_size ≤ length log) × (count (block log (used - 1)) < most_samples)
  add_last_room n = by used was.fits n
    where
      by : (u : ℕ) → u ≤ blocks log → needs_new log u ≡ false → (1 ≤ u) × (block_size * (u - 1) + block_size ≤ length log) × (count (block log (u - 1)) < most_samples)
      by zero h e = absurd (true≢false e)
      by (suc m) h e =
          let z : suc m - 1 ≡ m = omega arith in
          (omega arith, omega arith, rw z (leb-false most_samples (count (block log m)) e))
