-- What a sound block says of its places; and a block that is written is sealed (Sealed.antt), so it is sound if its count and its unused
-- room are right, and its number and its samples are read off the places before byte 501.
-- Assumes nothing.
use mathlib.Core.Path.{◌≡◌, refl, sym, ap, ◌∙◌}
use mathlib.Core.Logic.{◌≢◌}
use mathlib.Core.Bool.{true, false, ◌&&◌}
use mathlib.Core.List.{List, [], ◌∷◌, ◌++◌}
use Prim.Native.Nat.{ℕ, zero, suc, ◌+◌, ◌-◌, ◌/◌, ◌%◌, ◌≤◌, ◌<◌}
use native.Mathlib.Omega.{arith}
use lib.Dec.{leb, ltb, eqb}
use lib.ListN.{length, length-append, get_or, get_or-append}
use lib.Seq.{get_or-append_seam}
use borrow.Author.Tests.{leb-true, ltb-true, ltb-false, ne_eqb, eqb-true}
use Rattle.laws.specs.Tests.{covers}
use Rattle.laws.specs.Lists.{at, part}
use Rattle.laws.proofs.Tests.{case, and_left, and_right, covers_in, covers_below, covers_above}
use Rattle.laws.proofs.Lists.{table_length}
use Rattle.laws.proofs.Parts.{part_same, is_part}
use Rattle.block.specs.Block.{block_size, sample_size, number, number_bytes, count_at, count, most_samples, slot, room_end, samples_to, samples_in, check_of, sealed, holds, summed, has_summary, checked, ended, sound_block, fresh, grown, grown_at}
use Rattle.block.proofs.Sealed.{holds_at, sealed_at, sealed_summary, sealed_sound}

-- ---- what a sound block says of its places

pub sound_count : (b : List ℕ) → sound_block b ≡ true → count b ≤ most_samples
unfolding sound_block
sound_count b e =
    leb-true (count b) most_samples (and_left (leb (count b) most_samples) (holds (slot (count b)) (room_end - slot (count b)) (λ j. 0) b
    && ended b) e)

pub sound_room : (b : List ℕ) → sound_block b ≡ true → (i : ℕ) → slot (count b) ≤ i → i < room_end → at b i ≡ 0
unfolding sound_block
sound_room b e i h l =
    let r = and_right (leb (count b) most_samples) (holds (slot (count b)) (room_end - slot (count b)) (λ j. 0) b
    && ended b) e in
    let z : slot (count b) + (i - slot (count b)) ≡ i = omega arith in
    rw z at (holds_at (slot (count b)) (room_end - slot (count b)) (λ j. 0) b
    (and_left (holds (slot (count b)) (room_end - slot (count b)) (λ j. 0) b) (ended b) r)
    (i - slot (count b)) (omega arith))

pub sound_ended : (b : List ℕ) → sound_block b ≡ true → ended b ≡ true
unfolding sound_block
sound_ended b e =
    and_right (holds (slot (count b)) (room_end - slot (count b)) (λ j. 0) b) (ended b)
    (and_right (leb (count b) most_samples) (holds (slot (count b)) (room_end - slot (count b)) (λ j. 0) b && ended b) e)

-- its check is the sum of the bytes before it, as they stand
pub sound_check : (b : List ℕ) → sound_block b ≡ true → (at b 510 ≡ check_of (at b) / 256) × (at b 511 ≡ check_of (at b) % 256)
sound_check b e =
    let c = and_right (summed b) (checked b) (sound_ended b e) in (
      eqb-true (at b 510) (check_of (at b) / 256) (and_left (eqb (at b 510) (check_of (at b) / 256)) (eqb (at b 511) (check_of (at b) % 256)) c),
      eqb-true (at b 511) (check_of (at b) % 256) (and_right (eqb (at b 510) (check_of (at b) / 256)) (eqb (at b 511) (check_of (at b) % 256)) c),
    )

-- ---- block n with no samples

module _ (n : ℕ) where
  pub fresh_length : length (fresh n) ≡ block_size
  unfolding fresh
  fresh_length = table_length block_size (sealed (at (number_bytes n)))

  pub fresh_count : count (fresh n) ≡ 0
  unfolding fresh
  fresh_count = sealed_at (at (number_bytes n)) count_at (omega arith)

  pub fresh_samples : samples_in (fresh n) ≡ []
  unfolding samples_to
  fresh_samples = rw fresh_count

  pub number_past : (i : ℕ) → 4 ≤ i → at (number_bytes n) i ≡ 0
  number_past i h = let z : i ≡ suc (suc (suc (suc (i - 4)))) = omega arith in ap (at (number_bytes n)) z ∙ past (i - 4)
    where
      past : (j : ℕ) → at (number_bytes n) (suc (suc (suc (suc j)))) ≡ 0
      past j = refl

  pub fresh_sound : sound_block (fresh n) ≡ true
  unfolding fresh
  fresh_sound = sealed_sound (at (number_bytes n)) (omega arith) (λ i h l. number_past i (omega arith))

  pub fresh_number : n < 4294967296 → number (fresh n) ≡ n
  unfolding fresh
  fresh_number h =
      rw (
        sealed_at (at (number_bytes n)) 0 (omega arith),
        sealed_at (at (number_bytes n)) 1 (omega arith),
        sealed_at (at (number_bytes n)) 2 (omega arith),
        sealed_at (at (number_bytes n)) 3 (omega arith),
      ) (omega arith)

-- ---- block b with one sample more

module _ (b x : List ℕ) (room : count b < most_samples) (long : length x ≡ sample_size) where
  pub grown_length : length (grown b x) ≡ block_size
  unfolding grown
  grown_length = table_length block_size (sealed (grown_at b x))

  pub grown_count : count (grown b x) ≡ suc (count b)
  unfolding grown
  grown_count = sealed_at (grown_at b x) count_at (omega arith)

  -- what stands elsewhere before byte 501 stays
  pub grown_else : (i : ℕ) → i < room_end → i ≢ count_at → covers (slot (count b)) sample_size i ≡ false → at (grown b x) i ≡ at b i
  unfolding grown
  grown_else i h d c = sealed_at (grown_at b x) i h ∙ rw (ne_eqb i count_at d, c)

  pub grown_number : number (grown b x) ≡ number b
  grown_number =
      rw (low 0 (omega arith), low 1 (omega arith), low 2 (omega arith), low 3 (omega arith))
    where
      low : (i : ℕ) → i < count_at → at (grown b x) i ≡ at b i
      low i h = grown_else i (omega arith) (λ z. omega arith) (covers_below (slot (count b)) sample_size i (omega arith))

  -- the samples before it
  before : length b ≡ block_size → (k : ℕ) → k ≤ count b → samples_to (grown b x) k ≡ samples_to b k
  unfolding samples_to
  before e zero h = refl
  before e (suc k) h =
      let g = grown_length in
      rw (
        before e k (omega arith),
        part_same (slot k) sample_size b (omega arith) (grown b x) (omega arith)
            (λ i l. grown_else (slot k + i) (omega arith) (λ z. omega arith) (covers_below (slot (count b)) sample_size (slot k + i) (omega arith))),
      )

  -- and the new one
  newest : x ≡ part (slot (count b)) sample_size (grown b x)
  unfolding grown
  newest =
      let g = table_length block_size (sealed (grown_at b x)) in
      is_part (slot (count b)) sample_size (grown b x) (omega arith) x long
      (λ i h. let z : slot (count b) + i - slot (count b) ≡ i = omega arith in
      sym (sealed_at (grown_at b x) (slot (count b) + i) (omega arith)
      ∙ rw (ne_eqb (slot (count b) + i) count_at (λ z. omega arith), covers_in (slot (count b)) sample_size (slot (count b) + i) (omega arith) (omega arith), z)))

  pub grown_samples : length b ≡ block_size → samples_in (grown b x) ≡ samples_in b ++ (x ∷ [])
  unfolding samples_to
  grown_samples e = rw grown_count (rw (before e (count b) (omega arith), ← newest))

  pub grown_sound : sound_block b ≡ true → sound_block (grown b x) ≡ true
  unfolding grown
  grown_sound s =
      sealed_sound (grown_at b x) (omega arith)
      (λ i h l. rw (ne_eqb i count_at (λ z. omega arith), covers_above (slot (count b)) sample_size i (omega arith)) (sound_room b s i (omega arith) l))

-- ---- its samples

pub samples_length : (b : List ℕ) (k : ℕ) → length (samples_to b k) ≡ k
unfolding samples_to
samples_length b zero = refl
samples_length b (suc k) = length-append (samples_to b k) (part (slot k) sample_size b ∷ []) ∙ rw (samples_length b k) (omega arith)

pub samples_at : (b : List ℕ) (n k : ℕ) → k < n → get_or (samples_to b n) k [] ≡ part (slot k) sample_size b
unfolding samples_to
samples_at b zero k h = absurd (omega arith)
samples_at b (suc n) k h =
    let l = samples_length b n in
    case (ltb k n)
    (λ t. let m = ltb-true k n t in get_or-append (samples_to b n) (part (slot n) sample_size b ∷ []) [] k (omega arith) ∙ samples_at b n k m)
    (λ t. let m = ltb-false k n t in let z : k ≡ n = omega arith in
    rw z (rw l at (get_or-append_seam (samples_to b n) (part (slot n) sample_size b) [] [])))

-- ---- the summary of a block that is written

pub fresh_summary : (n : ℕ) → has_summary (fresh n) ≡ true
unfolding fresh
fresh_summary n = sealed_summary (at (number_bytes n)) (omega arith)

pub grown_summary : (b x : List ℕ) → count b < most_samples → length x ≡ sample_size → has_summary (grown b x) ≡ true
unfolding grown
grown_summary b x room long = sealed_summary (grown_at b x) (omega arith)
