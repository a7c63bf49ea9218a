-- A log, block by block: what is said of its first n + 1 blocks is said of the first n and of the one after them. So memories that agree
-- in these blocks have it in common, a block that is put leaves the others, and what lies past m blocks is a log.
-- Assumes nothing.
use mathlib.Core.Path.{◌≡◌, refl, sym, ap, ◌∙◌}
use mathlib.Core.Logic.{◌≢◌}
use mathlib.Core.Bool.{true, ◌&&◌}
use mathlib.Core.List.{List, ◌++◌, append_assoc, append-nil}
use Prim.Native.Nat.{ℕ, zero, suc, ◌+◌, ◌*◌, ◌≤◌, ◌<◌}
use native.Mathlib.Omega.{arith}
use lib.Dec.{ltb, eqb}
use lib.ListN.{get_or-eq_default, length, drop, length-append}
use borrow.Author.Tests.{eqb-true, eqb-false, ltb-true, ltb-false}
use Rattle.laws.specs.Lists.{at, part, patch}
use Rattle.laws.proofs.Tests.{case, and_left, and_right, and_both}
use Rattle.laws.proofs.Lists.{patch_length, patch_in, patch_else, is_patch, part_length, part_at}
use Rattle.laws.proofs.Parts.{is_part, part_same, part_tail}
use Rattle.block.specs.Block.{Bytes, block_size, count, samples_in, sound_block}
use Rattle.block.proofs.Blocks.{samples_length}
use Rattle.log_model.specs.Log.{block, follows, sound, samples, total, put}

-- ---- a sound log, block by block

module _ (log : List ℕ) where
  pub sound_less : (m n : ℕ) → m ≤ n → sound log n ≡ true → sound log m ≡ true
  unfolding sound
  sound_less m zero h e = let z : m ≡ zero = omega arith in rw z
  sound_less m (suc n) h e = case (eqb m (suc n))
      (λ t. rw (eqb-true m (suc n) t) e)
      (λ t. let d = eqb-false m (suc n) t in sound_less m n (omega arith) (and_left (sound log n) _ e))

  pub sound_block_lem : (n i : ℕ) → i < n → sound log n ≡ true → sound_block (block log i) ≡ true
  unfolding sound
  sound_block_lem n i h e =
      let s = sound_less (suc i) n h e in
      and_left (sound_block (block log i)) (follows log i) (and_right (sound log i) (sound_block (block log i) && follows log i) s)

  pub sound_follows : (n i : ℕ) → i < n → sound log n ≡ true → follows log i ≡ true
  unfolding sound
  sound_follows n i h e =
      let s = sound_less (suc i) n h e in
      and_right (sound_block (block log i)) (follows log i) (and_right (sound log i) (sound_block (block log i) && follows log i) s)

-- ---- two memories whose first n blocks are the same

-- what goes from block to block is the same of both
pub by_blocks : {A : Type 0} (F : List ℕ → ℕ → A) → ((log t : List ℕ) → F t zero ≡ F log zero)
    → ((log t : List ℕ) (n : ℕ) → ((i : ℕ) → i ≤ n → block t i ≡ block log i) → F t n ≡ F log n → F t (suc n) ≡ F log (suc n))
    → (log t : List ℕ) (n : ℕ) → ((i : ℕ) → i < n → block t i ≡ block log i) → F t n ≡ F log n
by_blocks F first next log t zero same = first log t
by_blocks F first next log t (suc n) same = next log t n (λ i h. same i (omega arith)) (by_blocks F first next log t n (λ i h. same i (omega arith)))

follows_same : (log t : List ℕ) (n : ℕ) → ((i : ℕ) → i ≤ n → block t i ≡ block log i) → follows t n ≡ follows log n
follows_same log t zero same = refl
follows_same log t (suc n) same = rw (same (suc n) (omega arith), same n (omega arith))

pub sound_same : (log t : List ℕ) (n : ℕ) → ((i : ℕ) → i < n → block t i ≡ block log i) → sound t n ≡ sound log n
unfolding sound
sound_same = by_blocks sound (λ log t. refl) (λ log t n same e. rw (e, same n (omega arith), follows_same log t n same))

pub samples_same : (log t : List ℕ) (n : ℕ) → ((i : ℕ) → i < n → block t i ≡ block log i) → samples t n ≡ samples log n
unfolding samples
samples_same = by_blocks samples (λ log t. refl) (λ log t n same e. rw (e, same n (omega arith)))

-- whose bytes there are the same
pub blocks_same : (log t : List ℕ) (n : ℕ) → length t ≡ length log → block_size * n ≤ length log → ((i : ℕ) → i < block_size * n → at t i ≡ at log i)
    → (i : ℕ) → i < n → block t i ≡ block log i
blocks_same log t n long fits agree i h =
    part_same (block_size * i) block_size log (omega arith) t (omega arith) (λ j k. agree (block_size * i + j) (omega arith))

-- ---- a block that is put

module _ (log : List ℕ) (i : ℕ) (b : List ℕ) where
  pub put_length : length (put log i b) ≡ length log
  unfolding put
  put_length = patch_length (block_size * i) block_size (at b) log

  -- bytes of other blocks stay
  pub put_else : (j : ℕ) → j < length log → (block_size * i ≤ j → j < block_size * i + block_size → ⊥) → at (put log i b) j ≡ at log j
  unfolding put
  put_else = patch_else (block_size * i) block_size (at b) log

  pub put_here : length b ≡ block_size → block_size * i + block_size ≤ length log → block (put log i b) i ≡ b
  unfolding put
  put_here e h =
      let l = put_length in
      sym (is_part (block_size * i) block_size (put log i b) (omega arith) b e (λ j k. sym (patch_in (block_size * i) block_size (at b) log j k (omega arith))))

  pub put_other : (j : ℕ) → j ≢ i → block_size * j + block_size ≤ length log → block (put log i b) j ≡ block log j
  put_other j d h =
      let l = put_length in
      part_same (block_size * j) block_size log h (put log i b) (omega arith) (λ k m. put_else (block_size * j + k) (omega arith) (λ u v. d (omega arith)))

-- ---- how many samples

pub total_more : (log : List ℕ) (n : ℕ) → total log (suc n) ≡ total log n + count (block log n)
unfolding samples
total_more log n = length-append (samples log n) (samples_in (block log n)) ∙ rw (samples_length (block log n) (count (block log n)))

-- ---- a stretch of a log is a log

module _ (log : List ℕ) (m : ℕ) where
  pub stretch_block : (i : ℕ) → block (drop (block_size * m) log) i ≡ block log (m + i)
  stretch_block i =
      let z : block_size * m + block_size * i ≡ block_size * (m + i) = omega arith in
      part_tail (block_size * m) (block_size * i) block_size log ∙ ap (λ a. part a block_size log) z

  pub stretch_samples : (n : ℕ) → samples log (m + n) ≡ samples log m ++ samples (drop (block_size * m) log) n
  unfolding samples
  stretch_samples zero = let z : m + zero ≡ m = omega arith in rw z (sym (append-nil (samples log m)))
  stretch_samples (suc n) =
      let z : m + suc n ≡ suc (m + n) = omega arith in
      rw (z, stretch_samples n, stretch_block n) (append_assoc (samples log m) (samples (drop (block_size * m) log) n) (samples_in (block log (m + n))))

  stretch_follows : (n : ℕ) → follows log (m + n) ≡ true → follows (drop (block_size * m) log) n ≡ true
  stretch_follows zero e = refl
  stretch_follows (suc n) e =
      let z : m + suc n ≡ suc (m + n) = omega arith in
      rw (stretch_block (suc n), stretch_block n, z) (rw z at e)

  pub stretch_sound : (n : ℕ) → sound log (m + n) ≡ true → sound (drop (block_size * m) log) n ≡ true
  unfolding sound
  stretch_sound zero e = refl
  stretch_sound (suc n) e =
      let z : m + suc n ≡ suc (m + n) = omega arith in
      let s : sound_block (block (drop (block_size * m) log) n) ≡ true = rw (stretch_block n) (sound_block_lem log (m + suc n) (m + n) (omega arith) e) in
      and_both (stretch_sound n (sound_less log (m + n) (m + suc n) (omega arith) e))
      (and_both s (stretch_follows n (sound_follows log (m + suc n) (m + n) (omega arith) e)))

-- a block put twice is put once
pub put_put : (log : List ℕ) (i : ℕ) (a b : List ℕ) → block_size * i + block_size ≤ length log → put (put log i a) i b ≡ put log i b
unfolding put
put_put log i a b h =
    let p : List ℕ = patch (block_size * i) block_size (at a) log in
    let l : length p ≡ length log = patch_length (block_size * i) block_size (at a) log in
    is_patch (block_size * i) block_size (at b) log (patch (block_size * i) block_size (at b) p) (patch_length (block_size * i) block_size (at b) p ∙ l)
    (λ j k m. patch_in (block_size * i) block_size (at b) p j k (omega arith))
    (λ j k no. patch_else (block_size * i) block_size (at b) p j (omega arith) no ∙ patch_else (block_size * i) block_size (at a) log j k no)

-- ---- a block of memory of bytes

pub bytes_block : (log : List ℕ) (n : ℕ) → Bytes log → block_size * n + block_size ≤ length log → Bytes (block log n)
bytes_block log n l h i = case (ltb i block_size)
    (λ t. rw (part_at (block_size * n) block_size log h i (ltb-true i block_size t)) (l (block_size * n + i)))
    (λ t. let k = ltb-false i block_size t in rw (get_or-eq_default (block log n) 0 {n = i} (rw (part_length (block_size * n) block_size log h) k)) (omega arith))
