-- Blocks in a row as the log that they make, and the blocks of a log cut out of it: what is said of the used ones is the same of both.
-- Assumes nothing.
use Rattle.std.proofs.Common.{◌≡◌, false, ◌||◌, eqb, ℕ, zero, suc, ◌+◌, ◌-◌, ◌*◌, leb, ◌≤◌, ◌<◌, List, [], ◌∷◌, ◌++◌, length, get_or, drop, sym, refl, ap, ◌∙◌, arith}
use Rattle.std.specs.List.{concat}
use Rattle.std.specs.Simd.{first_chunks}
use Rattle.std.proofs.Math.Seq.{take-append_seam, drop-append_seam}
use Rattle.laws.proofs.Lists.{part_length}
use Rattle.laws.proofs.Parts.{part_tail}
use Rattle.block.specs.Block.{block_size, number, count, most_samples}
use Rattle.log_model.specs.Log.{block, sound, total, place_of, last_number, needs_new, none_left, blocks, misfit}
use Rattle.log_model.proofs.Fits.{fitting}
use Rattle.log_model.proofs.BlockByBlock.{by_blocks, sound_same, samples_same}
use Rattle.log_block.proofs.Chunks.{chunks_length, chunk_at}

-- ---- blocks in a row

-- each is a block long
abbrev pub Whole : List (List ℕ) → Type 0
Whole bs = (i : ℕ) → i < length bs → length (get_or bs i []) ≡ block_size

pub joined_block : (bs : List (List ℕ)) → Whole bs → (i : ℕ) → i < length bs → block (concat bs) i ≡ get_or bs i []
joined_block [] whole i h = absurd (omega arith)
joined_block (x ∷ xs) whole zero h =
    let e : length x ≡ block_size = whole 0 (omega arith) in
    rw e at (take-append_seam x (concat xs))
joined_block (x ∷ xs) whole (suc i) h =
    let e : length x ≡ block_size = whole 0 (omega arith) in
    let z : block_size * suc i ≡ block_size + block_size * i = omega arith in
    let rest : drop block_size (x ++ concat xs) ≡ concat xs = rw e at (drop-append_seam x (concat xs)) in
    rw (z, ← part_tail block_size (block_size * i) block_size (x ++ concat xs), rest) (joined_block xs (λ j l. whole (suc j) (omega arith)) i (omega arith))

-- the last of them
pub last_joined : (bs : List (List ℕ)) → Whole bs → 1 ≤ length bs → number (get_or bs (length bs - 1) []) ≡ last_number (concat bs) (length bs)
last_joined [] whole h = absurd (omega arith)
last_joined (x ∷ xs) whole h =
    let z : suc (length xs) - 1 ≡ length xs = omega arith in
    rw z (ap number (sym (joined_block (x ∷ xs) whole (length xs) (omega arith))))

pub full_joined : (bs : List (List ℕ)) → Whole bs → 1 ≤ length bs → leb most_samples (count (get_or bs (length bs - 1) [])) ≡ needs_new (concat bs) (length bs)
full_joined [] whole h = absurd (omega arith)
full_joined (x ∷ xs) whole h =
    let z : suc (length xs) - 1 ≡ length xs = omega arith in
    rw z (ap (λ b. leb most_samples (count b)) (sym (joined_block (x ∷ xs) whole (length xs) (omega arith))))

-- ---- the blocks of a log, cut out of it

module _ (log : List ℕ) (used : ℕ) where
  cut_block : block_size * used ≤ length log → (i : ℕ) → i < used → block (concat (first_chunks block_size used log)) i ≡ block log i
  cut_block fits i h =
      let l = chunks_length block_size used log in
      joined_block (first_chunks block_size used log)
      (λ j k. rw (chunk_at block_size used log j (omega arith)) (part_length (block_size * j) block_size log (omega arith))) i (omega arith)
      ∙ chunk_at block_size used log i h

  module _ {bs : List (List ℕ)} (cut : bs ≡ first_chunks block_size used log) where
    pub cut_length : length bs ≡ used
    cut_length = ap length cut ∙ chunks_length block_size used log

    pub cut_same : block_size * used ≤ length log → (i : ℕ) → i < used → block (concat bs) i ≡ block log i
    cut_same fits i h = ap (λ l. block (concat l) i) cut ∙ cut_block fits i h

    pub cut_last : block_size * used ≤ length log → last_number (concat bs) (length bs) ≡ last_number log used
    cut_last fits = rw cut_length (by used (cut_same fits))
      where
        by : (n : ℕ) → ((i : ℕ) → i < n → block (concat bs) i ≡ block log i) → last_number (concat bs) n ≡ last_number log n
        by zero same = refl
        by (suc n) same = ap number (same n (omega arith))

    module _ (fits : misfit log used ≡ false) where
      there : block_size * used ≤ length log
      there = let h = (fitting log used fits).1 in omega arith

      pub cut_sound : sound (concat bs) (length bs) ≡ sound log used
      cut_sound = rw cut_length (sound_same log (concat bs) used (cut_same there))

      pub cut_total : total (concat bs) (length bs) ≡ total log used
      cut_total = rw cut_length (ap (length {A = List ℕ}) (samples_same log (concat bs) used (cut_same there)))

      pub cut_place : (k : ℕ) → place_of (concat bs) (length bs) k ≡ place_of log used k
      unfolding place_of
      cut_place k = rw cut_length (by_blocks (λ l n. place_of l n k) (λ l t. refl) (λ l t n same e. rw (samples_same l t n (λ i h. same i (omega arith)), e)) log (concat bs) used (cut_same there))

      pub cut_full : needs_new (concat bs) (length bs) ≡ needs_new log used
      cut_full = rw cut_length (by used (cut_same there))
        where
          by : (n : ℕ) → ((i : ℕ) → i < n → block (concat bs) i ≡ block log i) → needs_new (concat bs) n ≡ needs_new log n
          by zero same = refl
          by (suc n) same = ap (λ b. leb most_samples (count b)) (same n (omega arith))

      pub cut_none_left : (leb (blocks log) (length bs) || eqb (last_number (concat bs) (length bs)) 4294967295) ≡ none_left log used
      cut_none_left = rw (cut_last there, cut_length)
