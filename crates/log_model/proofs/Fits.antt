-- A log that is not refused 15. It stays so with a block put after its first n that is sound and whose number follows, since the n before
-- it stay as they were. (The last block put anew is one put after those before it.)
-- Assumes nothing.
use mathlib.Core.Path.{◌≡◌, refl, ap, ◌∙◌}
use mathlib.Core.Bool.{true, false, not}
use mathlib.Core.List.{List, ◌++◌}
use Prim.Native.Nat.{ℕ, zero, suc, ◌%◌, ◌≤◌, ◌<◌}
use native.Mathlib.Omega.{arith}
use lib.Dec.{ltb, eqb}
use lib.ListN.{length}
use borrow.Author.Tests.{eqb-true, ltb-false, le-ltb, eq-eqb, not-false}
use Rattle.laws.proofs.Tests.{and_both, or_left, or_right}
use Rattle.block.specs.Block.{block_size, number, samples_in, sound_block}
use Rattle.log_model.specs.Log.{blocks, block, follows, sound, samples, last_number, put, misfit, unsound, Fit}
use Rattle.log_model.proofs.BlockByBlock.{sound_same, samples_same, put_length, put_here, put_other}

-- ---- 15

-- memory that has the used blocks
pub fitting : (log : List ℕ) (used : ℕ) → misfit log used ≡ false → (length log % block_size ≡ 0) × (used ≤ blocks log)
fitting log used e = (
  eqb-true (length log % block_size) 0 (not-false (eqb (length log % block_size) 0) (or_left (not (eqb (length log % block_size) 0)) (ltb (blocks log) used) e)),
  ltb-false (blocks log) used (or_right (not (eqb (length log % block_size) 0)) (ltb (blocks log) used) e),
)

pub fit : (log : List ℕ) (used : ℕ) → unsound log used ≡ false → Fit log used
fit log used e =
    let (whole, fits) = fitting log used (or_left (misfit log used) (not (sound log used)) e) in
    record { whole = whole; fits = fits; good = not-false (sound log used) (or_right (misfit log used) (not (sound log used)) e) }

pub fit_sound : {log : List ℕ} {used : ℕ} → Fit log used → unsound log used ≡ false
fit_sound {log} {used} f = rw (f.whole, le-ltb (blocks log) used f.fits, f.good)

-- "used 0 is a sound log", whatever whole blocks hold
pub unused_fit : (log : List ℕ) → length log % block_size ≡ 0 → Fit log 0
unfolding sound
unused_fit log e = record { whole = e; fits = omega arith; good = refl }

-- ---- block n is put after n blocks of a sound log

-- k is the number that block n must have; the first one's is free
abbrev pub Next : List ℕ → ℕ → ℕ → Type 0
Next log zero k = Unit
Next log (suc m) k = k ≡ suc (number (block log m))

pub next_of : (log : List ℕ) (n : ℕ) → follows log n ≡ true → Next log n (number (block log n))
next_of log zero e = tt
next_of log (suc m) e = eqb-true (number (block log (suc m))) (suc (number (block log m))) e

pub next_new : (log : List ℕ) (n : ℕ) → Next log n (suc (last_number log n))
next_new log zero = tt
next_new log (suc m) = refl

next_follows : (log t b : List ℕ) (n : ℕ) → block t n ≡ b → ((i : ℕ) → i < n → block t i ≡ block log i) → Next log n (number b) → follows t n ≡ true
next_follows log t b zero here below next = refl
next_follows log t b (suc m) here below next = rw (here, below m (omega arith)) (eq-eqb (number b) (suc (number (block log m))) next)

module _ (log : List ℕ) (n : ℕ) (whole : length log % block_size ≡ 0) (room : n < blocks log) (good : sound log n ≡ true)
    (b : List ℕ) (long : length b ≡ block_size) (fine : sound_block b ≡ true) (next : Next log n (number b)) where
  below : (i : ℕ) → i < n → block (put log n b) i ≡ block log i
  below i h = put_other log n b i (λ z. omega arith) (omega arith)

  here : block (put log n b) n ≡ b
  here = put_here log n b long (omega arith)

  pub put_fit : Fit (put log n b) (suc n)
  unfolding sound
  put_fit =
      let l = put_length log n b in
      record {
        whole = rw l whole;
        fits = rw l room;
        good = and_both (sound_same log (put log n b) n below ∙ good) (and_both (ap sound_block here ∙ fine) (next_follows log (put log n b) b n here below next));
      }

  pub put_samples : samples (put log n b) (suc n) ≡ samples log n ++ samples_in b
  unfolding samples
  put_samples = rw (samples_same log (put log n b) n below, here)
