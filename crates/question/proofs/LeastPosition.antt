-- Document 02, Ask 9: on any memory the search answers the least position of a sample with the bit in a used block not passed over: with
-- one block more an answer that is there stays the least, as later positions are above it, and else that block's own first is.
-- Assumes nothing.
use mathlib.Core.Path.{◌≡◌, refl, sym, ap, ◌∙◌}
use mathlib.Core.Bool.{true, false}
use mathlib.Core.List.{List, []}
use mathlib.Core.Option.{Option, none, some}
use Prim.Native.Nat.{ℕ, zero, suc, ◌*◌, ◌≤◌, ◌<◌}
use native.Mathlib.Omega.{arith}
use lib.Dec.{ltb, eqb}
use lib.ListN.{length, get_or}
use borrow.Author.Tests.{le-ltb, ltb-true, ltb-false, eqb-true, eqb-false}
use Rattle.laws.specs.Lists.{part}
use Rattle.laws.proofs.Tests.{case, not_both, or_left, or_right}
use Rattle.block.specs.Block.{block_size, sample_size, count, most_samples, slot, samples_in}
use Rattle.log_model.specs.Log.{block, sound, samples, total, misfit}
use Rattle.question.specs.Search.{lit, further, or_else, first_in, passed, first_of_block, first_with, crowded, misshapen, FirstIs, Hit, Least}
use Rattle.block.proofs.Blocks.{sound_count, samples_length, samples_at}
use Rattle.log_model.proofs.BlockByBlock.{sound_less, sound_block_lem, total_more}
use Rattle.log_model.proofs.Fits.{fitting}
use Rattle.question.proofs.EverySample.{first_is}

-- ---- counts

-- a log that is not crowded has no block that is
pub crowded_less : (log : List ℕ) (m n : ℕ) → m ≤ n → crowded log n ≡ false → crowded log m ≡ false
unfolding crowded
crowded_less log m zero h e = let z : m ≡ zero = omega arith in rw z
crowded_less log m (suc n) h e = case (eqb m (suc n))
    (λ t. rw (eqb-true m (suc n) t) e)
    (λ t. let d = eqb-false m (suc n) t in crowded_less log m n (omega arith) (or_left (crowded log n) (ltb most_samples (count (block log n))) e))

pub crowded_block : (log : List ℕ) (n i : ℕ) → i < n → crowded log n ≡ false → count (block log i) ≤ most_samples
unfolding crowded
crowded_block log n i h e =
    let s = crowded_less log (suc i) n h e in
    ltb-false most_samples (count (block log i)) (or_right (crowded log i) (ltb most_samples (count (block log i))) s)

-- few samples in few blocks
pub total_few : (log : List ℕ) (n : ℕ) → crowded log n ≡ false → total log n ≤ most_samples * n
unfolding samples
total_few log zero e = omega arith
total_few log (suc n) e =
    let few = crowded_block log (suc n) n (omega arith) e in
    let less = total_few log n (crowded_less log n (suc n) (omega arith) e) in
    let more = total_more log n in
    omega arith

-- memory that is not refused 15
pub shapely : (log : List ℕ) (used : ℕ) → misshapen log used ≡ false → (block_size * used ≤ length log) × (crowded log used ≡ false)
shapely log used e =
    let h = (fitting log used (or_left (misfit log used) (crowded log used) e)).1 in
    (omega arith, or_right (misfit log used) (crowded log used) e)

-- a sound log is not crowded
pub sound_crowded : (log : List ℕ) (n : ℕ) → sound log n ≡ true → crowded log n ≡ false
unfolding crowded
sound_crowded log zero s = refl
sound_crowded log (suc n) s =
    rw (sound_crowded log n (sound_less log n (suc n) (omega arith) s), le-ltb most_samples (count (block log n)) (sound_count (block log n) (sound_block_lem log (suc n) n (omega arith) s)))

-- ---- any log, sound or not

hit_later : {log : List ℕ} {n k m i : ℕ} → Hit log n k m i → Hit log (suc n) k m i
hit_later h = record { used_block = let u = h.used_block in omega arith; sample_there = h.sample_there; looked_at = h.looked_at; has_it = h.has_it }

-- a hit of one block more is one of those before it, or lies in that block
hit_either : {log : List ℕ} {n k m i : ℕ} → Hit log (suc n) k m i → {P : Type 0} → (Hit log n k m i → P) → (m ≡ n → P) → P
hit_either {log} {n} {k} {m} {i} h old new = case (ltb m n)
    (λ t. old (record { used_block = ltb-true m n t; sample_there = h.sample_there; looked_at = h.looked_at; has_it = h.has_it }))
    (λ t. let u = h.used_block in let l = ltb-false m n t in new (omega arith))

pub total_less : (log : List ℕ) (m n : ℕ) → m ≤ n → total log m ≤ total log n
total_less log m zero h = let z : m ≡ zero = omega arith in rw z (omega arith)
total_less log m (suc n) h = case (ltb n m)
    (λ t. let l = ltb-true n m t in let z : m ≡ suc n = omega arith in rw z (omega arith))
    (λ t. let l = ltb-false n m t in let e = total_less log m n l in let more = total_more log n in omega arith)

module _ (log : List ℕ) (k : ℕ) where
  -- with one block more: what its samples say, where the blocks before it have no such sample
  least_next : (n : ℕ) (r : Option ℕ) → Least log n k r → Least log (suc n) k (or_else r (further (total log n) (first_of_block k (block log n))))
  least_next n (some p) ((m, i, hit, at_it), least) = (
    (m, i, hit_later hit, at_it),
    λ m' i' h. hit_either h (λ old. least m' i' old)
        (λ z. let more = total_more log m in
        let u = hit.used_block in
        let t = hit.sample_there in
        let before = total_less log (suc m) n (omega arith) in
        rw z (omega arith)),
  )
  least_next n none nothing = case (passed k (block log n))
      (λ t. rw t (λ m i h. hit_either h (nothing m i) (λ z. not_both (passed k (block log n)) t (rw z at h.looked_at))))
      (λ t. rw t (looked t (first_in k (samples_in (block log n))) (first_is k (samples_in (block log n)))))
    where
      rows : length (samples_in (block log n)) ≡ count (block log n)
      rows = samples_length (block log n) (count (block log n))

      -- sample i of the block, as one of the list
      there : (i : ℕ) → i < count (block log n) → lit k (get_or (samples_in (block log n)) i []) ≡ lit k (part (slot i) sample_size (block log n))
      there i h = ap (lit k) (samples_at (block log n) (count (block log n)) i h)

      looked : passed k (block log n) ≡ false → (r : Option ℕ) → FirstIs k (samples_in (block log n)) r → Least log (suc n) k (further (total log n) r)
      looked t none says = λ m i h. hit_either h (nothing m i)
          (λ z. let l : i < count (block log n) = rw z at h.sample_there in
          not_both (lit k (get_or (samples_in (block log n)) i [])) (there i l ∙ (rw z at h.has_it)) (says i (rw rows l)))
      looked t (some j) (l, has_it, none_yet) =
          let l' : j < count (block log n) = rw rows at l in (
            (n, j, record { used_block = omega arith; sample_there = l'; looked_at = t; has_it = sym (there j l') ∙ has_it }, refl),
            λ m i h. hit_either h (λ old. absurd (nothing m i old))
                (λ z. let l'' : i < count (block log n) = rw z at h.sample_there in
                rw z (case (ltb i j)
                (λ q. not_both (lit k (get_or (samples_in (block log n)) i [])) (there i l'' ∙ (rw z at h.has_it)) (none_yet i (ltb-true i j q)))
                (λ q. let w = ltb-false i j q in omega arith))),
          )

  -- the answer on any log: the least position of the samples with the bit among the blocks not passed over
  pub first_least : (n : ℕ) → Least log n k (first_with log n k)
  unfolding first_with
  first_least zero = λ m i h. let u = h.used_block in absurd (omega arith)
  first_least (suc n) = least_next n (first_with log n k) (first_least n)

-- and no other answer is that
pub least_only : (log : List ℕ) (used k : ℕ) (r s : Option ℕ) → Least log used k r → Least log used k s → r ≡ s
least_only log used k none none a b = refl
least_only log used k none (some q) a ((n, i, hit, e), least) = absurd (a n i hit)
least_only log used k (some p) none ((n, i, hit, e), least) b = absurd (b n i hit)
least_only log used k (some p) (some q) ((n, i, hit, e), least) ((m, j, other, d), lesser) =
    let x = least m j other in
    let y = lesser n i hit in
    ap some (omega arith)
