-- Document 02, Ask 9: the first sample with a status bit by reading every sample. A summary is an OR, so a block that is passed over has
-- no sample with the bit, and on a sound log the search answers what reading every sample does.
-- Assumes nothing.
use mathlib.Core.Path.{◌≡◌, refl, sym, ap, ◌∙◌}
use mathlib.Core.Bool.{true, false, not}
use mathlib.Core.List.{List, [], ◌∷◌, ◌++◌}
use mathlib.Core.Option.{Option, none, some}
use Prim.Native.Nat.{ℕ, zero, suc, ◌+◌, ◌*◌, ◌/◌, ◌%◌, ◌≤◌, ◌<◌}
use native.Mathlib.Omega.{arith}
use lib.Dec.{ltb, eqb}
use lib.ListN.{length, get_or}
use borrow.Author.Tests.{eqb-true, lt-ltb, ltb-true, ltb-false, not-true}
use Rattle.laws.specs.Bits.{has}
use Rattle.laws.specs.Lists.{at, part}
use Rattle.laws.proofs.Tests.{case, not_both, and_left, and_right, or_left, or_right}
use Rattle.laws.proofs.Lists.{part_length, part_at}
use Rattle.laws.proofs.Bits.{has_or}
use Rattle.block.specs.Block.{block_size, sample_size, count, most_samples, slot, room_end, samples_in, any_to, summary, holds, summed, checked, sound_block}
use Rattle.log_model.specs.Log.{blocks, block, sound, samples}
use Rattle.question.specs.Search.{lit, further, or_else, first_in, passed, first_of_block, first_with, FirstIs}
use Rattle.block.proofs.Sealed.{holds_at}
use Rattle.block.proofs.Blocks.{sound_count, sound_ended, samples_length, samples_at}
use Rattle.log_model.proofs.BlockByBlock.{sound_less, sound_block_lem}

-- ---- a list of samples

module _ (k : ℕ) where
  first_next : (x : List ℕ) (xs : List (List ℕ)) (r : Option ℕ) → lit k x ≡ false → FirstIs k xs r → FirstIs k (x ∷ xs) (further 1 r)
  first_next x xs none e says = before
    where
      before : (j : ℕ) → j < length (x ∷ xs) → lit k (get_or (x ∷ xs) j []) ≡ false
      before zero h = e
      before (suc j) h = says j (omega arith)
  first_next x xs (some i) e (here, has_it, none_yet) =
      let z : 1 + i ≡ suc i = omega arith in rw z (omega arith, has_it, before)
    where
      before : (j : ℕ) → j < suc i → lit k (get_or (x ∷ xs) j []) ≡ false
      before zero h = e
      before (suc j) h = none_yet j (omega arith)

  -- the answer by reading every sample says that
  pub first_is : (xs : List (List ℕ)) → FirstIs k xs (first_in k xs)
  unfolding first_in
  first_is [] = λ j h. absurd (omega arith)
  first_is (x ∷ xs) = case (lit k x)
      (λ t. rw t (omega arith, t, λ j h. absurd (omega arith)))
      (λ t. rw t (first_next x xs (first_in k xs) t (first_is xs)))

  -- and no other answer does
  pub first_only : (xs : List (List ℕ)) (r s : Option ℕ) → FirstIs k xs r → FirstIs k xs s → r ≡ s
  first_only xs none none a b = refl
  first_only xs none (some j) a (h, t, before) = not_both (lit k (get_or xs j [])) t (a j h)
  first_only xs (some i) none (h, t, before) b = not_both (lit k (get_or xs i [])) t (b i h)
  first_only xs (some i) (some j) (h, t, before) (l, u, earlier) = case (ltb i j)
      (λ p. not_both (lit k (get_or xs i [])) t (earlier i (ltb-true i j p)))
      (λ p. case (ltb j i)
      (λ q. not_both (lit k (get_or xs j [])) u (before j (ltb-true j i q)))
      (λ q. let a = ltb-false i j p in let b = ltb-false j i q in ap some (omega arith)))

  -- of two lists one after the other
  pub first_append : (xs ys : List (List ℕ)) → first_in k (xs ++ ys) ≡ or_else (first_in k xs) (further (length xs) (first_in k ys))
  unfolding first_in
  first_append [] ys = by (first_in k ys)
    where
      by : (r : Option ℕ) → r ≡ further 0 r
      by none = refl
      by (some i) = ap some (omega arith)
  first_append (x ∷ xs) ys = case (lit k x)
      (λ t. rw t)
      (λ t. rw t (ap (further 1) (first_append xs ys) ∙ by (first_in k xs) (first_in k ys) (length xs)))
    where
      by : (r s : Option ℕ) (n : ℕ) → further 1 (or_else r (further n s)) ≡ or_else (further 1 r) (further (suc n) s)
      by none none n = refl
      by none (some j) n = ap some (omega arith)
      by (some i) s n = refl

-- ---- a summary

-- a bit that an OR lacks every sample lacks
any_lacks : (f : ℕ → ℕ) (k j n : ℕ) → has k (any_to f j n) ≡ false → (i : ℕ) → i < n → has k (f (slot i + j)) ≡ false
unfolding any_to
any_lacks f k j zero e i h = absurd (omega arith)
any_lacks f k j (suc n) e i h =
    let both = sym (has_or k (any_to f j n) (f (slot n + j))) ∙ e in
    case (ltb i n)
    (λ t. any_lacks f k j n (or_left (has k (any_to f j n)) (has k (f (slot n + j))) both) i (ltb-true i n t))
    (λ t. let l = ltb-false i n t in let z : i ≡ n = omega arith in
    rw z (or_right (has k (any_to f j n)) (has k (f (slot n + j))) both))

module _ (k : ℕ) (small : k < 24) (b : List ℕ) (long : length b ≡ block_size) where
  -- sample i of a block, by its places
  lit_at : (i : ℕ) → i < most_samples → lit k (part (slot i) sample_size b) ≡ has (k % 8) (at b (slot i + k / 8))
  lit_at i h = ap (has (k % 8)) (part_at (slot i) sample_size b (omega arith) (k / 8) (omega arith))

  module _ (fine : sound_block b ≡ true) where
    -- where a sound block has 1 in 504, its summary is that of its samples
    summary_is : eqb (at b 504) 1 ≡ true → at b (room_end + k / 8) ≡ any_to (at b) (k / 8) (count b)
    unfolding summary
    summary_is m =
        let sums = and_left (summed b) (checked b) (sound_ended b fine) in
        case (holds room_end 9 (summary (at b)) b)
        (λ t. holds_at room_end 9 (summary (at b)) b t (k / 8) (omega arith) ∙ rw (lt-ltb (k / 8) 3 (omega arith)))
        (λ t. let blank : holds room_end 9 (λ j. 0) b ≡ true = rw t at sums in
        let z : at b 504 ≡ 0 = holds_at room_end 9 (λ j. 0) b blank 3 (omega arith) in
        let o = eqb-true (at b 504) 1 m in absurd (omega arith))

    -- a block that is passed over has no sample with the bit
    passed_none : passed k b ≡ true → first_in k (samples_in b) ≡ none
    passed_none e =
        let marked = and_left (eqb (at b 504) 1) (not (has (k % 8) (at b (room_end + k / 8)))) e in
        let lacks = not-true (has (k % 8) (at b (room_end + k / 8))) (and_right (eqb (at b 504) 1) (not (has (k % 8) (at b (room_end + k / 8)))) e) in
        let few = sound_count b fine in
        let rows = samples_length b (count b) in
        first_only k (samples_in b) (first_in k (samples_in b)) none (first_is k (samples_in b))
        (λ i h. rw (samples_at b (count b) i (omega arith)) (lit_at i (omega arith)
        ∙ any_lacks (at b) (k % 8) (k / 8) (count b) (ap (has (k % 8)) (sym (summary_is marked)) ∙ lacks) i (omega arith)))

    block_read : first_of_block k b ≡ first_in k (samples_in b)
    block_read = case (passed k b)
        (λ t. rw t (sym (passed_none t)))
        (λ t. rw t)

-- ---- a sound log

-- the search answers what reading every sample answers
pub search_reads : (log : List ℕ) (n k : ℕ) → k < 24 → n ≤ blocks log → sound log n ≡ true → first_with log n k ≡ first_in k (samples log n)
unfolding first_with samples first_in
search_reads log zero k small h s = refl
search_reads log (suc n) k small h s =
    let b : List ℕ = block log n in
    rw (
      search_reads log n k small (omega arith) (sound_less log n (suc n) (omega arith) s),
      block_read k small b (part_length (block_size * n) block_size log (omega arith)) (sound_block_lem log (suc n) n (omega arith) s),
    ) (sym (first_append k (samples log n) (samples_in b)))
