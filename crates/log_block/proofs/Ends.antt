-- The end of a block, bytes 501 to 511, as the functions test and write it. Byte 504 tells whether there must be a summary or zeros.
-- Assumes nothing.
use Rattle.std.proofs.Common.{◌≡◌, ℕ, zero, suc, ◌+◌, ◌-◌, ◌*◌, ◌/◌, ◌%◌, ◌<◌, ◌≤◌, ◌&&◌, eqb, ltb, ◌≢◌, List, [], ◌∷◌, length, get_or, take, drop, ◌++◌, bit_or, sym, ap, ◌∙◌, add-one, arith, ltb-false, ltb-true, eq-eqb, eqb-true}
use mathlib.Core.Bool.{and-true, and_assoc, or-false}
use lib.Pointwise.{pointwise, bytes_decides}
use Rattle.std.specs.Int.{w16, to_be_bytes}
use borrow.Author.Tests.{eqb-false}
use Rattle.laws.specs.Lists.{at, part, table, patch, sum}
use Rattle.laws.proofs.Tests.{case, same_test, and_left, and_right, and_both, covers_in, covers_below}
use Rattle.laws.proofs.Lists.{table_length, table_at, is_table, part_length, part_at, patch_length, patch_at, patch_same}
use Rattle.laws.proofs.Parts.{put_back, table_same, table_front}
use Rattle.block.specs.Block.{block_size, sample_size, count, most_samples, slot, samples_to, room_end, any_to, summary, first510, check_of, sealed, holds, has_summary, summed, checked}
use Rattle.block.proofs.Sealed.{holds_at, at_holds}
use Rattle.block.proofs.Blocks.{samples_at}

-- ---- a summary

-- one sample more in an OR
pub any_next : (b : List ℕ) (n k j : ℕ) → length b ≡ block_size → n ≤ most_samples → k < n → j < sample_size
    → {s : ℕ} → s ≡ any_to (at b) j k → bit_or s (at (get_or (samples_to b n) k []) j) ≡ any_to (at b) j (k + 1)
unfolding any_to
any_next b n k j long few h l e =
    rw (add-one, e, samples_at b n k h, part_at (slot k) sample_size b (omega arith) j l)

pub first_three : (b : List ℕ) {first second third : ℕ} → first ≡ any_to (at b) 0 (count b) → second ≡ any_to (at b) 1 (count b) → third ≡ any_to (at b) 2 (count b)
    → first ∷ second ∷ third ∷ [] ≡ table 3 (summary (at b))
unfolding table summary
first_three b p q r = cc

-- the three, 1 and five zeros
pub nine : (b : List ℕ) {t : List ℕ} → t ≡ table 3 (summary (at b)) → at t 0 ∷ at t 1 ∷ at t 2 ∷ 1 ∷ 0 ∷ 0 ∷ 0 ∷ 0 ∷ 0 ∷ [] ≡ table 9 (summary (at b))
unfolding table summary
nine b e = rw e

-- ---- places that hold what they should

-- a part that is compared with a table
pub part_holds : (a n : ℕ) (f : ℕ → ℕ) (b : List ℕ) → a + n ≤ length b → pointwise eqb (part a n b) (table n f) ≡ holds a n f b
part_holds a n f b long =
    let d = bytes_decides (part a n b) (table n f) in
    same_test (pointwise eqb (part a n b) (table n f)) (holds a n f b)
    (λ t. at_holds a n f b (λ j h. sym (part_at a n b long j h) ∙ ap (λ l. at l j) (d.0 t) ∙ table_at n f j h))
    (λ t. d.1 (is_table (part a n b) n f (part_length a n b long) (λ j h. part_at a n b long j h ∙ holds_at a n f b t j h)))

-- places one after the other
holds_both : (a m n : ℕ) (f : ℕ → ℕ) (b : List ℕ) → holds a (m + n) f b ≡ (holds a m f b && holds (a + m) n (λ j. f (m + j)) b)
unfolding holds
holds_both a m zero f b = let z : m + zero ≡ m = omega arith in rw z (sym (and-true (holds a m f b)))
holds_both a m (suc n) f b =
    let z : m + suc n ≡ suc (m + n) = omega arith in
    let y : a + (m + n) ≡ a + m + n = omega arith in
    rw (z, y, holds_both a m n f b) (and_assoc (holds a m f b) (holds (a + m) n (λ j. f (m + j)) b) (eqb (at b (a + m + n)) (f (m + n))))

-- zeros of a part
pub part_blank : (a n : ℕ) (b : List ℕ) → a + n ≤ length b → holds 0 (length (part a n b)) (λ j. 0) (part a n b) ≡ holds a n (λ j. 0) b
part_blank a n b long =
    rw (part_length a n b long) (same_test (holds 0 n (λ j. 0) (part a n b)) (holds a n (λ j. 0) b)
    (λ t. at_holds a n (λ j. 0) b (λ j h. let z : 0 + j ≡ j = omega arith in sym (part_at a n b long j h) ∙ rw z at (holds_at 0 n (λ j. 0) (part a n b) t j h)))
    (λ t. at_holds 0 n (λ j. 0) (part a n b) (λ j h. let z : 0 + j ≡ j = omega arith in rw z (part_at a n b long j h ∙ holds_at a n (λ j. 0) b t j h))))

module _ (b : List ℕ) where
  -- a summary: three ORs, the mark, and five zeros
  pub summary_parts : length b ≡ block_size → ((pointwise eqb (part room_end 3 b) (table 3 (summary (at b))) && eqb (at b 504) 1) && holds 505 5 (λ j. 0) b) ≡ has_summary b
  unfolding holds summary
  summary_parts long =
      rw (part_holds room_end 3 (summary (at b)) b (omega arith)) (sym (holds_both room_end 4 5 (summary (at b)) b))

  -- where the mark is 0 there can be no summary
  pub unmarked_summed : at b 504 ≡ 0 → holds room_end 9 (λ j. 0) b ≡ summed b
  unfolding summary
  unmarked_summed z = case (has_summary b)
      (λ t. let o : at b 504 ≡ 1 = holds_at room_end 9 (summary (at b)) b t 3 (omega arith) in absurd (omega arith))
      (λ t. rw t)

  -- and else there must be
  pub marked_summed : at b 504 ≢ 0 → has_summary b ≡ summed b
  marked_summed d = case (holds room_end 9 (λ j. 0) b)
      (λ t. absurd (d (holds_at room_end 9 (λ j. 0) b t 3 (omega arith))))
      (λ t. rw t (sym (or-false _)))

-- ---- the check

pub checked_is : (b : List ℕ) → length b ≡ block_size → ((i : ℕ) → at b i < 256)
    → eqb (at b 510 * 256 + at b 511) (sum (take 510 b) % 65536) ≡ checked b
unfolding check_of
checked_is b long bytes =
    let e : table 510 (at b) ≡ take 510 b = table_front 510 b (omega arith) in
    rw e (by (at b 510) (at b 511) (sum (take 510 b) % 65536) (bytes 510) (bytes 511))
  where
    by : (h l k : ℕ) → h < 256 → l < 256 → eqb (h * 256 + l) k ≡ (eqb h (k / 256) && eqb l (k % 256))
    by h l k p q =
        same_test (eqb (h * 256 + l) k) (eqb h (k / 256) && eqb l (k % 256))
        (λ t. let e = eqb-true (h * 256 + l) k t in and_both (eq-eqb h (k / 256) (omega arith)) (eq-eqb l (k % 256) (omega arith)))
        (λ t. let high = eqb-true h (k / 256) (and_left (eqb h (k / 256)) (eqb l (k % 256)) t) in
        let low = eqb-true l (k % 256) (and_right (eqb h (k / 256)) (eqb l (k % 256)) t) in eq-eqb (h * 256 + l) k (omega arith))

-- ---- writing it

module _ (b : List ℕ) (long : length b ≡ block_size) where
  pub summary_put : (w : List ℕ) → w ≡ table 9 (summary (at b)) → take room_end b ++ (w ++ drop 9 (drop room_end b)) ≡ patch room_end 9 (summary (at b)) b
  summary_put w e =
      let l : length w ≡ 9 = ap length e ∙ table_length 9 (summary (at b)) in
      put_back room_end 9 b w (omega arith) l
      ∙ patch_same room_end 9 (at w) (summary (at b)) b (λ j h. ap (λ s. at s j) e ∙ table_at 9 (summary (at b)) j h)

  -- the places before 510 once the summary is there
  put_front : (i : ℕ) → i < 510 → at (patch room_end 9 (summary (at b)) b) i ≡ first510 (at b) i
  put_front i h = patch_at room_end 9 (summary (at b)) b i (omega arith) ∙ case (ltb i room_end)
      (λ q. rw (q, covers_below room_end 9 i (ltb-true i room_end q)))
      (λ q. rw (q, covers_in room_end 9 i (ltb-false i room_end q) (omega arith)))

  -- and the two bytes of the check
  pub seal_done : (p w : List ℕ) → p ≡ patch room_end 9 (summary (at b)) b → w ≡ to_be_bytes w16 (sum (take 510 p) % 65536)
      → take 510 p ++ (w ++ drop 2 (drop 510 p)) ≡ table block_size (sealed (at b))
  unfolding sealed check_of
  seal_done p w e d =
      let l : length p ≡ block_size = ap length e ∙ patch_length room_end 9 (summary (at b)) b ∙ long in
      let front : (i : ℕ) → i < 510 → at p i ≡ first510 (at b) i = λ i h. ap (λ s. at s i) e ∙ put_front i h in
      let k : take 510 p ≡ table 510 (first510 (at b)) = sym (table_front 510 p (omega arith)) ∙ table_same 510 (at p) (first510 (at b)) front in
      put_back 510 2 p w (omega arith) (ap length d)
      ∙ is_table (patch 510 2 (at w) p) block_size (sealed (at b)) (patch_length 510 2 (at w) p ∙ l)
      (λ i h. patch_at 510 2 (at w) p i (omega arith) ∙ case (ltb i 510)
      (λ t. let u = ltb-true i 510 t in rw (t, covers_below 510 2 i u) (front i u))
      (λ t. let u = ltb-false i 510 t in rw (t, covers_in 510 2 i u (omega arith), d, k) (case (eqb i 510)
      (λ q. let z : i - 510 ≡ 0 = omega (arith, eqb-true i 510 q) in rw (q, z) (omega arith))
      (λ q. let z : i - 510 ≡ 1 = omega (arith, eqb-false i 510 q) in rw (q, z)))))
