-- The bytes of a write, one after the other: a mask byte more, or none; and all of them are what the definitions say of the record.
-- Assumes nothing.
use Rattle.std.specs.Prelude.{if◌then◌else◌}
use mathlib.Core.Path.{◌≡◌, refl, ◌∙◌}
use mathlib.Core.Bool.{true, false}
use mathlib.Core.List.{List}
use Prim.Native.Nat.{ℕ, ◌+◌, ◌-◌, ◌≤◌}
use native.Mathlib.Omega.{arith}
use lib.Bits.{bit_and}
use lib.Dec.{eqb}
use lib.ListN.{length, set, length-set}
use borrow.Author.Tests.{eqb-true, eqb-false, eq-eqb, ne_eqb, lt-ltb}
use Rattle.laws.specs.Tests.{covers, within}
use Rattle.laws.specs.Lists.{at, patch}
use Rattle.laws.proofs.Tests.{case, not_both, covers_in, covers_true, covers_none, covers_more}
use Rattle.laws.proofs.Lists.{at_set, patch_length, patch_in, patch_else, patch_same, is_patch}
use Rattle.ports.specs.Bytes.{record_of}
use Rattle.eight.specs.Tables.{masks, mask_bits, mask_of, record_size}
use Rattle.eight.specs.Module.{written, eight}

-- of the record at b in s, with the first k of the bytes vs written at a
module _ (s vs : List ℕ) (b a : ℕ) where
  abbrev entered : ℕ → ℕ → ℕ
  entered k i = if covers a k (masks.first + i) then bit_and (at vs (masks.first + i - a)) (at mask_bits i) else at s (b + mask_of 0 + i)

  abbrev pub so_far : ℕ → List ℕ
  so_far k = patch (b + mask_of 0) masks.many (entered k) s

  pub none_yet : s ≡ so_far 0
  none_yet = is_patch (b + mask_of 0) masks.many (entered 0) s s refl
      (λ i l h. rw (covers_none a 0 (masks.first + i) (λ u v. omega arith))) (λ i h no. refl)

  -- the next byte is at no mask byte
  skipped : (k : ℕ) → within masks (a + k) ≡ false → so_far k ≡ so_far (k + 1)
  skipped k off = patch_same (b + mask_of 0) masks.many (entered k) (entered (k + 1)) s (λ i l.
      rw (covers_more a k (masks.first + i)) (case (eqb (masks.first + i) (a + k))
      (λ t. let z = eqb-true (masks.first + i) (a + k) t in
      absurd (let c : within masks (a + k) ≡ true = covers_in masks.first masks.many (a + k) (omega arith) (omega arith) in clash c))
      (λ t. rw t)))
    where
      clash : within masks (a + k) ≡ true → ⊥
      clash c = not_both (within masks (a + k)) c off

  -- it is at one
  taken_in : b + record_size ≤ length s → (k : ℕ) → within masks (a + k) ≡ true
      → set (so_far k) (b + mask_of (a + k - masks.first)) (bit_and (at vs k) (at mask_bits (a + k - masks.first))) ≡ so_far (k + 1)
  taken_in room k on =
      let r = covers_true masks.first masks.many (a + k) on in
      let low = r.0 in let high = r.1 in
      let long : length (so_far k) ≡ length s = patch_length (b + mask_of 0) masks.many (entered k) s in
      is_patch (b + mask_of 0) masks.many (entered (k + 1)) s (set (so_far k) i₀ v) (length-set (so_far k) i₀ v ∙ long)
      (λ i l h. at_set (so_far k) i₀ v (b + mask_of 0 + i) (omega arith) ∙ rw (covers_more a k (masks.first + i)) (case (eqb (masks.first + i) (a + k))
      (λ t. let z = eqb-true (masks.first + i) (a + k) t in
      let y : i ≡ a + k - masks.first = omega arith in
      let w : masks.first + i - a ≡ k = omega arith in
      rw (t, eq-eqb (b + mask_of 0 + i) i₀ (omega arith), w, ← y))
      (λ t. let d = eqb-false (masks.first + i) (a + k) t in
      rw (t, ne_eqb (b + mask_of 0 + i) i₀ (λ z. d (omega arith))) (patch_in (b + mask_of 0) masks.many (entered k) s i l h))))
      (λ i h no. at_set (so_far k) i₀ v i (omega arith) ∙ rw (ne_eqb i i₀ (λ z. no (omega arith) (omega arith))) (patch_else (b + mask_of 0) masks.many (entered k) s i h no))
    where
      i₀ : ℕ
      i₀ = b + mask_of (a + k - masks.first)

      v : ℕ
      v = bit_and (at vs k) (at mask_bits (a + k - masks.first))

  pub one_more : b + record_size ≤ length s → (k : ℕ) (t u : List ℕ) → t ≡ so_far k
      → u ≡ (if within masks (a + k) then set t (b + mask_of (a + k - masks.first)) (bit_and (at vs k) (at mask_bits (a + k - masks.first))) else t) → u ≡ so_far (k + 1)
  one_more room k t u e d = case (within masks (a + k))
      (λ c. (rw (c, e) at d) ∙ taken_in room k c)
      (λ c. (rw (c, e) at d) ∙ skipped k c)

  pub all_written : b + record_size ≤ length s → so_far (length vs) ≡ patch b record_size (written a vs (record_of eight s b)) s
  unfolding written
  all_written room =
      let long : length (so_far (length vs)) ≡ length s = patch_length (b + mask_of 0) masks.many (entered (length vs)) s in
      is_patch b record_size (written a vs (record_of eight s b)) s (so_far (length vs)) long
      (λ j l h. rw (lt-ltb j record_size l) (case (covers (mask_of 0) masks.many j)
      (λ t. let r = covers_true (mask_of 0) masks.many j t in
      let low = r.0 in
      let z : b + mask_of 0 + (j - mask_of 0) ≡ b + j = omega arith in
      rw t (rw z at (patch_in (b + mask_of 0) masks.many (entered (length vs)) s (j - mask_of 0) (omega arith) (omega arith))))
      (λ t. rw t (patch_else (b + mask_of 0) masks.many (entered (length vs)) s (b + j) h
      (λ u v. not_both (covers (mask_of 0) masks.many j) (covers_in (mask_of 0) masks.many j (omega arith) (omega arith)) t)))))
      (λ i h no. patch_else (b + mask_of 0) masks.many (entered (length vs)) s i h (λ u v. no (omega arith) (omega arith)))
