-- A sealed block: its end is worked out from the places before byte 501 alone (`sealed_same`), and sealing leaves these as they were. So
-- worked out again from the block itself it is the same, which is what soundness asks of an end.
-- Assumes nothing.
use mathlib.Core.Path.{◌≡◌, refl, sym, ap, ◌∙◌}
use mathlib.Core.Bool.{true}
use mathlib.Core.List.{List}
use Prim.Native.Nat.{ℕ, zero, suc, ◌+◌, ◌-◌, ◌/◌, ◌%◌, ◌≤◌, ◌<◌}
use native.Mathlib.Omega.{arith}
use lib.Dec.{ltb, eqb}
use borrow.Author.Tests.{lt-ltb, le-ltb, le-leb, ltb-true, eq-eqb, eqb-true, eqb-false}
use Rattle.laws.specs.Lists.{at, table, sum}
use Rattle.laws.proofs.Tests.{case, and_left, and_right, and_both}
use Rattle.laws.proofs.Lists.{table_at}
use Rattle.laws.proofs.Parts.{table_same}
use Rattle.block.specs.Block.{block_size, count_at, count, most_samples, slot, room_end, any_to, summary, first510, check_of, sealed, holds, has_summary, checked, ended, sound_block}

-- ---- places that hold what they should

pub holds_at : (a n : ℕ) (f : ℕ → ℕ) (b : List ℕ) → holds a n f b ≡ true → (j : ℕ) → j < n → at b (a + j) ≡ f j
unfolding holds
holds_at a zero f b e j h = absurd (omega arith)
holds_at a (suc n) f b e j h = case (eqb j n)
    (λ t. let z = eqb-true j n t in rw z (eqb-true (at b (a + n)) (f n) (and_right (holds a n f b) (eqb (at b (a + n)) (f n)) e)))
    (λ t. let d = eqb-false j n t in holds_at a n f b (and_left (holds a n f b) (eqb (at b (a + n)) (f n)) e) j (omega arith))

pub at_holds : (a n : ℕ) (f : ℕ → ℕ) (b : List ℕ) → ((j : ℕ) → j < n → at b (a + j) ≡ f j) → holds a n f b ≡ true
unfolding holds
at_holds a zero f b same = refl
at_holds a (suc n) f b same = and_both (at_holds a n f b (λ j h. same j (omega arith))) (eq-eqb (at b (a + n)) (f n) (same n (omega arith)))

-- ---- the check goes by the 510 places before it

pub check_by : (f g : ℕ → ℕ) → ((i : ℕ) → i < 510 → f i ≡ g i) → check_of f ≡ check_of g
unfolding check_of
check_by f g same = ap (λ l. sum l % 65536) (table_same 510 f g same)

-- ---- the end of a block goes by the places before 501 alone

-- two blocks that have the same there
module _ (f g : ℕ → ℕ) (few : f count_at ≤ most_samples) (same : (i : ℕ) → i < room_end → f i ≡ g i) where
  any_same : (j n : ℕ) → j < 3 → n ≤ most_samples → any_to f j n ≡ any_to g j n
  unfolding any_to
  any_same j zero h l = refl
  any_same j (suc n) h l = rw (any_same j n h (omega arith), same (slot n + j) (omega arith))

  summary_same : (j : ℕ) → summary f j ≡ summary g j
  unfolding summary
  summary_same j = case (ltb j 3)
      (λ t. rw (t, ← same count_at (omega arith)) (any_same j (f count_at) (ltb-true j 3 t) few))
      (λ t. rw t)

  front_same : (i : ℕ) → first510 f i ≡ first510 g i
  front_same i = case (ltb i room_end)
      (λ t. rw t (same i (ltb-true i room_end t)))
      (λ t. rw t (summary_same (i - room_end)))

  check_same : check_of (first510 f) ≡ check_of (first510 g)
  check_same = check_by (first510 f) (first510 g) (λ i h. front_same i)

  pub sealed_same : (i : ℕ) → sealed f i ≡ sealed g i
  unfolding sealed
  sealed_same i = rw (check_same, front_same i)

-- ---- a sealed block

module _ (f : ℕ → ℕ) where
  sealed_front : (i : ℕ) → i < 510 → at (table block_size (sealed f)) i ≡ first510 f i
  unfolding sealed
  sealed_front i h = table_at block_size (sealed f) i (omega arith) ∙ rw (lt-ltb i 510 h)

  pub sealed_at : (i : ℕ) → i < room_end → at (table block_size (sealed f)) i ≡ f i
  sealed_at i h = sealed_front i (omega arith) ∙ rw (lt-ltb i room_end h)

  module _ (few : f count_at ≤ most_samples) where
    -- its end is as it must be
    pub sealed_summary : has_summary (table block_size (sealed f)) ≡ true
    sealed_summary =
        at_holds room_end 9 (summary (at (table block_size (sealed f)))) (table block_size (sealed f))
        (λ j h. let z : room_end + j - room_end ≡ j = omega arith in
        sealed_front (room_end + j) (omega arith) ∙ rw (le-ltb (room_end + j) room_end (omega arith), z)
        (summary_same f (at (table block_size (sealed f))) few (λ i l. sym (sealed_at i l)) j))

    sealed_check : check_of (at (table block_size (sealed f))) ≡ check_of (first510 f)
    sealed_check = check_by (at (table block_size (sealed f))) (first510 f) sealed_front

    sealed_checked : checked (table block_size (sealed f)) ≡ true
    unfolding sealed
    sealed_checked = let c = sealed_check in
        and_both (eq-eqb _ _ (table_at block_size (sealed f) 510 (omega arith) ∙ ap (λ n. n / 256) (sym c)))
        (eq-eqb _ _ (table_at block_size (sealed f) 511 (omega arith) ∙ ap (λ n. n % 256) (sym c)))

    sealed_ends : ended (table block_size (sealed f)) ≡ true
    sealed_ends = rw sealed_summary sealed_checked

    -- it is sound if its count and its room are right
    pub sealed_sound : ((i : ℕ) → slot (f count_at) ≤ i → i < room_end → f i ≡ 0) → sound_block (table block_size (sealed f)) ≡ true
    unfolding sound_block
    sealed_sound blank =
        let k : count (table block_size (sealed f)) ≡ f count_at = sealed_at count_at (omega arith) in
        rw (
          k,
          le-leb (f count_at) most_samples few,
          at_holds (slot (f count_at)) (room_end - slot (f count_at)) (λ j. 0) (table block_size (sealed f))
              (λ j l. sealed_at (slot (f count_at) + j) (omega arith) ∙ blank (slot (f count_at) + j) (omega arith) (omega arith)),
        ) sealed_ends
