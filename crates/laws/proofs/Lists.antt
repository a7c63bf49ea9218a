-- Lists by what stands at each place: that of a table goes by recursion, and a list with a table's length and places is the table. A run
-- of places replaced is a table too, so what is said of it is shown inside the run and outside it.
-- Assumes nothing.
use Rattle.std.specs.Prelude.{if◌then◌else◌}
use mathlib.Core.Path.{◌≡◌, refl, sym, ap, ◌∙◌}
use mathlib.Core.Logic.{◌≢◌}
use mathlib.Core.List.{List}
use Prim.Native.Nat.{ℕ, zero, suc, ◌+◌, ◌-◌, ◌≤◌, ◌<◌, min, max}
use native.Mathlib.Nat.{not-suc-le-zero, le_of_suc-le-suc}
use native.Mathlib.Omega.{arith}
use lib.Dec.{eqb}
use lib.ListN.{length, set, length-set, length-take, length-drop}
use lib.Seq.{ext_get_or, get_or-set_same, get_or-set_other, get_or-take, get_or-drop}
use borrow.Author.Tests.{eqb-true, eqb-false}
use Rattle.laws.specs.Tests.{covers}
use Rattle.laws.specs.Lists.{at, part, table, patch}
use Rattle.laws.proofs.Tests.{case, not_both, covers_in, covers_below, covers_above, covers_true, covers_none}

-- ---- tables

pub table_length : (n : ℕ) (f : ℕ → ℕ) → length (table n f) ≡ n
unfolding table
table_length zero f = refl
table_length (suc n) f = ap suc (table_length n (λ k. f (suc k)))

pub table_at : (n : ℕ) (f : ℕ → ℕ) (i : ℕ) → i < n → at (table n f) i ≡ f i
unfolding table
table_at zero f i h = absurd (not-suc-le-zero h)
table_at (suc n) f zero h = refl
table_at (suc n) f (suc i) h = table_at n (λ k. f (suc k)) i (le_of_suc-le-suc h)

-- two tables agree wherever their numbers do
pub table_agree : (n : ℕ) (f g : ℕ → ℕ) (i : ℕ) → f i ≡ g i → at (table n f) i ≡ at (table n g) i
unfolding table
table_agree zero f g i e = refl
table_agree (suc n) f g zero e = e
table_agree (suc n) f g (suc i) e = table_agree n (λ k. f (suc k)) (λ k. g (suc k)) i e

-- a list is the table of its own length that agrees with it at each place
pub is_table : (l : List ℕ) (n : ℕ) (f : ℕ → ℕ) → length l ≡ n → ((i : ℕ) → i < n → at l i ≡ f i) → l ≡ table n f
is_table l n f len same =
    ext_get_or 0 l (table n f) (len ∙ sym (table_length n f))
    (λ i h. same i (omega arith) ∙ sym (table_at n f i (omega arith)))

-- ---- a run of places replaced

module _ (a n : ℕ) (f : ℕ → ℕ) (s : List ℕ) where
  pub patch_length : length (patch a n f s) ≡ length s
  unfolding patch
  patch_length = table_length (length s) (λ i. if covers a n i then f (i - a) else at s i)

  pub patch_at : (i : ℕ) → i < length s → at (patch a n f s) i ≡ (if covers a n i then f (i - a) else at s i)
  unfolding patch
  patch_at i h = table_at (length s) (λ i. if covers a n i then f (i - a) else at s i) i h

  pub patch_in : (k : ℕ) → k < n → a + k < length s → at (patch a n f s) (a + k) ≡ f k
  patch_in k h l =
      let e : a + k - a ≡ k = omega arith in
      patch_at (a + k) l ∙ rw (covers_in a n (a + k) (omega arith) (omega arith), e)

  pub patch_below : (i : ℕ) → i < length s → i < a → at (patch a n f s) i ≡ at s i
  patch_below i h l = patch_at i h ∙ rw (covers_below a n i l)

  pub patch_above : (i : ℕ) → i < length s → a + n ≤ i → at (patch a n f s) i ≡ at s i
  patch_above i h l = patch_at i h ∙ rw (covers_above a n i l)

  pub patch_else : (i : ℕ) → i < length s → (a ≤ i → i < a + n → ⊥) → at (patch a n f s) i ≡ at s i
  patch_else i h l = patch_at i h ∙ rw (covers_none a n i l)

  -- a list is this one if it has the values in the run, and elsewhere what was there
  pub is_patch : (l : List ℕ) → length l ≡ length s → ((j : ℕ) → j < n → a + j < length s → at l (a + j) ≡ f j)
      → ((i : ℕ) → i < length s → (a ≤ i → i < a + n → ⊥) → at l i ≡ at s i) → l ≡ patch a n f s
  unfolding patch
  is_patch l e inside outside =
      is_table l (length s) (λ i. if covers a n i then f (i - a) else at s i) e
      (λ i h. case (covers a n i)
      (λ t. let r = covers_true a n i t in
      let z : a + (i - a) ≡ i = omega arith in rw t (rw z at (inside (i - a) (omega arith) (omega arith))))
      (λ t. rw t (outside i h (λ u v. not_both (covers a n i) (covers_in a n i u v) t))))

-- only the values in the run matter
pub patch_same : (a n : ℕ) (f g : ℕ → ℕ) (s : List ℕ) → ((j : ℕ) → j < n → f j ≡ g j) → patch a n f s ≡ patch a n g s
patch_same a n f g s same =
    is_patch a n g s (patch a n f s) (patch_length a n f s) (λ j h l. patch_in a n f s j h l ∙ same j h) (patch_else a n f s)

pub at_set : (s : List ℕ) (j v i : ℕ) → j < length s → at (set s j v) i ≡ (if eqb i j then v else at s i)
at_set s j v i h = case (eqb i j)
    (λ t. let e = eqb-true i j t in rw (t, e) (get_or-set_same s j v 0 h))
    (λ t. rw t (get_or-set_other s j i v 0 (eqb-false i j t)))

-- a loop that replaces them one after the other
module _ (a : ℕ) (f : ℕ → ℕ) (s : List ℕ) where
  pub patch_none : s ≡ patch a 0 f s
  patch_none = is_patch a 0 f s s refl (λ j l h. absurd (omega arith)) (λ i h no. refl)

  -- the next place is still as it was
  pub patch_next : (k : ℕ) → a + k < length s → at (patch a k f s) (a + k) ≡ at s (a + k)
  patch_next k h = patch_above a k f s (a + k) h (omega arith)

  patch_grow : (t : List ℕ) (k : ℕ) → length t ≡ length s → at t (a + k) ≡ f k → ((i : ℕ) → i < length s → i ≢ a + k → at t i ≡ at (patch a k f s) i) → t ≡ patch a (k + 1) f s
  patch_grow t k e here else_where =
      is_patch a (k + 1) f s t e
      (λ j l h. case (eqb j k)
      (λ q. rw (eqb-true j k q) here)
      (λ q. let d = eqb-false j k q in else_where (a + j) h (λ z. d (omega arith)) ∙ patch_in a k f s j (omega arith) h))
      (λ i h no. else_where i h (λ z. no (omega arith) (omega arith)) ∙ patch_else a k f s i h (λ u v. no u (omega arith)))

  pub patch_more : (k : ℕ) → a + k < length s → set (patch a k f s) (a + k) (f k) ≡ patch a (k + 1) f s
  patch_more k h =
      patch_grow (set (patch a k f s) (a + k) (f k)) k (length-set (patch a k f s) (a + k) (f k) ∙ patch_length a k f s)
      (get_or-set_same (patch a k f s) (a + k) (f k) 0 (rw (patch_length a k f s) h))
      (λ i l ne. get_or-set_other (patch a k f s) (a + k) i (f k) 0 ne)

-- ---- two runs

-- n places from `to` on stand for the numbers from a on: those of them replaced that stand for one of the m numbers from b on
pub patch_overlap : (to a n b m first many : ℕ) (f g : ℕ → ℕ) (s : List ℕ) → first ≡ max a b → many ≡ min (a + n) (b + m) - max a b
    → ((j : ℕ) → j < many → f j ≡ g (first + j))
    → patch (to + (first - a)) many f s ≡ patch to n (λ j. if covers b m (a + j) then g (a + j) else at s (to + j)) s
patch_overlap to a n b m first many f g s e k same =
    is_patch to n (λ j. if covers b m (a + j) then g (a + j) else at s (to + j)) s (patch p many f s) (patch_length p many f s)
    (λ j l h. case (covers b m (a + j))
    (λ t. let r = covers_true b m (a + j) t in
    let z : p + (a + j - first) ≡ to + j = omega arith in let w : first + (a + j - first) ≡ a + j = omega arith in
    rw t (rw z at (patch_in p many f s (a + j - first) (omega arith) (omega arith)) ∙ rw w at (same (a + j - first) (omega arith))))
    (λ t. rw t (patch_else p many f s (to + j) h (λ u v. not_both (covers b m (a + j)) (covers_in b m (a + j) (omega arith) (omega arith)) t))))
    (λ i l h. patch_else p many f s i l (λ u v. h (omega arith) (omega arith)))
  where
    p : ℕ
    p = to + (first - a)

-- there are none
pub patch_apart : (to a n b m : ℕ) (g : ℕ → ℕ) (s : List ℕ) → min (a + n) (b + m) ≤ max a b
    → s ≡ patch to n (λ j. if covers b m (a + j) then g (a + j) else at s (to + j)) s
patch_apart to a n b m g s h =
    patch_none (to + (max a b - a)) g s ∙ patch_overlap to a n b m (max a b) 0 g g s refl (omega arith) (λ j l. absurd (omega arith))

-- ---- parts

module _ (a n : ℕ) (s : List ℕ) (fits : a + n ≤ length s) where
  pub part_length : length (part a n s) ≡ n
  part_length = simp (length-take, length-drop) (omega arith)

  pub part_at : (i : ℕ) → i < n → at (part a n s) i ≡ at s (a + i)
  part_at i h = rw (get_or-take, get_or-drop)
