-- The front of a list, its first n places, replaced once and again: what is put there last stands there, though it may be worked out from
-- what stood there before. So several such steps are one, shown inside the front and past it.
-- Assumes nothing.
use Rattle.std.specs.Prelude.{if◌then◌else◌}
use mathlib.Core.Path.{◌≡◌, refl, sym, ap, ◌∙◌}
use mathlib.Core.Bool.{true}
use mathlib.Core.List.{List}
use Prim.Native.Nat.{ℕ, ◌+◌, ◌-◌, ◌≤◌, ◌<◌, max, min}
use native.Mathlib.Nat.{zero-add}
use native.Mathlib.Omega.{arith}
use lib.Dec.{ltb, eqb}
use lib.ListN.{length, set, length-set, get_or-eq_default}
use lib.Seq.{get_or-set_other}
use borrow.Author.Tests.{lt-ltb, le-ltb, ltb-true, ltb-false}
use Rattle.laws.specs.Tests.{covers}
use Rattle.laws.specs.Lists.{at, patch}
use Rattle.laws.proofs.Tests.{case, covers_true}
use Rattle.laws.proofs.Lists.{table_agree, patch_length, patch_same, patch_in, patch_above, patch_else, patch_overlap, patch_apart, is_patch, at_set}

pub front_in : (n : ℕ) (f : ℕ → ℕ) (s : List ℕ) (i : ℕ) → i < n → i < length s → at (patch 0 n f s) i ≡ f i
front_in n f s i h k = let e : 0 + i ≡ i = omega arith in rw e at (patch_in 0 n f s i h (omega arith))

-- past it the rest is as it was
pub front_rest : (n : ℕ) (f : ℕ → ℕ) (s : List ℕ) (i : ℕ) → n ≤ i → at (patch 0 n f s) i ≡ at s i
front_rest n f s i h = case (ltb i (length s))
    (λ t. patch_above 0 n f s i (ltb-true i (length s) t) (omega arith))
    (λ t. let e = ltb-false i (length s) t in
    get_or-eq_default (patch 0 n f s) 0 {n = i} (rw (patch_length 0 n f s) e) ∙ sym (get_or-eq_default s 0 {n = i} e))

-- two of them agree wherever their numbers do
pub front_agree : (n : ℕ) (f g : ℕ → ℕ) (s : List ℕ) (i : ℕ) → (ltb i n ≡ true → f i ≡ g i) → at (patch 0 n f s) i ≡ at (patch 0 n g s) i
unfolding patch
front_agree n f g s i e =
    table_agree (length s) (λ j. if covers 0 n j then f (j - 0) else at s j) (λ j. if covers 0 n j then g (j - 0) else at s j) i (case (covers 0 n i)
    (λ t. let l = (covers_true 0 n i t).1 in let z : i - 0 ≡ i = omega arith in rw (t, z) (e (lt-ltb i n (omega arith))))
    (λ t. rw t))

-- a list is this one if, place by place, it has f below n and from there on what was there
pub is_front : (n : ℕ) (f : ℕ → ℕ) (s l : List ℕ) → length l ≡ length s
    → ((i : ℕ) → i < length s → at l i ≡ (if ltb i n then f i else at s i)) → l ≡ patch 0 n f s
is_front n f s l e same =
    is_patch 0 n f s l e
    (λ j h k. let z : 0 + j ≡ j = omega arith in rw z (rw (lt-ltb j n h) at (same j (omega arith))))
    (λ i h no. let d = no (omega arith) in rw (le-ltb i n (omega arith)) at (same i h))

module _ (n : ℕ) (s : List ℕ) (room : n ≤ length s) where
  -- what then stands there
  front_of : (f : ℕ → ℕ) {o : List ℕ} → o ≡ patch 0 n f s → (j : ℕ) → j < n → at o j ≡ f j
  front_of f {o} e j l = rw e (front_in n f s j l (omega arith))

  -- by f, and then by g, which may look at the places
  pub front_over : {f g h : ℕ → ℕ} {o t : List ℕ} → o ≡ patch 0 n f s → t ≡ patch 0 n g o → ((j : ℕ) → j < n → at o j ≡ f j → g j ≡ h j) → t ≡ patch 0 n h s
  front_over {f} {g} {h} {o} {t} e d same =
      let k : length o ≡ length s = ap length e ∙ patch_length 0 n f s in
      is_patch 0 n h s t (ap length d ∙ patch_length 0 n g o ∙ k)
      (λ j l m. let z : 0 + j ≡ j = omega arith in
      let y : at t j ≡ g j = rw d (front_in n g o j l (omega arith)) in rw z (y ∙ same j l (front_of f e j l)))
      (λ i l m. let x : at o i ≡ at s i = rw e (patch_else 0 n f s i l m) in
      let y : at t i ≡ at o i = rw d (patch_else 0 n g o i (omega arith) m) in y ∙ x)

  -- four times
  pub front_four : {f₁ f₂ f₃ f₄ h : ℕ → ℕ} {o₁ o₂ o₃ t : List ℕ} → o₁ ≡ patch 0 n f₁ s → o₂ ≡ patch 0 n f₂ o₁ → o₃ ≡ patch 0 n f₃ o₂ → t ≡ patch 0 n f₄ o₃
      → ((j : ℕ) → j < n → at o₁ j ≡ f₁ j → at o₂ j ≡ f₂ j → at o₃ j ≡ f₃ j → f₄ j ≡ h j) → t ≡ patch 0 n h s
  front_four {f₁} {f₂} e₁ e₂ e₃ e₄ same =
      let k₂ = front_over e₁ e₂ (λ j l x. refl) in
      let k₃ = front_over k₂ e₃ (λ j l x. refl) in
      front_over k₃ e₄ (λ j l x₃. same j l (front_of f₁ e₁ j l) (front_of f₂ k₂ j l) x₃)

  -- by what stands there
  pub front_self : s ≡ patch 0 n (λ j. at s j) s
  front_self = is_patch 0 n (λ j. at s j) s s refl (λ j l m. let z : 0 + j ≡ j = omega arith in rw z) (λ i l m. refl)

  -- one of them set
  pub front_set : (k v : ℕ) → k < n → set s k v ≡ patch 0 n (λ j. if eqb j k then v else at s j) s
  front_set k v h =
      is_patch 0 n (λ j. if eqb j k then v else at s j) s (set s k v) (length-set s k v)
      (λ j l m. let z : 0 + j ≡ j = omega arith in rw z (at_set s k v j (omega arith)))
      (λ i l m. get_or-set_other s k i v 0 (λ z. m (omega arith) (omega arith)))

-- ---- the front stands for the n numbers from a on; those of them that are among the m numbers from b on take what g says of them

module _ (a n b m : ℕ) (g : ℕ → ℕ) (s : List ℕ) where
  at_front : patch 0 n (λ j. if covers b m (a + j) then g (a + j) else at s (0 + j)) s ≡ patch 0 n (λ j. if covers b m (a + j) then g (a + j) else at s j) s
  at_front = patch_same 0 n _ _ s (λ j l. let z : 0 + j ≡ j = omega arith in rw z)

  pub front_overlap : (skip many : ℕ) (f : ℕ → ℕ) → skip ≡ max a b - a → many ≡ min (a + n) (b + m) - max a b → ((j : ℕ) → j < many → f j ≡ g (max a b + j))
      → patch skip many f s ≡ patch 0 n (λ j. if covers b m (a + j) then g (a + j) else at s j) s
  front_overlap skip many f e k same =
      let z : skip ≡ 0 + (max a b - a) = e ∙ sym (zero-add (max a b - a)) in
      rw z (patch_overlap 0 a n b m (max a b) many f g s refl k same ∙ at_front)

  -- there are none
  pub front_apart : min (a + n) (b + m) - max a b ≡ 0 → s ≡ patch 0 n (λ j. if covers b m (a + j) then g (a + j) else at s j) s
  front_apart e = patch_apart 0 a n b m g s (omega arith) ∙ at_front
