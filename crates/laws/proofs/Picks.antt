-- Lists that are picked from others (numbers in a row, the elements that pass a test, all pairs of two lists): along the list, an element
-- is a member exactly if it should be, and lengths and sums add up. That none stands twice is told by a number that rises.
-- Assumes nothing.
use Rattle.std.specs.Prelude.{if◌then◌else◌}
use mathlib.Core.Path.{◌≡◌, refl, sym, ap, ◌∙◌}
use mathlib.Core.Logic.{◌≢◌, ⊎_elim, ∥∥₁_elim}
use mathlib.Core.HLevel.{⊥_prop}
use mathlib.Core.Bool.{Bool, true, ◌&&◌}
use mathlib.Core.List.Memᴰ
use mathlib.Core.List.Sublist
use mathlib.Core.List.{List, [], ◌∷◌, ◌++◌, map, map-map, map-append, Memᴰ, Nodup, Nodup-nil, Nodup-cons, Sublist, nil-sublist, cons-sublist-cons}
use Prim.Native.Nat.{ℕ, zero, suc, ◌+◌, ◌≤◌, ◌<◌}
use native.Mathlib.Omega.{arith}
use lib.Dec.{leb, eqb}
use lib.ListN.{length}
use borrow.Author.Tests.{eqb-true, eqb-false, leb-true}
use Rattle.laws.specs.Tests.{one}
use Rattle.laws.specs.Lists.{sum}
use Rattle.laws.proofs.Tests.{case, if_elim, and_left, and_right}
use Rattle.laws.proofs.Sums.{sum_append}

-- ---- lists that are not empty

pub some_member : {A : Type 0} (l : List A) → length l ≢ 0 → (x : A) × Memᴰ x l
some_member [] e = absurd (e refl)
some_member (x ∷ xs) e = (x, Memᴰ.head refl)

pub member_some : {A : Type 0} (l : List A) {x : A} → Memᴰ x l → length l ≢ 0
member_some [] m e = Memᴰ.not-nil m
member_some (y ∷ l) m e = omega arith

-- ---- numbers in a row

-- the n numbers from a on
abbrev pub count_up : ℕ → ℕ → List ℕ
count_up a zero = []
count_up a (suc n) = a ∷ count_up (suc a) n

pub counted_within : (a n i : ℕ) → Memᴰ i (count_up a n) → (a ≤ i) × (i < a + n)
counted_within a zero i m = absurd (Memᴰ.not-nil m)
counted_within a (suc n) i m = ⊎_elim (λ e. omega arith) (λ q. let r = counted_within (suc a) n i q in omega arith) (Memᴰ.cases_cons m)

pub within_counted : (a n i : ℕ) → a ≤ i → i < a + n → Memᴰ i (count_up a n)
within_counted a zero i h k = absurd (omega arith)
within_counted a (suc n) i h k = case (eqb i a)
    (λ t. Memᴰ.head (eqb-true i a t))
    (λ t. let d = eqb-false i a t in Memᴰ.tail (within_counted (suc a) n i (omega arith) (omega arith)))

-- ---- the elements that pass a test

abbrev pub picked : {A : Type 0} → (A → Bool) → List A → List A
picked t [] = []
picked t (x ∷ xs) = if t x then x ∷ picked t xs else picked t xs

module _ {A : Type 0} (t : A → Bool) where
  pub picked_length : (l : List A) → length (picked t l) ≡ sum (map (λ x. one (t x)) l)
  unfolding sum
  picked_length [] = refl
  picked_length (x ∷ xs) = let u = picked_length xs in case (t x) (λ e. rw e (omega arith)) (λ e. rw e (omega arith))

  pub picked_passes : (l : List A) {x : A} → Memᴰ x (picked t l) → Memᴰ x l × (t x ≡ true)
  picked_passes [] m = absurd (Memᴰ.not-nil m)
  picked_passes (y ∷ l) {x} m = case (t y)
      (λ e. ⊎_elim (λ q. (Memᴰ.head q, ap t q ∙ e)) (λ q. later (picked_passes l q)) (Memᴰ.cases_cons (rw e at m)))
      (λ e. later (picked_passes l (rw e at m)))
    where
      later : Memᴰ x l × (t x ≡ true) → Memᴰ x (y ∷ l) × (t x ≡ true)
      later r = (Memᴰ.tail r.0, r.1)

  pub passes_picked : (l : List A) {x : A} → Memᴰ x l → t x ≡ true → Memᴰ x (picked t l)
  passes_picked [] m e = absurd (Memᴰ.not-nil m)
  passes_picked (y ∷ l) {x} m e = ⊎_elim
      (λ q. let d : t y ≡ true = cc (ap t q) in rw d (Memᴰ.head q))
      (λ q. if_elim (λ s. Memᴰ x s) (t y) (λ d. Memᴰ.tail (passes_picked l q e)) (λ d. passes_picked l q e))
      (Memᴰ.cases_cons m)

  pub picked_sublist : (l : List A) → Sublist (picked t l) l
  picked_sublist [] = nil-sublist []
  picked_sublist (x ∷ xs) =
      if_elim (λ s. Sublist s (x ∷ xs)) (t x) (λ e. cons-sublist-cons.1 (picked_sublist xs)) (λ e. Sublist.cons x (picked_sublist xs))

-- ---- elements that are told apart by a number

-- the numbers of the elements are at least k, and rise
abbrev pub rises : {A : Type 0} → (A → ℕ) → ℕ → List A → Bool
rises f k [] = true
rises f k (x ∷ xs) = leb k (f x) && rises f (suc (f x)) xs

module _ {A : Type 0} (f : A → ℕ) where
  rises_above : (k : ℕ) (l : List A) (x : A) → rises f k l ≡ true → Memᴰ x l → k ≤ f x
  rises_above k [] x e m = absurd (Memᴰ.not-nil m)
  rises_above k (y ∷ l) x e m =
      let h = leb-true k (f y) (and_left (leb k (f y)) (rises f (suc (f y)) l) e) in
      ⊎_elim (λ q. let z : f x ≡ f y = ap f q in omega arith)
      (λ q. let r = rises_above (suc (f y)) l x (and_right (leb k (f y)) (rises f (suc (f y)) l) e) q in omega arith) (Memᴰ.cases_cons m)

  pub rises_once : (k : ℕ) (l : List A) → rises f k l ≡ true → Nodup l
  rises_once k [] e = Nodup-nil
  rises_once k (x ∷ xs) e =
      let d = and_right (leb k (f x)) (rises f (suc (f x)) xs) e in
      Nodup-cons.1 (λ m. ∥∥₁_elim m ⊥_prop (λ q. let r = rises_above (suc (f x)) xs x d q in omega arith), rises_once (suc (f x)) xs d)

-- ---- all pairs of two lists

abbrev pub crossed : {A B : Type 0} → List A → List B → List (A × B)
crossed [] l = []
crossed (x ∷ xs) l = map (λ y. (x, y)) l ++ crossed xs l

module _ {A B : Type 0} where
  pub crossed_both : (k : List A) (l : List B) {z : A × B} → Memᴰ z (crossed k l) → Memᴰ z.0 k × Memᴰ z.1 l
  crossed_both [] l m = absurd (Memᴰ.not-nil m)
  crossed_both (x ∷ xs) l {z} m = ⊎_elim
      (λ q. let r = Memᴰ.of_map (λ y. (x, y)) l q in (Memᴰ.head (λ i. (sym r.2 i).0), Memᴰ.cast (λ i. (sym r.2 i).1) r.1))
      (λ q. let r = crossed_both xs l q in (Memᴰ.tail r.0, r.1))
      (Memᴰ.append_cases (map (λ y. (x, y)) l) m)

  pub both_crossed : (k : List A) (l : List B) {x : A} {y : B} → Memᴰ x k → Memᴰ y l → Memᴰ (x, y) (crossed k l)
  both_crossed [] l m n = absurd (Memᴰ.not-nil m)
  both_crossed (z ∷ zs) l {x} {y} m n = ⊎_elim
      (λ q. Memᴰ.append_left (crossed zs l) (Memᴰ.cast (λ i. (q i, y)) (Memᴰ.map (λ w. (z, w)) n)))
      (λ q. Memᴰ.append_right (map (λ w. (z, w)) l) (both_crossed zs l q n))
      (Memᴰ.cases_cons m)

  -- a sum over all pairs, row by row
  pub crossed_sum : (f : A × B → ℕ) (k : List A) (l : List B) → sum (map f (crossed k l)) ≡ sum (map (λ x. sum (map (λ y. f (x, y)) l)) k)
  unfolding sum
  crossed_sum f [] l = refl
  crossed_sum f (x ∷ xs) l = rw (map-append, sum_append, map-map, crossed_sum f xs l)
