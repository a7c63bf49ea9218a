-- The first row that applies, by going along the rows: a row's number is given exactly when its test passes and no earlier one's does,
-- since no later row has that number. Where the numbers rise it is the lowest of those that apply, since all later ones are above it.
-- Assumes nothing.
use Rattle.std.specs.Prelude.{if◌then◌else◌}
use mathlib.Core.Path.{◌≡◌, refl, sym, ap, ◌∙◌}
use mathlib.Core.Logic.{◌↔◌, ◌≢◌}
use mathlib.Core.Bool.{Bool, true, false, true≢false, false≢true, not, ◌&&◌}
use mathlib.Core.List.Memᴰ
use mathlib.Core.List.{List, [], ◌∷◌, ◌++◌, Memᴰ}
use mathlib.Core.Logic.{⊎_elim}
use Prim.Native.Nat.{ℕ, ◌≤◌, ◌<◌}
use lib.Dec.{ltb, eqb}
use borrow.Author.Tests.{not-true, eqb-true, eqb-false, eq-eqb, ne_eqb, ltb-true}
use native.Mathlib.Nat.{le_refl}
use native.Mathlib.Omega.{arith}
use Rattle.laws.specs.Tests.{Row, first_of, none_of, InOrder}
use Rattle.laws.proofs.Tests.{same_test, and_left, and_right, and_both}

-- the numbers of the rows are above k, and rise
abbrev pub rising : ℕ → List Row → Bool
rising k [] = true
rising k (r ∷ rs) = ltb k r.0 && rising r.0 rs

-- no number is 0
abbrev pub named : List Row → Bool
named [] = true
named (r ∷ rs) = not (eqb r.0 0) && named rs

-- none of the rows has this number, nor is it 0
abbrev pub lacks : ℕ → List Row → Bool
lacks k [] = not (eqb k 0)
lacks k (r ∷ rs) = not (eqb k r.0) && lacks k rs

pub first_lacks : (k : ℕ) (rs : List Row) → lacks k rs ≡ true → first_of rs ≢ k
first_lacks k [] e z = eqb-false k 0 (not-true (eqb k 0) e) (sym z)
first_lacks k ((n, true) ∷ rs) e z = eqb-false k n (not-true (eqb k n) (and_left (not (eqb k n)) (lacks k rs) e)) (sym z)
first_lacks k ((n, false) ∷ rs) e z = first_lacks k rs (and_right (not (eqb k n)) (lacks k rs) e) z

-- rows of which the earlier ones don't apply
pub first_skip : (before after : List Row) → none_of before ≡ true → first_of (before ++ after) ≡ first_of after
first_skip [] after e = refl
first_skip (r ∷ rs) after e =
    rw (not-true r.1 (and_left (not r.1) (none_of rs) e)) (first_skip rs after (and_right (not r.1) (none_of rs) e))

-- given that no earlier row applies, a row's number is given exactly when its test passes
pub first_exact : (before after : List Row) (k : ℕ) (t : Bool) → none_of before ≡ true → lacks k after ≡ true
    → (first_of (before ++ (k, t) ∷ after) ≡ k) ↔ (t ≡ true)
first_exact before after k true e l = (λ z. refl, λ z. first_skip before ((k, true) ∷ after) e)
first_exact before after k false e l =
    (λ z. absurd (first_lacks k after l (sym (first_skip before ((k, false) ∷ after) e) ∙ z)), λ z. absurd (false≢true z))

-- no row applies exactly when 0 is given
pub first_none : (rs : List Row) → named rs ≡ true → (first_of rs ≡ 0) ↔ (none_of rs ≡ true)
first_none rs e = (to rs e, of rs)
  where
    to : (rs : List Row) → named rs ≡ true → first_of rs ≡ 0 → none_of rs ≡ true
    to [] e z = refl
    to ((n, true) ∷ rs) e z = absurd (eqb-false n 0 (not-true (eqb n 0) (and_left (not (eqb n 0)) (named rs) e)) z)
    to ((n, false) ∷ rs) e z = to rs (and_right (not (eqb n 0)) (named rs) e) z

    of : (rs : List Row) → none_of rs ≡ true → first_of rs ≡ 0
    of [] e = refl
    of ((n, true) ∷ rs) e = absurd (false≢true e)
    of ((n, false) ∷ rs) e = of rs e

pub first_taken : (rs : List Row) → named rs ≡ true → eqb (first_of rs) 0 ≡ none_of rs
first_taken rs e =
    let r = first_none rs e in
    same_test (eqb (first_of rs) 0) (none_of rs) (λ t. r.0 (eqb-true (first_of rs) 0 t)) (λ t. eq-eqb (first_of rs) 0 (r.1 t))

-- rows after rows
pub first_append : (xs ys : List Row) → named xs ≡ true → first_of (xs ++ ys) ≡ (if eqb (first_of xs) 0 then first_of ys else first_of xs)
first_append [] ys e = refl
first_append ((n, true) ∷ xs) ys e = rw (not-true (eqb n 0) (and_left (not (eqb n 0)) (named xs) e))
first_append ((n, false) ∷ xs) ys e = first_append xs ys (and_right (not (eqb n 0)) (named xs) e)

rising_above : (k : ℕ) (rs : List Row) → rising k rs ≡ true → (r : Row) → Memᴰ r rs → k < r.0
rising_above k [] e r m = elim m [ ]
rising_above k (s ∷ rs) e r m =
    let l = ltb-true k s.0 (and_left (ltb k s.0) (rising s.0 rs) e) in
    ⊎_elim (λ q. let z : r.0 ≡ s.0 = ap (λ (x : Row). x.0) q in omega arith)
    (λ q. let d = rising_above s.0 rs (and_right (ltb k s.0) (rising s.0 rs) e) r q in omega arith) (Memᴰ.cases_cons m)

-- the lowest of those that apply is given
pub first_lowest : (k : ℕ) (rs : List Row) → rising k rs ≡ true → (r : Row) → Memᴰ r rs → r.1 ≡ true → first_of rs ≤ r.0
first_lowest k [] e r m t = elim m [ ]
first_lowest k ((n, true) ∷ rs) e r m t =
    ⊎_elim (λ z. let y : r.0 ≡ n = ap (λ (x : Row). x.0) z in omega arith)
    (λ z. let d = rising_above n rs (and_right (ltb k n) (rising n rs) e) r z in omega arith) (Memᴰ.cases_cons m)
first_lowest k ((n, false) ∷ rs) e r m t =
    ⊎_elim (λ z. absurd (true≢false (sym t ∙ ap (λ (x : Row). x.1) z)))
    (λ z. first_lowest n rs (and_right (ltb k n) (rising n rs) e) r z t) (Memᴰ.cases_cons m)

-- ---- rows in order

-- no number stands twice, or is 0
abbrev pub distinct : List Row → Bool
distinct [] = true
distinct (r ∷ rs) = lacks r.0 rs && distinct rs

lacks_later : (before after : List Row) (k : ℕ) (t : Bool) → distinct (before ++ (k, t) ∷ after) ≡ true → lacks k after ≡ true
lacks_later [] after k t e = and_left (lacks k after) (distinct after) e
lacks_later (r ∷ rs) after k t e = lacks_later rs after k t (and_right (lacks r.0 (rs ++ (k, t) ∷ after)) (distinct (rs ++ (k, t) ∷ after)) e)

not_zero : (k : ℕ) (rs : List Row) → lacks k rs ≡ true → eqb k 0 ≡ false
not_zero k [] e = not-true (eqb k 0) e
not_zero k (r ∷ rs) e = not_zero k rs (and_right (not (eqb k r.0)) (lacks k rs) e)

distinct_named : (rs : List Row) → distinct rs ≡ true → named rs ≡ true
distinct_named [] e = refl
distinct_named (r ∷ rs) e =
    rw (not_zero r.0 rs (and_left (lacks r.0 rs) (distinct rs) e)) (distinct_named rs (and_right (lacks r.0 rs) (distinct rs) e))

pub in_order : (rs : List Row) → distinct rs ≡ true → InOrder rs
in_order rs e = record {
  exact = λ before after k t q n. rw q (first_exact before after k t n (lacks_later before after k t (rw q at e)));
  free = first_none rs (distinct_named rs e);
}

-- ---- numbers that rise

rising_lacks : (k n : ℕ) (rs : List Row) → 0 < k → k ≤ n → rising n rs ≡ true → lacks k rs ≡ true
rising_lacks k n [] h l e = rw (ne_eqb k 0 (λ z. omega arith))
rising_lacks k n (r ∷ rs) h l e =
    let u = ltb-true n r.0 (and_left (ltb n r.0) (rising r.0 rs) e) in
    rw (ne_eqb k r.0 (λ z. omega arith)) (rising_lacks k r.0 rs h (omega arith) (and_right (ltb n r.0) (rising r.0 rs) e))

pub rising_distinct : (k : ℕ) (rs : List Row) → rising k rs ≡ true → distinct rs ≡ true
rising_distinct k [] e = refl
rising_distinct k (r ∷ rs) e =
    let u = ltb-true k r.0 (and_left (ltb k r.0) (rising r.0 rs) e) in
    let v = and_right (ltb k r.0) (rising r.0 rs) e in
    and_both (rising_lacks r.0 r.0 rs (omega arith) (le_refl r.0) v) (rising_distinct r.0 rs v)
