-- Choices by a test, `and` and `or`, numbers against a run: what is said of Booleans goes by their cases, and a test of numbers is turned
-- into a fact of numbers, which arithmetic settles, and back.
-- Assumes nothing.
use Rattle.std.specs.Prelude.{if◌then◌else◌}
use mathlib.Core.Path.{◌≡◌, refl, sym, ◌∙◌}
use mathlib.Core.Bool.{Bool, true, false, not, true≢false, ◌&&◌, ◌||◌, and-false, beq}
use Prim.Native.Nat.{ℕ, suc, ◌+◌, ◌-◌, ◌≤◌, ◌<◌}
use lib.Dec.{leb, ltb, eqb}
use borrow.Author.Tests.{eqb-true, eqb-false, lt-leb, le-leb, leb-true, leb-false, lt-ltb, le-ltb, ltb-true}
use native.Mathlib.Omega.{arith}
use Rattle.laws.specs.Tests.{one, covers}

-- ---- a choice by a test

-- a test, and what it came to
pub case {ℓ} : {P : Type ℓ} (b : Bool) → (b ≡ true → P) → (b ≡ false → P) → P
case true f g = f refl
case false f g = g refl

-- both branches agree with z
pub if_both : {A : Type 0} (b : Bool) {x y z : A} → x ≡ z → y ≡ z → (if b then x else y) ≡ z
if_both true p q = p
if_both false p q = q

-- the branches change places
pub if_not : {A : Type 0} (b : Bool) (x y : A) → (if not b then x else y) ≡ (if b then y else x)
if_not true x y = refl
if_not false x y = refl

-- what holds of both branches holds of the whole
pub if_elim {κ} : {A : Type 0} (P : A → Type κ) (b : Bool) {x y : A} → (b ≡ true → P x) → (b ≡ false → P y) → P (if b then x else y)
if_elim P true f g = f refl
if_elim P false f g = g refl

-- two tests, each of which passes where the other does
pub same_test : (a b : Bool) → (a ≡ true → b ≡ true) → (b ≡ true → a ≡ true) → a ≡ b
same_test true b f g = sym (f refl)
same_test false true f g = g refl
same_test false false f g = refl

pub one_le : (t : Bool) → one t ≤ 1
one_le true = omega arith
one_le false = omega arith

pub one_none : (t : Bool) → one t ≡ 0 → t ≡ false
one_none true e = absurd (omega arith)
one_none false e = refl

pub beq_same : (a b : Bool) → beq a b ≡ true → a ≡ b
beq_same true true e = refl
beq_same true false e = sym e
beq_same false true e = e
beq_same false false e = refl

pub not_both {ℓ} : {P : Type ℓ} (b : Bool) → b ≡ true → b ≡ false → P
not_both b p q = absurd (true≢false (sym p ∙ q))

-- ---- and, or

pub and_left : (a b : Bool) → (a && b) ≡ true → a ≡ true
and_left true b e = refl
and_left false b e = e

pub and_right : (a b : Bool) → (a && b) ≡ true → b ≡ true
and_right true b e = e
and_right false b e = cc

pub and_both : {a b : Bool} → a ≡ true → b ≡ true → (a && b) ≡ true
and_both p q = cc

pub or_left : (t u : Bool) → (t || u) ≡ false → t ≡ false
or_left true u h = h
or_left false u h = refl

pub or_right : (t u : Bool) → (t || u) ≡ false → u ≡ false
or_right true u h = cc
or_right false u h = h

-- ---- a number against a run

pub covers_in : (a n i : ℕ) → a ≤ i → i < a + n → covers a n i ≡ true
covers_in a n i h k = rw (le-leb a i h, lt-ltb i (a + n) k)

pub covers_below : (a n i : ℕ) → i < a → covers a n i ≡ false
covers_below a n i h = rw (lt-leb a i h)

pub covers_above : (a n i : ℕ) → a + n ≤ i → covers a n i ≡ false
covers_above a n i h = rw (le-ltb i (a + n) h) (and-false (leb a i))

pub covers_true : (a n i : ℕ) → covers a n i ≡ true → (a ≤ i) × (i < a + n)
covers_true a n i e = (leb-true a i (and_left (leb a i) (ltb i (a + n)) e), ltb-true i (a + n) (and_right (leb a i) (ltb i (a + n)) e))

pub covers_none : (a n i : ℕ) → (a ≤ i → i < a + n → ⊥) → covers a n i ≡ false
covers_none a n i h = case (covers a n i) (λ t. let r = covers_true a n i t in absurd (h r.0 r.1)) (λ t. t)

-- a run of one number
pub covers_one : (a i : ℕ) → covers a 1 i ≡ eqb i a
covers_one a i = case (eqb i a)
    (λ t. let e = eqb-true i a t in rw t (covers_in a 1 i (omega arith) (omega arith)))
    (λ t. let d = eqb-false i a t in rw t (covers_none a 1 i (λ l u. d (omega arith))))

-- one number more is covered
pub covers_more : (a k i : ℕ) → covers a (k + 1) i ≡ (if eqb i (a + k) then true else covers a k i)
covers_more a k i = case (eqb i (a + k))
    (λ t. let z = eqb-true i (a + k) t in rw t (covers_in a (k + 1) i (omega arith) (omega arith)))
    (λ t. let d = eqb-false i (a + k) t in rw t (same_test (covers a (k + 1) i) (covers a k i)
    (λ u. let r = covers_true a (k + 1) i u in covers_in a k i r.0 (omega arith))
    (λ u. let r = covers_true a k i u in covers_in a (k + 1) i r.0 (omega arith))))

-- a run by its first and its last
pub covers_to : (a b i : ℕ) → a ≤ b → covers a (suc b - a) i ≡ (leb a i && leb i b)
covers_to a b i h = let e : a + (suc b - a) ≡ suc b = omega arith in rw e (case (leb i b)
    (λ t. let l = leb-true i b t in rw (t, lt-ltb i (suc b) (omega arith)))
    (λ t. let l = leb-false i b t in rw (t, le-ltb i (suc b) (omega arith))))
