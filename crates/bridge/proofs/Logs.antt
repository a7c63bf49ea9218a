-- The C face of a log: an answer is its lowest byte and what stands above it, so two that a contract allows are equal, as the outcomes
-- inside are, and a refused call, with 0 above it, answers its number alone. A position, below a 32nd of the memory's length, is not cut.
-- Assumes nothing.
use mathlib.Core.Path.{◌≡◌, refl, sym, ◌∙◌}
use mathlib.Core.Logic.{◌≢◌, ◌↔◌}
use mathlib.Core.List.{List}
use mathlib.Core.Option.{none, some, Option}
use Prim.Native.Nat.{ℕ, suc, ◌<◌}
use native.Mathlib.Omega.{arith}
use lib.Dec.{eqb}
use lib.ListN.{length}
use Rattle.laws.specs.Tests.{Row, first_of}
use Rattle.laws.proofs.Tests.{case}
use Rattle.log_model.specs.Outcomes.{sample_refusal, Changed}
use Rattle.question.specs.Search.{Told, refused, given, first_told, first_rows}
use Rattle.question.proofs.AnyMemory.{first_short, first_refused_by}
use Rattle.log_model.proofs.Outcomes.{changed_unique, placed_unique, changed_refused, sample_refused}
use Rattle.bridge.specs.Packing.{byte_of, refusal_in}
use Rattle.bridge.specs.Face.{upper, SamplePacked, FirstPacked, value_of_first}

-- ---- the refusal and the value beside it are the whole answer

told_unique : (x y : ℕ) → byte_of 0 x ≡ byte_of 0 y → upper x ≡ upper y → x ≡ y
told_unique x y a b = omega arith

-- of an add and of a power-up
pub changed_packed_unique : {log : List ℕ} {rows : List Row} {more : ℕ} {changed : List ℕ} {x y : ℕ} {t u : List ℕ}
    → Changed log rows more changed (byte_of 0 x) (upper x) t → Changed log rows more changed (byte_of 0 y) (upper y) u → (x ≡ y) × (t ≡ u)
changed_packed_unique {x = x} {y = y} p q = let e = changed_unique p q in (told_unique x y e.0 e.1, e.2)

pub sample_packed_unique : {log : List ℕ} {used k x y : ℕ} → SamplePacked log used k x → SamplePacked log used k y → x ≡ y
sample_packed_unique {x = x} {y = y} p q = let e = placed_unique p q in told_unique x y e.0 e.1

-- ---- a refused call changes no byte and answers its refusal's number alone
told_alone : (x : ℕ) → upper x ≡ 0 → x ≡ byte_of 0 x
told_alone x e = omega arith

-- of an add and of a power-up
pub changed_packed_refused : {log : List ℕ} {rows : List Row} {more : ℕ} {changed : List ℕ} {x : ℕ} {t : List ℕ}
    → Changed log rows more changed (byte_of 0 x) (upper x) t → byte_of 0 x ≢ 0 → (x ≡ first_of rows) × (t ≡ log)
changed_packed_refused {log} {rows} {more} {changed} {x} p r =
    let e = changed_unique p (changed_refused log rows more changed (byte_of 0 x) p.refusal_is r) in
    (told_alone x e.1 ∙ p.refusal_is, e.2)

pub sample_packed_refused : {log : List ℕ} {used k x : ℕ} → SamplePacked log used k x → byte_of 0 x ≢ 0 → x ≡ sample_refusal log used k
sample_packed_refused {log} {used} {k} {x} p r =
    let e = placed_unique p (sample_refused log used k (byte_of 0 x) p.refusal_is r) in
    told_alone x e.1 ∙ p.refusal_is

-- ---- the first sample with a status bit

pub first_packed_unique : {log : List ℕ} {used k x y : ℕ} → FirstPacked log used k x → FirstPacked log used k y → x ≡ y
first_packed_unique {x = x} {y = y} p q = told_unique x y (p.refusal_is ∙ sym q.refusal_is) (p.value_is ∙ sym q.value_is)

-- of memory below 2 to the 61st bytes, more than a machine can address, no position is cut
pub first_whole : {log : List ℕ} {used k x i : ℕ} → FirstPacked log used k x → length log < 2305843009213693952 → first_told log used k ≡ given (some i) → (byte_of 0 x ≡ 0) × (upper x ≡ suc i)
first_whole {log} {used} {k} {x} {i} p h e =
    let l = first_short log used k i e in
    (p.refusal_is ∙ rw e, p.value_is ∙ rw e (omega arith))

-- an answer of 0 says that no sample that is looked at has the bit
pub first_packed_none : {log : List ℕ} {used k x : ℕ} → FirstPacked log used k x → length log < 2305843009213693952 → (x ≡ 0) ↔ (first_told log used k ≡ given none)
first_packed_none {log} {used} {k} {x} p h = (
  (λ z. by (first_told log used k) refl (sym p.refusal_is ∙ rw z) (sym p.value_is ∙ rw z)),
  (λ e. told_alone x (p.value_is ∙ rw e) ∙ p.refusal_is ∙ rw e),
)
  where
    by : (a : Told (Option ℕ)) → first_told log used k ≡ a → refusal_in a ≡ 0 → value_of_first a ≡ 0 → a ≡ given none
    by (refused n) e z v = absurd (first_refused_by log used k e z)
    by (given none) e z v = refl
    by (given (some i)) e z v = let l = first_short log used k i e in absurd (omega arith)

pub first_packed_refused : {log : List ℕ} {used k x : ℕ} → FirstPacked log used k x → byte_of 0 x ≢ 0 → x ≡ first_of (first_rows log used k)
first_packed_refused {log} {used} {k} {x} p r = case (eqb (first_of (first_rows log used k)) 0)
    (λ t. absurd (r (p.refusal_is ∙ rw t)))
    (λ t. told_alone x (p.value_is ∙ rw t) ∙ p.refusal_is ∙ rw t)
