-- The contracts of the calls on a log: each is an equation with the definitions for each thing that is left or answered. So two outcomes
-- are equal through the definitions, a refused call owes its refusal alone, and an accepted one the block that it puts.
-- Assumes nothing.
use mathlib.Core.Path.{◌≡◌, sym, ◌∙◌}
use mathlib.Core.Logic.{◌≢◌}
use mathlib.Core.Bool.{true}
use mathlib.Core.List.{List}
use Prim.Native.Nat.{ℕ, suc, ◌+◌, ◌*◌, ◌≤◌}
use native.Mathlib.Omega.{arith}
use native.Mathlib.Numerals.{add-one}
use lib.Dec.{eqb}
use lib.ListN.{length}
use denote.Ref.{Bor}
use borrow.Author.Tests.{ne_eqb, eq-eqb, eqb-true}
use Rattle.laws.specs.Tests.{Row, first_of}
use Rattle.laws.proofs.Tests.{case}
use Rattle.block.specs.Block.{block_size, grown}
use Rattle.log_model.specs.Log.{needs_new, put, new_block, used_after}
use Rattle.log_model.specs.Outcomes.{add_refusal, power_up_refusal, sample_refusal, Changed, Added, Opened, Placed, Shown}
use Rattle.log_model.proofs.PowerUps.{power_up_room}
use Rattle.log_model.proofs.Adds.{add_taken, add_room}

-- ---- a refused call changes nothing

pub changed_refused : (log : List ℕ) (rows : List Row) (more : ℕ) (changed : List ℕ) (r : ℕ) → r ≡ first_of rows → r ≢ 0 → Changed log rows more changed r 0 log
changed_refused log rows more changed r e d =
    let n = ne_eqb (first_of rows) 0 (λ z. d (e ∙ z)) in
    record { refusal_is = e; used_is = rw n; log_is = rw n }

pub sample_refused : (log : List ℕ) (used k r : ℕ) → r ≡ sample_refusal log used k → r ≢ 0 → Placed log used k r 0
sample_refused log used k r e d = record { refusal_is = e; start_is = rw (ne_eqb (sample_refusal log used k) 0 (λ z. d (e ∙ z))) }

-- ---- an accepted one

module _ (log : List ℕ) (used : ℕ) (x : List ℕ) (r : ℕ) (e : r ≡ add_refusal log used x) (z : r ≡ 0) where
  taken : add_refusal log used x ≡ 0
  taken = sym e ∙ z

  pub added_new : needs_new log used ≡ true → (t : List ℕ) → t ≡ put log used (grown (new_block log used) x) → Added log used x r (used + 1) t
  added_new n t d =
      let a = eq-eqb (add_refusal log used x) 0 taken in
      record { refusal_is = e; used_is = rw (a, n, add-one); log_is = rw (a, n) d }

-- ---- any two outcomes that a contract allows are equal

pub changed_unique : {log : List ℕ} {rows : List Row} {more : ℕ} {changed : List ℕ} {r₁ r₂ n₁ n₂ : ℕ} {t₁ t₂ : List ℕ}
    → Changed log rows more changed r₁ n₁ t₁ → Changed log rows more changed r₂ n₂ t₂ → (r₁ ≡ r₂) × (n₁ ≡ n₂) × (t₁ ≡ t₂)
changed_unique p q = (p.refusal_is ∙ sym q.refusal_is, p.used_is ∙ sym q.used_is, p.log_is ∙ sym q.log_is)

pub placed_unique : {log : List ℕ} {used k r₁ r₂ s₁ s₂ : ℕ} → Placed log used k r₁ s₁ → Placed log used k r₂ s₂ → (r₁ ≡ r₂) × (s₁ ≡ s₂)
placed_unique p q = (p.refusal_is ∙ sym q.refusal_is, p.start_is ∙ sym q.start_is)

-- of a sample itself: its bytes, and where it points unless it is refused
pub shown_unique : {log : Bor (List ℕ)} {used k : ℕ} {r₁ r₂ : Bor (List ℕ)} → Shown log used k r₁ → Shown log used k r₂
    → (r₁.now ≡ r₂.now) × (sample_refusal log.now used k ≡ 0 → r₁.ref_ptr ≡ r₂.ref_ptr)
shown_unique p q = (p.bytes_are ∙ sym q.bytes_are, λ e. p.place_is e ∙ sym (q.place_is e))

-- ---- there are as many blocks as the used number after a call

pub added_fits : (log : List ℕ) (used : ℕ) (x : List ℕ) {r n : ℕ} {t : List ℕ} → Added log used x r n t → block_size * n ≤ length log
added_fits log used x {r} {n} p = case (eqb (add_refusal log used x) 0)
    (λ q. let taken = eqb-true (add_refusal log used x) 0 q in
    let e : n ≡ used_after log used = p.used_is ∙ rw q in
    case (needs_new log used)
    (λ m. let h = add_room log used x taken m in let f : n ≡ suc used = e ∙ rw m in omega arith)
    (λ m. let h = (add_taken log used x taken).1.fits in let f : n ≡ used = e ∙ rw m in omega arith))
    (λ q. let e : n ≡ 0 = p.used_is ∙ rw q in omega arith)

pub opened_fits : (log : List ℕ) (used : ℕ) {r n : ℕ} {t : List ℕ} → Opened log used r n t → block_size * n ≤ length log
opened_fits log used {r} {n} p = case (eqb (power_up_refusal log used) 0)
    (λ q. let h = power_up_room log used (eqb-true (power_up_refusal log used) 0 q) in
    let e : n ≡ suc used = p.used_is ∙ rw q in omega arith)
    (λ q. let e : n ≡ 0 = p.used_is ∙ rw q in omega arith)
