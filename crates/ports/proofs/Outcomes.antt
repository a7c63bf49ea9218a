-- The contracts of the four calls are equations with the definitions, for each thing that is left or answered: so two outcomes are equal,
-- a refused call owes its refusal alone and an accepted one its bytes and counts, and the outcome is the step and the answer on states.
-- Assumes nothing.
use mathlib.Core.Path.{◌≡◌, sym, ap, ◌∙◌}
use mathlib.Core.Logic.{◌≢◌}
use mathlib.Core.List.{List}
use Prim.Native.Nat.{ℕ}
use lib.ListN.{length}
use borrow.Author.Tests.{eq-eqb}
use Rattle.ports.specs.Ports.{Port, operator, recorder, caller, CallOf, read, write}
use Rattle.ports.specs.Modules.{Module, base, state_size}
use Rattle.ports.specs.Effects.{done, step, answer}
use Rattle.ports.specs.Bytes.{record_of, state_of, bytes_of, refusal_of, after, answer_of}
use Rattle.ports.specs.Outcomes.{Reported, ReadDone, WriteDone}
use Rattle.ports.proofs.Lawful.{Lawful}
use Rattle.ports.proofs.Steps.{answer_long, state_after}
use Rattle.ports.proofs.Answers.{answer_refused, refused_changes_nothing, count_reported}

module _ {Image : Type 0} (M : Module Image) where
  -- ---- a refused call

  pub reported_refused : (s : List ℕ) (c : CallOf Image) (r : ℕ) → r ≡ refusal_of M s c → r ≢ 0 → Reported M s c r 0 0 s
  reported_refused s c r e h =
      let q = refused_changes_nothing M s c (λ z. h (e ∙ z)) in
      record { refusal_is = e; operator_is = rw (q.1 operator); recorder_is = rw (q.1 recorder); state_is = sym q.0 }

  pub read_refused : (s : List ℕ) (n a k : ℕ) (out : List ℕ) (r : ℕ) → r ≡ refusal_of M s (read n a k out) → r ≢ 0 → ReadDone M s n a k out r 0 s out
  read_refused s n a k out r e h =
      let q = refused_changes_nothing M s (read n a k out) (λ z. h (e ∙ z)) in
      record { refusal_is = e; count_is = rw (q.1 (caller n)); state_is = sym q.0; out_is = rw (q.1 (caller n)) }

  pub write_refused : (s : List ℕ) (n a : ℕ) (vs : List ℕ) (r : ℕ) → r ≡ refusal_of M s (write n a vs) → r ≢ 0 → WriteDone M s n a vs r 0 s
  write_refused s n a vs r e h =
      let q = refused_changes_nothing M s (write n a vs) (λ z. h (e ∙ z)) in
      record { refusal_is = e; count_is = rw (q.1 (caller n)); state_is = sym q.0 }

  -- ---- any two outcomes that a contract allows are equal

  pub reported_unique : {s : List ℕ} {c : CallOf Image} {r₁ r₂ x₁ x₂ y₁ y₂ : ℕ} {t₁ t₂ : List ℕ} → Reported M s c r₁ x₁ y₁ t₁ → Reported M s c r₂ x₂ y₂ t₂
      → (r₁ ≡ r₂) × (x₁ ≡ x₂) × (y₁ ≡ y₂) × (t₁ ≡ t₂)
  reported_unique p q =
      (p.refusal_is ∙ sym q.refusal_is, p.operator_is ∙ sym q.operator_is, p.recorder_is ∙ sym q.recorder_is, p.state_is ∙ sym q.state_is)

  pub read_unique : {s : List ℕ} {n a k : ℕ} {out : List ℕ} {r₁ r₂ x₁ x₂ : ℕ} {t₁ t₂ o₁ o₂ : List ℕ} → ReadDone M s n a k out r₁ x₁ t₁ o₁ → ReadDone M s n a k out r₂ x₂ t₂ o₂
      → (r₁ ≡ r₂) × (x₁ ≡ x₂) × (t₁ ≡ t₂) × (o₁ ≡ o₂)
  read_unique p q =
      (p.refusal_is ∙ sym q.refusal_is, p.count_is ∙ sym q.count_is, p.state_is ∙ sym q.state_is, p.out_is ∙ sym q.out_is)

  pub write_unique : {s : List ℕ} {n a : ℕ} {vs : List ℕ} {r₁ r₂ x₁ x₂ : ℕ} {t₁ t₂ : List ℕ} → WriteDone M s n a vs r₁ x₁ t₁ → WriteDone M s n a vs r₂ x₂ t₂
      → (r₁ ≡ r₂) × (x₁ ≡ x₂) × (t₁ ≡ t₂)
  write_unique p q = (p.refusal_is ∙ sym q.refusal_is, p.count_is ∙ sym q.count_is, p.state_is ∙ sym q.state_is)

module _ {Image : Type 0} (M : Module Image) (L : Lawful M) where
  -- ---- an accepted call, whose bytes t are those of the state that `done` leaves

  module _ (s : List ℕ) (c : CallOf Image) (taken : refusal_of M s c ≡ 0) (t : List ℕ) (left : t ≡ bytes_of M (done M (state_of M s) c)) where
    pub taken_after : t ≡ after M s c
    unfolding after
    taken_after = rw (eq-eqb (refusal_of M s c) 0 taken) left

    -- the count of the record that is left
    pub taken_count : (p : Port) (n : ℕ) → n ≡ M.count (record_of M t (base M p)) → n ≡ (answer_of M s p c).counted
    unfolding state_of
    taken_count p n e = e ∙ ap (λ (l : List ℕ). M.count (record_of M l (base M p))) taken_after ∙ sym (count_reported M L s p c taken)

    -- a reset or a sample, from the counts of both records that are left
    pub taken_reported : (x y : ℕ) → x ≡ M.count (record_of M t (base M operator)) → y ≡ M.count (record_of M t (base M recorder)) → Reported M s c 0 x y t
    taken_reported x y p q = record { refusal_is = sym taken; operator_is = taken_count operator x p; recorder_is = taken_count recorder y q; state_is = taken_after }

  -- ---- on as many bytes as a state has the outcome is the step and the answer on states

  module _ (s : List ℕ) (c : CallOf Image) (p : Port) (long : length s ≡ state_size M) where
    state_step : (t : List ℕ) → t ≡ after M s c → state_of M t ≡ step M (state_of M s) c
    state_step t e = ap (state_of M) e ∙ state_after M L s c long

    answer_refusal : (r : ℕ) → r ≡ refusal_of M s c → (answer M (state_of M s) p c).refusal ≡ r
    answer_refusal r e = rw (← answer_long M L s p c long) (answer_refused M s p c ∙ sym e)

    answer_count : (n : ℕ) → n ≡ (answer_of M s p c).counted → (answer M (state_of M s) p c).counted ≡ n
    answer_count n e = rw (← answer_long M L s p c long) (sym e)

  pub reported_is_step : {s : List ℕ} {c : CallOf Image} {r x y : ℕ} {t : List ℕ} → Reported M s c r x y t → length s ≡ state_size M
      → (state_of M t ≡ step M (state_of M s) c) × ((answer M (state_of M s) operator c).refusal ≡ r)
      × ((answer M (state_of M s) operator c).counted ≡ x) × ((answer M (state_of M s) recorder c).counted ≡ y)
  reported_is_step {s} {c} {r} {x} {y} {t} d e = (
    state_step s c operator e t d.state_is,
    answer_refusal s c operator e r d.refusal_is,
    answer_count s c operator e x d.operator_is,
    answer_count s c recorder e y d.recorder_is,
  )

  pub read_is_step : {s : List ℕ} {n a k : ℕ} {out : List ℕ} {r x : ℕ} {t o : List ℕ} → ReadDone M s n a k out r x t o → length s ≡ state_size M
      → (state_of M t ≡ step M (state_of M s) (read n a k out)) × (answer M (state_of M s) (caller n) (read n a k out) ≡ record { refusal = r; counted = x; output = o })
  read_is_step {s} {n} {a} {k} {out} {r} {x} {t} {o} d e =
      let c : CallOf Image = read n a k out in
      let shown : (answer M (state_of M s) (caller n) c).output ≡ o = rw (← answer_long M L s (caller n) c e) (sym d.out_is) in (
        state_step s c (caller n) e t d.state_is,
        λ i. record { refusal = answer_refusal s c (caller n) e r d.refusal_is i; counted = answer_count s c (caller n) e x d.count_is i; output = shown i },
      )

  pub write_is_step : {s : List ℕ} {n a : ℕ} {vs : List ℕ} {r x : ℕ} {t : List ℕ} → WriteDone M s n a vs r x t → length s ≡ state_size M
      → (state_of M t ≡ step M (state_of M s) (write n a vs)) × ((answer M (state_of M s) (caller n) (write n a vs)).refusal ≡ r) × ((answer M (state_of M s) (caller n) (write n a vs)).counted ≡ x)
  write_is_step {s} {n} {a} {vs} {r} {x} {t} d e =
      let c : CallOf Image = write n a vs in
      (state_step s c (caller n) e t d.state_is, answer_refusal s c (caller n) e r d.refusal_is, answer_count s c (caller n) e x d.count_is)
