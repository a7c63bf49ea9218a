-- The chain, for any lawful module: calls that keep their contracts leave, one after the other, the bytes of the run (`served_runs`). So
-- demand 3, which is of runs, is of the bytes that any such calls leave and of what the next one answers.
-- Assumes nothing.
use mathlib.Core.Path.{◌≡◌, refl, sym, ap, ◌∙◌}
use mathlib.Core.Bool.{true, false}
use mathlib.Core.List.{List}
use Prim.Native.Nat.{ℕ, ◌+◌, ◌<◌}
use Rattle.laws.specs.Lists.{at}
use Rattle.ports.specs.Ports.{Port, operator, recorder, CallOf, reset, read, write, concerns}
use Rattle.ports.specs.Histories.{History}
use Rattle.ports.specs.Modules.{Module, base}
use Rattle.ports.specs.Effects.{Answer}
use Rattle.ports.specs.Bytes.{state_of, refusal_of, after, answer_of, runs}
use Rattle.ports.specs.Outcomes.{Reported, ReadDone, WriteDone, Served, unused, reported, reading, writing}
use Rattle.ports.specs.Demands.{only, from_shared, RecorderAgrees, OperatorAgrees}
use Rattle.ports.proofs.Lawful.{Lawful}
use Rattle.ports.proofs.Answers.{answer_refused}
use Rattle.ports.proofs.Views.{Whole, begun_whole, recorder_undisturbed, operator_undisturbed}

module _ {Image : Type 0} (M : Module Image) where
  -- the bytes that are left are the run's
  pub served_runs : {s : List ℕ} {h : History (CallOf Image)} {t : List ℕ} → Served M s h t → t ≡ runs M s h
  unfolding runs
  served_runs unused = refl
  served_runs (reported {c = c} d p) = p.state_is ∙ ap (λ (l : List ℕ). after M l c) (served_runs d)
  served_runs (reading {n = n} {a = a} {k = k} {out = out} d p) = p.state_is ∙ ap (λ (l : List ℕ). after M l (read n a k out)) (served_runs d)
  served_runs (writing {n = n} {a = a} {vs = vs} d p) = p.state_is ∙ ap (λ (l : List ℕ). after M l (write n a vs)) (served_runs d)

  -- the refusals that two contracts give are those of the answers to a port
  refusal_by : (p : Port) (c : CallOf Image) (t u : List ℕ) {r₁ r₂ : ℕ} → (answer_of M t p c).refusal ≡ (answer_of M u p c).refusal
      → r₁ ≡ refusal_of M t c → r₂ ≡ refusal_of M u c → r₁ ≡ r₂
  refusal_by p c t u e q q' = q ∙ sym (answer_refused M t p c) ∙ e ∙ answer_refused M u p c ∙ sym q'

module _ {Image : Type 0} (M : Module Image) (L : Lawful M) where
  -- a reset that keeps its contract and answers no refusal, and any calls after it
  module _ {s : List ℕ} {img : Image} {x y : ℕ} {t₀ : List ℕ} (begun : Reported M s (reset img) 0 x y t₀) where
    pub after_reset_lem : {h : History (CallOf Image)} {t : List ℕ} → Served M t₀ h t → t ≡ runs M (after M s (reset img)) h
    after_reset_lem {h} d = served_runs M d ∙ ap (λ (l : List ℕ). runs M l h) begun.state_is

    whole : Whole M L (after M s (reset img))
    whole = begun_whole M L s img (sym begun.refusal_is)

    module _ {h k : History (CallOf Image)} {t u : List ℕ} (d : Served M t₀ h t) (f : Served M t₀ k u) where
      -- ---- demand 3: no operator call changes a byte of the recorder's record

      module _ (q : only recorder h ≡ only recorder k) where
        agrees : RecorderAgrees M (after M s (reset img)) h k
        agrees = recorder_undisturbed M L (after M s (reset img)) whole h k q

        pub recorder_served : (i : ℕ) → i < M.record_size → at t (base M recorder + i) ≡ at u (base M recorder + i)
        recorder_served i l = rw (after_reset_lem d, after_reset_lem f) (agrees.record_same i l)

        -- nor what the recorder is answered by its next call, and shown save on the shared list
        refusal_served : (c : CallOf Image) → concerns recorder c ≡ true → {r₁ r₂ : ℕ} → r₁ ≡ refusal_of M t c → r₂ ≡ refusal_of M u c → r₁ ≡ r₂
        refusal_served c e = refusal_by M recorder c t u (rw (after_reset_lem d, after_reset_lem f) (agrees.refusal_same c e))

        count_served : (c : CallOf Image) → concerns recorder c ≡ true → {x₁ x₂ : ℕ} → x₁ ≡ (answer_of M t recorder c).counted → x₂ ≡ (answer_of M u recorder c).counted → x₁ ≡ x₂
        count_served c e p p' = p ∙ rw (after_reset_lem d, after_reset_lem f) (agrees.count_same c e) ∙ sym p'

        pub recorder_reads : {a n r₁ r₂ x₁ x₂ : ℕ} {out t₁ u₁ o₁ o₂ : List ℕ} → ReadDone M t 2 a n out r₁ x₁ t₁ o₁ → ReadDone M u 2 a n out r₂ x₂ u₁ o₂
            → (r₁ ≡ r₂) × (x₁ ≡ x₂) × ((j : ℕ) → from_shared M (state_of M t) (read 2 a n out) j ≡ false → at o₁ j ≡ at o₂ j)
        recorder_reads {a} {n} {out = out} p p' =
            let c : CallOf Image = read 2 a n out in (
              refusal_served c refl p.refusal_is p'.refusal_is,
              count_served c refl p.count_is p'.count_is,
              λ j bare. rw (p.out_is, p'.out_is, after_reset_lem d, after_reset_lem f) (agrees.output_same c refl j (rw (after_reset_lem d) at bare)),
            )

        pub recorder_writes : {a r₁ r₂ x₁ x₂ : ℕ} {vs t₁ u₁ : List ℕ} → WriteDone M t 2 a vs r₁ x₁ t₁ → WriteDone M u 2 a vs r₂ x₂ u₁ → (r₁ ≡ r₂) × (x₁ ≡ x₂)
        recorder_writes {a} {vs = vs} p p' = (
          refusal_served (write 2 a vs) refl p.refusal_is p'.refusal_is,
          count_served (write 2 a vs) refl p.count_is p'.count_is,
        )

        -- a sample's and a reset's refusal, and the recorder's count
        pub recorder_reports : {c : CallOf Image} → concerns recorder c ≡ true → {r₁ r₂ x₁ x₂ y₁ y₂ : ℕ} {t₁ u₁ : List ℕ}
            → Reported M t c r₁ x₁ y₁ t₁ → Reported M u c r₂ x₂ y₂ u₁ → (r₁ ≡ r₂) × (y₁ ≡ y₂)
        recorder_reports {c} e p p' = (refusal_served c e p.refusal_is p'.refusal_is, count_served c e p.recorder_is p'.recorder_is)

      -- ---- and no recorder call a byte outside it

      module _ (q : only operator h ≡ only operator k) where
        agreed : OperatorAgrees M (after M s (reset img)) h k
        agreed = operator_undisturbed M L (after M s (reset img)) whole h k q

        pub operator_served : (i : ℕ) → i < base M recorder → at t i ≡ at u i
        operator_served i l = rw (after_reset_lem d, after_reset_lem f) (agreed.state_same i l)

        -- nor what the operator is answered by its next call
        answer_served : (c : CallOf Image) → concerns operator c ≡ true → answer_of M t operator c ≡ answer_of M u operator c
        answer_served c e = rw (after_reset_lem d, after_reset_lem f) (agreed.answer_same c e)

        refusal_of_lem : (c : CallOf Image) → concerns operator c ≡ true → {r₁ r₂ : ℕ} → r₁ ≡ refusal_of M t c → r₂ ≡ refusal_of M u c → r₁ ≡ r₂
        refusal_of_lem c e = refusal_by M operator c t u (ap (λ (r : Answer). r.refusal) (answer_served c e))

        count_of : (c : CallOf Image) → concerns operator c ≡ true → {x₁ x₂ : ℕ} → x₁ ≡ (answer_of M t operator c).counted → x₂ ≡ (answer_of M u operator c).counted → x₁ ≡ x₂
        count_of c e p p' = p ∙ ap (λ (r : Answer). r.counted) (answer_served c e) ∙ sym p'

        pub operator_reads : {a n r₁ r₂ x₁ x₂ : ℕ} {out t₁ u₁ o₁ o₂ : List ℕ} → ReadDone M t 1 a n out r₁ x₁ t₁ o₁ → ReadDone M u 1 a n out r₂ x₂ u₁ o₂
            → (r₁ ≡ r₂) × (x₁ ≡ x₂) × (o₁ ≡ o₂)
        operator_reads {a} {n} {out = out} p p' =
            let c : CallOf Image = read 1 a n out in (
              refusal_of_lem c refl p.refusal_is p'.refusal_is,
              count_of c refl p.count_is p'.count_is,
              p.out_is ∙ ap (λ (r : Answer). r.output) (answer_served c refl) ∙ sym p'.out_is,
            )

        pub operator_writes : {a r₁ r₂ x₁ x₂ : ℕ} {vs t₁ u₁ : List ℕ} → WriteDone M t 1 a vs r₁ x₁ t₁ → WriteDone M u 1 a vs r₂ x₂ u₁ → (r₁ ≡ r₂) × (x₁ ≡ x₂)
        operator_writes {a} {vs = vs} p p' = (
          refusal_of_lem (write 1 a vs) refl p.refusal_is p'.refusal_is,
          count_of (write 1 a vs) refl p.count_is p'.count_is,
        )

        pub operator_reports : {c : CallOf Image} → concerns operator c ≡ true → {r₁ r₂ x₁ x₂ y₁ y₂ : ℕ} {t₁ u₁ : List ℕ}
            → Reported M t c r₁ x₁ y₁ t₁ → Reported M u c r₂ x₂ y₂ u₁ → (r₁ ≡ r₂) × (x₁ ≡ x₂)
        operator_reports {c} e p p' = (refusal_of_lem c e p.refusal_is p'.refusal_is, count_of c e p.operator_is p'.operator_is)
