-- The chain: calls that keep their contracts leave the bytes of the model's run, so that what demands 2 and 3 say of runs is said of
-- those bytes and of the next call's answer. All but `flag_served` is the chain of ports at document 01's module.
-- Assumes nothing.
use mathlib.Core.Path.{◌≡◌, sym}
use mathlib.Core.Bool.{true, false, ◌&&◌}
use mathlib.Core.Logic.{◌↔◌}
use mathlib.Core.List.{List}
use Prim.Native.Nat.{ℕ, ◌+◌, ◌-◌, ◌<◌}
use lib.Dec.{ltb, lit<}
use Rattle.ports.specs.Outcomes.{Served}
use Rattle.laws.specs.Bits.{bit}
use Rattle.laws.specs.Lists.{at}
use Rattle.laws.specs.Tests.{covers, within}
use Rattle.ports.proofs.Chain
use Rattle.model.specs.Ports.{recorder, operator, caller, Call, reset}
use Rattle.model.specs.Map.{flags, record_size, base, page_at, seat}
use Rattle.model.specs.Reading.{is_shared}
use Rattle.model.specs.Module.{document01}
use Rattle.model.specs.Calls.{Calls}
use Rattle.model.specs.Bytes.{runs}
use Rattle.model.specs.Outcomes.{Reported, ReadDone, WriteDone}
use Rattle.model.specs.Demands.{concerns, only, Since}
use Rattle.model.proofs.Bytes.{record_at}
use Rattle.model.proofs.Demand2.{flag_rule}
use Rattle.model.proofs.Lawful.{lawful}

-- the bytes that are left are the model's run
pub served_runs : {s : List ℕ} {h : Calls} {t : List ℕ} → Served document01 s h t → t ≡ runs s h
served_runs = Chain.served_runs document01

-- a reset that keeps its contract and answers no refusal, and any calls after it
module _ {s img : List ℕ} {x y : ℕ} {t₀ : List ℕ} (begun : Reported s (reset img) 0 x y t₀) where
  -- demand 2: what a read shows of a flag is whether its condition stood since
  pub flag_served : {h : Calls} {t : List ℕ} → Served document01 t₀ h t → {n a k c : ℕ} {out u shown : List ℕ} → ReadDone t n a k out 0 c u shown
      → (b j : ℕ) → within flags b ≡ true → covers a k b ≡ true → (bit j (at shown (b - a)) ≡ 1) ↔ Since img (caller n) b j h
  flag_served {h} d {n} {a} {k} {c} {out} p b j f v =
      let e = Chain.after_reset_lem document01 lawful begun d in
      rw (p.out_is, e) (flag_rule s img (sym begun.refusal_is) h n a k out (rw e at (sym p.refusal_is)) b j f v)

  -- ---- demand 3: of two histories with the same recorder calls, samples and resets, and any operator calls

  module _ {h k : Calls} {t u : List ℕ} (d : Served document01 t₀ h t) (f : Served document01 t₀ k u) where
    module _ (q : only recorder h ≡ only recorder k) where
      -- no byte of the recorder's record differs
      pub recorder_served : (i : ℕ) → i < record_size → at t (base recorder + i) ≡ at u (base recorder + i)
      recorder_served = Chain.recorder_served document01 lawful begun d f q

      -- nor what its next read answers, and shows save on the shared list
      pub recorder_reads : {a n r₁ r₂ x₁ x₂ : ℕ} {out t₁ u₁ o₁ o₂ : List ℕ} → ReadDone t 2 a n out r₁ x₁ t₁ o₁ → ReadDone u 2 a n out r₂ x₂ u₁ o₂
          → (r₁ ≡ r₂) × (x₁ ≡ x₂) × ((j : ℕ) → (ltb j n && is_shared (seat (at t (base recorder + page_at)) (a + j))) ≡ false → at o₁ j ≡ at o₂ j)
      recorder_reads p p' =
          let r = Chain.recorder_reads document01 lawful begun d f q p p' in
          (r.0, r.1, λ j bare. r.2 j (rw (record_at t recorder page_at (lit< tt)) bare))

      -- nor what its next write answers
      pub recorder_writes : {a r₁ r₂ x₁ x₂ : ℕ} {vs t₁ u₁ : List ℕ} → WriteDone t 2 a vs r₁ x₁ t₁ → WriteDone u 2 a vs r₂ x₂ u₁ → (r₁ ≡ r₂) × (x₁ ≡ x₂)
      recorder_writes = Chain.recorder_writes document01 lawful begun d f q

      -- nor what the next sample or reset tells it
      pub recorder_reports : {c : Call} → concerns recorder c ≡ true → {r₁ r₂ x₁ x₂ y₁ y₂ : ℕ} {t₁ u₁ : List ℕ}
          → Reported t c r₁ x₁ y₁ t₁ → Reported u c r₂ x₂ y₂ u₁ → (r₁ ≡ r₂) × (y₁ ≡ y₂)
      recorder_reports = Chain.recorder_reports document01 lawful begun d f q

    -- ---- and of two with the same operator calls, samples and resets, and any recorder calls

    module _ (q : only operator h ≡ only operator k) where
      -- no byte outside the recorder's record differs
      pub operator_served : (i : ℕ) → i < base recorder → at t i ≡ at u i
      operator_served = Chain.operator_served document01 lawful begun d f q

      -- nor what the operator's next read answers and shows
      pub operator_reads : {a n r₁ r₂ x₁ x₂ : ℕ} {out t₁ u₁ o₁ o₂ : List ℕ} → ReadDone t 1 a n out r₁ x₁ t₁ o₁ → ReadDone u 1 a n out r₂ x₂ u₁ o₂
          → (r₁ ≡ r₂) × (x₁ ≡ x₂) × (o₁ ≡ o₂)
      operator_reads = Chain.operator_reads document01 lawful begun d f q

      -- nor what its next write answers
      pub operator_writes : {a r₁ r₂ x₁ x₂ : ℕ} {vs t₁ u₁ : List ℕ} → WriteDone t 1 a vs r₁ x₁ t₁ → WriteDone u 1 a vs r₂ x₂ u₁ → (r₁ ≡ r₂) × (x₁ ≡ x₂)
      operator_writes = Chain.operator_writes document01 lawful begun d f q

      -- nor what the next sample or reset tells it
      pub operator_reports : {c : Call} → concerns operator c ≡ true → {r₁ r₂ x₁ x₂ y₁ y₂ : ℕ} {t₁ u₁ : List ℕ}
          → Reported t c r₁ x₁ y₁ t₁ → Reported u c r₂ x₂ y₂ u₁ → (r₁ ≡ r₂) × (x₁ ≡ x₂)
      operator_reports = Chain.operator_reports document01 lawful begun d f q
