-- The chain: calls that keep their contracts leave the bytes of the run, so that what the rules and demand 3 say of histories is said of
-- those bytes and of the next call's answer. Demand 3's part is the chain of ports; with no byte shared all that the recorder reads agrees.
-- Assumes nothing.
use mathlib.Core.Path.{◌≡◌, refl, sym, ap}
use mathlib.Core.Logic.{◌↔◌, ◌≢◌}
use mathlib.Core.Bool.{true}
use mathlib.Core.List.{List}
use Prim.Native.Nat.{ℕ, ◌+◌, ◌-◌, ◌<◌}
use Rattle.laws.specs.Tests.{covers}
use Rattle.laws.specs.Bits.{bit}
use Rattle.laws.specs.Lists.{at}
use Rattle.ports.specs.Ports.{Port, operator, recorder, caller, concerns, reset, sample, read}
use Rattle.ports.specs.Histories.{◌▷◌, run_of}
use Rattle.ports.specs.Modules.{base}
use Rattle.ports.specs.Effects.{Answer}
use Rattle.ports.specs.Bytes.{refusal_of, after, answer_of, runs}
use Rattle.ports.specs.Demands.{only}
use Rattle.ports.specs.Outcomes.{Reported, ReadDone, WriteDone, Served}
use Rattle.ports.proofs.Chain
use Rattle.eight.specs.Tables.{flags, record_size}
use Rattle.eight.specs.Module.{Call, Calls, eight}
use Rattle.eight.specs.Demands.{since, PresentSince, PendingUnmasked}
use Rattle.eight.proofs.Lawful.{lawful}
use Rattle.eight.proofs.Flags.{flag_rule}
use Rattle.eight.proofs.Interrupt.{interrupt_rule, interrupt_counts}
use Rattle.eight.proofs.Demand3.{nothing_shared}

-- a reset that keeps its contract and answers no refusal, and any calls after it
module _ {s : List ℕ} {x y : ℕ} {t₀ : List ℕ} (begun : Reported eight s (reset tt) 0 x y t₀) where
  taken : refusal_of eight s (reset tt) ≡ 0
  taken = sym begun.refusal_is

  left : {h : Calls} {t : List ℕ} → Served eight t₀ h t → t ≡ since s h
  left d = Chain.after_reset_lem eight lawful begun d

  -- demand 2: what a read shows of a flag is whether its condition was present since
  pub flag_served : {h : Calls} {t : List ℕ} → Served eight t₀ h t → {n a k c : ℕ} {out u shown : List ℕ} → ReadDone eight t n a k out 0 c u shown
      → (i j : ℕ) → i < flags.many → covers a k (flags.first + i) ≡ true → (bit j (at shown (flags.first + i - a)) ≡ 1) ↔ PresentSince (caller n) i j h
  flag_served {h} d {n} {a} {k} {c} {out} p i j l v =
      let e = left d in
      rw (p.out_is, e) (flag_rule s taken h n a k out (rw e at (sym p.refusal_is)) i j l v)

  -- the count that an accepted call tells a port is not 0 exactly if a pending bit is then unmasked
  counted : {h : Calls} {t : List ℕ} → Served eight t₀ h t → (c : Call) (p : Port) (n : ℕ) (u : List ℕ) → refusal_of eight t c ≡ 0
      → n ≡ (answer_of eight t p c).counted → u ≡ after eight t c → (n ≢ 0) ↔ PendingUnmasked u p (h ▷ c)
  unfolding runs run_of
  counted {h} {t} d c p n u e q w =
      let z = left d in
      let stands = (interrupt_counts t p c e).1 in
      let rule = interrupt_rule s taken (h ▷ c) p in
      rw (q, w) (λ f. rw z (rule.0 (rw z at (stands.0 f))), λ f. stands.1 (rw z (rule.1 (rw z at f))))

  pub sample_interrupts : {h : Calls} {t : List ℕ} → Served eight t₀ h t → {v u : List ℕ} {a b : ℕ} → Reported eight t (sample v) 0 a b u
      → ((a ≢ 0) ↔ PendingUnmasked u operator (h ▷ sample v)) × ((b ≢ 0) ↔ PendingUnmasked u recorder (h ▷ sample v))
  sample_interrupts d {v} {u} {a} {b} p = (
    counted d (sample v) operator a u (sym p.refusal_is) p.operator_is p.state_is,
    counted d (sample v) recorder b u (sym p.refusal_is) p.recorder_is p.state_is,
  )

  pub read_interrupts : {h : Calls} {t : List ℕ} → Served eight t₀ h t → {n a k c : ℕ} {out u shown : List ℕ} → ReadDone eight t n a k out 0 c u shown
      → (c ≢ 0) ↔ PendingUnmasked u (caller n) (h ▷ read n a k out)
  read_interrupts d {n} {a} {k} {c} {out} {u} p = counted d (read n a k out) (caller n) c u (sym p.refusal_is) p.count_is p.state_is

  -- ---- demand 3: of two histories with the same recorder calls, samples and resets, and any operator calls

  module _ {h k : Calls} {t u : List ℕ} (d : Served eight t₀ h t) (f : Served eight t₀ k u) where
    module _ (q : only recorder h ≡ only recorder k) where
      -- no byte of the recorder's record differs
      pub recorder_served : (i : ℕ) → i < record_size → at t (base eight recorder + i) ≡ at u (base eight recorder + i)
      recorder_served = Chain.recorder_served eight lawful begun d f q

      -- nor what its next read answers and shows
      pub recorder_reads : {a n r₁ r₂ x₁ x₂ : ℕ} {out t₁ u₁ o₁ o₂ : List ℕ} → ReadDone eight t 2 a n out r₁ x₁ t₁ o₁ → ReadDone eight u 2 a n out r₂ x₂ u₁ o₂
          → (r₁ ≡ r₂) × (x₁ ≡ x₂) × (o₁ ≡ o₂)
      recorder_reads {a} {n} {out = out} p p' =
          let r = Chain.recorder_reads eight lawful begun d f q p p' in
          let same = nothing_shared s taken h k q (read 2 a n out) refl in
          (r.0, r.1, rw (p.out_is, p'.out_is, left d, left f) (ap (λ (z : Answer). z.output) same))

      -- nor what its next write answers
      pub recorder_writes : {a r₁ r₂ x₁ x₂ : ℕ} {vs t₁ u₁ : List ℕ} → WriteDone eight t 2 a vs r₁ x₁ t₁ → WriteDone eight u 2 a vs r₂ x₂ u₁ → (r₁ ≡ r₂) × (x₁ ≡ x₂)
      recorder_writes = Chain.recorder_writes eight lawful begun d f q

      -- nor what the next sample or reset tells it
      pub recorder_reports : {c : Call} → concerns recorder c ≡ true → {r₁ r₂ x₁ x₂ y₁ y₂ : ℕ} {t₁ u₁ : List ℕ}
          → Reported eight t c r₁ x₁ y₁ t₁ → Reported eight u c r₂ x₂ y₂ u₁ → (r₁ ≡ r₂) × (y₁ ≡ y₂)
      recorder_reports = Chain.recorder_reports eight lawful begun d f q

    -- ---- and of two with the same operator calls, samples and resets, and any recorder calls

    module _ (q : only operator h ≡ only operator k) where
      -- no byte outside the recorder's record differs
      pub operator_served : (i : ℕ) → i < base eight recorder → at t i ≡ at u i
      operator_served = Chain.operator_served eight lawful begun d f q

      -- nor what the operator's next read answers and shows
      pub operator_reads : {a n r₁ r₂ x₁ x₂ : ℕ} {out t₁ u₁ o₁ o₂ : List ℕ} → ReadDone eight t 1 a n out r₁ x₁ t₁ o₁ → ReadDone eight u 1 a n out r₂ x₂ u₁ o₂
          → (r₁ ≡ r₂) × (x₁ ≡ x₂) × (o₁ ≡ o₂)
      operator_reads = Chain.operator_reads eight lawful begun d f q

      -- nor what its next write answers
      pub operator_writes : {a r₁ r₂ x₁ x₂ : ℕ} {vs t₁ u₁ : List ℕ} → WriteDone eight t 1 a vs r₁ x₁ t₁ → WriteDone eight u 1 a vs r₂ x₂ u₁ → (r₁ ≡ r₂) × (x₁ ≡ x₂)
      operator_writes = Chain.operator_writes eight lawful begun d f q

      -- nor what the next sample or reset tells it
      pub operator_reports : {c : Call} → concerns operator c ≡ true → {r₁ r₂ x₁ x₂ y₁ y₂ : ℕ} {t₁ u₁ : List ℕ}
          → Reported eight t c r₁ x₁ y₁ t₁ → Reported eight u c r₂ x₂ y₂ u₁ → (r₁ ≡ r₂) × (x₁ ≡ x₂)
      operator_reports = Chain.operator_reports eight lawful begun d f q
