-- The contracts of the four calls: what a refused and what an accepted call owe them, that any two outcomes that a contract allows are
-- equal, and that the outcome is the model's step and answer. Each is what ports proves of any lawful module, at document 01's.
-- Assumes nothing.
use mathlib.Core.Path.{◌≡◌}
use mathlib.Core.Logic.{◌≢◌}
use mathlib.Core.List.{List}
use Prim.Native.Nat.{ℕ}
use lib.ListN.{length}
use Rattle.ports.proofs.Outcomes
use Rattle.model.specs.Ports.{Port, operator, recorder, caller, Call, read, write}
use Rattle.model.specs.Map.{state_size, base}
use Rattle.model.specs.Interrupt.{count}
use Rattle.model.specs.Module.{document01}
use Rattle.model.specs.Calls.{step, answer}
use Rattle.model.specs.Bytes.{record_of, state_of, bytes_of, refusal_of, after, answer_of}
use Rattle.model.specs.Outcomes.{Reported, ReadDone, WriteDone}
use Rattle.model.proofs.Names.{done}
use Rattle.model.proofs.Lawful.{lawful}

pub reported_refused : (s : List ℕ) (c : Call) (r : ℕ) → r ≡ refusal_of s c → r ≢ 0 → Reported s c r 0 0 s
reported_refused = Outcomes.reported_refused document01

pub read_refused : (s : List ℕ) (n a k : ℕ) (out : List ℕ) (r : ℕ) → r ≡ refusal_of s (read n a k out) → r ≢ 0 → ReadDone s n a k out r 0 s out
read_refused = Outcomes.read_refused document01

pub write_refused : (s : List ℕ) (n a : ℕ) (vs : List ℕ) (r : ℕ) → r ≡ refusal_of s (write n a vs) → r ≢ 0 → WriteDone s n a vs r 0 s
write_refused = Outcomes.write_refused document01

pub taken_after : (s : List ℕ) (c : Call) → refusal_of s c ≡ 0 → (t : List ℕ) → t ≡ bytes_of (done (state_of s) c) → t ≡ after s c
taken_after = Outcomes.taken_after document01 lawful

pub taken_count : (s : List ℕ) (c : Call) → refusal_of s c ≡ 0 → (t : List ℕ) → t ≡ bytes_of (done (state_of s) c) → (p : Port) (n : ℕ) → n ≡ count (record_of t (base p)) → n ≡ (answer_of s p c).counted
taken_count = Outcomes.taken_count document01 lawful

pub taken_reported : (s : List ℕ) (c : Call) → refusal_of s c ≡ 0 → (t : List ℕ) → t ≡ bytes_of (done (state_of s) c) → (x y : ℕ) → x ≡ count (record_of t (base operator)) → y ≡ count (record_of t (base recorder)) → Reported s c 0 x y t
taken_reported = Outcomes.taken_reported document01 lawful

pub reported_unique : {s : List ℕ} {c : Call} {r₁ r₂ x₁ x₂ y₁ y₂ : ℕ} {t₁ t₂ : List ℕ} → Reported s c r₁ x₁ y₁ t₁ → Reported s c r₂ x₂ y₂ t₂
    → (r₁ ≡ r₂) × (x₁ ≡ x₂) × (y₁ ≡ y₂) × (t₁ ≡ t₂)
reported_unique = Outcomes.reported_unique document01

pub read_unique : {s : List ℕ} {n a k : ℕ} {out : List ℕ} {r₁ r₂ x₁ x₂ : ℕ} {t₁ t₂ o₁ o₂ : List ℕ} → ReadDone s n a k out r₁ x₁ t₁ o₁ → ReadDone s n a k out r₂ x₂ t₂ o₂
    → (r₁ ≡ r₂) × (x₁ ≡ x₂) × (t₁ ≡ t₂) × (o₁ ≡ o₂)
read_unique = Outcomes.read_unique document01

pub write_unique : {s : List ℕ} {n a : ℕ} {vs : List ℕ} {r₁ r₂ x₁ x₂ : ℕ} {t₁ t₂ : List ℕ} → WriteDone s n a vs r₁ x₁ t₁ → WriteDone s n a vs r₂ x₂ t₂
    → (r₁ ≡ r₂) × (x₁ ≡ x₂) × (t₁ ≡ t₂)
write_unique = Outcomes.write_unique document01

pub reported_is_step : {s : List ℕ} {c : Call} {r x y : ℕ} {t : List ℕ} → Reported s c r x y t → length s ≡ state_size
    → (state_of t ≡ step (state_of s) c) × ((answer (state_of s) operator c).refusal ≡ r)
    × ((answer (state_of s) operator c).counted ≡ x) × ((answer (state_of s) recorder c).counted ≡ y)
reported_is_step = Outcomes.reported_is_step document01 lawful

pub read_is_step : {s : List ℕ} {n a k : ℕ} {out : List ℕ} {r x : ℕ} {t o : List ℕ} → ReadDone s n a k out r x t o → length s ≡ state_size
    → (state_of t ≡ step (state_of s) (read n a k out)) × (answer (state_of s) (caller n) (read n a k out) ≡ record { refusal = r; counted = x; output = o })
read_is_step = Outcomes.read_is_step document01 lawful

pub write_is_step : {s : List ℕ} {n a : ℕ} {vs : List ℕ} {r x : ℕ} {t : List ℕ} → WriteDone s n a vs r x t → length s ≡ state_size
    → (state_of t ≡ step (state_of s) (write n a vs)) × ((answer (state_of s) (caller n) (write n a vs)).refusal ≡ r) × ((answer (state_of s) (caller n) (write n a vs)).counted ≡ x)
write_is_step = Outcomes.write_is_step document01 lawful
