-- What a sample leaves, place by place: below 640 the runs of its quantities laid over each other are the model's stored memory, above
-- it the flag bytes of both records are raised; so the bytes are the model's.
-- Assumes nothing.
use Rattle.std.specs.Prelude.{if◌then◌else◌}
use mathlib.Core.Path.{◌≡◌, refl, sym, ap, ◌∙◌}
use mathlib.Core.Bool.{and-true, and-false}
use mathlib.Core.List.{List, [], ◌∷◌}
use Prim.Native.Nat.{ℕ, ◌+◌, ◌-◌, ◌*◌, ◌%◌, ◌≤◌, ◌<◌}
use native.Mathlib.Omega.{arith}
use lib.Bits.{bit_or}
use lib.Dec.{ltb, eqb, lit<}
use lib.ListN.{length, set, length-set}
use borrow.Author.Tests.{eqb-true, ltb-true, ltb-false}
use Rattle.laws.specs.Lists.{at, table, patch}
use Rattle.laws.proofs.Tests.{case}
use Rattle.laws.proofs.Lists.{table_at, patch_length, patch_at, patch_in, patch_above, patch_else, at_set}
use Rattle.laws.proofs.Fronts.{front_in, is_front}
use Rattle.ports.specs.Bytes
use Rattle.ports.specs.Effects
use Rattle.ports.proofs.Taken.{sample_sizes}
use Rattle.model.specs.Ports.{Port, operator, recorder, Places, sample}
use Rattle.model.specs.Map.{memory_size, record_size, state_size, base, status_at, flags}
use Rattle.model.specs.Samples.{Quantity, quantities, offered, conds, stored_of, stored, raised}
use Rattle.model.specs.Interrupt.{count}
use Rattle.model.specs.Module.{document01}
use Rattle.model.specs.Bytes.{memory_of, record_of, state_of, refusal_of}
use Rattle.model.specs.Outcomes.{Reported}
use Rattle.model.proofs.Names.{done}
use Rattle.model.proofs.Lasting.{stored_high}
use Rattle.model.proofs.Bytes.{base_fits, bytes_by_part, memory_at, record_at}
use Rattle.model.proofs.Outcomes.{taken_reported}

-- ---- the memory

module _ (mem : Places) (x s : List ℕ) where
  -- the numbers of some quantities are stored, the last one's first
  abbrev pub storing : List Quantity → List ℕ
  storing [] = s
  storing (q ∷ qs) =
      if offered mem q then patch q.stored_from (2 * q.channels) (λ j. at x (3 + 2 * q.number + j)) (storing qs)
      else storing qs

  storing_length : (qs : List Quantity) → length (storing qs) ≡ length s
  storing_length [] = refl
  storing_length (q ∷ qs) = case (offered mem q)
      (λ t. rw t (patch_length q.stored_from (2 * q.channels) (λ j. at x (3 + 2 * q.number + j)) (storing qs) ∙ storing_length qs))
      (λ t. rw t (storing_length qs))

  storing_at : (qs : List Quantity) (i : ℕ) → i < length s → at (storing qs) i ≡ stored_of mem x qs i (at s i)
  storing_at [] i h = refl
  storing_at (q ∷ qs) i h = case (offered mem q)
      (λ t. rw t (patch_at q.stored_from (2 * q.channels) (λ j. at x (3 + 2 * q.number + j)) (storing qs) i (rw (storing_length qs) h)
      ∙ rw (and-true, storing_at qs i h)))
      (λ t. rw (t, and-false) (storing_at qs i h))

  -- byte 2 comes last
  pub store_all : (t : List ℕ) → t ≡ storing quantities → length s ≡ state_size → set t status_at (at t status_at - at t status_at % 2) ≡ patch 0 memory_size (λ i. stored mem x i (at s i)) s
  unfolding stored
  store_all t e long =
      let l : length t ≡ state_size = ap length e ∙ storing_length quantities ∙ long in
      is_front memory_size (λ i. stored mem x i (at s i)) s (set t status_at v) (length-set t status_at v ∙ l ∙ sym long)
      (λ i h. at_set t status_at v i (omega arith) ∙ all i (omega arith) ∙ case (ltb i memory_size)
      (λ q. rw q)
      (λ q. let k = ltb-false i memory_size q in rw q (stored_high mem x i (at s i) (omega arith))))
    where
      v : ℕ
      v = at t status_at - at t status_at % 2

      here : (i : ℕ) → i < state_size → at t i ≡ stored_of mem x quantities i (at s i)
      here i h = rw e (storing_at quantities i (omega arith))

      all : (i : ℕ) → i < state_size → (if eqb i status_at then v else at t i) ≡ stored mem x i (at s i)
      all i h = case (eqb i status_at)
          (λ q. let z = eqb-true i status_at q in rw (q, z, here status_at (lit< tt)))
          (λ q. rw q (here i h))

-- ---- the records

-- the flag bytes of the record at b with the conditions cs raised
abbrev pub raising : List ℕ → ℕ → List ℕ → List ℕ
raising cs b t = patch b flags.many (λ k. bit_or (at t (b + k)) (at cs k)) t

module _ (cs : List ℕ) (b : ℕ) (t t' : List ℕ) (e : t' ≡ raising cs b t) (long : length t ≡ state_size) where
  raising_long : length t' ≡ state_size
  raising_long = ap length e ∙ patch_length b flags.many (λ k. bit_or (at t (b + k)) (at cs k)) t ∙ long

  raising_else : (i : ℕ) → i < state_size → (b ≤ i → i < b + flags.many → ⊥) → at t' i ≡ at t i
  raising_else i h out = rw e (patch_else b flags.many (λ k. bit_or (at t (b + k)) (at cs k)) t i (omega arith) out)

  raising_at : (mem : Places) (x : List ℕ) → cs ≡ table flags.many (λ k. conds mem x (flags.first + k))
      → (o : Places) (k : ℕ) → b + k < state_size → at t (b + k) ≡ o k → at t' (b + k) ≡ raised mem x o k
  unfolding raised
  raising_at mem x ec o k h q = case (ltb k flags.many)
      (λ w. let u = ltb-true k flags.many w in
      let c : at cs k ≡ conds mem x (flags.first + k) = rw ec (table_at flags.many (λ k. conds mem x (flags.first + k)) k u) in
      rw (w, ← q, ← c, e) (patch_in b flags.many (λ k. bit_or (at t (b + k)) (at cs k)) t k u (omega arith)))
      (λ w. let u = ltb-false k flags.many w in rw w (raising_else (b + k) h (λ y z. omega arith) ∙ q))

-- ---- the whole

module _ (s x : List ℕ) (taken : refusal_of s (sample x) ≡ 0) (cs : List ℕ) (ec : cs ≡ table flags.many (λ k. conds (memory_of s) x (flags.first + k)))
    (t₁ t₂ t₃ : List ℕ) (e₁ : t₁ ≡ patch 0 memory_size (λ i. stored (memory_of s) x i (at s i)) s)
    (e₂ : t₂ ≡ raising cs (base operator) t₁) (e₃ : t₃ ≡ raising cs (base recorder) t₂) where
  l₀ : length s ≡ state_size
  l₀ = (sample_sizes document01 s x taken).0

  l₁ : length t₁ ≡ state_size
  l₁ = ap length e₁ ∙ patch_length 0 memory_size (λ i. stored (memory_of s) x i (at s i)) s ∙ l₀

  l₂ : length t₂ ≡ state_size
  l₂ = raising_long cs (base operator) t₁ t₂ e₂ l₁

  memory_is : (i : ℕ) → i < memory_size → at t₃ i ≡ stored (memory_of s) x i ((state_of s).mem i)
  memory_is i h =
      let l = l₀ in
      raising_else cs (base recorder) t₂ t₃ e₃ l₂ i (omega arith) (λ y z. omega arith)
      ∙ raising_else cs (base operator) t₁ t₂ e₂ l₁ i (omega arith) (λ y z. omega arith)
      ∙ rw (e₁, memory_at s i h) (front_in memory_size (λ i. stored (memory_of s) x i (at s i)) s i h (omega arith))

  -- what stood in the records before they were raised
  before : (p : Port) (k : ℕ) → k < record_size → at t₁ (base p + k) ≡ (state_of s).own p k
  before p k h =
      let b = base_fits p k h in
      let l = l₀ in
      rw e₁ (patch_above 0 memory_size (λ i. stored (memory_of s) x i (at s i)) s (base p + k) (omega arith) (omega arith) ∙ sym (record_at s p k h))

  record_is : (p : Port) (k : ℕ) → k < record_size → at t₃ (base p + k) ≡ raised (memory_of s) x ((state_of s).own p) k
  record_is operator k h =
      raising_else cs (base recorder) t₂ t₃ e₃ l₂ (base operator + k) (omega arith) (λ y z. omega arith)
      ∙ raising_at cs (base operator) t₁ t₂ e₂ l₁ (memory_of s) x ec ((state_of s).own operator) k (omega arith) (before operator k h)
  record_is recorder k h =
      raising_at cs (base recorder) t₂ t₃ e₃ l₂ (memory_of s) x ec ((state_of s).own recorder) k (omega arith)
      (raising_else cs (base operator) t₁ t₂ e₂ l₁ (base recorder + k) (omega arith) (λ y z. omega arith) ∙ before recorder k h)

  pub sample_done : (c d : ℕ) → c ≡ count (record_of t₃ (base operator)) → d ≡ count (record_of t₃ (base recorder)) → Reported s (sample x) 0 c d t₃
  unfolding Effects.done Bytes.state_of
  sample_done = taken_reported s (sample x) taken t₃ (bytes_by_part (done (state_of s) (sample x)) t₃ (raising_long cs (base recorder) t₂ t₃ e₃ l₂) memory_is record_is)
