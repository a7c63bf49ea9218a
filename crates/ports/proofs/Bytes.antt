-- Bytes and states are the same thing: a place of the bytes is one of the memory or of one record (`spot`), and there the way to a state
-- and the way back undo one another, as long as nothing stands past the state's ends.
-- Assumes nothing.
use Rattle.std.specs.Prelude.{if◌then◌else◌}
use mathlib.Core.Path.{◌≡◌, sym, ◌∙◌, fun_ext, subst}
use mathlib.Core.List.{List}
use Prim.Native.Nat.{ℕ, ◌+◌, ◌-◌, ◌≤◌, ◌<◌}
use native.Mathlib.Omega.{arith}
use lib.Dec.{ltb}
use lib.ListN.{length}
use lib.Seq.{ext_get_or}
use borrow.Author.Tests.{ltb-true, ltb-false, lt-ltb, le-ltb}
use Rattle.laws.specs.Lists.{at}
use Rattle.laws.proofs.Tests.{case}
use Rattle.laws.proofs.Lists.{table_at, table_length}
use Rattle.ports.specs.Ports.{Port, operator, recorder, State}
use Rattle.ports.specs.Modules.{Module, base, state_size}
use Rattle.ports.specs.Bytes.{state_of, place, bytes_of, Fits}

module _ {Image : Type 0} (M : Module Image) where
  -- the records stand behind the memory
  pub base_fits : (p : Port) (k : ℕ) → k < M.record_size → (M.memory_size ≤ base M p + k) × (base M p + k < state_size M)
  base_fits operator k h = omega arith
  base_fits recorder k h = omega arith

  pub place_memory : (m : State) (i : ℕ) → i < M.memory_size → place M m i ≡ m.mem i
  unfolding place
  place_memory m i h = rw (lt-ltb i M.memory_size h)

  pub place_own : (m : State) (p : Port) (k : ℕ) → k < M.record_size → place M m (base M p + k) ≡ m.own p k
  unfolding place
  place_own m operator k h =
      let e : base M operator + k - base M operator ≡ k = omega arith in
      rw (le-ltb (base M operator + k) M.memory_size (omega arith), lt-ltb (base M operator + k) (base M recorder) (omega arith), e)
  place_own m recorder k h =
      let e : base M recorder + k - base M recorder ≡ k = omega arith in
      rw (le-ltb (base M recorder + k) M.memory_size (omega arith), le-ltb (base M recorder + k) (base M recorder) (omega arith), e)

  -- a place is in the memory or in one record
  pub data Spot : ℕ → Type 0 where
    in_memory : (i : ℕ) → i < M.memory_size → Spot i
    in_record : (p : Port) (k : ℕ) → k < M.record_size → Spot (base M p + k)

  pub spot : (i : ℕ) → i < state_size M → Spot i
  spot i h = case (ltb i M.memory_size) (λ a. in_memory i (ltb-true i M.memory_size a)) (λ a.
      let l = ltb-false i M.memory_size a in
      case (ltb i (base M recorder))
      (λ b. let u = ltb-true i (base M recorder) b in
      let e : base M operator + (i - base M operator) ≡ i = omega arith in subst Spot e (in_record operator (i - base M operator) (omega arith)))
      (λ b. let u = ltb-false i (base M recorder) b in
      let e : base M recorder + (i - base M recorder) ≡ i = omega arith in subst Spot e (in_record recorder (i - base M recorder) (omega arith))))

  pub bytes_length : (m : State) → length (bytes_of M m) ≡ state_size M
  unfolding bytes_of
  bytes_length m = table_length (state_size M) (place M m)

  pub bytes_at : (m : State) (i : ℕ) → i < state_size M → at (bytes_of M m) i ≡ place M m i
  unfolding bytes_of
  bytes_at m i h = table_at (state_size M) (place M m) i h

  pub state_bytes : (m : State) → Fits M m → state_of M (bytes_of M m) ≡ m
  unfolding state_of
  state_bytes m t = λ z. record { mem = fun_ext memory z; own = fun_ext (λ p. fun_ext (record_of p)) z }
    where
      memory : (i : ℕ) → (if ltb i M.memory_size then at (bytes_of M m) i else 0) ≡ m.mem i
      memory i = case (ltb i M.memory_size)
          (λ h. let l = ltb-true i M.memory_size h in rw h (bytes_at m i (omega arith) ∙ place_memory m i l))
          (λ h. rw h (sym (t.mem_end i (ltb-false i M.memory_size h))))

      record_of : (p : Port) (k : ℕ) → (if ltb k M.record_size then at (bytes_of M m) (base M p + k) else 0) ≡ m.own p k
      record_of p k = case (ltb k M.record_size)
          (λ h. let l = ltb-true k M.record_size h in rw h (bytes_at m (base M p + k) (base_fits p k l).1 ∙ place_own m p k l))
          (λ h. rw h (sym (t.own_end p k (ltb-false k M.record_size h))))

  pub fits_of : (s : List ℕ) → Fits M (state_of M s)
  unfolding state_of
  fits_of s = record { mem_end = λ i h. rw (le-ltb i M.memory_size h); own_end = λ p k h. rw (le-ltb k M.record_size h) }

  pub memory_at : (s : List ℕ) (i : ℕ) → i < M.memory_size → (state_of M s).mem i ≡ at s i
  unfolding state_of
  memory_at s i h = rw (lt-ltb i M.memory_size h)

  pub record_at : (s : List ℕ) (p : Port) (k : ℕ) → k < M.record_size → (state_of M s).own p k ≡ at s (base M p + k)
  unfolding state_of
  record_at s p k h = rw (lt-ltb k M.record_size h)

  -- place by place
  pub place_state : (s : List ℕ) (i : ℕ) → i < state_size M → place M (state_of M s) i ≡ at s i
  place_state s i h = go i (spot i h)
    where
      go : (i : ℕ) → Spot i → place M (state_of M s) i ≡ at s i
      go i (in_memory j l) = place_memory (state_of M s) j l ∙ memory_at s j l
      go i (in_record p k l) = place_own (state_of M s) p k l ∙ record_at s p k l

  -- bytes that agree with a state at each place are the state's
  pub bytes_by_place : (m : State) (s : List ℕ) → length s ≡ state_size M → ((i : ℕ) → i < state_size M → at s i ≡ place M m i) → s ≡ bytes_of M m
  bytes_by_place m s e f = ext_get_or 0 s (bytes_of M m) (e ∙ sym (bytes_length m)) (λ i l. let h = rw e at l in f i h ∙ sym (bytes_at m i h))

  -- bytes whose memory and records are a state's are the state's
  pub bytes_by_part : (m : State) (s : List ℕ) → length s ≡ state_size M → ((i : ℕ) → i < M.memory_size → at s i ≡ m.mem i)
      → ((p : Port) (k : ℕ) → k < M.record_size → at s (base M p + k) ≡ m.own p k) → s ≡ bytes_of M m
  bytes_by_part m s e memory records = bytes_by_place m s e (λ i h. go i (spot i h))
    where
      go : (i : ℕ) → Spot i → at s i ≡ place M m i
      go i (in_memory j l) = memory j l ∙ sym (place_memory m j l)
      go i (in_record p k l) = records p k l ∙ sym (place_own m p k l)

  -- the bytes of a list's state are the list
  pub bytes_state : (s : List ℕ) → length s ≡ state_size M → bytes_of M (state_of M s) ≡ s
  bytes_state s e = sym (bytes_by_place (state_of M s) s e (λ i h. sym (place_state s i h)))
