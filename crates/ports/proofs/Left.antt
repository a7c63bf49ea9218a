-- What an accepted call's code leaves: the bytes where it replaces one record, and of a read, a reset and a write what their contracts
-- then want.
-- Assumes nothing.
use mathlib.Core.Path.{◌≡◌, sym, ap, ◌∙◌}
use mathlib.Core.List.{List}
use Prim.Native.Nat.{ℕ, ◌+◌, ◌≤◌, ◌<◌}
use native.Mathlib.Omega.{arith}
use lib.Dec.{ltb}
use lib.ListN.{length}
use borrow.Author.Tests.{ltb-true, ltb-false, lt-ltb}
use Rattle.laws.specs.Lists.{at, patch}
use Rattle.laws.proofs.Tests.{case}
use Rattle.laws.proofs.Lists.{patch_length, patch_in, patch_below, patch_above}
use Rattle.ports.specs.Ports.{Port, operator, recorder, caller, Places, State, give, reset, read, write}
use Rattle.ports.specs.Modules.{Module, base, state_size}
use Rattle.ports.specs.Effects.{done, step, answer}
use Rattle.ports.specs.Bytes.{memory_of, record_of, state_of, bytes_of, refusal_of}
use Rattle.ports.specs.Outcomes.{Reported, ReadDone, WriteDone}
use Rattle.ports.proofs.Bytes.{base_fits, memory_at, record_at, bytes_by_part}
use Rattle.ports.proofs.Lawful.{Lawful}
use Rattle.ports.proofs.Steps.{answer_long, state_after, taken_size, taken_state}
use Rattle.ports.proofs.Outcomes.{taken_after, taken_count, taken_reported}

-- ---- one record replaced

module _ {Image : Type 0} (M : Module Image) (s : List ℕ) (q : Port) (n : ℕ) (f : Places) (long : length s ≡ state_size M) (few : n ≤ M.record_size) where
  -- the first n bytes of port q's record are replaced: all of it is then f's, and the other stays
  records_left : (q : Port) → ((k : ℕ) → k < M.record_size → at (patch (base M q) n f s) (base M q + k) ≡ f k)
      → (p : Port) (k : ℕ) → k < M.record_size → at (patch (base M q) n f s) (base M p + k) ≡ give (state_of M s).own q f p k
  records_left operator mine operator k h = mine k h
  records_left operator mine recorder k h =
      patch_above (base M operator) n f s (base M recorder + k) (omega arith) (omega arith) ∙ sym (record_at M s recorder k h)
  records_left recorder mine operator k h =
      patch_below (base M recorder) n f s (base M operator + k) (omega arith) (omega arith) ∙ sym (record_at M s operator k h)
  records_left recorder mine recorder k h = mine k h

  -- f keeps what isn't replaced
  pub record_bytes : ((k : ℕ) → n ≤ k → k < M.record_size → f k ≡ at s (base M q + k))
      → patch (base M q) n f s ≡ bytes_of M (record { mem = (state_of M s).mem; own = give (state_of M s).own q f })
  record_bytes rest =
      bytes_by_part M (record { mem = (state_of M s).mem; own = give (state_of M s).own q f }) (patch (base M q) n f s) (patch_length (base M q) n f s ∙ long)
      (λ i h. let b = behind q i h in patch_below (base M q) n f s i (omega arith) b ∙ sym (memory_at M s i h))
      (records_left q mine)
    where
      behind : (q : Port) (i : ℕ) → i < M.memory_size → i < base M q
      behind operator i h = h
      behind recorder i h = omega arith

      mine : (k : ℕ) → k < M.record_size → at (patch (base M q) n f s) (base M q + k) ≡ f k
      mine k h = let r = base_fits M q k h in case (ltb k n)
          (λ t. let l = ltb-true k n t in patch_in (base M q) n f s k l (omega arith))
          (λ t. let l = ltb-false k n t in patch_above (base M q) n f s (base M q + k) (omega arith) (omega arith) ∙ sym (rest k l h))

-- ---- an accepted read: the caller's record is at b, and what is cleared in it is among its first m bytes

module _ {Image : Type 0} (M : Module Image) (L : Lawful M) (s : List ℕ) (n a k : ℕ) (out : List ℕ) (taken : refusal_of M s (read n a k out) ≡ 0) where
  pub read_done : (b c m : ℕ) (t shown : List ℕ) → b ≡ base M (caller n) → m ≤ M.record_size
      → ((i : ℕ) → m ≤ i → i < M.record_size → M.cleared (memory_of M s) a k (record_of M s b) i ≡ record_of M s b i)
      → t ≡ patch b m (M.cleared (memory_of M s) a k (record_of M s b)) s
      → c ≡ M.count (record_of M t b) → shown ≡ patch 0 k (λ j. M.seen (memory_of M s) (record_of M s b) (a + j)) out → ReadDone M s n a k out 0 c t shown
  unfolding answer done state_of
  read_done b c m t shown is few rest e f g =
      let long = taken_size M L s (read n a k out) taken in
      let left : t ≡ bytes_of M (done M (state_of M s) (read n a k out)) =
      rw is at e ∙ record_bytes M s (caller n) m (M.cleared (memory_of M s) a k (record_of M s (base M (caller n)))) long few
      (λ i l h. rw is at (rest i l h) ∙ rw (lt-ltb i M.record_size h)) in
      record {
        refusal_is = sym taken;
        count_is = taken_count M L s (read n a k out) taken t left (caller n) c (rw is at f);
        state_is = taken_after M L s (read n a k out) taken t left;
        out_is = rw (answer_long M L s (caller n) (read n a k out) long, taken_state M L s (read n a k out) taken) (rw is at g);
      }

-- ---- an accepted reset: both records are all 0, of which the count is 0

module _ {Image : Type 0} (M : Module Image) (L : Lawful M) (s : List ℕ) (img : Image) (taken : refusal_of M s (reset img) ≡ 0) where
  pub reset_done : M.count (λ k. 0) ≡ 0 → (t : List ℕ) → t ≡ bytes_of M (done M (state_of M s) (reset img)) → Reported M s (reset img) 0 0 0 t
  reset_done zero t left = taken_reported M L s (reset img) taken t left 0 0 (none operator) (none recorder)
    where
      left_is : state_of M t ≡ done M (state_of M s) (reset img)
      left_is =
          ap (state_of M) (taken_after M L s (reset img) taken t left)
          ∙ state_after M L s (reset img) (taken_size M L s (reset img) taken)
          ∙ (unfold step in rw (taken_state M L s (reset img) taken))

      none : (p : Port) → 0 ≡ M.count (record_of M t (base M p))
      none p = unfold state_of done in sym (ap (λ (m : State). M.count (m.own p)) left_is ∙ zero)

-- ---- an accepted write that replaces the caller's record, which is at b

module _ {Image : Type 0} (M : Module Image) (L : Lawful M) (s : List ℕ) (n a : ℕ) (vs : List ℕ) (taken : refusal_of M s (write n a vs) ≡ 0) where
  pub write_done : (f : Places → Places) → M.puts (state_of M s) (caller n) a vs ≡ record { mem = (state_of M s).mem; own = give (state_of M s).own (caller n) (f (record_of M s (base M (caller n)))) }
      → (b c : ℕ) (t : List ℕ) → b ≡ base M (caller n) → t ≡ patch b M.record_size (f (record_of M s b)) s → c ≡ M.count (record_of M t b)
      → WriteDone M s n a vs 0 c t
  unfolding done
  write_done f e b c t is d g =
      let long = taken_size M L s (write n a vs) taken in
      let left : t ≡ bytes_of M (M.puts (state_of M s) (caller n) a vs) =
      rw is at d ∙ record_bytes M s (caller n) M.record_size (f (record_of M s (base M (caller n)))) long (omega arith) (λ i l h. absurd (omega arith))
      ∙ sym (ap (bytes_of M) e) in
      record {
        refusal_is = sym taken;
        count_is = taken_count M L s (write n a vs) taken t left (caller n) c (rw is at g);
        state_is = taken_after M L s (write n a vs) taken t left;
      }
