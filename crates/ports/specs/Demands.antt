-- The words of the demands, for any module: what stood since, and what two histories agree on.
-- Assumes nothing.
use Rattle.std.specs.Prelude.{◌+◌, ◌<◌, ◌≡◌, ◌↔◌, ◌&&◌}
use Rattle.laws.specs.Words.{ℕ, Bool, true, false, not, List, length, ltb, covers, none_of, at}
use Rattle.ports.specs.Ports.{Port, operator, recorder, nobody, is_by, State, CallOf, reset, sample, read, write, concerns}
use Rattle.ports.specs.Histories.{History, only_of, SinceOf}
use Rattle.ports.specs.Modules.{Module, base, read_rows, sample_rows}
use Rattle.ports.specs.Bytes.{state_of, refusal_of, answer_of, runs}

-- ---- demand 2, flags: with no state in it

module _ {Image : Type 0} (M : Module Image) where
  -- an accepted reset, or an accepted read by port p that includes byte b
  unfoldable pub wipes : Port → ℕ → CallOf Image → Bool
  wipes p b (reset img) = none_of (M.image_rows img)
  wipes p b (sample x) = false
  wipes p b (read n a k out) = none_of (read_rows M a k (length out)) && (is_by p n && covers a k b)
  wipes p b (write n a vs) = false

  -- an accepted sample in which it stood, after older calls
  unfoldable pub brings : (History (CallOf Image) → List ℕ → Bool) → History (CallOf Image) → CallOf Image → Bool
  brings stood older (reset img) = false
  brings stood older (sample x) = none_of (sample_rows M x) && stood older x
  brings stood older (read n a k out) = false
  brings stood older (write n a vs) = false

  -- it "stood in an accepted sample since the later of that port's last accepted read of that byte and the last accepted reset"
  abbrev pub StoodSince : (History (CallOf Image) → List ℕ → Bool) → Port → ℕ → History (CallOf Image) → Type 0
  StoodSince stood p b h = SinceOf (brings stood) (wipes p b) h

module _ {Image : Type 0} (M : Module Image) where
  -- what `StoodSince` calls accepted is what the calls on the bytes s accept: it goes by their own arguments
  pub record AcceptedPlainly (s : List ℕ) : Type 0 where
    pub of_reset : (img : Image) → (refusal_of M s (reset img) ≡ 0) ↔ (none_of (M.image_rows img) ≡ true)
    pub of_sample : (x : List ℕ) → (refusal_of M s (sample x) ≡ 0) ↔ (none_of (sample_rows M x) ≡ true)
    pub of_read : (n a k : ℕ) (out : List ℕ) → (refusal_of M s (read n a k out) ≡ 0) ↔ ((not (nobody n) && none_of (read_rows M a k (length out))) ≡ true)

-- ---- demand 3

-- the history with all calls left out but port p's, the samples and the resets
unfoldable pub only : {Image : Type 0} → Port → History (CallOf Image) → History (CallOf Image)
unfolding only_of
only p h = only_of (concerns p) h

module _ {Image : Type 0} (M : Module Image) where
  -- byte j of what a call of the recorder's puts out is one "on [the] shared list"
  abbrev pub from_shared : State → CallOf Image → ℕ → Bool
  from_shared m (reset img) j = false
  from_shared m (sample x) j = false
  from_shared m (read n a k out) j = ltb j k && M.leads_shared (m.own recorder) (a + j)
  from_shared m (write n a vs) j = false

  -- After the histories h and k of calls on the bytes s: "The recorder's record, refusals, counts, interrupt and every byte it reads agree,
  -- save bytes on [the] shared list." The call c is the next one; h and k are any, so this is said of each call in them too.
  pub record RecorderAgrees (s : List ℕ) (h k : History (CallOf Image)) : Type 0 where
    -- every byte of the recorder's record
    pub record_same : (i : ℕ) → i < M.record_size → at (runs M s h) (base M recorder + i) ≡ at (runs M s k) (base M recorder + i)
    pub interrupt_same : M.stands ((state_of M (runs M s h)).own recorder) ≡ M.stands ((state_of M (runs M s k)).own recorder)
    -- what the recorder's next call, the next sample or the next reset answers it
    pub refusal_same : (c : CallOf Image) → concerns recorder c ≡ true
        → (answer_of M (runs M s h) recorder c).refusal ≡ (answer_of M (runs M s k) recorder c).refusal
    pub count_same : (c : CallOf Image) → concerns recorder c ≡ true
        → (answer_of M (runs M s h) recorder c).counted ≡ (answer_of M (runs M s k) recorder c).counted
    pub output_same : (c : CallOf Image) → concerns recorder c ≡ true → (j : ℕ) → from_shared (state_of M (runs M s h)) c j ≡ false
        → at (answer_of M (runs M s h) recorder c).output j ≡ at (answer_of M (runs M s k) recorder c).output j

  -- "And dropping any recorder calls changes no operator answer and no state byte outside the recorder's record."
  pub record OperatorAgrees (s : List ℕ) (h k : History (CallOf Image)) : Type 0 where
    pub answer_same : (c : CallOf Image) → concerns operator c ≡ true → answer_of M (runs M s h) operator c ≡ answer_of M (runs M s k) operator c
    -- every byte outside the recorder's record
    pub state_same : (i : ℕ) → i < base M recorder → at (runs M s h) i ≡ at (runs M s k) i
