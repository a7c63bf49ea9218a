-- What is answered, for any lawful module (demand 1; of demand 2 what a read shows, and the count): bytes of a wrong length are refused
-- 1, and on all others the answer is the one on states, where it is read off for a refused and for an accepted call.
-- Assumes nothing.
use mathlib.Core.Path.{◌≡◌, refl, sym, ap, ◌∙◌}
use mathlib.Core.Logic.{◌↔◌, ◌≢◌}
use mathlib.Core.Bool.{Bool, true, false, not, ◌&&◌}
use mathlib.Core.List.{List}
use Prim.Native.Nat.{ℕ, ◌+◌, ◌-◌, ◌≤◌}
use native.Mathlib.Omega.{arith}
use lib.Dec.{ltb}
use lib.ListN.{length}
use borrow.Author.Tests.{eqb-true, ltb-false, ne_eqb, not-true}
use Rattle.laws.specs.Tests.{covers, none_of}
use Rattle.laws.specs.Bits.{bit, has}
use Rattle.laws.specs.Lists.{at}
use Rattle.laws.proofs.Tests.{case, and_left, and_right, covers_true}
use Rattle.laws.proofs.Rows.{first_taken}
use Rattle.laws.proofs.Lists.{patch_length}
use Rattle.laws.proofs.Fronts.{front_in, front_rest}
use Rattle.ports.specs.Ports.{Port, nobody, caller, Places, State, CallOf, reset, sample, read, write, lent}
use Rattle.ports.specs.Histories.{History}
use Rattle.ports.specs.Modules.{Module, wrong_size, read_rows, sample_rows, rows, refusal, accepted}
use Rattle.ports.specs.Effects.{answer}
use Rattle.ports.specs.Bytes.{state_of, rows_of, refusal_of, after, answer_of, runs}
use Rattle.ports.specs.Demands.{StoodSince, AcceptedPlainly}
use Rattle.ports.proofs.Lawful.{Good, Lawful}
use Rattle.ports.proofs.Steps.{reset_taken, sample_taken, read_taken, refusal_long, answer_long, state_after, taken_size, taken_state, since_size, sound_lasts, begun_size, begun_good}
use Rattle.ports.proofs.Flags.{Latched, stored_rule}

module _ {Image : Type 0} (M : Module Image) where
  -- ---- demand 1

  -- the refusal that a call answers
  pub answer_refused : (s : List ℕ) (p : Port) (c : CallOf Image) → (answer_of M s p c).refusal ≡ refusal_of M s c
  unfolding answer_of answer refusal_of rows_of refusal
  answer_refused s p c = case (wrong_size M s) (λ t. rw t) (λ t. rw t)

  refused_answer : (m : State) (p : Port) (c : CallOf Image) → accepted M m c ≡ false → answer M m p c ≡ record { refusal = refusal M m c; counted = 0; output = lent c }
  unfolding answer
  refused_answer m p (reset img) e = rw e
  refused_answer m p (sample x) e = rw e
  refused_answer m p (read n a k out) e = rw e
  refused_answer m p (write n a vs) e = rw e

  -- "A refused call changes none of the state or output memory, reports a count of 0"
  pub refused_changes_nothing : (s : List ℕ) (c : CallOf Image) → refusal_of M s c ≢ 0
      → (after M s c ≡ s) × ((p : Port) → answer_of M s p c ≡ record { refusal = refusal_of M s c; counted = 0; output = lent c })
  unfolding after answer_of refusal_of rows_of
  refused_changes_nothing s c h = (
    rw (ne_eqb (refusal_of M s c) 0 h),
    λ p. case (wrong_size M s)
        (λ t. rw t)
        (λ t. rw t (refused_answer (state_of M s) p c (ne_eqb (refusal M (state_of M s) c) 0 (λ z. h (rw t (unfold refusal in z)))) ∙ (unfold refusal in refl))),
  )

  -- ---- demand 2: what an accepted read shows

  -- the output memory is long enough
  pub read_room : (m : State) (n a k : ℕ) (out : List ℕ) → accepted M m (read n a k out) ≡ true → k ≤ length out
  unfolding refusal rows
  read_room m n a k out e =
      let z : none_of (rows M m (read n a k out)) ≡ true = sym (first_taken (rows M m (read n a k out)) refl) ∙ e in
      ltb-false (length out) k (not-true (ltb (length out) k) (search (and_left, and_right)))

  -- "and leaves the rest": the output memory stays as long, and past the k bytes of the read as it was; of a refused read too
  pub read_leaves : (s : List ℕ) (n a k : ℕ) (out : List ℕ)
      → (length (answer_of M s (caller n) (read n a k out)).output ≡ length out)
      × ((j : ℕ) → k ≤ j → at (answer_of M s (caller n) (read n a k out)).output j ≡ at out j)
  unfolding answer_of answer
  read_leaves s n a k out =
      let f : ℕ → ℕ = λ j. M.seen (state_of M s).mem ((state_of M s).own (caller n)) (a + j) in
      case (wrong_size M s)
      (λ t. rw t (refl, λ j h. refl))
      (λ t. rw t (case (accepted M (state_of M s) (read n a k out))
      (λ u. rw u (patch_length 0 k f out, λ j h. front_rest k f out j h))
      (λ u. rw u (refl, λ j h. refl))))

module _ {Image : Type 0} (M : Module Image) (L : Lawful M) where
  -- byte b of the run stands at b - a in the output, as it was before the call
  pub read_shows : (s : List ℕ) (n a k : ℕ) (out : List ℕ) → refusal_of M s (read n a k out) ≡ 0 → (b : ℕ) → covers a k b ≡ true
      → at (answer_of M s (caller n) (read n a k out)).output (b - a) ≡ M.seen (state_of M s).mem ((state_of M s).own (caller n)) b
  unfolding answer
  read_shows s n a k out e b c =
      let m : State = state_of M s in
      let t = taken_state M L s (read n a k out) e in
      let r = covers_true a k b c in
      let l = r.0 in let u = r.1 in
      let room = read_room M m n a k out t in
      let q : a + (b - a) ≡ b = omega arith in
      rw (answer_long M L s (caller n) (read n a k out) (taken_size M L s (read n a k out) e), t)
      (front_in k (λ j. M.seen m.mem (m.own (caller n)) (a + j)) out (b - a) (omega arith) (omega arith) ∙ rw q)

  -- "a flag reads 1 exactly if its condition stood in an accepted sample since the later of that port's last accepted read of that byte
  -- and the last accepted reset", for a byte k of a record that address b reads
  pub flag_rule : (b k j : ℕ) (conds : Places → List ℕ → ℕ) → Latched M b k conds → ((f o : Places) → M.seen f o b ≡ o k)
      → (s : List ℕ) (img : Image) → refusal_of M s (reset img) ≡ 0 → (stood : History (CallOf Image) → List ℕ → Bool)
      → ((h : History (CallOf Image)) (x : List ℕ) → stood h x ≡ has j (conds (state_of M (runs M (after M s (reset img)) h)).mem x))
      → (h : History (CallOf Image)) (n a i : ℕ) (out : List ℕ)
      → refusal_of M (runs M (after M s (reset img)) h) (read n a i out) ≡ 0 → covers a i b ≡ true
      → (bit j (at (answer_of M (runs M (after M s (reset img)) h) (caller n) (read n a i out)).output (b - a)) ≡ 1) ↔ StoodSince M stood (caller n) b h
  flag_rule b k j conds l shown s img begun stood e h n a i out t c =
      rw (read_shows (runs M (after M s (reset img)) h) n a i out t b c, shown) (stored_rule M L b k j conds l s img begun (caller n) stood e h)

  pub accepted_plainly : (s : List ℕ) (img : Image) → refusal_of M s (reset img) ≡ 0 → (h : History (CallOf Image)) → AcceptedPlainly M (runs M (after M s (reset img)) h)
  accepted_plainly s img b h = record {
    of_reset = λ new. plain (reset new) (none_of (M.image_rows new)) (reset_taken M L (state_of M t) new);
    of_sample = λ x. plain (sample x) (none_of (sample_rows M x)) (sample_taken M L (state_of M t) x good);
    of_read = λ n a k out. plain (read n a k out) (not (nobody n) && none_of (read_rows M a k (length out))) (read_taken M L (state_of M t) n a k out good);
  }
    where
      t : List ℕ
      t = runs M (after M s (reset img)) h

      good : Good M (state_of M t)
      good = sound_lasts M L (after M s (reset img)) (begun_size M L s img b) (begun_good M L s img b) h

      plain : (c : CallOf Image) (r : Bool) → accepted M (state_of M t) c ≡ r → (refusal_of M t c ≡ 0) ↔ (r ≡ true)
      plain c r e = (
        λ z. sym e ∙ taken_state M L t c z,
        λ z. refusal_long M L t c (since_size M L s img b h) ∙ eqb-true (refusal M (state_of M t) c) 0 (e ∙ z),
      )

  -- "An accepted read or write reports its port's count, .., as it stands after the call. A sample and a reset report both ports' counts."
  pub count_reported : (s : List ℕ) (p : Port) (c : CallOf Image) → refusal_of M s c ≡ 0 → (answer_of M s p c).counted ≡ M.count ((state_of M (after M s c)).own p)
  unfolding answer
  count_reported s p c e =
      let z = taken_size M L s c e in
      rw (answer_long M L s p c z, taken_state M L s c e) (ap (λ (m : State). M.count (m.own p)) (sym (state_after M L s c z)))
