-- What each call keeps, for any lawful module, call by call from the module's laws: soundness, and that nothing stands past the ends; so
-- a run on the bytes is a run on states. Which resets, samples and reads a sound state accepts goes by their own arguments.
-- Assumes nothing.
use mathlib.Core.Path.{◌≡◌, refl, sym, ◌∙◌}
use mathlib.Core.Bool.{true, false, not, ◌&&◌}
use mathlib.Core.List.{List, ◌∷◌, Memᴰ}
use Prim.Native.Nat.{ℕ, ◌≤◌}
use native.Mathlib.Omega.{arith}
use lib.Dec.{eqb}
use lib.ListN.{length}
use borrow.Author.Tests.{eqb-true, eq-eqb}
use Rattle.laws.specs.Tests.{Row, first_of, none_of, InOrder}
use Rattle.laws.proofs.Tests.{case, same_test}
use Rattle.laws.proofs.Rows.{in_order, rising, rising_distinct, first_taken, first_lowest}
use Rattle.ports.specs.Ports.{Port, operator, recorder, nobody, caller, State, CallOf, reset, sample, read, write}
use Rattle.ports.specs.Histories.{History, run_of}
use Rattle.ports.specs.Modules.{Module, state_size, read_rows, sample_rows, rows, refusal, accepted}
use Rattle.ports.specs.Effects.{done, step, answer}
use Rattle.ports.specs.Bytes.{state_of, rows_of, refusal_of, after, answer_of, runs, Fits}
use Rattle.ports.proofs.Ports.{give_elim}
use Rattle.ports.proofs.Histories.{run_keeps, run_through}
use Rattle.ports.proofs.Lawful.{Good, Lawful}
use Rattle.ports.proofs.Bytes.{bytes_length, state_bytes, fits_of}

module _ {Image : Type 0} (M : Module Image) (L : Lawful M) where
  -- ---- "gives the refusal that document 01's order picks"

  rise : (s : List ℕ) (c : CallOf Image) → rising 0 (rows_of M s c) ≡ true
  unfolding rows_of rows
  rise s (reset img) = L.image_rise img
  rise s (sample x) = refl
  rise s (read n a k out) = refl
  rise s (write n a vs) = refl

  -- each number exactly when its row of the table says so, given that no lower one applies; accepted exactly when none applies
  pub refusals_in_order : (s : List ℕ) (c : CallOf Image) → InOrder (rows_of M s c)
  refusals_in_order s c = in_order (rows_of M s c) (rising_distinct 0 (rows_of M s c) (rise s c))

  -- "The lowest number wins"
  pub refusals_lowest : (s : List ℕ) (c : CallOf Image) (r : Row) → Memᴰ r (rows_of M s c) → r.1 ≡ true → refusal_of M s c ≤ r.0
  unfolding refusal_of
  refusals_lowest s c = first_lowest 0 (rows_of M s c) (rise s c)

  -- ---- what is accepted in a sound state goes by the call's own arguments

  pub reset_taken : (m : State) (img : Image) → accepted M m (reset img) ≡ none_of (M.image_rows img)
  unfolding refusal rows
  reset_taken m img =
      let o = (in_order ((1, false) ∷ M.image_rows img) (rising_distinct 0 ((1, false) ∷ M.image_rows img) (L.image_rise img))).free in
      same_test (eqb (first_of (M.image_rows img)) 0) (none_of (M.image_rows img))
      (λ t. o.0 (eqb-true (first_of (M.image_rows img)) 0 t)) (λ t. eq-eqb (first_of (M.image_rows img)) 0 (o.1 t))

  pub sample_taken : (m : State) (x : List ℕ) → Good M m → accepted M m (sample x) ≡ none_of (sample_rows M x)
  unfolding refusal rows
  sample_taken m x g = first_taken (rows M m (sample x)) refl ∙ rw (g.both operator, g.both recorder)

  pub read_taken : (m : State) (n a k : ℕ) (out : List ℕ) → Good M m → accepted M m (read n a k out) ≡ (not (nobody n) && none_of (read_rows M a k (length out)))
  unfolding refusal rows
  read_taken m n a k out g = first_taken (rows M m (read n a k out)) refl ∙ rw (g.both (caller n))

  -- ---- a sound state stays sound

  good_done : (m : State) (c : CallOf Image) → Good M m → Good M (done M m c)
  unfolding done
  good_done m (reset img) g = record { both = λ p. L.sound_fresh img m.mem }
  good_done m (sample x) g = record { both = λ p. L.sound_sample m.mem x (m.own p) (g.both p) }
  good_done m (read n a k out) g = record {
    both = give_elim (λ p o. M.sound m.mem o ≡ true) m.own (caller n) (M.cleared m.mem a k (m.own (caller n)))
        (L.sound_read m.mem a k (m.own (caller n)) (g.both (caller n))) g.both;
  }
  good_done m (write n a vs) g = L.sound_puts m (caller n) a vs g

  pub good_step : (m : State) (c : CallOf Image) → Good M m → Good M (step M m c)
  unfolding step
  good_step m c g = case (accepted M m c) (λ h. rw h (good_done m c g)) (λ h. rw h g)

  pub good_run : (m : State) (h : History (CallOf Image)) → Good M m → Good M (run_of (step M) m h)
  good_run m h g = run_keeps (step M) (Good M) good_step m g h

  -- a reset makes both sound, whatever stood before
  pub good_after : (m : State) (img : Image) → accepted M m (reset img) ≡ true → Good M (step M m (reset img))
  unfolding step done
  good_after m img e = rw e (record { both = λ p. L.sound_fresh img m.mem })

  -- ---- nothing stands past the ends

  fits_done : (m : State) (c : CallOf Image) → accepted M m c ≡ true → Fits M m → Fits M (done M m c)
  unfolding done
  fits_done m (reset img) e t = record {
    mem_end = λ i h. L.fresh_end img (sym (reset_taken m img) ∙ e) m.mem i h (t.mem_end i h);
    own_end = λ p k h. refl;
  }
  fits_done m (sample x) e t = record {
    mem_end = λ i h. L.stored_end m.mem x i h ∙ t.mem_end i h;
    own_end = λ p k h. L.raised_end m.mem x (m.own p) k h ∙ t.own_end p k h;
  }
  fits_done m (read n a k out) e t = record {
    mem_end = t.mem_end;
    own_end = give_elim (λ p o. (k : ℕ) → M.record_size ≤ k → o k ≡ 0) m.own (caller n) (M.cleared m.mem a k (m.own (caller n)))
        (λ j h. L.cleared_end m.mem a k (m.own (caller n)) j h ∙ t.own_end (caller n) j h) t.own_end;
  }
  fits_done m (write n a vs) e t = L.puts_end m (caller n) a vs t

  -- ---- a run on the bytes is a run on states

  pub refusal_long : (s : List ℕ) (c : CallOf Image) → length s ≡ state_size M → refusal_of M s c ≡ refusal M (state_of M s) c
  unfolding refusal_of rows_of refusal
  refusal_long s c e = rw (eq-eqb (length s) (state_size M) e)

  pub answer_long : (s : List ℕ) (p : Port) (c : CallOf Image) → length s ≡ state_size M → answer_of M s p c ≡ answer M (state_of M s) p c
  unfolding answer_of
  answer_long s p c e = rw (eq-eqb (length s) (state_size M) e)

  pub after_length : (s : List ℕ) (c : CallOf Image) → length s ≡ state_size M → length (after M s c) ≡ state_size M
  unfolding after
  after_length s c e = case (eqb (refusal_of M s c) 0) (λ h. rw h (bytes_length M (done M (state_of M s) c))) (λ h. rw h e)

  pub state_after : (s : List ℕ) (c : CallOf Image) → length s ≡ state_size M → state_of M (after M s c) ≡ step M (state_of M s) c
  unfolding after step
  state_after s c e = rw (refusal_long s c e) (case (accepted M (state_of M s) c)
      (λ h. rw h (state_bytes M (done M (state_of M s) c) (fits_done (state_of M s) c h (fits_of M s))))
      (λ h. rw h))

  pub runs_length : (s : List ℕ) (h : History (CallOf Image)) → length s ≡ state_size M → length (runs M s h) ≡ state_size M
  unfolding runs
  runs_length s h e = run_keeps (after M) (λ t. length t ≡ state_size M) after_length s e h

  pub state_runs : (s : List ℕ) (h : History (CallOf Image)) → length s ≡ state_size M → state_of M (runs M s h) ≡ run_of (step M) (state_of M s) h
  unfolding runs
  state_runs s h e = run_through (after M) (step M) (state_of M) (λ t. length t ≡ state_size M) after_length state_after s e h

  -- ---- an accepted call

  -- it is on as many bytes as the state has
  pub taken_size : (s : List ℕ) (c : CallOf Image) → refusal_of M s c ≡ 0 → length s ≡ state_size M
  unfolding refusal_of rows_of
  taken_size s c e = case (eqb (length s) (state_size M)) (λ t. eqb-true (length s) (state_size M) t) (λ t. let z : ◌≡◌ {A = ℕ} 1 0 = rw t at e in absurd (omega arith))

  -- and their state takes it too
  pub taken_state : (s : List ℕ) (c : CallOf Image) → refusal_of M s c ≡ 0 → accepted M (state_of M s) c ≡ true
  taken_state s c e = eq-eqb _ 0 (sym (refusal_long s c (taken_size s c e)) ∙ e)

  -- ---- from an accepted reset on

  module _ (s : List ℕ) (img : Image) (begun : refusal_of M s (reset img) ≡ 0) where
    pub begun_size : length (after M s (reset img)) ≡ state_size M
    begun_size = after_length s (reset img) (taken_size s (reset img) begun)

    pub begun_state : state_of M (after M s (reset img)) ≡ step M (state_of M s) (reset img)
    begun_state = state_after s (reset img) (taken_size s (reset img) begun)

    pub begun_good : Good M (state_of M (after M s (reset img)))
    begun_good = rw begun_state (good_after (state_of M s) img (taken_state s (reset img) begun))

    -- after any history
    pub since_size : (h : History (CallOf Image)) → length (runs M (after M s (reset img)) h) ≡ state_size M
    since_size h = runs_length (after M s (reset img)) h begun_size

    pub since_state : (h : History (CallOf Image)) → state_of M (runs M (after M s (reset img)) h) ≡ run_of (step M) (state_of M (after M s (reset img))) h
    since_state h = state_runs (after M s (reset img)) h begun_size

  -- a sound state stays sound, whatever is called
  pub sound_lasts : (s : List ℕ) → length s ≡ state_size M → Good M (state_of M s) → (h : History (CallOf Image)) → Good M (state_of M (runs M s h))
  sound_lasts s e g h = rw (state_runs s h e) (good_run (state_of M s) h g)
