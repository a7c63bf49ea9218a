-- Demand 3, for any lawful module: a port's own calls, samples and resets go by what the port sees, and the other's are out of its sight,
-- so it can't tell apart two histories that differ in the other's calls; and what neither port can tell apart is the same state.
-- Assumes nothing.
use Rattle.std.specs.Prelude.{if◌then◌else◌}
use mathlib.Core.Path.{◌≡◌, refl, sym, ap, ap₂, ◌∙◌, subst}
use mathlib.Core.Bool.{Bool, true, false, true≢false}
use mathlib.Core.List.{List}
use Prim.Native.Nat.{ℕ, ◌+◌, ◌-◌, ◌<◌}
use native.Mathlib.Omega.{arith}
use lib.Dec.{ltb, eqb}
use lib.ListN.{length}
use borrow.Author.Tests.{eqb-true, ltb-true, ltb-false}
use Rattle.laws.specs.Tests.{first_of}
use Rattle.laws.specs.Lists.{at}
use Rattle.laws.proofs.Tests.{case, if_elim}
use Rattle.laws.proofs.Fronts.{front_agree}
use Rattle.ports.specs.Ports.{Port, operator, recorder, nobody, caller, Places, State, CallOf, reset, sample, read, write, concerns}
use Rattle.ports.specs.Histories.{History}
use Rattle.ports.specs.Modules.{Module, base, state_size, rows, refusal, accepted}
use Rattle.ports.specs.Effects.{Answer, done, step, output_of, answer}
use Rattle.ports.specs.Bytes.{state_of, bytes_of, refusal_of, after, answer_of, runs}
use Rattle.ports.specs.Demands.{only, from_shared, RecorderAgrees, OperatorAgrees}
use Rattle.ports.proofs.Ports.{caller_is}
use Rattle.ports.proofs.Histories.{Sight, undisturbed}
use Rattle.ports.proofs.Fence.{Same, operator_memory, same_refl, same_sym, same_trans, same_ifs, give_in, give_out, same_both}
use Rattle.ports.proofs.Lawful.{Good, Lawful}
use Rattle.ports.proofs.Bytes.{memory_at, record_at, bytes_state}
use Rattle.ports.proofs.Steps.{good_step, answer_long, after_length, state_after, runs_length, taken_size, sound_lasts, begun_size, begun_good}

module _ {Image : Type 0} (M : Module Image) (L : Lawful M) where
  -- ---- the other port's calls are out of sight

  -- a refused call changes nothing
  refused_out : (m : State) (c : CallOf Image) → accepted M m c ≡ false → (p : Port) → Same M p (step M m c) m
  unfolding step
  refused_out m c e p = rw e (same_refl M p m)

  pub step_out : (p : Port) (m : State) (c : CallOf Image) → concerns p c ≡ false → Same M p (step M m c) m
  step_out p m (reset img) e = absurd (true≢false e)
  step_out p m (sample x) e = absurd (true≢false e)
  step_out p m (read n a k out) e = case (nobody n)
      (λ t. refused_out m (read n a k out) (unfold refusal rows in rw t) p)
      (λ t. unfold step done in if_elim (λ (s : State). Same M p s m) (accepted M m (read n a k out)) (λ u. give_out M p (caller n) (rw t at e) m _) (λ u. same_refl M p m))
  step_out p m (write n a vs) e = case (nobody n)
      (λ t. refused_out m (write n a vs) (unfold refusal rows in rw t) p)
      (λ t. unfold step done in if_elim (λ (s : State). Same M p s m) (accepted M m (write n a vs)) (λ u. L.puts_out p (caller n) (rw t at e) m a vs) (λ u. same_refl M p m))

  -- ---- its own, and samples and resets, go by what it sees

  -- for a sound state, whatever the other port's record, its rows of refusals
  rows_in : (p : Port) (m n : State) (c : CallOf Image) → concerns p c ≡ true → Good M m → Good M n → Same M p m n → rows M m c ≡ rows M n c
  unfolding rows
  rows_in p m n (reset img) e gm gn h = refl
  rows_in p m n (sample x) e gm gn h = rw (gm.both operator, gm.both recorder, gn.both operator, gn.both recorder)
  rows_in p m n (read k a j out) e gm gn h = rw (gm.both (caller k), gn.both (caller k))
  rows_in operator m n (write k a vs) e gm gn h = rw (caller_is operator k e, gm.both operator, gn.both operator)
  rows_in recorder m n (write k a vs) e gm gn h = rw (caller_is recorder k e, gm.both recorder, gn.both recorder, h.own_same)

  done_in : (p : Port) (m n : State) (c : CallOf Image) → concerns p c ≡ true → Same M p m n → Same M p (done M m c) (done M n c)
  unfolding done
  done_in p m n (reset img) e h = record { own_same = refl; mem_same = L.fresh_in p img m.mem n.mem h.mem_same }
  done_in p m n (sample x) e h = record {
    own_same = ap₂ (λ (f : Places → Places) (o : Places). f o) (L.raised_in p x m.mem n.mem h.mem_same) h.own_same;
    mem_same = L.stored_in p x m.mem n.mem h.mem_same;
  }
  done_in p m n (read k a j out) e h =
      rw (caller_is p k e) (give_in M p (ap₂ (λ (f : Places → Places) (o : Places). f o) (L.cleared_in p a j m.mem n.mem h.mem_same) h.own_same) h)
  done_in p m n (write k a vs) e h = subst (λ (q : Port). Same M p (M.puts m q a vs) (M.puts n q a vs)) (sym (caller_is p k e)) (L.puts_in p m n a vs h)

  module _ (p : Port) (m n : State) (c : CallOf Image) (e : concerns p c ≡ true) (gm : Good M m) (gn : Good M n) (h : Same M p m n) where
    refusal_in_lem : refusal M m c ≡ refusal M n c
    unfolding refusal
    refusal_in_lem = ap first_of (rows_in p m n c e gm gn h)

    accepted_in : accepted M m c ≡ accepted M n c
    accepted_in = ap (λ (r : ℕ). eqb r 0) refusal_in_lem

    step_in : Same M p (step M m c) (step M n c)
    unfolding step
    step_in = same_ifs M (accepted M m c) (accepted M n c) accepted_in (done_in p m n c e h) h

    count_in : (answer M m p c).counted ≡ (answer M n p c).counted
    unfolding answer
    count_in = ap₂ (λ (b : Bool) (o : Places). if b then M.count o else 0) accepted_in step_in.own_same

  -- what the operator is answered: nothing is hidden from it
  answer_in : (m n : State) (c : CallOf Image) → concerns operator c ≡ true → Good M m → Good M n → Same M operator m n
      → answer M m operator c ≡ answer M n operator c
  unfolding answer
  answer_in m n c e gm gn h = λ i. record {
    refusal = refusal_in_lem operator m n c e gm gn h i;
    counted = count_in operator m n c e gm gn h i;
    output = shown c (accepted_in operator m n c e gm gn h) i;
  }
    where
      shown : (c : CallOf Image) → accepted M m c ≡ accepted M n c → output_of M m operator c ≡ output_of M n operator c
      shown (reset img) q = refl
      shown (sample x) q = refl
      shown (read k a j out) q = rw (q, operator_memory M h, h.own_same)
      shown (write k a vs) q = refl

  -- what the recorder is answered, save on the shared list
  output_in : (m n : State) (c : CallOf Image) → accepted M m c ≡ accepted M n c → Same M recorder m n
      → (j : ℕ) → from_shared M m c j ≡ false → at (output_of M m recorder c) j ≡ at (output_of M n recorder c) j
  output_in m n (reset img) q h j bare = refl
  output_in m n (sample x) q h j bare = refl
  output_in m n (read k a i out) q h j bare = rw (← q) (case (accepted M m (read k a i out))
      (λ t. rw t (front_agree i (λ i. M.seen m.mem (m.own recorder) (a + i)) (λ i. M.seen n.mem (n.own recorder) (a + i)) out j
      (λ u. L.seen_in m n h (a + j) (rw u at bare))))
      (λ t. rw t))
  output_in m n (write k a vs) q h j bare = refl

  -- ---- on the bytes

  -- bytes of a sound state
  abbrev pub Whole : List ℕ → Type 0
  Whole s = (length s ≡ state_size M) × Good M (state_of M s)

  sight : (p : Port) → Sight (after M) (concerns p)
  sight p = record {
    Good = Whole;
    Same = λ s t. Same M p (state_of M s) (state_of M t);
    good = λ s c g. (after_length M L s c g.0, rw (state_after M L s c g.0) (good_step M L (state_of M s) c g.1));
    alike = λ s. same_refl M p (state_of M s);
    back = same_sym M;
    on = same_trans M;
    out = λ s c e. case (eqb (refusal_of M s c) 0)
        (λ t. rw (state_after M L s c (taken_size M L s c (eqb-true (refusal_of M s c) 0 t))) (step_out p (state_of M s) c e))
        (λ t. unfold after in rw t (same_refl M p (state_of M s)));
    within = λ s t c e g k h. rw (state_after M L s c g.0, state_after M L t c k.0) (step_in p (state_of M s) (state_of M t) c e g.1 k.1 h);
  }

  pub whole_runs : (s : List ℕ) → Whole s → (h : History (CallOf Image)) → Whole (runs M s h)
  whole_runs s g h = (runs_length M L s h g.0, sound_lasts M L s g.0 g.1 h)

  runs_view : (s : List ℕ) → Whole s → (p : Port) (h k : History (CallOf Image)) → only p h ≡ only p k → Same M p (state_of M (runs M s h)) (state_of M (runs M s k))
  unfolding only runs sight
  runs_view s g p h k q = undisturbed (after M) (concerns p) (sight p) s g h k q

  -- what relates the answers on the states relates those on the bytes
  on_bytes : (s : List ℕ) → Whole s → (p : Port) (h k : History (CallOf Image)) (c : CallOf Image) (R : Answer → Answer → Type 0)
      → R (answer M (state_of M (runs M s h)) p c) (answer M (state_of M (runs M s k)) p c) → R (answer_of M (runs M s h) p c) (answer_of M (runs M s k) p c)
  on_bytes s g p h k c R r = rw (answer_long M L (runs M s h) p c (runs_length M L s h g.0), answer_long M L (runs M s k) p c (runs_length M L s k g.0)) r

  -- a record that is the same has the same bytes
  record_bytes : (p : Port) (s t : List ℕ) → (state_of M s).own p ≡ (state_of M t).own p → (k : ℕ) → k < M.record_size → at s (base M p + k) ≡ at t (base M p + k)
  record_bytes p s t e k h = sym (record_at M s p k h) ∙ ap (λ (f : Places). f k) e ∙ record_at M t p k h

  -- from an accepted reset on
  pub begun_whole : (s : List ℕ) (img : Image) → refusal_of M s (reset img) ≡ 0 → Whole (after M s (reset img))
  begun_whole s img b = (begun_size M L s img b, begun_good M L s img b)

  -- ---- the two halves of demand 3, from any sound state

  pub recorder_undisturbed : (s : List ℕ) → Whole s → (h k : History (CallOf Image)) → only recorder h ≡ only recorder k → RecorderAgrees M s h k
  recorder_undisturbed s g h k q =
      let v = runs_view s g recorder h k q in
      let a = whole_runs s g h in
      let b = whole_runs s g k in
      let m : State = state_of M (runs M s h) in
      let n : State = state_of M (runs M s k) in
      record {
        record_same = record_bytes recorder (runs M s h) (runs M s k) v.own_same;
        interrupt_same = ap M.stands v.own_same;
        refusal_same = λ c e. on_bytes s g recorder h k c (λ x y. x.refusal ≡ y.refusal) (unfold answer in refusal_in_lem recorder m n c e a.1 b.1 v);
        count_same = λ c e. on_bytes s g recorder h k c (λ x y. x.counted ≡ y.counted) (count_in recorder m n c e a.1 b.1 v);
        output_same = λ c e j bare. on_bytes s g recorder h k c (λ x y. at x.output j ≡ at y.output j)
            (unfold answer in output_in m n c (accepted_in recorder m n c e a.1 b.1 v) v j bare);
      }

  pub operator_undisturbed : (s : List ℕ) → Whole s → (h k : History (CallOf Image)) → only operator h ≡ only operator k → OperatorAgrees M s h k
  operator_undisturbed s g h k q =
      let v = runs_view s g operator h k q in
      let a = whole_runs s g h in
      let b = whole_runs s g k in
      record {
        answer_same = λ c e. on_bytes s g operator h k c (λ x y. x ≡ y) (answer_in (state_of M (runs M s h)) (state_of M (runs M s k)) c e a.1 b.1 v);
        state_same = λ i l. case (ltb i M.memory_size)
            (λ a. let u = ltb-true i M.memory_size a in
            sym (memory_at M (runs M s h) i u) ∙ ap (λ (f : Places). f i) (operator_memory M v) ∙ memory_at M (runs M s k) i u)
            (λ a. let u = ltb-false i M.memory_size a in
            let w : base M operator + (i - base M operator) ≡ i = omega arith in
            rw w at (record_bytes operator (runs M s h) (runs M s k) v.own_same (i - base M operator) (omega arith)));
      }

  -- ---- neighbours may change places

  -- two histories with the same samples, resets and operator calls in the same order, and the same samples, resets and recorder calls in
  -- the same order: the same state to the last byte (and, by the two halves, the same answers save what is shared)
  pub neighbours : (s : List ℕ) → Whole s → (h k : History (CallOf Image)) → ((p : Port) → only p h ≡ only p k) → runs M s h ≡ runs M s k
  neighbours s g h k q =
      let m : (p : Port) → Same M p (state_of M (runs M s h)) (state_of M (runs M s k)) = λ p. runs_view s g p h k (q p) in
      sym (bytes_state M (runs M s h) (runs_length M L s h g.0)) ∙ ap (bytes_of M) (same_both M m) ∙ bytes_state M (runs M s k) (runs_length M L s k g.0)
