-- Demand 3 of the eight-channel module: what ports proves of any lawful module. "Demand 3 is wanted here too, with no byte shared": so the
-- recorder's whole answer agrees, every byte that it reads too.
-- Assumes nothing.
use mathlib.Core.Path.{◌≡◌, refl, sym, ◌∙◌}
use mathlib.Core.Bool.{true, false, and-false}
use mathlib.Core.List.{List}
use Prim.Native.Nat.{ℕ, ◌+◌}
use lib.Dec.{ltb}
use lib.ListN.{length}
use lib.Seq.{ext_get_or}
use Rattle.laws.proofs.Tests.{case, if_elim}
use Rattle.laws.proofs.Lists.{patch_length}
use Rattle.ports.specs.Ports.{Port, operator, recorder, State, reset, sample, read, write, concerns, lent}
use Rattle.ports.specs.Modules.{wrong_size, accepted}
use Rattle.ports.specs.Effects.{Answer, output_of, answer}
use Rattle.ports.specs.Bytes.{state_of, refusal_of, after, answer_of}
use Rattle.ports.specs.Demands.{only, from_shared, RecorderAgrees, OperatorAgrees}
use Rattle.ports.proofs.Views
use Rattle.eight.specs.Module.{Call, Calls, seen, eight}
use Rattle.eight.specs.Demands.{since}
use Rattle.eight.proofs.Lawful.{lawful}

-- "Take two runs that begin with the same state and the same accepted reset, with the same samples, resets and recorder calls in the same
-- order, and operator calls added, dropped or altered at will."
pub recorder_undisturbed : (s : List ℕ) → refusal_of eight s (reset tt) ≡ 0 → (h k : Calls) → only recorder h ≡ only recorder k
    → RecorderAgrees eight (after eight s (reset tt)) h k
recorder_undisturbed s begun = Views.recorder_undisturbed eight lawful (after eight s (reset tt)) (Views.begun_whole eight lawful s tt begun)

-- "And dropping any recorder calls changes no operator answer and no state byte outside the recorder's record."
pub operator_undisturbed : (s : List ℕ) → refusal_of eight s (reset tt) ≡ 0 → (h k : Calls) → only operator h ≡ only operator k
    → OperatorAgrees eight (after eight s (reset tt)) h k
operator_undisturbed s begun = Views.operator_undisturbed eight lawful (after eight s (reset tt)) (Views.begun_whole eight lawful s tt begun)

-- two histories with the same operator calls, samples and resets in the same order, and the same recorder calls, samples and resets in
-- the same order, leave the same state to the last byte
pub neighbours : (s : List ℕ) → refusal_of eight s (reset tt) ≡ 0 → (h k : Calls) → ((p : Port) → only p h ≡ only p k) → since s h ≡ since s k
neighbours s begun = Views.neighbours eight lawful (after eight s (reset tt)) (Views.begun_whole eight lawful s tt begun)

-- ---- with no byte shared

-- a call leaves the output memory as long as it was lent
output_length : (m : State) (p : Port) (c : Call) → length (output_of eight m p c) ≡ length (lent c)
output_length m p (reset none) = refl
output_length m p (sample x) = refl
output_length m p (read n a k out) =
    if_elim (λ (l : List ℕ). length l ≡ length out) (accepted eight m (read n a k out)) (λ t. patch_length 0 k (λ j. seen (m.own p) (a + j)) out) (λ t. refl)
output_length m p (write n a vs) = refl

answer_length : (s : List ℕ) (p : Port) (c : Call) → length (answer_of eight s p c).output ≡ length (lent c)
unfolding answer_of answer
answer_length s p c = case (wrong_size eight s) (λ t. rw t) (λ t. rw t (output_length (state_of eight s) p c))

none_shared : (m : State) (c : Call) (j : ℕ) → from_shared eight m c j ≡ false
none_shared m (reset none) j = refl
none_shared m (sample x) j = refl
none_shared m (read n a k out) j = and-false (ltb j k)
none_shared m (write n a vs) j = refl

same_answer : {x y : Answer} → x.refusal ≡ y.refusal → x.counted ≡ y.counted → x.output ≡ y.output → x ≡ y
same_answer p q r = λ i. record { refusal = p i; counted = q i; output = r i }

-- all that the recorder is answered by its next call, the next sample or the next reset
pub nothing_shared : (s : List ℕ) → refusal_of eight s (reset tt) ≡ 0 → (h k : Calls) → only recorder h ≡ only recorder k
    → (c : Call) → concerns recorder c ≡ true → answer_of eight (since s h) recorder c ≡ answer_of eight (since s k) recorder c
nothing_shared s begun h k q c e =
    let r = recorder_undisturbed s begun h k q in
    same_answer (r.refusal_same c e) (r.count_same c e)
    (ext_get_or 0 _ _ (answer_length (since s h) recorder c ∙ sym (answer_length (since s k) recorder c))
    (λ j l. r.output_same c e j (none_shared (state_of eight (since s h)) c j)))
