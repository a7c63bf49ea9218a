-- Document 02, Ask 9: what the question says of a sound log. It is what reading every sample says (EverySample.antt), so all is said of
-- the list of samples, and of that Ask 1 tells what reading hands back and what an add, a power-up and any series of calls make of it.
-- Assumes nothing.
use Rattle.std.specs.Prelude.{if◌then◌else◌}
use mathlib.Core.Path.{◌≡◌, sym, ap, ◌∙◌}
use mathlib.Core.Bool.{true, false}
use mathlib.Core.List.{List, [], ◌∷◌, ◌++◌}
use mathlib.Core.Option.{Option, none, some}
use Prim.Native.Nat.{ℕ, suc, ◌+◌, ◌≤◌, ◌<◌}
use native.Mathlib.Omega.{arith}
use lib.Dec.{ltb}
use lib.ListN.{length, get_or}
use denote.Ref.{Bor}
use borrow.Author.Tests.{le-ltb, ltb-false}
use Rattle.laws.specs.Lists.{part}
use Rattle.laws.proofs.Tests.{case}
use Rattle.block.specs.Block.{sample_size, Bytes}
use Rattle.log_model.specs.Log.{blocks, samples, total, after_power_up, after_add, used_after, Fit}
use Rattle.log_model.specs.Outcomes.{add_refusal, power_up_refusal, Added, Opened, Placed, Shown, Known}
use Rattle.question.specs.Search.{lit, or_else, first_in, refused, given, first_told}
use Rattle.log_model.proofs.PowerUps.{power_up_taken, power_up_sound, power_up_samples}
use Rattle.log_model.proofs.Adds.{add_taken, add_sound, add_samples}
use Rattle.log_model.proofs.Positions.{sample_taken, sample_placed}
use Rattle.question.proofs.EverySample.{first_is, first_only, first_append, search_reads}
use Rattle.question.proofs.LeastPosition.{sound_crowded}
use Rattle.question.proofs.AnyMemory.{first_given}

-- ---- a sound log

module _ (log : List ℕ) (used k : ℕ) (was : Fit log used) where
  -- "on a sound log, summaries included, that equals reading every sample"
  pub first_reads : first_told log used k ≡ (if ltb 23 k then refused 17 else given (first_in k (samples log used)))
  first_reads = case (ltb 23 k)
      (λ t. rw (was.whole, le-ltb (blocks log) used was.fits, sound_crowded log used was.good, t))
      (λ t. let h = ltb-false 23 k t in
      rw (was.whole, le-ltb (blocks log) used was.fits, sound_crowded log used was.good, t)
      (ap given (search_reads log used k (omega arith) was.fits was.good)))

  -- where an answer is given
  pub first_given_reads : {r : Option ℕ} → first_told log used k ≡ given r → first_in k (samples log used) ≡ r
  first_given_reads e =
      let (shaped, small, is_it) = first_given log used k e in
      sym (search_reads log used k (omega arith) was.fits was.good) ∙ is_it

  -- so the sample at the position that is answered has the bit, and none before it has
  pub first_there : (i : ℕ) → first_told log used k ≡ given (some i)
      → (i < total log used) × (lit k (get_or (samples log used) i []) ≡ true) × ((j : ℕ) → j < i → lit k (get_or (samples log used) j []) ≡ false)
  first_there i e = rw (first_given_reads e) at (first_is k (samples log used))

  -- and where no sample has it, none is answered
  pub first_never : k < 24 → ((j : ℕ) → j < total log used → lit k (get_or (samples log used) j []) ≡ false) → first_told log used k ≡ given none
  first_never small lacks =
      first_reads ∙ rw (le-ltb 23 k (omega arith)) (ap given (first_only k (samples log used) (first_in k (samples log used)) none (first_is k (samples log used)) lacks))

-- the same of the reading call: what it hands back at the position that is answered, and at those before it
module _ (log : Bor (List ℕ)) (used k i : ℕ) (was : Fit log.now used) (e : first_told log.now used k ≡ given (some i)) where
  handed : (j : ℕ) → j ≤ i → {r : Bor (List ℕ)} → Shown log used j r → r.now ≡ get_or (samples log.now used) j []
  handed j h d =
      let l = (first_there log.now used k was i e).0 in
      d.bytes_are ∙ rw (sample_taken log.now used j was (omega arith))

  pub first_read : {r : Bor (List ℕ)} → Shown log used i r → lit k r.now ≡ true
  first_read d = ap (lit k) (handed i (omega arith) d) ∙ (first_there log.now used k was i e).1

  pub first_before : (j : ℕ) → j < i → {r : Bor (List ℕ)} → Shown log used j r → lit k r.now ≡ false
  first_before j h d = ap (lit k) (handed j (omega arith) d) ∙ (first_there log.now used k was i e).2 j h

-- and of the place that C is told: the 31 bytes there
module _ (log : List ℕ) (used k i : ℕ) (was : Fit log used) (e : first_told log used k ≡ given (some i)) where
  placed : (j : ℕ) → j ≤ i → {r s : ℕ} → Placed log used j r s → (r ≡ 0) × (part s sample_size log ≡ get_or (samples log used) j [])
  placed j h d = let l = (first_there log used k was i e).0 in sample_placed log used j was (omega arith) d

  pub first_place : {r s : ℕ} → Placed log used i r s → (r ≡ 0) × (lit k (part s sample_size log) ≡ true)
  first_place d = let (z, p) = placed i (omega arith) d in (z, ap (lit k) p ∙ (first_there log used k was i e).1)

  pub first_place_before : (j : ℕ) → j < i → {r s : ℕ} → Placed log used j r s → (r ≡ 0) × (lit k (part s sample_size log) ≡ false)
  first_place_before j h d = let (z, p) = placed j (omega arith) d in (z, ap (lit k) p ∙ (first_there log used k was i e).2 j h)

-- ---- what the calls make of the answer

-- with one sample more it changes only from none to that sample's position
first_more : (k : ℕ) (xs : List (List ℕ)) (x : List ℕ) → first_in k (xs ++ (x ∷ [])) ≡ or_else (first_in k xs) (if lit k x then some (length xs) else none)
unfolding first_in
first_more k xs x = first_append k xs (x ∷ []) ∙ ap (or_else (first_in k xs)) (case (lit k x)
    (λ t. let z : length xs + 0 ≡ length xs = omega arith in rw (t, z))
    (λ t. rw t))

module _ (log : List ℕ) (used : ℕ) (x : List ℕ) {r a : ℕ} {u : List ℕ} (k : ℕ) (bytes : Bytes log) (d : Added log used x r a u) (taken : r ≡ 0) where
  accepted : add_refusal log used x ≡ 0
  accepted = sym d.refusal_is ∙ taken

  -- from the answer before to the answer after
  first_added : {p : Option ℕ} → first_told log used k ≡ given p → first_told u a k ≡ given (or_else p (if lit k x then some (total log used) else none))
  first_added {p} e =
      let (long, was, free) = add_taken log used x accepted in
      let small = (first_given log used k e).1 in
      rw (d.log_is, d.used_is, accepted)
      (first_reads (after_add log used x) (used_after log used) k (add_sound log used x accepted bytes)
      ∙ rw (le-ltb 23 k small) (ap given (ap (first_in k) (add_samples log used x accepted bytes) ∙ first_more k (samples log used) x
      ∙ ap (λ q. or_else q (if lit k x then some (total log used) else none)) (first_given_reads log used k was e))))

  pub first_stays : (i : ℕ) → first_told log used k ≡ given (some i) → first_told u a k ≡ given (some i)
  first_stays i e = first_added e

  pub first_comes : first_told log used k ≡ given none → first_told u a k ≡ given (if lit k x then some (total log used) else none)
  first_comes e = first_added e

-- a power-up changes no answer
pub first_powered : (log : List ℕ) (used : ℕ) {r a : ℕ} {u : List ℕ} (k : ℕ) → Bytes log → Opened log used r a u → r ≡ 0 → first_told u a k ≡ first_told log used k
first_powered log used k bytes d taken =
    let accepted : power_up_refusal log used ≡ 0 = sym d.refusal_is ∙ taken in
    let (was, free) = power_up_taken log used accepted in
    rw (d.log_is, d.used_is, accepted)
    (first_reads (after_power_up log used) (suc used) k (power_up_sound log used bytes was free)
    ∙ ap (λ xs. if ltb 23 k then refused 17 else given (first_in k xs)) (power_up_samples log used bytes was free)
    ∙ sym (first_reads log used k was))

-- over any series of calls on a sound log: the first of its samples and the accepted ones that has the bit
pub kept_first : {log : List ℕ} {from : ℕ} {xs : List (List ℕ)} {t : List ℕ} {n : ℕ} → Known log from xs t n → (k : ℕ) → first_told t n k ≡ (if ltb 23 k then refused 17 else given (first_in k xs))
kept_first {t = t} {n = n} known k = first_reads t n k known.fit ∙ ap (λ l. if ltb 23 k then refused 17 else given (first_in k l)) known.samples_are
