-- Document 02, Ask 9: what the question says of any memory, sound or not. Where neither refusal applies the answer is the search's, which
-- is the least position and nothing else (LeastPosition.antt); and it goes by the used blocks alone, one after the other.
-- Assumes nothing.
use mathlib.Core.Path.{◌≡◌, refl, sym, ap, ◌∙◌}
use mathlib.Core.Logic.{◌≢◌, ◌↔◌}
use mathlib.Core.Bool.{Bool, true, false, ◌&&◌, ◌||◌, true≢false}
use mathlib.Core.List.{List, [], ◌∷◌}
use mathlib.Core.Option.{Option, none, some}
use Prim.Native.Nat.{ℕ, zero, suc, ◌+◌, ◌*◌, ◌≤◌, ◌<◌}
use native.Mathlib.Omega.{arith}
use lib.Dec.{ltb, eqb}
use lib.ListN.{length}
use borrow.Author.Tests.{le-ltb, ltb-false, eqb-false}
use Rattle.laws.specs.Tests.{numbers_of, InOrder, first_of}
use Rattle.laws.specs.Lists.{at}
use Rattle.laws.proofs.Tests.{case, and_left, and_right}
use Rattle.laws.proofs.Rows.{in_order}
use Rattle.block.specs.Block.{block_size, count, most_samples}
use Rattle.log_model.specs.Log.{block, samples, total}
use Rattle.question.specs.Search.{further, or_else, passed, first_of_block, first_with, crowded, misshapen, first_rows, Told, refused, given, first_told, Least}
use Rattle.log_model.proofs.BlockByBlock.{samples_same, blocks_same, total_more, by_blocks}
use Rattle.question.proofs.LeastPosition.{total_few, shapely, total_less, first_least, least_only}

-- ---- refusals, in the ask's order

-- "15 for .., then 17 for a bit above 23"
pub first_in_order : (log : List ℕ) (used k : ℕ) → (numbers_of (first_rows log used k) ≡ 15 ∷ 17 ∷ []) × InOrder (first_rows log used k)
first_in_order log used k = (refl, in_order (first_rows log used k) refl)

-- ---- an answer that is given

-- the parts of an answer
abbrev is_refused : Told (Option ℕ) → Bool
is_refused (refused n) = true
is_refused (given p) = false

abbrev number_in : Told (Option ℕ) → ℕ
number_in (refused n) = n
number_in (given p) = 0

abbrev place : Told (Option ℕ) → Option ℕ
place (refused n) = none
place (given p) = p

-- it is the search's, and neither refusal applies
pub first_given : (log : List ℕ) (used k : ℕ) {r : Option ℕ} → first_told log used k ≡ given r → (misshapen log used ≡ false) × (k ≤ 23) × (first_with log used k ≡ r)
first_given log used k {r} e = case (misshapen log used)
    (λ t. absurd (true≢false (ap is_refused (rw t at e))))
    (λ t. case (ltb 23 k)
    (λ u. absurd (true≢false (ap is_refused (rw (t, u) at e))))
    (λ u. (t, ltb-false 23 k u, ap place (rw (t, u) at e))))

-- a refusal has a number
pub first_refused_by : (log : List ℕ) (used k : ℕ) {n : ℕ} → first_told log used k ≡ refused n → n ≢ 0
first_refused_by log used k {n} e z = case (eqb (first_of (first_rows log used k)) 0)
    (λ t. true≢false (sym (ap is_refused (rw t at e))))
    (λ t. eqb-false (first_of (first_rows log used k)) 0 t (ap number_in (rw t at e) ∙ z))

-- "Otherwise it answers the first such sample among the blocks not passed over": that, and nothing else
pub first_exactly : (log : List ℕ) (used k : ℕ) → misshapen log used ≡ false → k ≤ 23 → (r : Option ℕ) → (first_told log used k ≡ given r) ↔ Least log used k r
first_exactly log used k shaped small r = (
  (λ e. rw (first_given log used k e).2 at (first_least log k used)),
  (λ least. rw (shaped, le-ltb 23 k small) (ap given (least_only log used k (first_with log used k) r (first_least log k used) least))),
)

-- a position is below a thirty-second of the memory's length
pub first_short : (log : List ℕ) (used k i : ℕ) → first_told log used k ≡ given (some i) → 32 * suc i ≤ length log
first_short log used k i e =
    let (shaped, small, is_it) = first_given log used k e in
    let (fits, uncrowded) = shapely log used shaped in
    let few = total_few log used uncrowded in
    let ((n, j, hit, at_it), least) = rw is_it at (first_least log k used) in
    let there = hit.sample_there in
    let more = total_more log n in
    let before = total_less log (suc n) used hit.used_block in
    omega arith

-- ---- unused blocks

-- what is answered goes by the used blocks alone
crowded_same : (log t : List ℕ) (n : ℕ) → ((i : ℕ) → i < n → block t i ≡ block log i) → crowded t n ≡ crowded log n
unfolding crowded
crowded_same = by_blocks crowded (λ log t. refl) (λ log t n same e. rw (e, same n (omega arith)))

module _ (log t : List ℕ) (k : ℕ) where
  first_same : (n : ℕ) → ((i : ℕ) → i < n → block t i ≡ block log i) → first_with t n k ≡ first_with log n k
  unfolding first_with
  first_same = by_blocks (λ log n. first_with log n k) (λ log t. refl)
      (λ log t n same e. rw (e, samples_same log t n (λ i h. same i (omega arith)), same n (omega arith))) log t

  pub first_unused : (used : ℕ) → length t ≡ length log → block_size * used ≤ length log → ((i : ℕ) → i < block_size * used → at t i ≡ at log i)
      → first_told t used k ≡ first_told log used k
  first_unused used long fits agree =
      let same = blocks_same log t used long fits agree in
      rw (long, crowded_same log t used same, first_same used same)

-- ---- blocks that are passed over

-- "passed over by its count alone": where two memories have the same counts, and each used block that the summary does not exclude in
-- both of them is the same, the answer is the same, whatever else the others hold
module _ (log t : List ℕ) (k : ℕ) where
  counts_total : (n : ℕ) → ((i : ℕ) → i < n → count (block t i) ≡ count (block log i)) → total t n ≡ total log n
  unfolding samples
  counts_total zero same = refl
  counts_total (suc n) same =
      total_more t n ∙ (λ i. counts_total n (λ j h. same j (omega arith)) i + same n (omega arith) i) ∙ sym (total_more log n)

  counts_crowded : (n : ℕ) → ((i : ℕ) → i < n → count (block t i) ≡ count (block log i)) → crowded t n ≡ crowded log n
  unfolding crowded
  counts_crowded zero same = refl
  counts_crowded (suc n) same = λ i. counts_crowded n (λ j h. same j (omega arith)) i || ltb most_samples (same n (omega arith) i)

  -- of one block
  same_first : (i : ℕ) → ((passed k (block t i) && passed k (block log i)) ≡ false → block t i ≡ block log i) → first_of_block k (block t i) ≡ first_of_block k (block log i)
  same_first i same = case (passed k (block t i) && passed k (block log i))
      (λ p. rw (and_left (passed k (block t i)) (passed k (block log i)) p, and_right (passed k (block t i)) (passed k (block log i)) p))
      (λ p. ap (first_of_block k) (same p))

  first_kept : (n : ℕ) → ((i : ℕ) → i < n → count (block t i) ≡ count (block log i))
      → ((i : ℕ) → i < n → (passed k (block t i) && passed k (block log i)) ≡ false → block t i ≡ block log i) → first_with t n k ≡ first_with log n k
  unfolding first_with
  first_kept zero counts same = refl
  first_kept (suc n) counts same =
      let before = first_kept n (λ i h. counts i (omega arith)) (λ i h. same i (omega arith)) in
      let many = counts_total n (λ i h. counts i (omega arith)) in
      λ i. or_else (before i) (further (many i) (same_first n (same n (omega arith)) i))

  pub first_by_count : (used : ℕ) → length t ≡ length log → ((i : ℕ) → i < used → count (block t i) ≡ count (block log i))
      → ((i : ℕ) → i < used → (passed k (block t i) && passed k (block log i)) ≡ false → block t i ≡ block log i)
      → first_told t used k ≡ first_told log used k
  first_by_count used long counts same = rw (long, counts_crowded used counts, first_kept used counts same)
