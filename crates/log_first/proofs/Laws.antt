-- The search in the steps of the functions: while nothing is found the answer is none, and stays so with one block more in which there is
-- none; once something is found, no later block changes the answer.
-- Assumes nothing.
use Rattle.std.proofs.Common.{◌≡◌, ℕ, zero, suc, ◌+◌, ◌-◌, ◌*◌, ◌/◌, ◌≤◌, ◌<◌, ◌↔◌, Bool, true, false, not, ltb, eqb, List, [], length, get_or, take, drop, length-drop, refl, sym, ap, ◌∙◌, add-one, arith, Some, None, ltb-true, ltb-false, le-ltb, eqb-true}
use Rattle.std.specs.Prelude.{Option as Answer, MatchOption, if◌then◌else◌}
use Rattle.std.specs.Simd.{first_chunks}
use Rattle.std.specs.List.{concat}
use mathlib.Core.Option.{none, some}
use borrow.Author.Tests.{lt-ltb, eqb-false}
use Rattle.laws.specs.Lists.{at, part}
use Rattle.laws.proofs.Tests.{case}
use Rattle.laws.proofs.Lists.{part_at}
use Rattle.block.specs.Block.{block_size, count, most_samples, room_end, samples_in}
use Rattle.block.proofs.Blocks.{samples_length}
use Rattle.log_model.specs.Log.{block, total, misfit}
use Rattle.question.specs.Search.{lit, first_in, FirstIs, passed, first_of_block, first_with, crowded, refused, given, first_told}
use Rattle.question.proofs.EverySample.{first_is, first_only}
use Rattle.question.proofs.LeastPosition.{crowded_block, total_few}
use lib.Seq.{get_or-drop, take-length}
use Rattle.std.proofs.lemmas.List.{drop-drop}
use Rattle.log_model.proofs.Fits.{fitting}
use Rattle.log_model.proofs.BlockByBlock.{by_blocks, samples_same, total_more}
use Rattle.log_calls.proofs.Blocks.{Whole, joined_block, cut_length, cut_same}
use Rattle.log_first.specs.Meaning.{found}

same_false : (a b : Bool) → (a ≡ false → b ≡ false) → (b ≡ false → a ≡ false) → a ≡ b
same_false true true f g = refl
same_false true false f g = g refl
same_false false b f g = sym (f refl)

-- ---- one block

-- what the library says of its search of a list
pub first_said : (k : ℕ) (xs : List (List ℕ)) (r : Answer ℕ) → MatchOption r (FirstIs k xs none) (λ i. FirstIs k xs (some i)) → found r ≡ first_in k xs
first_said k xs None says = first_only k xs none (first_in k xs) says (first_is k xs)
first_said k xs (Some i) says = first_only k xs (some i) (first_in k xs) says (first_is k xs)

-- the summary's three bytes, a part of the block
pub passed_marked : (k : ℕ) (b : List ℕ) → length b ≡ block_size → k < 24 → at b 504 ≡ 1 → not (lit k (part room_end 3 b)) ≡ passed k b
passed_marked k b long small e = rw (part_at room_end 3 b (omega arith) (k / 8) (omega arith), e)

-- ---- counts of blocks in a row

uncrowded : (log : List ℕ) (n : ℕ) → ((i : ℕ) → i < n → count (block log i) ≤ most_samples) → crowded log n ≡ false
unfolding crowded
uncrowded log zero few = refl
uncrowded log (suc n) few =
    rw (uncrowded log n (λ i h. few i (omega arith)), le-ltb most_samples (count (block log n)) (few n (omega arith)))

-- the counts of the first n
abbrev pub Few : List (List ℕ) → ℕ → Type 0
Few bs n = (i : ℕ) → i < n → count (get_or bs i []) ≤ most_samples

few_if : (bs : List (List ℕ)) → Whole bs → (n : ℕ) → n ≤ length bs → crowded (concat bs) n ≡ false → Few bs n
few_if bs whole n h e i l = rw (← joined_block bs whole i (omega arith)) (crowded_block (concat bs) n i l e)

few_then : (bs : List (List ℕ)) → Whole bs → (n : ℕ) → n ≤ length bs → Few bs n → crowded (concat bs) n ≡ false
few_then bs whole n h few = uncrowded (concat bs) n (λ i l. rw (joined_block bs whole i (omega arith)) (few i l))

module _ (bs : List (List ℕ)) (whole : Whole bs) where
  pub few_counts : {t : Bool} → (t ≡ false) ↔ Few bs (length bs) → t ≡ crowded (concat bs) (length bs)
  few_counts {t} p =
      same_false t (crowded (concat bs) (length bs))
      (λ q. few_then bs whole (length bs) (omega arith) (p.0 q)) (λ q. p.1 (few_if bs whole (length bs) (omega arith) q))

  module _ (i : ℕ) (here : i < length bs) (before : crowded (concat bs) i ≡ false) (few : count (get_or bs i []) ≤ most_samples) where
    few_more : crowded (concat bs) (i + 1) ≡ false
    few_more = few_then bs whole (i + 1) (omega arith) (λ j h. case (eqb j i)
        (λ t. rw (eqb-true j i t) few)
        (λ t. let d = eqb-false j i t in few_if bs whole i (omega arith) before j (omega (arith, d))))

    -- only the blocks behind it are left to ask
    few_behind : crowded (concat (drop (i + 1) bs)) (length (drop (i + 1) bs)) ≡ crowded (concat bs) (length bs)
    few_behind =
        let l : length (drop (i + 1) bs) ≡ length bs - (i + 1) = length-drop (i + 1) bs in
        let at_rest : (j : ℕ) → get_or (drop (i + 1) bs) j [] ≡ get_or bs (i + 1 + j) [] = λ j. get_or-drop (i + 1) bs j [] in
        let rest : Whole (drop (i + 1) bs) = λ j h. rw at_rest (whole (i + 1 + j) (omega arith)) in
        same_false (crowded (concat (drop (i + 1) bs)) (length (drop (i + 1) bs))) (crowded (concat bs) (length bs))
        (λ t. few_then bs whole (length bs) (omega arith) (λ j h. case (ltb i j)
        (λ q. let m = ltb-true i j q in let z : i + 1 + (j - (i + 1)) ≡ j = omega arith in
        rw (at_rest (j - (i + 1)), z) at (few_if (drop (i + 1) bs) rest (length (drop (i + 1) bs)) (omega arith) t (j - (i + 1)) (omega arith)))
        (λ q. let m = ltb-false i j q in few_if bs whole (i + 1) (omega arith) few_more j (omega arith))))
        (λ t. few_then (drop (i + 1) bs) rest (length (drop (i + 1) bs)) (omega arith)
        (λ j h. rw at_rest (few_if bs whole (length bs) (omega arith) t (i + 1 + j) (omega arith))))

-- ---- the first in blocks in a row

-- a sample that is found stays the first
with_later : (log : List ℕ) (k i n p : ℕ) → i < n → first_with log (suc i) k ≡ some p → first_with log n k ≡ some p
unfolding first_with
with_later log k i zero p h e = absurd (omega arith)
with_later log k i (suc n) p h e = case (eqb i n)
    (λ t. rw (← eqb-true i n t) e)
    (λ t. let d = eqb-false i n t in rw (with_later log k i n p (omega (arith, d)) e))

-- the first of a block's samples is one of them
first_below : (k : ℕ) (b : List ℕ) {j : ℕ} → some j ≡ first_of_block k b → j < count b
first_below k b {j} e = case (passed k b)
    (λ t. absurd (some_none (rw t at e)))
    (λ t. let d : some j ≡ first_in k (samples_in b) = rw t at e in rw (samples_length b (count b)) at (rw (← d) at (first_is k (samples_in b))).0)
  where
    some_none : some j ≡ none → ⊥
    some_none q = cc

-- what is known once `number` of the blocks are gone through, and `rest` is left: their samples are `before`, none has the bit, and no
-- count is above 16
pub record Gone (bs rest : List (List ℕ)) (k before : ℕ) : Type 0 where
  pub number : ℕ
  pub inside : number ≤ length bs
  pub rest_is : rest ≡ drop number bs
  pub before_is : before ≡ total (concat bs) number
  pub none_yet : first_with (concat bs) number k ≡ none
  pub quiet : crowded (concat bs) number ≡ false

module _ (bs : List (List ℕ)) {rest : List (List ℕ)} {k before : ℕ} (gone : Gone bs rest k before) where
  left : length rest ≡ length bs - gone.number
  left = ap length gone.rest_is ∙ length-drop gone.number bs

  -- the next block, of which the count is n
  module _ (whole : Whole bs) (some_left : 1 ≤ length rest) {n : ℕ} (counted : n ≡ count (get_or rest 0 [])) where
    here : gone.number < length bs
    here = let l = left in omega arith

    next : get_or rest 0 [] ≡ get_or bs gone.number []
    next = let z : gone.number + 0 ≡ gone.number = omega arith in rw (gone.rest_is, get_or-drop gone.number bs 0 [], z)

    block_is : block (concat bs) gone.number ≡ get_or rest 0 []
    block_is = joined_block bs whole gone.number here ∙ sym next

    behind : take (length rest - 1) (drop 1 rest) ≡ drop (gone.number + 1) bs
    behind = rw (← length-drop 1 rest, take-length (drop 1 rest), gone.rest_is, drop-drop 1 gone.number bs)

    pub crowded_here : most_samples < n → crowded (concat bs) (length bs) ≡ true
    crowded_here h = case (crowded (concat bs) (length bs))
        (λ t. t)
        (λ t. let e = next in let l = rw (← next) at (few_if bs whole (length bs) (omega arith) t gone.number here) in absurd (omega arith))

    module _ (few : n ≤ most_samples) where
      few_here : count (get_or bs gone.number []) ≤ most_samples
      few_here = rw (← next, ← counted) few

      pub count_fits : before + n ≤ block_size * length bs
      count_fits =
          let h = total_few (concat bs) gone.number gone.quiet in
          let l = here in
          let e = gone.before_is in
          omega arith

      -- none of its samples has the bit
      pub gone_on : none ≡ first_of_block k (get_or rest 0 []) → Gone bs (take (length rest - 1) (drop 1 rest)) k (before + n)
      unfolding first_with
      gone_on e =
          let l = here in
          let m : total (concat bs) (gone.number + 1) ≡ total (concat bs) gone.number + count (get_or rest 0 []) = rw (add-one, ← block_is) (total_more (concat bs) gone.number) in
          let b = gone.before_is in
          record {
            number = gone.number + 1;
            inside = omega arith;
            rest_is = behind;
            before_is = omega arith;
            none_yet = rw (add-one, gone.none_yet, block_is, ← e);
            quiet = few_more bs whole gone.number here gone.quiet few_here;
          }

      -- the first that has it is the block's sample j
      module _ {j : ℕ} (first : some j ≡ first_of_block k (get_or rest 0 [])) where
        pub position_fits : before + j ≤ block_size * length bs
        position_fits =
            let h = count_fits in
            let l = first_below k (get_or rest 0 []) first in
            omega arith

        pub found_here : (if crowded (concat (take (length rest - 1) (drop 1 rest))) (length (take (length rest - 1) (drop 1 rest))) then refused 15 else given (some (before + j)))
            ≡ (if crowded (concat bs) (length bs) then refused 15 else given (first_with (concat bs) (length bs) k))
        unfolding first_with
        found_here =
            let p : first_with (concat bs) (length bs) k ≡ some (total (concat bs) gone.number + j) =
            with_later (concat bs) k gone.number (length bs) (total (concat bs) gone.number + j) here (rw (gone.none_yet, block_is, ← first)) in
            rw (behind, few_behind bs whole gone.number here gone.quiet few_here, p, gone.before_is)

-- ---- answers, in the order of the function's tests

crowded_same : (log t : List ℕ) (n : ℕ) → ((i : ℕ) → i < n → block t i ≡ block log i) → crowded t n ≡ crowded log n
unfolding crowded
crowded_same = by_blocks crowded (λ log t. refl) (λ log t n same e. rw (e, same n (omega arith)))

first_same : (k : ℕ) (log t : List ℕ) (n : ℕ) → ((i : ℕ) → i < n → block t i ≡ block log i) → first_with t n k ≡ first_with log n k
unfolding first_with
first_same k = by_blocks (λ log n. first_with log n k) (λ log t. refl)
    (λ log t n same e. rw (e, samples_same log t n (λ i h. same i (omega arith)), same n (omega arith)))

module _ (log : List ℕ) (used k : ℕ) {bs : List (List ℕ)} (cut : (misfit log used ≡ false) × (bs ≡ first_chunks block_size used log)) where
  same : (i : ℕ) → i < used → block (concat bs) i ≡ block log i
  same = cut_same log used cut.1 (let h = (fitting log used cut.0).1 in omega arith)

  counts : crowded (concat bs) (length bs) ≡ crowded log used
  counts = rw (cut_length log used cut.1) (crowded_same log (concat bs) used same)

  pub answered : k < 24 → (if crowded (concat bs) (length bs) then refused 15 else given (first_with (concat bs) (length bs) k)) ≡ first_told log used k
  answered h =
      let e : first_with (concat bs) (length bs) k ≡ first_with log used k = rw (cut_length log used cut.1) (first_same k log (concat bs) used same) in
      rw (counts, e) (case (crowded log used) (λ t. rw (cut.0, t)) (λ t. rw (cut.0, t, le-ltb 23 k (omega arith))))

  pub crowded_first : crowded (concat bs) (length bs) ≡ true → refused 15 ≡ first_told log used k
  crowded_first t = rw (cut.0, sym counts ∙ t)

  pub bit_refused : crowded (concat bs) (length bs) ≡ false → 24 ≤ k → refused 17 ≡ first_told log used k
  bit_refused t h = rw (cut.0, sym counts ∙ t, lt-ltb 23 k (omega arith))
