-- What an add and a power-up leave, in the steps of the functions: a block that is lent and comes back is a block that is put, and one
-- that is opened and then grows is put twice at one place, which is once.
-- Assumes nothing.
use Rattle.std.proofs.Common.{◌≡◌, ℕ, suc, ◌+◌, ◌-◌, ◌*◌, ◌≤◌, ◌<◌, Bool, true, false, not, ◌&&◌, leb, List, [], ◌∷◌, ◌++◌, length, take, drop, refl, sym, ap, ◌∙◌, arith, eq-eqb}
use Rattle.std.specs.Prelude.{if◌then◌else◌}
use Rattle.std.specs.List.{concat}
use Rattle.std.specs.Simd.{first_chunks}
use borrow.Author.Tests.{leb-false, eqb-false}
use Rattle.laws.specs.Tests.{first_of}
use Rattle.laws.proofs.Tests.{or_left, or_right}
use Rattle.laws.proofs.Parts.{put_back}
use Rattle.block.specs.Block.{block_size, sample_size, count, most_samples, grown}
use Rattle.block.proofs.Blocks.{fresh_length, fresh_count}
use Rattle.log_model.specs.Log.{blocks, block, unsound, last_number, needs_new, put, none_left, new_block, wrong_sample}
use Rattle.log_model.specs.Outcomes.{add_refusal, Added}
use Rattle.log_model.proofs.Outcomes.{added_new}
use Rattle.log_model.proofs.Adds.{add_room, add_last_room}
use Rattle.log_model.proofs.BlockByBlock.{put_length, put_here, put_put}
use Rattle.log_block.proofs.Chunks.{chunks_front}
use Rattle.log_calls.specs.declared.change.Target.TheVariants.{Last, New}
use Rattle.log_calls.proofs.Blocks.{cut_last}

-- ---- room for a block

module _ (log : List ℕ) (used : ℕ) (e : none_left log used ≡ false) where
  pub room : block_size * used + block_size ≤ length log
  room = let h = leb-false (blocks log) used (or_left (leb (blocks log) used) _ e) in omega arith

  pub last_cut : {bs : List (List ℕ)} → bs ≡ first_chunks block_size (blocks log) log
      → last_number (concat (take used bs)) (length (take used bs)) ≡ last_number log used
  last_cut {bs} cut =
      let h = room in
      cut_last log used (ap (take used) cut ∙ chunks_front block_size used (blocks log) log (omega arith)) (omega arith)

  pub next_fits : {n : ℕ} → n ≡ last_number log used → n < 4294967296 → n + 1 < 4294967296
  next_fits {n} d h = omega (arith, eqb-false (last_number log used) 4294967295 (or_right (leb (blocks log) used) _ e))

-- ---- a block that was lent comes back

pub block_back : (log : List ℕ) (i : ℕ) (b : List ℕ) → block_size * i + block_size ≤ length log → length b ≡ block_size
    → take (block_size * i) log ++ (b ++ drop block_size (drop (block_size * i) log)) ≡ put log i b
unfolding put
block_back log i b h e = put_back (block_size * i) block_size log b h e

-- ---- an add that is accepted, by what is left of its rows and by the block that takes the sample

-- which block it is, by its two cases
last_target : (t : Bool) {i j : ℕ} (k : ℕ) → Last i ≡ (if t then New k else Last j) → (t ≡ false) × (i ≡ j)
last_target true k e = cc
last_target false k e = (refl, cc)

new_target : (t : Bool) {i j : ℕ} (k : ℕ) → New i ≡ (if t then New j else Last k) → (t ≡ true) × (i ≡ j)
new_target true k e = (refl, cc)
new_target false k e = cc

module _ (log : List ℕ) (used : ℕ) (x : List ℕ) (long : length x ≡ sample_size)
    (code : 0 ≡ first_of ((15, unsound log used) ∷ (14, needs_new log used && none_left log used) ∷ [])) where
  taken : 0 ≡ add_refusal log used x
  taken =
      let right : wrong_sample x ≡ false = ap not (eq-eqb (length x) sample_size long) in
      code ∙ λ k. first_of ((8, sym right k) ∷ (15, unsound log used) ∷ (14, needs_new log used && none_left log used) ∷ [])

  -- in the last block
  pub last_room : {i : ℕ} → Last i ≡ (if needs_new log used then New used else Last (used - 1))
      → (block_size * i + block_size ≤ length log) × (count (block log i) < most_samples)
  last_room e =
      let (need, here) = last_target (needs_new log used) used e in
      let (some_used, fits, few) = add_last_room log used x (sym taken) need in
      rw here (fits, few)

  -- in a new block: that is opened, and then grows
  module _ {i : ℕ} (e : New i ≡ (if needs_new log used then New used else Last (used - 1))) {t : List ℕ} (opened : t ≡ put log i (new_block log i)) where
    need : needs_new log used ≡ true
    need = (new_target (needs_new log used) (used - 1) e).0

    at_end : i ≡ used
    at_end = (new_target (needs_new log used) (used - 1) e).1

    made : t ≡ put log used (new_block log used)
    made = rw at_end at opened

    fits : block_size * used + block_size ≤ length log
    fits = add_room log used x (sym taken) need

    here : block (put log used (new_block log used)) used ≡ new_block log used
    here = put_here log used (new_block log used) (fresh_length (suc (last_number log used))) fits

    pub opened_room : (block_size * i + block_size ≤ length t) × (count (block t i) < most_samples)
    opened_room =
        let h = fits in
        let l : length t ≡ length log = ap length made ∙ put_length log used (new_block log used) in
        let c : count (block t used) ≡ 0 = rw (made, here) (fresh_count (suc (last_number log used))) in
        rw at_end (omega arith, omega arith)

    pub opened_added : {u : List ℕ} → u ≡ put t i (grown (block t i) x) → Added log used x 0 (i + 1) u
    opened_added {u} d =
        rw at_end
        (added_new log used x 0 taken refl need u
        (rw (at_end, made, here) at d ∙ put_put log used (new_block log used) (grown (new_block log used) x) fits))
