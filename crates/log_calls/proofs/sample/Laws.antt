-- The sample at a position in the steps of the functions: after i blocks `left` is how far the position is above their samples, so the
-- sample is in the next block if that has more than `left`, and else that block's count is taken off.
-- Assumes nothing.
use Rattle.std.proofs.Common.{◌≡◌, ℕ, ◌+◌, ◌-◌, ◌*◌, ◌≤◌, ◌<◌, true, false, not, ◌&&◌, leb, List, [], ◌∷◌, length, get_or, refl, sym, ap, ◌∙◌, add-one, arith, le-leb}
use Rattle.std.specs.List.{concat}
use Rattle.std.specs.Simd.{first_chunks}
use denote.Ref.{Bor}
use borrow.Author.Tests.{lt-leb, leb-false, not-true}
use Rattle.laws.specs.Tests.{first_of}
use Rattle.laws.specs.Lists.{part}
use Rattle.laws.proofs.Tests.{and_left, and_right, or_left}
use Rattle.laws.proofs.Rows.{first_none}
use Rattle.block.specs.Block.{block_size, sample_size, count, slot, Bytes}
use Rattle.log_model.specs.Log.{block, samples, total, place_of, misfit, unsound, sample_rows}
use Rattle.log_model.specs.Outcomes.{sample_refusal, Placed, Shown}
use Rattle.log_model.proofs.BlockByBlock.{total_more}
use Rattle.log_model.proofs.Fits.{fit}
use Rattle.log_model.proofs.Positions.{place_found, sample_lies}
use Rattle.log_calls.proofs.Blocks.{Whole, joined_block, cut_total, cut_place}
use Rattle.log_calls.proofs.walk.Laws.{at_most}

-- ---- positions: i blocks have been passed over, and `left` is what the position has beyond their samples

pub none_yet : (log : List ℕ) → total log 0 ≡ 0
unfolding samples
none_yet log = refl

module _ (bs : List (List ℕ)) (i left k : ℕ) (gone : total (concat bs) i + left ≡ k) where
  module _ (whole : Whole bs) (here : i < length bs) where
    same : count (block (concat bs) i) ≡ count (get_or bs i [])
    same = ap count (joined_block bs whole i here)

    pub found_here : left < count (get_or bs i []) → (k < total (concat bs) (length bs)) × (block_size * i + 5 + sample_size * left ≡ place_of (concat bs) (length bs) k)
    found_here h =
        let e = same in
        let (less, place) = place_found (concat bs) (length bs) i k here (omega arith) (omega arith) in
        let z : k - total (concat bs) i ≡ left = omega arith in
        let y : block_size * i + 5 + sample_size * left ≡ block_size * i + slot left = omega arith in
        (less, y ∙ sym (rw z at place))

    pub passed_on : count (get_or bs i []) ≤ left → total (concat bs) (i + 1) + (left - count (get_or bs i [])) ≡ k
    passed_on h =
        let e = same in
        let m = total_more (concat bs) i in
        rw add-one (omega arith)

-- ---- the sample at a position of a log

module _ (log : List ℕ) (used k : ℕ) where
  module _ {bs : List (List ℕ)} (given : (unsound log used ≡ false) × (bs ≡ first_chunks block_size used log)) where
    fits : misfit log used ≡ false
    fits = or_left (misfit log used) _ given.0

    same_total : total (concat bs) (length bs) ≡ total log used
    same_total = cut_total log used given.1 fits

    pub placed : Bytes log → (s : ℕ) → (k < total (concat bs) (length bs)) × (s ≡ place_of (concat bs) (length bs) k)
        → Placed log used k 0 s × (s < 2199023255552)
    placed bytes s (there, e) =
        let f = fit log used given.0 in
        let d = same_total in
        let p : s ≡ place_of log used k = e ∙ cut_place log used given.1 fits k in
        let n = at_most log used bytes f in
        let l = (sample_lies log used k f.fits f.good (omega arith)).0 in
        let less : leb (total log used) k ≡ false = lt-leb (total log used) k (omega arith) in
        let z : 0 ≡ sample_refusal log used k = λ i. first_of ((15, sym given.0 i) ∷ (17, sym less i) ∷ []) in
        (record { refusal_is = z; start_is = rw (← z) p }, omega arith)

    pub none_there : (n : ℕ) → (total (concat bs) (length bs) ≤ k) × (n ≡ 17) → Placed log used k n 0
    none_there n (past, e) =
        let d = same_total in
        let more : leb (total log used) k ≡ true = le-leb (total log used) k (omega arith) in
        let z : 17 ≡ sample_refusal log used k = λ i. first_of ((15, sym given.0 i) ∷ (17, sym more i) ∷ []) in
        record { refusal_is = e ∙ z; start_is = rw (← z) }

-- ---- the bytes that are shown

module _ (log : Bor (List ℕ)) (used k : ℕ) {s : ℕ} (here : Placed log.now used k 0 s) where
  found : sample_refusal log.now used k ≡ 0
  found = sym here.refusal_is

  start : s ≡ place_of log.now used k
  start = here.start_is ∙ rw found

  lies : (place_of log.now used k + sample_size ≤ length log.now) × (part (place_of log.now used k) sample_size log.now ≡ get_or (samples log.now used) k [])
  lies =
      let all = (first_none (sample_rows log.now used k) refl).0 found in
      let u = unsound log.now used in
      let b = leb (total log.now used) k in
      let f = fit log.now used (not-true u (and_left (not u) (not b && true) all)) in
      let l = leb-false (total log.now used) k (not-true b (and_left (not b) true (and_right (not u) (not b && true) all))) in
      let h = f.fits in
      let (m, bytes) = sample_lies log.now used k h f.good l in
      (omega arith, bytes)

  -- it lies inside the log
  pub view_fits : s + sample_size ≤ length log.now
  view_fits = rw start lies.0

  pub view_found : {v : Bor (List ℕ)} → v.now ≡ part s (s + sample_size - s) log.now → v.ref_ptr ≡ (log.ref_ptr.0, s + log.ref_ptr.1) → Shown log used k v
  view_found p q =
      let z : s + sample_size - s ≡ sample_size = omega arith in
      record { bytes_are = rw (z, start) at p ∙ rw found lies.1; place_is = λ d. rw start at q }
