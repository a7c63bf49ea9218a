-- What a reset leaves, place by place: below 640 the runs that are brought, emptied and set, laid over each other, are the model's fresh
-- memory; above it both records are 0, so that their counts are too.
-- Assumes nothing.
use Rattle.std.specs.Prelude.{if◌then◌else◌}
use mathlib.Core.Path.{◌≡◌, refl, sym, ap, ◌∙◌}
use mathlib.Core.Bool.{not}
use mathlib.Core.List.{List, [], ◌∷◌}
use Prim.Native.Nat.{ℕ, ◌+◌, ◌*◌, ◌≤◌, ◌<◌}
use native.Mathlib.Omega.{arith}
use lib.ListN.{length, set, get_or, drop}
use Rattle.std.proofs.Common.{add-one}
use Rattle.std.proofs.Math.Seq.{drop-cons}
use borrow.Author.Tests.{eq-eqb}
use Rattle.laws.specs.Tests.{Run, ◌to◌, first_of}
use Rattle.laws.specs.Lists.{at, patch, sum}
use Rattle.laws.specs.Bits.{bit}
use Rattle.laws.proofs.Tests.{if_not, covers_in}
use Rattle.laws.proofs.Lists.{patch_length, patch_at, patch_below}
use Rattle.laws.proofs.Fronts.{front_in, front_over, front_set}
use Rattle.laws.proofs.Runs.{overlaid, overlaid_front}
use Rattle.ports.specs.Bytes
use Rattle.ports.specs.Effects
use Rattle.ports.specs.Interrupt
use Rattle.ports.specs.Modules
use Rattle.ports.proofs.Left
use Rattle.address.specs.declared.registers.Register.{Register}
use Rattle.address.specs.Meaning.{held_at, length_of}
use Rattle.model.specs.Ports.{Port, reset}
use Rattle.model.specs.Map.{memory_size, record_size, state_size, base, status_at}
use Rattle.model.specs.Refusals.{reset_rows}
use Rattle.model.specs.Reset.{emptied, in_page02, fresh}
use Rattle.model.specs.Module.{document01}
use Rattle.model.specs.Bytes.{state_of, bytes_of, refusal_of}
use Rattle.model.specs.Outcomes.{Reported}
use Rattle.model.proofs.Names.{done}
use Rattle.model.proofs.Bytes.{base_fits, bytes_by_part, memory_at}
use Rattle.model.proofs.Begun.{taken_size}
use Rattle.model.proofs.Lawful.{lawful}

-- of a state of the right length the image alone decides
pub image_checked : (s img : List ℕ) {r : ℕ} → length s ≡ state_size → r ≡ first_of (reset_rows img) → r ≡ refusal_of s (reset img)
unfolding Bytes.refusal_of Bytes.rows_of Modules.rows
image_checked s img long e = rw (eq-eqb (length s) state_size long) e

-- ---- the memory

-- registers emptied one after the other
abbrev pub wiped : List Register → List ℕ → List ℕ
wiped [] s = s
wiped (r ∷ rs) s = wiped rs (patch (held_at r) (length_of r) (λ j. 0) s)

-- one more
pub wiped_next : (rs : List Register) (k : ℕ) (d : Register) (t u s : List ℕ) → k < length rs
    → u ≡ patch (held_at (get_or rs k d)) (length_of (get_or rs k d)) (λ j. 0) t → wiped (drop k rs) t ≡ s → wiped (drop (k + 1) rs) u ≡ s
wiped_next rs k d t u s h e f =
    let rest : drop k rs ≡ get_or rs k d ∷ drop (k + 1) rs = rw add-one (drop-cons rs k d h) in
    rw e (rw rest at f)

-- the runs that are brought, and those that are emptied: the code's, the last one first
abbrev pub brought_runs : List Run
brought_runs = 512 to 639 ∷ 0 to 383 ∷ []

abbrev pub emptied_runs : List Run
emptied_runs = 626 to 631 ∷ 127 to 127 ∷ 119 to 126 ∷ 100 to 104 ∷ 22 to 57 ∷ 3 to 14 ∷ []

module _ (s : List ℕ) (long : length s ≡ state_size) where
  pub empty_all : overlaid (λ i. 0) emptied_runs s ≡ patch 0 memory_size (λ i. if emptied i then 0 else at s i) s
  unfolding emptied
  empty_all = overlaid_front (λ i. 0) s emptied_runs memory_size emptied state_size long refl

  module _ (img : List ℕ) where
    pub bring_all : overlaid (at img) brought_runs s ≡ patch 0 memory_size (λ i. if in_page02 i then at s i else at img i) s
    bring_all = overlaid_front (at img) s brought_runs memory_size (λ i. not (in_page02 i)) state_size long refl ∙ simp if_not

    -- byte 2 comes last
    pub restore_all : (t : List ℕ) → t ≡ patch 0 memory_size (λ i. if in_page02 i then at s i else at img i) s
        → set (patch 0 memory_size (λ i. if emptied i then 0 else at t i) t) status_at (bit 2 (at img status_at) * 4 + 1)
        ≡ patch 0 memory_size (λ i. fresh img i (at s i)) s
    unfolding fresh
    restore_all t e =
        let z : bit 2 (at img status_at) * 4 + 1 ≡ v = omega arith in
        let u : List ℕ = patch 0 memory_size (λ i. if emptied i then 0 else at t i) t in
        let room : memory_size ≤ length s = omega arith in
        let same : length u ≡ length s = patch_length 0 memory_size (λ i. if emptied i then 0 else at t i) t ∙ ap length e ∙ patch_length 0 memory_size (λ i. if in_page02 i then at s i else at img i) s in
        let empty : u ≡ patch 0 memory_size (λ i. if emptied i then 0 else (if in_page02 i then at s i else at img i)) s = front_over memory_size s room e refl (λ j l x. rw x) in
        rw z (front_over memory_size s room empty (front_set memory_size u (omega arith) status_at v (omega arith)) (λ j l x. rw x))
      where
        v : ℕ
        v = 4 * bit 2 (at img status_at) + 1

-- ---- the whole

-- u is what restoring leaves, and t is u with both records emptied
module _ (s img : List ℕ) (taken : refusal_of s (reset img) ≡ 0) (t u : List ℕ)
    (eu : u ≡ patch 0 memory_size (λ i. fresh img i (at s i)) s) (et : t ≡ patch memory_size (2 * record_size) (λ j. 0) u) where
  long_u : length u ≡ state_size
  long_u = ap length eu ∙ patch_length 0 memory_size (λ i. fresh img i (at s i)) s ∙ taken_size s (reset img) taken

  memory_is : (i : ℕ) → i < memory_size → at t i ≡ fresh img i (at s i)
  memory_is i h =
      let e = taken_size s (reset img) taken in
      let l = long_u in
      rw et (patch_below memory_size (2 * record_size) (λ j. 0) u i (omega arith) h ∙ rw eu (front_in memory_size (λ i. fresh img i (at s i)) s i h (omega arith)))

  record_is : (p : Port) (k : ℕ) → k < record_size → at t (base p + k) ≡ 0
  record_is p k h =
      let b = base_fits p k h in
      let l = long_u in
      rw et (patch_at memory_size (2 * record_size) (λ j. 0) u (base p + k) (omega arith) ∙ rw (covers_in memory_size (2 * record_size) (base p + k) (omega arith) (omega arith)))

  bytes_are : t ≡ bytes_of (done (state_of s) (reset img))
  unfolding Effects.done
  bytes_are =
      bytes_by_part (done (state_of s) (reset img)) t (ap length et ∙ patch_length memory_size (2 * record_size) (λ j. 0) u ∙ long_u)
      (λ i h. memory_is i h ∙ sym (ap (fresh img i) (memory_at s i h))) record_is

  pub reset_done : Reported s (reset img) 0 0 0 t
  reset_done = Left.reset_done document01 lawful s img taken (unfold Interrupt.count_of sum in refl) t bytes_are
