-- An accepted call is on 688 bytes and leaves the bytes of the model's step, as for any lawful module: so from an accepted reset on the
-- bytes' state is that of the model's run, and only another accepted reset changes what lasts (Lasting.antt).
-- Assumes nothing.
use mathlib.Core.Path.{◌≡◌, refl, ap, ◌∙◌}
use mathlib.Core.List.{List}
use mathlib.Core.Bool.{true, false, ◌&&◌}
use Prim.Native.Nat.{ℕ}
use lib.Dec.{eqb}
use lib.ListN.{length}
use borrow.Author.Tests.{eqb-true, not-true, not-false}
use Rattle.laws.specs.Lists.{part}
use Rattle.laws.proofs.Tests.{and_left, and_right}
use Rattle.laws.proofs.Rows.{first_none}
use Rattle.ports.specs.Modules
use Rattle.ports.specs.Effects
use Rattle.ports.specs.Bytes
use Rattle.ports.proofs.Steps
use Rattle.model.specs.Ports.{State, Call, reset}
use Rattle.model.specs.Map.{memory_size, state_size, page_size}
use Rattle.model.specs.Reset.{codes_right}
use Rattle.model.specs.Refusals.{accepted}
use Rattle.model.specs.Module.{document01}
use Rattle.model.specs.Demands.{is_reset}
use Rattle.model.specs.Calls.{step, Calls, run}
use Rattle.model.specs.Bytes.{memory_of, state_of, rows_of, refusal_of, after, runs}
use Rattle.model.proofs.Names.{done}
use Rattle.model.proofs.Bytes.{refusal_long, state_after}
use Rattle.model.proofs.Lasting.{Lasts, step_lasts}
use Rattle.model.proofs.Sound.{Good}
use Rattle.model.proofs.Lawful.{lawful}

-- a call that isn't refused is on 688 bytes
pub taken_size : (s : List ℕ) (c : Call) → refusal_of s c ≡ 0 → length s ≡ state_size
taken_size = Steps.taken_size document01 lawful

-- and the model takes it too
pub taken_state : (s : List ℕ) (c : Call) → refusal_of s c ≡ 0 → accepted (state_of s) c ≡ true
taken_state = Steps.taken_state document01 lawful

-- the memory that it leaves
pub taken_memory : (s : List ℕ) (c : Call) → refusal_of s c ≡ 0 → memory_of (after s c) ≡ (done (state_of s) c).mem
unfolding Bytes.state_of Effects.step
taken_memory s c e = ap (λ (m : State). m.mem) (state_after s c (taken_size s c e)) ∙ rw (taken_state s c e)

-- what lasts but for an accepted reset
pub after_lasts : (s : List ℕ) (c : Call) → length s ≡ state_size → (eqb (refusal_of s c) 0 && is_reset c) ≡ false → Lasts (state_of (after s c)).mem (state_of s).mem
after_lasts s c e r = rw (state_after s c e) (step_lasts (state_of s) c (rw (refusal_long s c e) at r))

module _ (s img : List ℕ) (begun : refusal_of s (reset img) ≡ 0) where
  -- the image has 640 bytes, and its check codes are right
  pub begun_image : (length img ≡ memory_size) × (codes_right (part page_size page_size img) ≡ true)
  unfolding Bytes.refusal_of Bytes.rows_of Modules.rows
  begun_image = let n = (first_none (rows_of s (reset img)) refl).0 begun in search (and_left, and_right, eqb-true, not-true, not-false)

  pub begun_size : length (after s (reset img)) ≡ state_size
  begun_size = Steps.begun_size document01 lawful s img begun

  pub begun_state : state_of (after s (reset img)) ≡ step (state_of s) (reset img)
  begun_state = Steps.begun_state document01 lawful s img begun

  pub begun_good : Good (state_of (after s (reset img)))
  begun_good = Steps.begun_good document01 lawful s img begun

  -- after any history
  pub since_size : (h : Calls) → length (runs (after s (reset img)) h) ≡ state_size
  since_size = Steps.since_size document01 lawful s img begun

  pub since_state : (h : Calls) → state_of (runs (after s (reset img)) h) ≡ run (state_of (after s (reset img))) h
  since_state = Steps.since_state document01 lawful s img begun
