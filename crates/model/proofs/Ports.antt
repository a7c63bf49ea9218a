-- Laws of a written byte.
-- Assumes nothing.
use mathlib.Core.Path.{◌≡◌, refl}
use mathlib.Core.Logic.{◌⊎◌, ⊎_elim}
use Prim.Native.Nat.{ℕ, ◌+◌, ◌≤◌, ◌<◌}
use native.Mathlib.Omega.{arith}
use lib.Dec.{eqb}
use borrow.Author.Tests.{ne_eqb}
use Rattle.laws.proofs.Tests.{if_both, covers_below, covers_above}
use Rattle.model.specs.Ports.{Places}
use Rattle.model.specs.Map.{flags, low_masks, high_masks, low_mask_of, page_at, record_size, supported}
use Rattle.model.specs.Writing.{Class, no_bits, all, low_four, low_three, high_four, page, own_class, written, entered}

-- nothing writes a byte of a record that is neither mask nor page
pub own_none : (k : ℕ) → (k < flags.many) ⊎ (record_size ≤ k) → own_class k ≡ no_bits
own_none k s =
    rw (
      ne_eqb k (low_mask_of 103) (λ e. ⊎_elim (λ l. omega arith) (λ l. omega arith) s),
      ne_eqb k (low_mask_of 104) (λ e. ⊎_elim (λ l. omega arith) (λ l. omega arith) s),
      ne_eqb k page_at (λ e. ⊎_elim (λ l. omega arith) (λ l. omega arith) s),
      ⊎_elim (λ l. covers_below flags.many (low_masks.many + high_masks.many) k l) (λ l. covers_above flags.many (low_masks.many + high_masks.many) k (omega arith)) s,
    )

pub entered_none : (mem : Places) (j v : ℕ) (o : Places) (k : ℕ) → (k < flags.many) ⊎ (record_size ≤ k) → entered mem own_class j v o k ≡ o k
unfolding written
entered_none mem j v o k s = if_both (eqb k j) (rw (own_none k s)) refl

-- a written byte goes by the supported pages alone
pub written_same : (f g : Places) → ((x : ℕ) → supported f x ≡ supported g x) → (c : Class) (old v : ℕ) → written f c old v ≡ written g c old v
unfolding written
written_same f g e no_bits old v = refl
written_same f g e all old v = refl
written_same f g e low_four old v = refl
written_same f g e low_three old v = refl
written_same f g e high_four old v = refl
written_same f g e page old v = rw (e v)
