-- What a module has to keep, so that all that is proved here of any module holds of it.
-- Assumes nothing.
use mathlib.Core.Path.{◌≡◌}
use mathlib.Core.Bool.{true, false}
use mathlib.Core.List.{List}
use Prim.Native.Nat.{ℕ, ◌≤◌}
use Rattle.laws.specs.Tests.{none_of}
use Rattle.laws.proofs.Rows.{rising}
use Rattle.ports.specs.Ports.{Port, recorder, same, Places, State}
use Rattle.ports.specs.Modules.{Module}
use Rattle.ports.specs.Bytes.{Fits}
use Rattle.ports.proofs.Fence.{fence, Same}

module _ {Image : Type 0} (M : Module Image) where
  -- both records are sound
  pub record Good (m : State) : Type 0 where
    pub both : (p : Port) → M.sound m.mem (m.own p) ≡ true

  pub record Lawful : Type 0 where
    -- an image's refusals come after 1, in order
    pub image_rise : (img : Image) → rising 1 (M.image_rows img) ≡ true
    -- soundness lasts
    pub sound_fresh : (img : Image) (f : Places) → M.sound (M.fresh img f) (λ k. 0) ≡ true
    pub sound_sample : (f : Places) (x : List ℕ) (o : Places) → M.sound f o ≡ true → M.sound (M.stored f x) (M.raised f x o) ≡ true
    pub sound_read : (f : Places) (a n : ℕ) (o : Places) → M.sound f o ≡ true → M.sound f (M.cleared f a n o) ≡ true
    pub sound_puts : (m : State) (p : Port) (a : ℕ) (vs : List ℕ) → Good m → Good (M.puts m p a vs)
    -- the ends stay empty
    pub fresh_end : (img : Image) → none_of (M.image_rows img) ≡ true → (f : Places) (i : ℕ) → M.memory_size ≤ i → f i ≡ 0 → M.fresh img f i ≡ 0
    pub stored_end : (f : Places) (x : List ℕ) (i : ℕ) → M.memory_size ≤ i → M.stored f x i ≡ f i
    pub raised_end : (f : Places) (x : List ℕ) (o : Places) (k : ℕ) → M.record_size ≤ k → M.raised f x o k ≡ o k
    pub cleared_end : (f : Places) (a n : ℕ) (o : Places) (k : ℕ) → M.record_size ≤ k → M.cleared f a n o k ≡ o k
    pub puts_end : (m : State) (p : Port) (a : ℕ) (vs : List ℕ) → Fits M m → Fits M (M.puts m p a vs)
    -- a port's own calls, samples and resets go by what it sees
    pub fresh_in : (p : Port) (img : Image) (f g : Places) → fence M p f ≡ fence M p g → fence M p (M.fresh img f) ≡ fence M p (M.fresh img g)
    pub stored_in : (p : Port) (x : List ℕ) (f g : Places) → fence M p f ≡ fence M p g → fence M p (M.stored f x) ≡ fence M p (M.stored g x)
    pub raised_in : (p : Port) (x : List ℕ) (f g : Places) → fence M p f ≡ fence M p g → M.raised f x ≡ M.raised g x
    pub cleared_in : (p : Port) (a n : ℕ) (f g : Places) → fence M p f ≡ fence M p g → M.cleared f a n ≡ M.cleared g a n
    pub puts_in : (p : Port) (m n : State) (a : ℕ) (vs : List ℕ) → Same M p m n → Same M p (M.puts m p a vs) (M.puts n p a vs)
    -- so does what the recorder reads, save on the shared list
    pub seen_in : (m n : State) → Same M recorder m n → (a : ℕ) → M.leads_shared (m.own recorder) a ≡ false
        → M.seen m.mem (m.own recorder) a ≡ M.seen n.mem (n.own recorder) a
    -- and its writes are out of the other's sight
    pub puts_out : (p q : Port) → same q p ≡ false → (m : State) (a : ℕ) (vs : List ℕ) → Same M p (M.puts m q a vs) m
