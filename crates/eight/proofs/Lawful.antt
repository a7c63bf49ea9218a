-- The eight-channel module is lawful: all that ports proves of any lawful module holds of it. (That soundness lasts is Sound.antt's.)
-- Assumes nothing.
use mathlib.Core.Path.{◌≡◌, refl, ap, ◌∙◌}
use mathlib.Core.Bool.{true}
use mathlib.Core.List.{List}
use Prim.Native.Nat.{ℕ, ◌≤◌}
use native.Mathlib.Omega.{arith}
use borrow.Author.Tests.{le-ltb}
use Rattle.laws.proofs.Tests.{covers_above}
use Rattle.ports.specs.Ports.{Port, operator, recorder, Places}
use Rattle.ports.proofs.Ports.{give_elim}
use Rattle.ports.proofs.Fence.{fence, give_in, give_out}
use Rattle.ports.proofs.Lawful.{Lawful}
use Rattle.eight.specs.Tables.{flags, masks, mask_of, pending_of, record_size}
use Rattle.eight.specs.Module.{raised, seen, cleared, written, sound, eight}
use Rattle.eight.proofs.Sound.{sound_raised, sound_cleared, sound_written}

-- ---- nothing is written past the ends

raised_end : (f : Places) (x : List ℕ) (o : Places) (k : ℕ) → record_size ≤ k → raised f x o k ≡ o k
unfolding raised
raised_end f x o k h = rw (le-ltb k flags.many (omega arith), covers_above (pending_of 0) flags.many k (omega arith))

cleared_end : (a n : ℕ) (o : Places) (k : ℕ) → record_size ≤ k → cleared a n o k ≡ o k
unfolding cleared
cleared_end a n o k h = rw (le-ltb k flags.many (omega arith), covers_above (pending_of 0) flags.many k (omega arith))

written_end : (a : ℕ) (vs : List ℕ) (o : Places) (k : ℕ) → record_size ≤ k → written a vs o k ≡ o k
unfolding written
written_end a vs o k h = rw (covers_above (mask_of 0) masks.many k (omega arith))

-- ---- all of it

fresh_sound : sound (λ i. 0) ≡ true
unfolding sound
fresh_sound = refl

pub lawful : Lawful eight
lawful = record {
  image_rise = λ none. refl;
  sound_fresh = λ none f. fresh_sound;
  sound_sample = λ f x o e. sound_raised f x o e;
  sound_read = λ f a n o e. sound_cleared a n o e;
  sound_puts = λ m p a vs g. record { both = give_elim (λ q o. sound o ≡ true) m.own p (written a vs (m.own p)) (sound_written a vs (m.own p) (g.both p)) g.both };
  fresh_end = λ none t f i h e. refl;
  stored_end = λ f x i h. rw (le-ltb i flags.many h);
  raised_end = raised_end;
  cleared_end = λ f. cleared_end;
  puts_end = λ m p a vs t. record {
    mem_end = t.mem_end;
    own_end = give_elim (λ q o. (k : ℕ) → record_size ≤ k → o k ≡ 0) m.own p (written a vs (m.own p)) (λ k h. written_end a vs (m.own p) k h ∙ t.own_end p k h) t.own_end;
  };
  fresh_in = λ p none f g e. refl;
  stored_in = λ p x f g e. ap (λ (h : Places). fence eight p (eight.stored h x)) (unfenced p f g e);
  raised_in = λ p x f g e. ap (λ (h : Places). raised h x) (unfenced p f g e);
  cleared_in = λ p a n f g e. refl;
  puts_in = λ p m n a vs h. give_in eight p (ap (written a vs) h.own_same) h;
  seen_in = λ m n h a e. ap (λ (o : Places). seen o a) h.own_same;
  puts_out = λ p q e m a vs. give_out eight p q e m (written a vs (m.own q));
}
  where
    -- no byte is shared, so nothing is fenced off
    unfenced : (p : Port) (f g : Places) → fence eight p f ≡ fence eight p g → f ≡ g
    unfenced operator f g e = unfold fence in e
    unfenced recorder f g e = unfold fence in e
