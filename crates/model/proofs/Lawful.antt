-- Document 01's module is lawful: all that ports proves of any lawful module holds of it.
-- Assumes nothing.
use mathlib.Core.Path.{refl}
use native.Mathlib.Omega.{arith}
use Rattle.ports.proofs.Fence.{fence_map, via}
use Rattle.ports.proofs.Lawful.{Lawful}
use Rattle.model.specs.Map.{page_at}
use Rattle.model.specs.Reset.{fresh}
use Rattle.model.specs.Samples.{stored, raised}
use Rattle.model.specs.Module.{document01}
use Rattle.model.proofs.Lasting.{stored_high}
use Rattle.model.proofs.Sound.{sound_sample, sound_read, sound_zeros, good_puts}
use Rattle.model.proofs.Fits.{fresh_end, raised_end, cleared_end, fits_puts}
use Rattle.model.proofs.Fence.{page_same, raised_fence, stored_fence, puts_out}
use Rattle.model.proofs.Views.{puts_in, seen_in}

pub lawful : Lawful document01
lawful = record {
  image_rise = λ img. refl;
  sound_fresh = λ img f. sound_zeros (λ i. fresh img i (f i));
  sound_sample = sound_sample;
  sound_read = sound_read;
  sound_puts = λ m p a vs g. good_puts m p (m.own p page_at) a vs g;
  fresh_end = λ img t f i h e. fresh_end img i (f i) t h;
  stored_end = λ f x i h. stored_high f x i (f i) (omega arith);
  raised_end = raised_end;
  cleared_end = λ f. cleared_end;
  puts_end = λ m p a vs t. fits_puts m p (m.own p page_at) a vs t;
  fresh_in = λ p img f g e. fence_map document01 p f g (fresh img) (fresh img) refl e;
  stored_in = λ p x f g e. fence_map document01 p f g (stored f x) (stored g x) (via document01 p (λ h. stored h x) (stored_fence p x) f g e) e;
  raised_in = λ p x f g e. via document01 p (λ h. raised h x) (raised_fence p x) f g e;
  cleared_in = λ p a n f g e. refl;
  puts_in = λ p m n a vs h. rw (page_same h) (puts_in p m n (n.own p page_at) a vs h);
  seen_in = seen_in;
  puts_out = λ p q e m a vs. puts_out p q e m (m.own q page_at) a vs;
}
