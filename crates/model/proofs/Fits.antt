-- Nothing stands past the ends of the memory and of the records, and no call changes that: the places that a call changes end before
-- them, and an accepted image has no byte there.
-- Assumes nothing.
use mathlib.Core.Path.{◌≡◌, refl, ◌∙◌}
use mathlib.Core.Bool.{true, false, not}
use mathlib.Core.List.{List, [], ◌∷◌}
use mathlib.Core.Logic.{inr}
use Prim.Native.Nat.{ℕ, suc, ◌≤◌}
use native.Mathlib.Omega.{arith}
use lib.Dec.{eqb}
use lib.ListN.{length, get_or-eq_default}
use borrow.Author.Tests.{eqb-true, le-ltb, ne_eqb, not-true, not-false}
use Rattle.ports.specs.Bytes.{Fits}
use Rattle.laws.specs.Tests.{none_of}
use Rattle.laws.proofs.Tests.{and_left, if_both, covers_above}
use Rattle.model.specs.Ports.{Port, Places, State, give}
use Rattle.model.specs.Map.{memory_size, record_size, flags, paged, status_at, Seat, flag, mine, common, status, blank, seat}
use Rattle.model.specs.Reset.{reset_rows, emptied, fresh}
use Rattle.model.specs.Samples.{raised}
use Rattle.model.specs.Reading.{cleared, shared}
use Rattle.model.specs.Writing.{store, puts}
use Rattle.ports.proofs.Bytes
use Rattle.ports.proofs.Ports.{give_elim}
use Rattle.model.specs.Module.{document01}
use Rattle.model.specs.Bytes.{state_of}
use Rattle.model.proofs.Ports.{entered_none}
use Rattle.model.proofs.Lasting.{off_list}

-- nothing stands past the ends
pub fits_of : (s : List ℕ) → Fits document01 (state_of s)
fits_of = Bytes.fits_of document01

shared_end : (i : ℕ) → memory_size ≤ i → shared i ≡ false
unfolding shared
shared_end i h =
    rw (
      ne_eqb i 86 (λ e. omega arith),
      covers_above 87 2 i (omega arith),
      ne_eqb i 93 (λ e. omega arith),
      ne_eqb i 98 (λ e. omega arith),
      covers_above (paged 2 128) 128 i (omega arith),
      covers_above (paged 3 234) 8 i (omega arith),
    )

pub fresh_end : (img : List ℕ) (i old : ℕ) → none_of (reset_rows img) ≡ true → memory_size ≤ i → fresh img i old ≡ 0
unfolding fresh
fresh_end img i old e h =
    let z = eqb-true (length img) memory_size (not-false (eqb (length img) memory_size) (not-true (not (eqb (length img) memory_size)) (and_left (not (not (eqb (length img) memory_size))) _ e))) in
    rw (ne_eqb i status_at (λ q. omega arith), covers_above (paged 2 128) 128 i (omega arith)) (if_both (emptied i) refl (get_or-eq_default img 0 (rw z h)))

pub raised_end : (mem : Places) (x : List ℕ) (o : Places) (k : ℕ) → record_size ≤ k → raised mem x o k ≡ o k
unfolding raised
raised_end mem x o k h = rw (le-ltb k flags.many (omega arith))

pub cleared_end : (a n : ℕ) (o : Places) (k : ℕ) → record_size ≤ k → cleared a n o k ≡ o k
unfolding cleared
cleared_end a n o k h = rw (le-ltb k flags.many (omega arith))

give_fits : (m : State) (q : Port) (f : Places) → Fits document01 m → ((k : ℕ) → record_size ≤ k → f k ≡ m.own q k) → Fits document01 (record { mem = m.mem; own = give m.own q f })
give_fits m q f t e = record {
  mem_end = t.mem_end;
  own_end = give_elim (λ p o. (k : ℕ) → record_size ≤ k → o k ≡ 0) m.own q f (λ k h. e k h ∙ t.own_end q k h) t.own_end;
}

fits_store : (m : State) (q : Port) (v : ℕ) (s : Seat) → Fits document01 m → Fits document01 (store m q v s)
unfolding store
fits_store m q v (flag k) t = t
fits_store m q v (mine k) t = give_fits m q _ t (λ j h. entered_none m.mem k v (m.own q) j (inr h))
fits_store m q v (common i) t = record { mem_end = λ j h. off_list q m.mem j i v (shared_end j h) ∙ t.mem_end j h; own_end = t.own_end }
fits_store m q v status t = t
fits_store m q v blank t = t

pub fits_puts : (m : State) (q : Port) (g a : ℕ) (vs : List ℕ) → Fits document01 m → Fits document01 (puts m q g a vs)
unfolding puts
fits_puts m q g a [] t = t
fits_puts m q g a (v ∷ vs) t = fits_puts (store m q v (seat g a)) q g (suc a) vs (fits_store m q v (seat g a) t)
