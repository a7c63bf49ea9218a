-- A record is sound if its page is supported, one byte is 0, and four have their low four bits 0. Clearing, raising and writing leave
-- these bits 0, only a supported page is entered, and which pages are lasts (Lasting.antt): so each call keeps both records sound.
-- Assumes nothing.
use Rattle.std.specs.Prelude.{if◌then◌else◌}
use mathlib.Core.Path.{◌≡◌, refl, ap, ◌∙◌}
use Prim.Native.Nat.{ℕ, suc, ◌%◌, ◌<◌}
use mathlib.Core.Bool.{Bool, true, false, false≢true, not}
use mathlib.Core.List.{List, [], ◌∷◌}
use lib.Bits.{or_zero_r}
use lib.Dec.{ltb, eqb}
use borrow.Author.Tests.{eqb-true, ne_eqb, ltb-true, ltb-false}
use native.Mathlib.Omega.{arith}
use Rattle.laws.specs.Tests.{covers}
use Rattle.laws.specs.Bits.{has, splice}
use Rattle.laws.proofs.Tests.{case, and_left, and_right, and_both, if_both}
use Rattle.laws.proofs.Bits.{or_high, splice_low}
use Rattle.model.specs.Ports.{Port, Places, State, give}
use Rattle.model.specs.Map.{status_at, flag_of, low_mask_of, page_at, supported, tidy, sound, Seat, flag, mine, common, status, blank, seat}
use Rattle.ports.proofs.Lawful
use Rattle.ports.proofs.Ports.{give_elim}
use Rattle.model.specs.Module.{document01}
use Rattle.model.specs.Samples.{conditions, conds, stored, raised}
use Rattle.model.specs.Reading.{cleared}
use Rattle.model.specs.Writing.{own_class, written, entered, store, puts}
use Rattle.model.proofs.Lasting.{supported_lasts, store_lasts, sample_lasts}

-- ---- what soundness is

-- a supported page is one of the four
supported_small : (mem : Places) (g : ℕ) → supported mem g ≡ true → g < 4
unfolding supported
supported_small mem g e = case (ltb g 4) (λ t. ltb-true g 4 t) (λ t.
    let l = ltb-false g 4 t in
    absurd (false≢true (and_right (not (has 2 (mem status_at))) false
    (rw (ne_eqb g 0 (λ z. omega arith), ne_eqb g 1 (λ z. omega arith), ne_eqb g 2 (λ z. omega arith), ne_eqb g 3 (λ z. omega arith)) at e))))

-- a sound record has one of the four pages
pub sound_page_lem : (mem o : Places) → sound mem o ≡ true → o page_at < 4
unfolding sound
sound_page_lem mem o e = supported_small mem (o page_at) (search and_left)

-- both records are sound
abbrev pub Good : State → Type 0
Good m = Lawful.Good document01 m

-- the tests of a record, as facts
record Tidy (o : Places) : Type 0 where
  f8 : o (flag_of 8) ≡ 0
  f6 : o (flag_of 6) % 16 ≡ 0
  f7 : o (flag_of 7) % 16 ≡ 0
  m103 : o (low_mask_of 103) % 16 ≡ 0
  m104 : o (low_mask_of 104) % 16 ≡ 0

tidy_to : (o : Places) → tidy o ≡ true → Tidy o
unfolding tidy
tidy_to o e = record {
  f8 = search (and_left, eqb-true);
  f6 = search (and_left, and_right, eqb-true);
  f7 = search (and_left, and_right, eqb-true);
  m103 = search (and_left, and_right, eqb-true);
  m104 = search (and_left, and_right, eqb-true);
}

tidy_of : (o : Places) → Tidy o → tidy o ≡ true
unfolding tidy
tidy_of o t = rw (t.f8, t.f6, t.f7, t.m103, t.m104)

-- ---- a record after each kind of change

tidy_cleared : (a n : ℕ) (o : Places) → Tidy o → Tidy (cleared a n o)
unfolding cleared
tidy_cleared a n o t = record {
  f8 = if_both (covers a n 8) refl t.f8;
  f6 = low (covers a n 6) (o 3) t.f6;
  f7 = low (covers a n 7) (o 4) t.f7;
  m103 = t.m103;
  m104 = t.m104;
}
  where
    low : (b : Bool) (x : ℕ) → x % 16 ≡ 0 → (if b then 0 else x) % 16 ≡ 0
    low true x e = refl
    low false x e = e

tidy_raised : (mem : Places) (x : List ℕ) (o : Places) → Tidy o → Tidy (raised mem x o)
unfolding raised conds conditions
tidy_raised mem x o t = record {
  f8 = or_zero_r (o 5) ∙ t.f8;
  f6 = or_high (o 3) _ (omega arith) ∙ t.f6;
  f7 = or_high (o 4) _ (omega arith) ∙ t.f7;
  m103 = t.m103;
  m104 = t.m104;
}

tidy_entered : (mem : Places) (k v : ℕ) (o : Places) → Tidy o → Tidy (entered mem own_class k v o)
unfolding written
tidy_entered mem k v o t = record {
  f8 = if_both (eqb 5 k) refl refl ∙ t.f8;
  f6 = ap (λ (x : ℕ). x % 16) (if_both (eqb 3 k) refl refl) ∙ t.f6;
  f7 = ap (λ (x : ℕ). x % 16) (if_both (eqb 4 k) refl refl) ∙ t.f7;
  m103 = low (eqb 15 k) (o 15) ∙ t.m103;
  m104 = low (eqb 16 k) (o 16) ∙ t.m104;
}
  where
    low : (b : Bool) (x : ℕ) → (if b then splice 4 v x else x) % 16 ≡ x % 16
    low true x = splice_low 4 v x
    low false x = refl

tidy_zero : Tidy (λ k. 0)
tidy_zero = record { f8 = refl; f6 = refl; f7 = refl; m103 = refl; m104 = refl }

-- ---- the page stays supported

page_new : (mem : Places) (v : ℕ) → supported mem (if supported mem v then v else 0) ≡ true
page_new mem v = go (supported mem v) refl
  where
    go : (b : Bool) → supported mem v ≡ b → supported mem (if b then v else 0) ≡ true
    go true h = h
    go false h = unfold supported in refl

page_entered : (mem : Places) (k v : ℕ) (o : Places) → supported mem (o page_at) ≡ true → supported mem (entered mem own_class k v o page_at) ≡ true
unfolding written
page_entered mem k v o e = go (eqb page_at k)
  where
    go : (b : Bool) → supported mem (if b then (if supported mem v then v else 0) else o page_at) ≡ true
    go true = page_new mem v
    go false = e

-- ---- a write keeps both records sound

pub page_of : (m : State) → Good m → (p : Port) → supported m.mem (m.own p page_at) ≡ true
unfolding sound
page_of m g p = and_left (supported m.mem (m.own p page_at)) (tidy (m.own p)) (g.both p)

tidy_at : (m : State) → Good m → (p : Port) → Tidy (m.own p)
unfolding sound
tidy_at m g p = tidy_to (m.own p) (and_right (supported m.mem (m.own p page_at)) (tidy (m.own p)) (g.both p))

make : (m : State) → ((p : Port) → supported m.mem (m.own p page_at) ≡ true) → ((p : Port) → Tidy (m.own p)) → Good m
unfolding sound
make m s t = record { both = λ p. and_both (s p) (tidy_of (m.own p) (t p)) }

-- one record is replaced by one that is sound on the same memory
give_good : (m : State) (q : Port) (f : Places) → Good m → supported m.mem (f page_at) ≡ true → Tidy f → Good (record { mem = m.mem; own = give m.own q f })
give_good m q f g s t =
    make _ (give_elim (λ p o. supported m.mem (o page_at) ≡ true) m.own q f s (page_of m g)) (give_elim (λ p o. Tidy o) m.own q f t (tidy_at m g))

good_store : (m : State) (q : Port) (v : ℕ) (s : Seat) → Good m → Good (store m q v s)
good_store m q v s g = go s (λ p. supported_lasts (store_lasts m q v s) (m.own p page_at) ∙ page_of m g p)
  where
    go : (s : Seat) → ((p : Port) → supported (store m q v s).mem (m.own p page_at) ≡ true) → Good (store m q v s)
    go (flag k) h = unfold store in g
    go (mine k) h = unfold store in give_good m q _ g (page_entered m.mem k v (m.own q) (page_of m g q)) (tidy_entered m.mem k v (m.own q) (tidy_at m g q))
    go (common i) h = unfold store in make _ h (tidy_at m g)
    go status h = unfold store in g
    go blank h = unfold store in g

pub good_puts : (m : State) (q : Port) (g a : ℕ) (vs : List ℕ) → Good m → Good (puts m q g a vs)
unfolding puts
good_puts m q g a [] t = t
good_puts m q g a (v ∷ vs) t = good_puts (store m q v (seat g a)) q g (suc a) vs (good_store m q v (seat g a) t)

-- ---- so do a sample, a read and a reset

pub sound_sample : (mem : Places) (x : List ℕ) (o : Places) → sound mem o ≡ true → sound (λ i. stored mem x i (mem i)) (raised mem x o) ≡ true
unfolding sound raised
sound_sample mem x o e =
    and_both (supported_lasts (sample_lasts mem x) (o page_at) ∙ and_left (supported mem (o page_at)) (tidy o) e)
    (tidy_of (raised mem x o) (tidy_raised mem x o (tidy_to o (and_right (supported mem (o page_at)) (tidy o) e))))

pub sound_read : (mem : Places) (a n : ℕ) (o : Places) → sound mem o ≡ true → sound mem (cleared a n o) ≡ true
unfolding sound cleared
sound_read mem a n o e =
    and_both (and_left (supported mem (o page_at)) (tidy o) e) (tidy_of (cleared a n o) (tidy_cleared a n o (tidy_to o (and_right (supported mem (o page_at)) (tidy o) e))))

-- records of zeros are sound on any memory
pub sound_zeros : (mem : Places) → sound mem (λ k. 0) ≡ true
unfolding sound supported
sound_zeros mem = tidy_of (λ k. 0) tidy_zero
