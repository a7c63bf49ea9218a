-- What lasts from one accepted reset to the next: page 00h, the thresholds and bit 2 of byte 2, and so what looks at nothing else. No
-- sample changes these, and none of the places is on the shared list, where alone writes change the memory (computed, `untouched`).
-- Assumes nothing.
use Rattle.std.specs.Prelude.{if◌then◌else◌}
use mathlib.Core.Path.{◌≡◌, refl, sym, ap, ap₂, ◌∙◌, fun_ext}
use Prim.Native.Nat.{ℕ, zero, suc, ◌+◌, ◌-◌, ◌*◌, ◌/◌, ◌%◌, ◌≤◌, ◌<◌}
use mathlib.Core.Bool.{Bool, true, false, true≢false, not, ◌&&◌, ◌||◌}
use mathlib.Core.List.{List, [], ◌∷◌}
use lib.Arith.{mod-mul, digits_div}
use lib.Dec.{eqb, lit<}
use borrow.Author.Tests.{not-true, ne_eqb}
use native.Mathlib.Omega.{arith}
use Rattle.laws.specs.Tests.{◌to◌}
use Rattle.laws.specs.Bits.{bit}
use Rattle.laws.specs.Lists.{at}
use Rattle.laws.proofs.Tests.{case, if_both, or_left, or_right, covers_in, covers_true, covers_above}
use Rattle.laws.proofs.Finite.{always_at}
use Rattle.model.specs.Ports.{Port, operator, recorder, Places, State, Call, reset, sample, read, write, caller}
use Rattle.model.specs.Map.{page_size, paged, in_page, memory_size, status_at, page_at, supported, Seat, flag, mine, common, status, blank, seat}
use Rattle.model.specs.Refusals.{accepted}
use Rattle.model.specs.Reset.{emptied, in_page02, fresh}
use Rattle.model.specs.Samples.{stored, conditions, conds}
use Rattle.model.specs.Writing.{class_of, written, entered, store, puts}
use Rattle.model.specs.Reading.{shared}
use Rattle.model.specs.Readout.{in_unit, quantity, limit}
use Rattle.model.specs.Demands.{is_reset}
use Rattle.ports.specs.Effects
use Rattle.model.specs.Calls.{step}
use Rattle.model.proofs.Names.{done}

-- ---- the places

-- page 00h, and the thresholds in page 03h
unfoldable pub lasting : ℕ → Bool
lasting i = in_page 0 (128 to 255) i || in_page 3 (128 to 199) i

-- two memories have the same there, and the same bit 2 of byte 2
pub record Lasts (f g : Places) : Type 0 where
  pub flat : bit 2 (f status_at) ≡ bit 2 (g status_at)
  pub places : (i : ℕ) → lasting i ≡ true → f i ≡ g i

-- such a place is in a page
last_high : (i : ℕ) → lasting i ≡ true → (page_size ≤ i) × (i < memory_size)
unfolding lasting
last_high i e = case (in_page 0 (128 to 255) i)
    (λ t. let (a, b) = covers_true (paged 0 128) 128 i t in (a, omega arith))
    (λ t. let (a, b) = covers_true (paged 3 128) 72 i (rw t at e) in (omega arith, omega arith))

-- none of them is byte 2, is emptied by a reset, lies in page 02h or on the shared list
touched : ℕ → Bool
touched i = eqb i status_at || (emptied i || (in_page02 i || shared i))

record Apart (i : ℕ) : Type 0 where
  no_status : eqb i status_at ≡ false
  no_emptied : emptied i ≡ false
  no_page02 : in_page02 i ≡ false
  no_shared : shared i ≡ false

untouched : (i : ℕ) → lasting i ≡ true → touched i ≡ false
unfolding lasting touched emptied shared
untouched i e = let r = last_high i e in
    not-true (touched i) (rw e at (always_at (λ j. not (lasting j) || not (touched j)) memory_size refl i r.1))

apart : (i : ℕ) → lasting i ≡ true → Apart i
unfolding touched
apart i e =
    let t = untouched i e in
    let u = or_right (eqb i status_at) (emptied i || (in_page02 i || shared i)) t in
    let v = or_right (emptied i) (in_page02 i || shared i) u in
    record {
      no_status = or_left (eqb i status_at) (emptied i || (in_page02 i || shared i)) t;
      no_emptied = or_left (emptied i) (in_page02 i || shared i) u;
      no_page02 = or_left (in_page02 i) (shared i) v;
      no_shared = or_right (in_page02 i) (shared i) v;
    }

-- ---- each call

-- a sample stores in lower memory alone
pub stored_high : (mem : Places) (x : List ℕ) (i old : ℕ) → page_size ≤ i → stored mem x i old ≡ old
unfolding stored
stored_high mem x i old h =
    rw (
      ne_eqb i status_at (λ e. omega arith),
      covers_above 22 2 i (omega arith),
      covers_above 26 2 i (omega arith),
      covers_above 34 8 i (omega arith),
      covers_above 42 8 i (omega arith),
      covers_above 50 8 i (omega arith),
    )

-- clearing bit 0 leaves the bits from 2 up
fourth : (x : ℕ) → (x - x % 2) / 4 ≡ x / 4
fourth x =
    let r : x % 4 ≡ (x / 2 % 2) * 2 + x % 2 = mod-mul x {m = 2} {c = 2} (lit< tt) (lit< tt) in
    let e : x - x % 2 ≡ x / 4 * 4 + x / 2 % 2 * 2 = omega arith in
    let b : x / 2 % 2 * 2 < 4 = omega arith in
    ap (λ (y : ℕ). y / 4) e ∙ digits_div (x / 4) b

same_lasts : (f : Places) → Lasts f f
same_lasts f = record { flat = refl; places = λ i e. refl }

pub sample_lasts : (mem : Places) (x : List ℕ) → Lasts (λ i. stored mem x i (mem i)) mem
unfolding stored
sample_lasts mem x = record {
  flat = ap (λ (q : ℕ). q % 2) (fourth (mem status_at));
  places = λ i e. stored_high mem x i (mem i) (last_high i e).0;
}

-- a place off the shared list keeps its value, whoever writes there
pub off_list : (p : Port) (mem : Places) (i j v : ℕ) → shared i ≡ false → entered mem (λ k. class_of p (common k)) j v mem i ≡ mem i
unfolding written
off_list operator mem i j v e = if_both (eqb i j) (rw e) refl
off_list recorder mem i j v e = if_both (eqb i j) refl refl

off_store : (m : State) (p : Port) (v : ℕ) (s : Seat) (i : ℕ) → shared i ≡ false → (store m p v s).mem i ≡ m.mem i
unfolding store
off_store m p v (flag k) i e = refl
off_store m p v (mine k) i e = refl
off_store m p v (common j) i e = off_list p m.mem i j v e
off_store m p v status i e = refl
off_store m p v blank i e = refl

pub off_puts : (m : State) (p : Port) (g a : ℕ) (vs : List ℕ) (i : ℕ) → shared i ≡ false → (puts m p g a vs).mem i ≡ m.mem i
unfolding puts
off_puts m p g a [] i e = refl
off_puts m p g a (v ∷ vs) i e = off_puts (store m p v (seat g a)) p g (suc a) vs i e ∙ off_store m p v (seat g a) i e

-- what lasts is off the list
off_lasts : {f g : Places} → ((i : ℕ) → shared i ≡ false → f i ≡ g i) → Lasts f g
off_lasts l = record { flat = ap (bit 2) (l status_at (unfold shared in refl)); places = λ i e. l i (apart i e).no_shared }

pub store_lasts : (m : State) (p : Port) (v : ℕ) (s : Seat) → Lasts (store m p v s).mem m.mem
store_lasts m p v s = off_lasts (off_store m p v s)

-- a reset takes all of it from the image
pub fresh_lasting : (img : List ℕ) (i old : ℕ) → lasting i ≡ true → fresh img i old ≡ at img i
unfolding fresh
fresh_lasting img i old e = let r = apart i e in rw (r.no_status, r.no_emptied, r.no_page02)

done_lasts : (m : State) (c : Call) → is_reset c ≡ false → Lasts (done m c).mem m.mem
unfolding Effects.done
done_lasts m (reset img) e = absurd (true≢false e)
done_lasts m (sample x) e = sample_lasts m.mem x
done_lasts m (read n a k out) e = same_lasts m.mem
done_lasts m (write n a vs) e = off_lasts (off_puts m (caller n) (m.own (caller n) page_at) a vs)

-- nothing but an accepted reset changes what the supported pages, the limits and byte 220 say
pub step_lasts : (m : State) (c : Call) → (accepted m c && is_reset c) ≡ false → Lasts (step m c).mem m.mem
unfolding Effects.step
step_lasts m c e = case (accepted m c) (λ t. rw t (done_lasts m c (rw t at e))) (λ t. rw t (same_lasts m.mem))

-- ---- what goes by it

pub supported_lasts : {f g : Places} → Lasts f g → (x : ℕ) → supported f x ≡ supported g x
unfolding supported lasting
supported_lasts l x = rw (l.flat, l.places (paged 0 195) refl)

-- the memory with all other places blanked
keep : Places → Places
keep f i = if lasting i then f i else 0

keep_same : {f g : Places} → ((i : ℕ) → lasting i ≡ true → f i ≡ g i) → keep f ≡ keep g
unfolding keep
keep_same l = fun_ext (λ i. case (lasting i) (λ t. rw t (l i t)) (λ t. rw t))

-- conditions are computed from the kept places alone
conds_keep : (f : Places) (x : List ℕ) (b : ℕ) → conds f x b ≡ conds (keep f) x b
unfolding conds conditions keep lasting
conds_keep f x b = refl

pub conds_same : {f g : Places} → ((i : ℕ) → lasting i ≡ true → f i ≡ g i) → (x : List ℕ) (b : ℕ) → conds f x b ≡ conds g x b
conds_same {f} {g} l x b = conds_keep f x b ∙ ap (λ (h : Places). conds h x b) (keep_same l) ∙ sym (conds_keep g x b)

-- the thresholds of each quantity
limits_at : (n : ℕ) → (128 ≤ (quantity n).limits_from) × ((quantity n).limits_from ≤ 192)
limits_at zero = (omega arith, omega arith)
limits_at (suc zero) = (omega arith, omega arith)
limits_at (suc (suc zero)) = (omega arith, omega arith)
limits_at (suc (suc (suc zero))) = (omega arith, omega arith)
limits_at (suc (suc (suc (suc zero)))) = (omega arith, omega arith)
limits_at (suc (suc (suc (suc (suc n))))) = (omega arith, omega arith)

threshold_lasting : (i : ℕ) → paged 3 128 ≤ i → i < paged 3 200 → lasting i ≡ true
unfolding lasting
threshold_lasting i h k = rw (covers_above (paged 0 128) 128 i (omega arith), covers_in (paged 3 128) 72 i h k)

pub limit_same : {f g : Places} → ((i : ℕ) → lasting i ≡ true → f i ≡ g i) → (n w : ℕ) → w < 4 → limit f n w ≡ limit g n w
limit_same {f} {g} l n w h =
    let (a, b) = limits_at n in
    let i = paged 3 ((quantity n).limits_from + 2 * w) in
    ap₂ (λ (x y : ℕ). in_unit (quantity n).kind (x * 256 + y))
    (l i (threshold_lasting i (omega arith) (omega arith))) (l (i + 1) (threshold_lasting (i + 1) (omega arith) (omega arith)))
