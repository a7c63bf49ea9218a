-- Demand 2, writes, over the model: "A write changes the writable bits it addresses and nothing else." No two addresses of a page lead to
-- one place (computed, by a way back from place to address), so at most one byte of a write meets a place, and there goes by its class.
-- Assumes nothing.
use Rattle.std.specs.Prelude.{if◌then◌else◌}
use mathlib.Core.Path.{◌≡◌, refl, sym, ◌∙◌}
use mathlib.Core.Logic.{◌≢◌}
use mathlib.Core.Bool.{Bool, true, false, ◌&&◌}
use mathlib.Core.Option.{Option, some}
use mathlib.Core.List.{List, [], ◌∷◌}
use Prim.Native.Nat.{ℕ, zero, suc, ◌+◌, ◌-◌, ◌*◌, ◌≤◌, ◌<◌}
use native.Mathlib.Omega.{arith}
use lib.Dec.{ltb, eqb}
use lib.ListN.{length}
use borrow.Author.Tests.{eqb-true, eq-eqb, ne_eqb, ltb-true, ltb-false, le-leb, lt-leb, not-true, not-false}
use Rattle.laws.specs.Tests.{within, ◌to◌}
use Rattle.laws.specs.Bits.{bit}
use Rattle.laws.specs.Lists.{at}
use Rattle.laws.proofs.Tests.{case, if_elim, and_left, and_right, or_left, covers_true}
use Rattle.laws.proofs.Finite.{always, always_at}
use Rattle.laws.proofs.Rows.{first_none}
use Rattle.laws.proofs.Bits.{bit_splice}
use Rattle.model.specs.Ports.{Port, operator, recorder, nobody, caller, Places, State, write}
use Rattle.model.specs.Map.{page_size, memory_size, status_at, flags, low_masks, high_masks, low_mask_of, high_mask_of, page_at, record_size, base, state_size, Seat, flag, mine, common, status, blank, seat, supported, sound}
use Rattle.model.specs.Writing.{Class, no_bits, all, low_four, low_three, high_four, page, own_class, class_of, reaches, written, entered, store, puts}
use Rattle.model.specs.Refusals.{refusal, accepted}
use Rattle.model.specs.Demands.{seat_place}
use Rattle.ports.specs.Modules
use Rattle.model.proofs.Names.{beyond, rows, place}
use Rattle.ports.proofs.Ports.{give_elim, give_own}
use Rattle.model.proofs.Ports.{written_same}
use Rattle.model.proofs.Lasting.{store_lasts, supported_lasts}
use Rattle.model.proofs.Sound.{sound_page_lem}
use Rattle.model.proofs.Bytes.{place_memory, place_own, Spot, in_memory, in_record, spot}

-- ---- where an address leads

-- the seat lies inside its part of the state
abbrev pub Within : Seat → Type 0
Within (flag k) = k < flags.many
Within (mine k) = k < record_size
Within (common i) = i < memory_size
Within status = Unit {0}
Within blank = Unit {0}

pub seat_within : (g a : ℕ) → g < 4 → a < 256 → Within (seat g a)
unfolding seat
seat_within g a l h =
    if_elim Within (within flags a) (λ t. let r = covers_true flags.first flags.many a t in omega arith) (λ f₁.
    if_elim Within (within low_masks a) (λ t. let r = covers_true low_masks.first low_masks.many a t in omega arith) (λ f₂.
    if_elim Within (eqb a 127) (λ t. omega arith) (λ f₃.
    if_elim Within (within (119 to 126) a) (λ t. tt) (λ f₄.
    if_elim Within (eqb a status_at) (λ t. tt) (λ f₅.
    if_elim Within (ltb a page_size) (λ t. let u = ltb-true a page_size t in omega arith) (λ f₆.
    if_elim Within (eqb g 3 && within high_masks a)
    (λ t. let r = covers_true high_masks.first high_masks.many a (and_right (eqb g 3) (within high_masks a) t) in omega arith)
    (λ f₇. omega arith)))))))

-- the address that leads to byte k of the port's record
own_address : ℕ → ℕ
own_address k =
    if ltb k flags.many then flags.first + k
    else (if ltb k (high_mask_of high_masks.first) then low_masks.first + (k - low_mask_of low_masks.first)
    else (if ltb k page_at then high_masks.first + (k - high_mask_of high_masks.first) else 127))

-- the address that leads to place i, with page g selected
address : Port → ℕ → ℕ → ℕ
address p g i = if ltb i page_size then i else (if ltb i memory_size then i - page_size * g else own_address (i - base p))

-- a place, if there is one, is a place of the state and has the address a
is_from : Port → ℕ → ℕ → Option ℕ → Bool
is_from p g a Option.none = true
is_from p g a (some i) = eqb (address p g i) a && ltb i state_size

leads_back : Port → ℕ → ℕ → Bool
leads_back p g a = is_from p g a (seat_place p (seat g a))

all_lead_back : (p : Port) → always (λ g. always (leads_back p g) 256) 4 ≡ true
unfolding leads_back is_from address own_address seat
all_lead_back operator = refl
all_lead_back recorder = refl

leads_back_lem : (p : Port) (g a i : ℕ) → g < 4 → a < 256 → seat_place p (seat g a) ≡ some i → (address p g i ≡ a) × (i < state_size)
unfolding leads_back is_from
leads_back_lem p g a i l h e =
    let r = rw e at (always_at (leads_back p g) 256 (always_at (λ f. always (leads_back p f) 256) 4 (all_lead_back p) g l) a h) in
    (search (and_left, eqb-true), search (and_right, ltb-true))

-- an address leads to a place of the state
pub leads_inside : (p : Port) (g a i : ℕ) → g < 4 → a < 256 → seat_place p (seat g a) ≡ some i → i < state_size
leads_inside p g a i l h e = (leads_back_lem p g a i l h e).1

-- two addresses of one page never lead to one place
pub one_address : (p : Port) (g a b i : ℕ) → g < 4 → a < 256 → b < 256
    → seat_place p (seat g a) ≡ some i → seat_place p (seat g b) ≡ some i → a ≡ b
one_address p g a b i l h k e f = sym (leads_back_lem p g a i l h e).0 ∙ (leads_back_lem p g b i l k f).0

later_elsewhere : (p : Port) (g a b i : ℕ) → g < 4 → a < b → b < 256 → seat_place p (seat g a) ≡ some i → seat_place p (seat g b) ≢ some i
later_elsewhere p g a b i l h k e f = let z = one_address p g a b i l (omega arith) k e f in omega arith

-- ---- one byte

-- the place that a byte is written to takes it as its class allows
pub store_hit : (m : State) (p : Port) (v : ℕ) (t : Seat) (i : ℕ) → Within t → seat_place p t ≡ some i
    → place (store m p v t) i ≡ written m.mem (class_of p t) (place m i) v
unfolding store written
store_hit m p v (flag k) i w e = refl
store_hit m p v (mine k) i w e =
    let q : i ≡ base p + k = cc in
    rw (q, place_own m p k w)
    (place_own (store m p v (mine k)) p k w ∙ rw (give_own m.own p (entered m.mem own_class k v (m.own p)), eq-eqb k k refl))
store_hit m p v (common j) i w e =
    let q : i ≡ j = cc in
    rw (q, place_memory m j w) (place_memory (store m p v (common j)) j w ∙ rw (eq-eqb j j refl))
store_hit m p v status i w e = refl
store_hit m p v blank i w e = refl

-- every other place stays
pub store_miss : (m : State) (p : Port) (v : ℕ) (t : Seat) (i : ℕ) → i < state_size → seat_place p t ≢ some i
    → place (store m p v t) i ≡ place m i
unfolding store
store_miss m p v t i h n = go t i (spot i h) n
  where
    go : (t : Seat) (i : ℕ) → Spot i → seat_place p t ≢ some i → place (store m p v t) i ≡ place m i
    go (flag k) i s n = refl
    go (mine k) i (in_memory j l) n = place_memory (store m p v (mine k)) j l ∙ sym (place_memory m j l)
    go (mine k) i (in_record q j l) n =
        place_own (store m p v (mine k)) q j l
        ∙ give_elim (λ r o. some (base p + k) ≢ some (base r + j) → o j ≡ m.own r j) m.own p (entered m.mem own_class k v (m.own p)) (λ d. rw (ne_eqb j k (λ z. d cc))) (λ r d. refl) q n
        ∙ sym (place_own m q j l)
    go (common k) i (in_memory j l) n =
        place_memory (store m p v (common k)) j l ∙ rw (ne_eqb j k (λ z. n cc)) (sym (place_memory m j l))
    go (common k) i (in_record q j l) n = place_own (store m p v (common k)) q j l ∙ sym (place_own m q j l)
    go status i s n = refl
    go blank i s n = refl

-- ---- the bytes of a write

-- ".. and nothing else": a place that none of the addresses leads to stays
pub puts_miss : (m : State) (p : Port) (g a : ℕ) (vs : List ℕ) (i : ℕ) → i < state_size
    → ((k : ℕ) → k < length vs → seat_place p (seat g (a + k)) ≢ some i) → place (puts m p g a vs) i ≡ place m i
unfolding puts
puts_miss m p g a [] i h n = refl
puts_miss m p g a (v ∷ vs) i h n =
    puts_miss (store m p v (seat g a)) p g (suc a) vs i h
    (λ k l e. let q : a + suc k ≡ suc a + k = omega arith in n (suc k) (omega arith) (rw q e))
    ∙ store_miss m p v (seat g a) i h (λ e. let q : a + 0 ≡ a = omega arith in n 0 (omega arith) (rw q e))

-- "A write changes the writable bits it addresses ..": the place that address a + k leads to takes byte k as its class allows
pub puts_hit : (m : State) (p : Port) (g a : ℕ) (vs : List ℕ) → g < 4 → a + length vs ≤ 256
    → (k i : ℕ) → k < length vs → seat_place p (seat g (a + k)) ≡ some i
    → place (puts m p g a vs) i ≡ written m.mem (class_of p (seat g (a + k))) (place m i) (at vs k)
unfolding puts
puts_hit m p g a [] l r k i h e = absurd (omega arith)
puts_hit m p g a (v ∷ vs) l r zero i h e =
    let q : a + 0 ≡ a = omega arith in
    let f = rw q at e in
    rw q (puts_miss (store m p v (seat g a)) p g (suc a) vs i (leads_inside p g a i l (omega arith) f)
    (λ k s. later_elsewhere p g a (suc a + k) i l (omega arith) (omega arith) f)
    ∙ store_hit m p v (seat g a) i (seat_within g a l (omega arith)) f)
puts_hit m p g a (v ∷ vs) l r (suc k) i h e =
    let q : a + suc k ≡ suc a + k = omega arith in
    let f = rw q at e in
    let kept = store_miss m p v (seat g a) i (leads_inside p g (suc a + k) i l (omega arith) f)
    (λ x. later_elsewhere p g a (suc a + k) i l (omega arith) (omega arith) x f) in
    rw q (rw (written_same (store m p v (seat g a)).mem m.mem (supported_lasts (store_lasts m p v (seat g a))), kept) at
    (puts_hit (store m p v (seat g a)) p g (suc a) vs l (omega arith) k i (omega arith) f))

-- ---- the bits of a byte

-- a writable bit takes the written value, another keeps its own
pub written_bits : (mem : Places) (c : Class) (j old v : ℕ) → (c ≡ page → supported mem v ≡ true)
    → bit j (written mem c old v) ≡ (if reaches c j then bit j v else bit j old)
unfolding written
written_bits mem no_bits j old v s = refl
written_bits mem all j old v s = refl
written_bits mem low_four j old v s = bit_splice 4 j old v
written_bits mem low_three j old v s = bit_splice 3 j old v
written_bits mem high_four j old v s =
    bit_splice 4 j v old ∙ case (ltb j 4) (λ t. rw (t, lt-leb 4 j (ltb-true j 4 t))) (λ t. rw (t, le-leb 4 j (ltb-false j 4 t)))
written_bits mem page j old v s = rw (s refl)

-- "A page number that isn't supported, written to 127, selects 00h"
pub page_unsupported : (mem : Places) (old v : ℕ) → supported mem v ≡ false → written mem page old v ≡ 0
unfolding written
page_unsupported mem old v e = rw e

-- ---- an accepted write

-- its addresses end at 255, its page is one of the four, its port is one of the two, and that port's record is sound
pub accepted_range : (m : State) (n a : ℕ) (vs : List ℕ) → accepted m (write n a vs) ≡ true
    → (a + length vs ≤ 256) × (m.own (caller n) page_at < 4) × (nobody n ≡ false) × (sound m.mem (m.own (caller n)) ≡ true)
unfolding Modules.refusal Modules.rows
accepted_range m n a vs e =
    let r = (first_none (rows m (write n a vs)) refl).0 (eqb-true (refusal m (write n a vs)) 0 e) in
    let inside : beyond a (length vs) ≡ false = search (and_left, and_right, not-true, or_left) in
    let port : nobody n ≡ false = search (and_left, not-true) in
    let whole : sound m.mem (m.own (caller n)) ≡ true = search (and_left, and_right, not-true, not-false) in
    (ltb-false 256 (a + length vs) inside, sound_page_lem m.mem (m.own (caller n)) whole, port, whole)
