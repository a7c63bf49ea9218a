-- The interrupt: what ports proves of any list of pairs, at the fourteen; a flag byte of a pair is here a byte of pending bits, whose rule
-- is Onsets.antt's. A flag without a mask is never held back, since its mask bit reads 0.
-- Assumes nothing.
use mathlib.Core.Path.{◌≡◌, refl, sym, ap, ◌∙◌, subst}
use mathlib.Core.Logic.{◌↔◌, ◌≢◌}
use mathlib.Core.Bool.{true, false}
use mathlib.Core.List.Memᴰ
use mathlib.Core.List.{List, Memᴰ, Nodup}
use Prim.Native.Nat.{ℕ, ◌<◌}
use native.Mathlib.Omega.{arith}
use lib.ListN.{length}
use borrow.Author.Tests.{ne_eqb}
use Rattle.laws.specs.Bits.{bit, has}
use Rattle.laws.specs.Lists.{at}
use Rattle.laws.proofs.Tests.{not_both}
use Rattle.laws.proofs.Picks.{count_up, counted_within, within_counted}
use Rattle.ports.specs.Ports.{Port, Places, reset}
use Rattle.ports.specs.Interrupt.{Pair, count_of, stands_of, UnmaskedOf}
use Rattle.ports.specs.Bytes.{state_of, refusal_of, after, answer_of}
use Rattle.ports.proofs.Interrupt
use Rattle.ports.proofs.Answers
use Rattle.eight.specs.Tables.{flags, mask_bits, pair_of, pairs}
use Rattle.eight.specs.Module.{Call, Calls, eight}
use Rattle.eight.specs.Demands.{since, OnsetSince, PendingUnmasked}
use Rattle.eight.proofs.Lawful.{lawful}
use Rattle.eight.proofs.Demand1.{sound_since}
use Rattle.eight.proofs.Shown.{mask_seen, no_mask_reads_none}
use Rattle.eight.proofs.Onsets.{pending_rule}

-- "The count is of pending bits let through": there is a list of these, each once, and the count is its length
pub count_listed : (o : Places)
    → (l : List (Pair × ℕ)) × (count_of pairs o ≡ length l) × Nodup l × ((x : Pair × ℕ) → Memᴰ x l ↔ ((u : UnmaskedOf pairs o) × (x ≡ (u.pair, u.j))))
count_listed = Interrupt.count_listed pairs refl

-- "The interrupt stands exactly if a pending bit is unmasked."
pub interrupt_rule : (s : List ℕ) → refusal_of eight s (reset tt) ≡ 0 → (h : Calls) (p : Port)
    → (eight.stands ((state_of eight (since s h)).own p) ≡ true) ↔ PendingUnmasked (since s h) p h
interrupt_rule s begun h p = (λ e. to ((Interrupt.interrupt_rule pairs o).0 e), λ u. (Interrupt.interrupt_rule pairs o).1 (of u))
  where
    o : Places
    o = (state_of eight (since s h)).own p

    to : UnmaskedOf pairs o → PendingUnmasked (since s h) p h
    to u =
        let r = Memᴰ.of_map pair_of (count_up 0 14) u.among in
        let i = r.0 in
        let l : i < 14 = (counted_within 0 14 i r.1).1 in
        let back = sym r.2 in
        record {
          i = i;
          j = u.j;
          i_small = l;
          j_small = u.small;
          pending = (pending_rule s begun h p i u.j l).0 (subst (λ (pr : Pair). bit u.j (o pr.flag_byte) ≡ 1) back u.up);
          unmasked = ap (bit u.j) (mask_seen i l o) ∙ subst (λ (pr : Pair). bit u.j (o pr.mask_byte) ≡ 0) back u.unheld;
        }

    of : PendingUnmasked (since s h) p h → UnmaskedOf pairs o
    of u = record {
      pair = pair_of u.i;
      among = Memᴰ.map pair_of (within_counted 0 14 u.i (omega arith) u.i_small);
      j = u.j;
      small = u.j_small;
      up = (pending_rule s begun h p u.i u.j u.i_small).1 u.pending;
      unheld = ap (bit u.j) (sym (mask_seen u.i u.i_small o)) ∙ u.unmasked;
    }

-- the count that an accepted call reports is that of the record that it leaves, and isn't 0 exactly if the interrupt stands then
pub interrupt_counts : (s : List ℕ) (p : Port) (c : Call) → refusal_of eight s c ≡ 0
    → ((answer_of eight s p c).counted ≡ count_of pairs ((state_of eight (after eight s c)).own p))
    × (((answer_of eight s p c).counted ≢ 0) ↔ (eight.stands ((state_of eight (after eight s c)).own p) ≡ true))
unfolding stands_of
interrupt_counts s p c e =
    let o : Places = (state_of eight (after eight s c)).own p in
    let q : (answer_of eight s p c).counted ≡ count_of pairs o = Answers.count_reported eight lawful s p c e in
    (q, (λ d. rw (ne_eqb (count_of pairs o) 0 (λ y. d (q ∙ y))), λ t y. not_both (stands_of pairs o) t (rw (← q, y))))

-- "flags without a mask there are never held back": whatever the masks
pub never_held_back : (s : List ℕ) → refusal_of eight s (reset tt) ≡ 0 → (h : Calls) (p : Port) (i j : ℕ) → i < flags.many → j < 8 → has j (at mask_bits i) ≡ false
    → OnsetSince p i j h → eight.stands ((state_of eight (since s h)).own p) ≡ true
never_held_back s begun h p i j l k t o = (interrupt_rule s begun h p).1 (record {
  i = i;
  j = j;
  i_small = l;
  j_small = k;
  pending = o;
  unmasked = no_mask_reads_none ((state_of eight (since s h)).own p) (sound_since s begun h p) i j l k t;
})

-- State Changed, bit 0 of byte 9, is one
pub state_changed_through : (s : List ℕ) → refusal_of eight s (reset tt) ≡ 0 → (h : Calls) (p : Port)
    → OnsetSince p 6 0 h → eight.stands ((state_of eight (since s h)).own p) ≡ true
state_changed_through s begun h p = never_held_back s begun h p 6 0 (omega arith) (omega arith) refl
