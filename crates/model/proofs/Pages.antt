-- What identity and the limits show over calls: they look at page 00h and at the thresholds, which last (Lasting.antt). So after an
-- accepted reset they are the image's, and no other call changes them.
-- Assumes nothing.
use mathlib.Core.Path.{◌≡◌, sym, ap, ◌∙◌}
use mathlib.Core.Bool.{true, false, ◌&&◌}
use mathlib.Core.List.{List}
use Prim.Native.Nat.{ℕ, ◌+◌, ◌≤◌, ◌<◌}
use native.Mathlib.Omega.{arith}
use lib.Dec.{eqb}
use lib.ListN.{length}
use lib.Seq.{ext_get_or}
use borrow.Author.Tests.{eqb-true, lt-leb}
use Rattle.laws.specs.Lists.{at, part}
use Rattle.laws.proofs.Tests.{case, covers_in}
use Rattle.laws.proofs.Lists.{part_length, part_at}
use Rattle.ports.specs.Bytes
use Rattle.ports.specs.Effects
use Rattle.model.specs.Ports.{Places, Call, reset}
use Rattle.model.specs.Map.{page_size, paged, state_size}
use Rattle.model.specs.Readout.{sound_page, field_of, limit, limits}
use Rattle.model.specs.Refusals.{identity_refusal}
use Rattle.model.specs.Calls.{view_of}
use Rattle.model.specs.Bytes.{memory_of, refusal_of, after}
use Rattle.model.specs.Outcomes.{given, limits_told}
use Rattle.model.specs.Demands.{is_reset}
use Rattle.model.proofs.Lasting.{lasting, fresh_lasting, limit_same}
use Rattle.model.proofs.Bytes.{memory_at, after_length}
use Rattle.model.proofs.Begun.{taken_size, taken_memory, after_lasts, begun_image, begun_size}
use Rattle.model.proofs.Demand2.{only_reset_changes}

-- ---- page 00h

-- it lasts
page_lasting : (i : ℕ) → page_size ≤ i → i < page_size + page_size → lasting i ≡ true
unfolding lasting
page_lasting i h k = rw (covers_in (paged 0 128) 128 i h k)

-- two lists with the same 128 bytes from 128 on
same_page : (s t : List ℕ) → page_size + page_size ≤ length s → page_size + page_size ≤ length t
    → ((i : ℕ) → page_size ≤ i → i < page_size + page_size → at s i ≡ at t i) → part page_size page_size s ≡ part page_size page_size t
same_page s t k l f =
    let long = part_length page_size page_size s k in
    ext_get_or 0 (part page_size page_size s) (part page_size page_size t) (long ∙ sym (part_length page_size page_size t l))
    (λ j h.
    let h : j < page_size = rw long at h in
    part_at page_size page_size s k j h ∙ f (page_size + j) (omega arith) (omega arith) ∙ sym (part_at page_size page_size t l j h))

-- nothing but an accepted reset changes page 00h
pub page_kept : (s : List ℕ) (c : Call) → (eqb (refusal_of s c) 0 && is_reset c) ≡ false → part page_size page_size (after s c) ≡ part page_size page_size s
page_kept s c r = case (eqb (refusal_of s c) 0)
    (λ t.
    let k = taken_size s c (eqb-true (refusal_of s c) 0 t) in
    let l = after_length s c k in
    same_page (after s c) s (omega arith) (omega arith)
    (λ i a b. sym (memory_at (after s c) i (omega arith)) ∙ (after_lasts s c k r).places i (page_lasting i a b) ∙ memory_at s i (omega arith)))
    (λ t. unfold Bytes.after in rw t)

-- what lasts is the image's after an accepted reset
begun_lasting : (s img : List ℕ) → refusal_of s (reset img) ≡ 0 → (i : ℕ) → lasting i ≡ true → memory_of (after s (reset img)) i ≡ at img i
unfolding Effects.done
begun_lasting s img e i t = ap (λ (f : Places). f i) (taken_memory s (reset img) e) ∙ fresh_lasting img i _ t

module _ (s img : List ℕ) (e : refusal_of s (reset img) ≡ 0) where
  -- so page 00h is
  pub page_begun : part page_size page_size (after s (reset img)) ≡ part page_size page_size img
  unfolding Bytes.state_of
  page_begun =
      let k = (begun_image s img e).0 in
      let l = begun_size s img e in
      same_page (after s (reset img)) img (omega arith) (omega arith)
      (λ i a b. sym (memory_at (after s (reset img)) i (omega arith)) ∙ begun_lasting s img e i (page_lasting i a b))

  page_sound : sound_page (part page_size page_size img) ≡ true
  unfolding sound_page
  page_sound =
      let n = (begun_image s img e).0 in
      let long : length (part page_size page_size img) ≡ page_size = part_length page_size page_size img (omega arith) in
      rw (long, (begun_image s img e).1)

  -- that page is sound, so that identity shows each of its fields, whatever the factory page
  pub identity_begun : (factory : List ℕ) (f : ℕ) → 1 ≤ f → f ≤ 6
      → (identity_refusal (part page_size page_size (after s (reset img))) factory f ≡ 0)
      × (view_of (part page_size page_size (after s (reset img))) factory f ≡ field_of (part page_size page_size img) f)
  identity_begun factory f l h =
      let known = covers_in 1 6 f l (omega arith) in
      rw page_begun (rw (known, page_sound), rw (known, page_sound))

-- ---- limits

-- the four of two memories that agree in each
limits_same : (f g : Places) (q : ℕ) → ((w : ℕ) → w < 4 → limit f q w ≡ limit g q w) → limits f q ≡ limits g q
unfolding limits
limits_same f g q l = rw (l 0 (omega arith), l 1 (omega arith), l 2 (omega arith), l 3 (omega arith))

limits_given : (s : List ℕ) (q : ℕ) → length s ≡ state_size → q < 5 → limits_told s q ≡ given (limits (memory_of s) q)
limits_given s q e h = rw (e, lt-leb 5 q h)

-- after an accepted reset the limits are the image's
pub limits_begun : (s img : List ℕ) (q : ℕ) → refusal_of s (reset img) ≡ 0 → q < 5 → limits_told (after s (reset img)) q ≡ given (limits (at img) q)
limits_begun s img q e h =
    limits_given (after s (reset img)) q (begun_size s img e) h
    ∙ ap given (limits_same (memory_of (after s (reset img))) (at img) q (limit_same (begun_lasting s img e) q))

-- nothing but an accepted reset changes them
pub limits_kept : (s : List ℕ) (c : Call) (q : ℕ) → (eqb (refusal_of s c) 0 && is_reset c) ≡ false → q < 5 → limits_told (after s c) q ≡ limits_told s q
unfolding Bytes.state_of
limits_kept s c q r h = case (eqb (refusal_of s c) 0)
    (λ t.
    let k = taken_size s c (eqb-true (refusal_of s c) 0 t) in
    limits_given (after s c) q (after_length s c k) h ∙ ap given (limits_same (memory_of (after s c)) (memory_of s) q ((only_reset_changes s c k r).limits_same q)) ∙ sym (limits_given s q k h))
    (λ t. unfold Bytes.after in rw t)
