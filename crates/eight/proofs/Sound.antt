-- Soundness: a record is sound exactly if no byte has a bit that is not its own, and each call leaves it so, since all that is put into a
-- byte has been cut to the bits that its place in the tables has (`cut`, computed).
-- Assumes nothing.
use mathlib.Core.Path.{◌≡◌, refl, sym, ◌∙◌}
use mathlib.Core.Logic.{◌↔◌}
use mathlib.Core.Bool.{Bool, true, false, not, ◌&&◌, beq}
use mathlib.Core.List.{List}
use Prim.Native.Nat.{ℕ, ◌+◌, ◌-◌, ◌≤◌, ◌<◌}
use native.Mathlib.Omega.{arith}
use lib.Bits.{bit_and, and_zero_l}
use lib.Dec.{eqb, ltb}
use lib.ListN.{length}
use borrow.Author.Tests.{eqb-true, ltb-true, ltb-false, not-false}
use Rattle.laws.specs.Tests.{covers}
use Rattle.laws.specs.Bits.{has}
use Rattle.laws.specs.Lists.{at}
use Rattle.laws.proofs.Tests.{case, not_both, beq_same, if_elim, and_left, covers_true}
use Rattle.laws.proofs.Bits.{bit_lacks, bit_beyond}
use Rattle.laws.proofs.Apart.{apart_by, apart_at, apart_or, apart_and, apart_without}
use Rattle.laws.proofs.Finite.{always, always_at}
use Rattle.ports.specs.Ports.{Places}
use Rattle.eight.specs.Tables.{flags, masks, flag_bits, mask_bits, mask_of, pending_of, record_size, record_bits}
use Rattle.eight.specs.Module.{conditions, onset, raised, cleared, written, sound}
use Rattle.eight.proofs.Clean.{clean_by, clean_at}

-- ---- soundness, byte by byte

-- what is put into byte k of a record has no bit but the byte's own
abbrev Within : ℕ → ℕ → Type 0
Within k n = bit_and n (255 - at record_bits k) ≡ 0

sound_by : (o : Places) → ((k : ℕ) → k < record_size → Within k (o k)) → sound o ≡ true
unfolding sound
sound_by o f = clean_by o 0 record_bits (λ k h. let z : 0 + k ≡ k = omega arith in rw z (f k h))

sound_at : (o : Places) → sound o ≡ true → (k : ℕ) → k < record_size → Within k (o k)
unfolding sound
sound_at o e k h = let z : 0 + k ≡ k = omega arith in rw z at (clean_at o 0 record_bits e k h)

-- of the eight bits a byte must lack those that are not its own: computed
split : ℕ → ℕ → Bool
split k j = beq (has j (at record_bits k)) (not (has j (255 - at record_bits k)))

split_at : (k j : ℕ) → k < record_size → j < 8 → has j (at record_bits k) ≡ not (has j (255 - at record_bits k))
unfolding split
split_at k j h l = beq_same _ _ (always_at (split k) 8 (always_at (λ k. always (split k) 8) record_size refl k h) j l)

-- "Bits .. that are no flag and no paired mask ..; one set in a record is unsound (3)"
pub sound_exact : (o : Places) → (sound o ≡ true) ↔ ((k j : ℕ) → k < record_size → j < 8 → has j (at record_bits k) ≡ false → has j (o k) ≡ false)
sound_exact o = (to, of)
  where
    to : sound o ≡ true → (k j : ℕ) → k < record_size → j < 8 → has j (at record_bits k) ≡ false → has j (o k) ≡ false
    to e k j h l t = apart_at j (o k) (255 - at record_bits k) (sound_at o e k h) (not-false (has j (255 - at record_bits k)) (sym (split_at k j h l) ∙ t))

    of : ((k j : ℕ) → k < record_size → j < 8 → has j (at record_bits k) ≡ false → has j (o k) ≡ false) → sound o ≡ true
    of f = sound_by o (λ k h. let c = 255 - at record_bits k in apart_by (o k) c (λ j t. case (ltb j 8)
        (λ u. let l = ltb-true j 8 u in f k j h l (split_at k j h l ∙ rw t))
        (λ u. not_both (has j c) t (bit_lacks j c (bit_beyond 8 j c (omega arith) (ltb-false j 8 u))))))

-- ---- it lasts

-- the 14 bytes bs stand in the record's table from b on: what is cut to one of them is within its place
in_table : ℕ → List ℕ → ℕ → Bool
in_table b bs i = eqb (bit_and (at bs i) (255 - at record_bits (b + i))) 0

cut : (b : ℕ) (bs : List ℕ) → always (in_table b bs) 14 ≡ true → (k n : ℕ) → b ≤ k → k < b + 14 → Within k (bit_and n (at bs (k - b)))
unfolding in_table
cut b bs e k n l u =
    let q : b + (k - b) ≡ k = omega arith in
    apart_and (255 - at record_bits k) n (at bs (k - b))
    (eqb-true (bit_and (at bs (k - b)) (255 - at record_bits k)) 0 (rw q at (always_at (in_table b bs) 14 e (k - b) (omega arith))))

as_flag : (k n : ℕ) → k < flags.many → Within k (bit_and n (at flag_bits k))
unfolding in_table
as_flag k n h = let z : k - 0 ≡ k = omega arith in rw z at (cut 0 flag_bits refl k n (omega arith) (omega arith))

as_mask : (k n : ℕ) → covers (mask_of 0) masks.many k ≡ true → Within k (bit_and n (at mask_bits (k - mask_of 0)))
unfolding in_table
as_mask k n c = let r = covers_true (mask_of 0) masks.many k c in cut (mask_of 0) mask_bits refl k n r.0 r.1

as_pending : (k n : ℕ) → covers (pending_of 0) flags.many k ≡ true → Within k (bit_and n (at flag_bits (k - pending_of 0)))
unfolding in_table
as_pending k n c = let r = covers_true (pending_of 0) flags.many k c in cut (pending_of 0) flag_bits refl k n r.0 r.1

pub sound_raised : (f : Places) (x : List ℕ) (o : Places) → sound o ≡ true → sound (raised f x o) ≡ true
unfolding raised
sound_raised f x o e = sound_by (raised f x o) (λ k h.
    let c = 255 - at record_bits k in
    let i = k - pending_of 0 in
    if_elim (Within k) (ltb k flags.many)
    (λ t. apart_or c (o k) (conditions x k) (sound_at o e k h) (as_flag k (at x k) (ltb-true k flags.many t)))
    (λ t. if_elim (Within k) (covers (pending_of 0) flags.many k)
    (λ u. apart_or c (o k) (onset f x i) (sound_at o e k h) (apart_without c (conditions x i) (f i) (as_pending k (at x i) u)))
    (λ u. sound_at o e k h)))

pub sound_cleared : (a n : ℕ) (o : Places) → sound o ≡ true → sound (cleared a n o) ≡ true
unfolding cleared
sound_cleared a n o e = sound_by (cleared a n o) (λ k h.
    if_elim (Within k) (ltb k flags.many && covers a n (flags.first + k)) (λ t. and_zero_l (255 - at record_bits k))
    (λ t. if_elim (Within k) (covers (pending_of 0) flags.many k && covers a n (flags.first + (k - pending_of 0))) (λ u. and_zero_l (255 - at record_bits k))
    (λ u. sound_at o e k h)))

pub sound_written : (a : ℕ) (vs : List ℕ) (o : Places) → sound o ≡ true → sound (written a vs o) ≡ true
unfolding written
sound_written a vs o e = sound_by (written a vs o) (λ k h.
    let mask = covers (mask_of 0) masks.many k in
    let met = covers a (length vs) (masks.first + (k - mask_of 0)) in
    if_elim (Within k) (mask && met) (λ t. as_mask k (at vs (masks.first + (k - mask_of 0) - a)) (and_left mask met t)) (λ t. sound_at o e k h))
