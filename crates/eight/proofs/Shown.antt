-- What is read: the bytes of a port's record at their addresses, and 0 at all else, since records are sound.
-- Assumes nothing.
use mathlib.Core.Path.{◌≡◌, refl, ap, ◌∙◌}
use mathlib.Core.Bool.{true, false}
use mathlib.Core.List.{List}
use Prim.Native.Nat.{ℕ, ◌+◌, ◌-◌, ◌≤◌, ◌<◌}
use native.Mathlib.Omega.{arith}
use lib.Dec.{eqb}
use lib.ListN.{length}
use borrow.Author.Tests.{eqb-true}
use Rattle.laws.specs.Tests.{covers, within}
use Rattle.laws.specs.Bits.{bit, has}
use Rattle.laws.specs.Lists.{at}
use Rattle.laws.proofs.Tests.{covers_in, covers_above}
use Rattle.laws.proofs.Bits.{lacks_bit}
use Rattle.laws.proofs.Finite.{always_at}
use Rattle.ports.specs.Ports.{caller, Places, read}
use Rattle.ports.specs.Bytes.{state_of, refusal_of, answer_of}
use Rattle.ports.proofs.Answers
use Rattle.eight.specs.Tables.{flags, masks, flag_bits, mask_bits, mask_of, record_bits}
use Rattle.eight.specs.Module.{seen, sound, eight}
use Rattle.eight.proofs.Sound.{sound_exact}
use Rattle.eight.proofs.Lawful.{lawful}
use Rattle.eight.proofs.Flags.{flag_seen}

-- byte b of the run stands at b - a in the output, as it was before the call
pub read_shows : (s : List ℕ) (n a k : ℕ) (out : List ℕ) → refusal_of eight s (read n a k out) ≡ 0 → (b : ℕ) → covers a k b ≡ true
    → at (answer_of eight s (caller n) (read n a k out)).output (b - a) ≡ seen ((state_of eight s).own (caller n)) b
read_shows = Answers.read_shows eight lawful

-- and past the k bytes of the read the output memory is as it was
pub read_leaves : (s : List ℕ) (n a k : ℕ) (out : List ℕ)
    → (length (answer_of eight s (caller n) (read n a k out)).output ≡ length out)
    × ((j : ℕ) → k ≤ j → at (answer_of eight s (caller n) (read n a k out)).output j ≡ at out j)
read_leaves = Answers.read_leaves eight

-- a mask byte reads as it stands in the port's record
pub mask_seen : (i : ℕ) → i < masks.many → (o : Places) → seen o (masks.first + i) ≡ o (mask_of i)
unfolding seen
mask_seen i l o =
    let z : masks.first + i - masks.first ≡ i = omega arith in
    rw (covers_above flags.first flags.many (masks.first + i) (omega arith), covers_in masks.first masks.many (masks.first + i) (omega arith) (omega arith), z)

-- ---- "Bits below address 128 that are no flag and no paired mask (reserved, vendor) read 0"

-- the table of a record has the flags' bits first, and then the masks': computed
flag_bits_lem : (i : ℕ) → i < flags.many → at record_bits i ≡ at flag_bits i
flag_bits_lem i l = eqb-true (at record_bits i) (at flag_bits i) (always_at (λ i. eqb (at record_bits i) (at flag_bits i)) flags.many refl i l)

pub mask_bits_lem : (i : ℕ) → i < masks.many → at record_bits (mask_of i) ≡ at mask_bits i
mask_bits_lem i l = eqb-true (at record_bits (mask_of i)) (at mask_bits i) (always_at (λ i. eqb (at record_bits (mask_of i)) (at mask_bits i)) masks.many refl i l)

-- a bit of a flag byte that is no flag, in a sound record
pub no_flag_reads_none : (o : Places) → sound o ≡ true → (i j : ℕ) → i < flags.many → j < 8 → has j (at flag_bits i) ≡ false → bit j (seen o (flags.first + i)) ≡ 0
no_flag_reads_none o e i j l h t = ap (bit j) (flag_seen i l o) ∙ lacks_bit j (o i) ((sound_exact o).0 e i j (omega arith) h (ap (has j) (flag_bits_lem i l) ∙ t))

-- a bit of a mask byte that is no paired mask
pub no_mask_reads_none : (o : Places) → sound o ≡ true → (i j : ℕ) → i < masks.many → j < 8 → has j (at mask_bits i) ≡ false → bit j (seen o (masks.first + i)) ≡ 0
no_mask_reads_none o e i j l h t = ap (bit j) (mask_seen i l o) ∙ lacks_bit j (o (mask_of i)) ((sound_exact o).0 e (mask_of i) j (omega arith) h (ap (has j) (mask_bits_lem i l) ∙ t))

-- every other byte, in any record
pub others_read_none : (o : Places) (a : ℕ) → within flags a ≡ false → within masks a ≡ false → seen o a ≡ 0
unfolding seen
others_read_none o a f m = rw (f, m)
