-- Ask 6, the eight-channel module, in the shape that any module with two ports has (ports, specs/Modules.antt). The memory that the ports
-- share is the conditions of the last accepted sample, 14 bytes, which no port reads or writes.
-- Assumes nothing.
use Rattle.std.specs.Prelude.{◌+◌, ◌-◌, ◌&&◌, ◌∷◌, if◌then◌else◌}
use Rattle.laws.specs.Words.{ℕ, suc, Bool, true, false, List, [], length, leb, ltb, eqb, bit_or, bit_and, bit_xor, covers, within, at}
use Rattle.ports.specs.Ports.{Places, give, CallOf}
use Rattle.ports.specs.Histories.{History}
use Rattle.ports.specs.Interrupt.{count_of, stands_of}
use Rattle.ports.specs.Modules.{Module}
use Rattle.eight.specs.Tables.{flags, masks, flag_bits, mask_bits, mask_of, pending_of, record_size, record_bits, pairs}

-- ---- samples

-- "A sample is one condition byte for each flag byte, in address order; bits that are no flag are ignored."
abbrev pub conditions : List ℕ → ℕ → ℕ
conditions x i = bit_and (at x i) (at flag_bits i)

-- "A condition has its onset in a sample if present there and absent in the accepted sample before"
abbrev pub onset : Places → List ℕ → ℕ → ℕ
onset before x i = bit_xor (conditions x i) (bit_and (conditions x i) (before i))

-- the conditions raise flags; "An onset marks the bit as pending for both ports"
unfoldable pub raised : Places → List ℕ → Places → Places
raised before x o k =
    if ltb k flags.many then bit_or (o k) (conditions x k)
    else (if covers (pending_of 0) flags.many k then bit_or (o k) (onset before x (k - pending_of 0)) else o k)

-- ---- soundness

-- "Bits .. that are no flag and no paired mask ..; one set in a record is unsound (3)": each byte from k on has its own bits alone
abbrev pub clean : Places → ℕ → List ℕ → Bool
clean o k [] = true
clean o k (b ∷ bs) = eqb (bit_and (o k) (255 - b)) 0 && clean o (suc k) bs

unfoldable pub sound : Places → Bool
sound o = clean o 0 record_bits

-- ---- reading and writing

-- "Bits below address 128 that are no flag and no paired mask (reserved, vendor) read 0"
unfoldable pub seen : Places → ℕ → ℕ
seen o a = if within flags a then o (a - flags.first) else (if within masks a then o (mask_of (a - masks.first)) else 0)

-- "a port's read of the byte clears both flag and pending there"
unfoldable pub cleared : ℕ → ℕ → Places → Places
cleared a n o k =
    if ltb k flags.many && covers a n (flags.first + k) then 0
    else (if covers (pending_of 0) flags.many k && covers a n (flags.first + (k - pending_of 0)) then 0 else o k)

-- "and take no write": of what is written at a mask byte its mask bits are taken, and nothing else is
unfoldable pub written : ℕ → List ℕ → Places → Places
written a vs o k =
    if covers (mask_of 0) masks.many k && covers a (length vs) (masks.first + (k - mask_of 0))
    then bit_and (at vs (masks.first + (k - mask_of 0) - a)) (at mask_bits (k - mask_of 0)) else o k

-- "the paired mask bytes as the recorder's own in 7"
abbrev pub all_masks : ℕ → ℕ → Bool
all_masks a n = leb masks.first a && leb (a + n) (masks.first + masks.many)

-- ---- all of it

-- "Reset takes no image and clears flags, masks and pending bits"; "before the first sample after reset all are absent"; "The count is
-- of pending bits let through"; "128 for 256 in 5"; "with no byte shared"
abbrev pub eight : Module (Unit {0})
eight = record {
  memory_size = flags.many;
  record_size = record_size;
  sound = λ before o. sound o;
  reach = 128;
  all_mine = λ o a n. all_masks a n;
  sample_size = flags.many;
  image_rows = λ none. [];
  fresh = λ none before i. 0;
  stored = λ before x i. if ltb i flags.many then conditions x i else before i;
  raised = raised;
  cleared = λ before a n o. cleared a n o;
  puts = λ m p a vs. record { mem = m.mem; own = give m.own p (written a vs (m.own p)) };
  seen = λ before o a. seen o a;
  count = count_of pairs;
  stands = stands_of pairs;
  shared = λ i. false;
  leads_shared = λ o a. false;
}

abbrev pub Call : Type 0
Call = CallOf (Unit {0})

abbrev pub Calls : Type 0
Calls = History Call
