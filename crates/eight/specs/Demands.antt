-- The words of the eight-channel module's own rules: what the calls leave after a reset, what an onset is, with no state in it; which bits a write changes; what holds the
-- interrupt up.
-- Assumes nothing.
use Rattle.std.specs.Prelude.{◌+◌, ◌-◌, ◌<◌, ◌≡◌, ◌&&◌, if◌then◌else◌}
use Rattle.laws.specs.Words.{ℕ, Bool, true, not, List, [], length, covers, none_of, bit, has, at}
use Rattle.ports.specs.Ports.{Port, caller, reset, sample, read, write}
use Rattle.ports.specs.Histories.{start, ◌▷◌}
use Rattle.ports.specs.Modules.{base, state_size, sample_rows}
use Rattle.ports.specs.Bytes.{state_of, after, runs}
use Rattle.ports.specs.Demands.{StoodSince}
use Rattle.eight.specs.Tables.{flags, masks, mask_bits, mask_of}
use Rattle.eight.specs.Module.{conditions, seen, eight, Calls}

-- ---- from a reset on

-- the bytes that the calls h leave, after a reset of the bytes s
abbrev pub since : List ℕ → Calls → List ℕ
since s h = runs eight (after eight s (reset tt)) h

-- ---- onsets

-- "the accepted sample before": the last accepted sample since the last reset; "before the first sample after reset all are absent"
unfoldable pub sample_before : Calls → List ℕ
sample_before start = []
sample_before (h ▷ reset none) = []
sample_before (h ▷ sample x) = if none_of (sample_rows eight x) then x else sample_before h
sample_before (h ▷ read n a k out) = sample_before h
sample_before (h ▷ write n a vs) = sample_before h

-- in the sample x, after older calls, the condition of bit j of flag byte 3 + i is present
abbrev pub present : ℕ → ℕ → Calls → List ℕ → Bool
present i j older x = has j (conditions x i)

-- it has its onset: "present there and absent in the accepted sample before"
abbrev pub begins : ℕ → ℕ → Calls → List ℕ → Bool
begins i j older x = has j (conditions x i) && not (has j (conditions (sample_before older) i))

-- it "stood in an accepted sample since the later of that port's last accepted read of that byte and the last accepted reset"
abbrev pub PresentSince : Port → ℕ → ℕ → Calls → Type 0
PresentSince p i j h = StoodSince eight (present i j) p (flags.first + i) h

-- and so did an onset of it: the bit is pending
abbrev pub OnsetSince : Port → ℕ → ℕ → Calls → Type 0
OnsetSince p i j h = StoodSince eight (begins i j) p (flags.first + i) h

-- ---- the interrupt

-- "a pending bit is unmasked", after the history h of calls, which left the bytes s: its condition had an onset since, and its mask bit
-- reads 0
pub record PendingUnmasked (s : List ℕ) (p : Port) (h : Calls) : Type 0 where
  pub i : ℕ
  pub j : ℕ
  pub i_small : i < flags.many
  pub j_small : j < 8
  pub pending : OnsetSince p i j h
  pub unmasked : bit j (seen ((state_of eight s).own p) (masks.first + i)) ≡ 0

-- ---- writes

-- "A write changes the writable bits it addresses and nothing else."
pub record WriteRule (s : List ℕ) (n a : ℕ) (vs : List ℕ) : Type 0 where
  -- each addressed mask byte: its mask bits take the written value, its other bits stay
  pub bits : (i j : ℕ) → i < masks.many → j < 8 → covers a (length vs) (masks.first + i) ≡ true
      → bit j (at (after eight s (write n a vs)) (base eight (caller n) + mask_of i))
      ≡ (if has j (at mask_bits i) then bit j (at vs (masks.first + i - a)) else bit j (at s (base eight (caller n) + mask_of i)))
  -- every other byte of the state stays
  pub elsewhere : (k : ℕ) → k < state_size eight
      → ((i : ℕ) → i < masks.many → covers a (length vs) (masks.first + i) ≡ true → k ≡ base eight (caller n) + mask_of i → ⊥)
      → at (after eight s (write n a vs)) k ≡ at s k
