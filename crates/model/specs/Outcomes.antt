-- What each call promises, for every input: an equation for each thing that it leaves or answers.
-- Assumes nothing.
use Rattle.std.specs.Prelude.{◌+◌, ◌≡◌, if◌then◌else◌}
use Rattle.laws.specs.Words.{ℕ, List, length, eqb, Float, Bor}
pub use Rattle.laws.specs.Words.{Told, refused, given, told}
use Rattle.ports.specs.Outcomes
use Rattle.model.specs.Ports.{Call}
use Rattle.model.specs.Module.{document01}
use Rattle.model.specs.Refusals.{identity_refusal, monitor_rows, limits_rows}
use Rattle.model.specs.Readout.{sound_page, field_start, Measured, monitor, limits}
use Rattle.model.specs.Calls.{view_of}
use Rattle.model.specs.Bytes.{memory_of}

-- ---- the calls that are lent the state to change it: as for any module with two ports (ports, specs/Outcomes.antt)

-- a reset or a sample, on the state s: it answers a refusal and both ports' counts, and leaves the state t
abbrev pub Reported : List ℕ → Call → ℕ → ℕ → ℕ → List ℕ → Type 0
Reported s c refusal first second t = Outcomes.Reported document01 s c refusal first second t

-- a read of k bytes at address a by port n, into the memory out: it answers a refusal and the port's count, and leaves the state t
-- and the output memory shown
abbrev pub ReadDone : List ℕ → ℕ → ℕ → ℕ → List ℕ → ℕ → ℕ → List ℕ → List ℕ → Type 0
ReadDone s n a k out refusal counted t shown = Outcomes.ReadDone document01 s n a k out refusal counted t shown

-- a write of the bytes vs at address a by port n
abbrev pub WriteDone : List ℕ → ℕ → ℕ → List ℕ → ℕ → ℕ → List ℕ → Type 0
WriteDone s n a vs refusal counted t = Outcomes.WriteDone document01 s n a vs refusal counted t

-- ---- identity

-- where the field f lies, as numbers: its page is 1 live, 2 factory, 0 where it is refused
pub record Located (live factory : List ℕ) (f refusal page start long : ℕ) : Type 0 where
  pub refusal_is : refusal ≡ identity_refusal live factory f
  pub page_is : page ≡ (if eqb (identity_refusal live factory f) 0 then (if sound_page live then 1 else 2) else 0)
  pub start_is : start ≡ (if eqb (identity_refusal live factory f) 0 then field_start f else 0)
  pub length_is : long ≡ length (view_of live factory f)

-- the place i bytes on from where a reference points: the block of memory, and how far into it
abbrev pub past : Bor (List ℕ) → ℕ → ℕ × ℕ
past r i = (r.ref_ptr.0, i + r.ref_ptr.1)

-- the field itself, a part of the page it came from: its bytes, and where it points; where a refused view points is not said
pub record Viewed (live factory : Bor (List ℕ)) (f : ℕ) (r : Bor (List ℕ)) : Type 0 where
  pub bytes_are : r.now ≡ view_of live.now factory.now f
  pub place_is : identity_refusal live.now factory.now f ≡ 0 → r.ref_ptr ≡ past (if sound_page live.now then live else factory) (field_start f)

-- ---- monitors and limits

abbrev pub monitor_told : List ℕ → ℕ → Told Measured
monitor_told s n = told (monitor_rows s n) (monitor (memory_of s) n)

abbrev pub limits_told : List ℕ → ℕ → Told (List Float)
limits_told s q = told (limits_rows s q) (limits (memory_of s) q)
