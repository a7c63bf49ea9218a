-- Document 01, "Refusal numbers and their order": what each call refuses, and in which order. The tests and the order of reset, sample,
-- read and write are those of any module with two ports (ports, specs/Modules.antt), with document 01's lengths.
-- Assumes nothing.
use Rattle.std.specs.Prelude.{◌||◌, ◌∷◌}
use Rattle.laws.specs.Words.{ℕ, Bool, not, List, [], length, leb, covers, Row, first_of}
use Rattle.ports.specs.Modules
pub use Rattle.ports.specs.Modules.{miscounted, across}
use Rattle.model.specs.Ports.{State, Call}
use Rattle.model.specs.Samples.{quantities}
use Rattle.model.specs.Readout.{fields, sound_page}
use Rattle.model.specs.Module.{document01}
pub use Rattle.model.specs.Reset.{reset_rows}
unfoldable pub use Rattle.model.specs.Writing.{is_mine, all_mine}

-- 1: "the state isn't 688 bytes"
abbrev pub wrong_size : List ℕ → Bool
wrong_size s = Modules.wrong_size document01 s

-- 7: "a recorder's write touches a byte not its own"
abbrev pub foreign : State → ℕ → ℕ → ℕ → Bool
foreign m n a k = Modules.foreign document01 m n a k

abbrev pub port_rows : State → ℕ → List Row
port_rows m n = Modules.port_rows document01 m n

abbrev pub read_rows : ℕ → ℕ → ℕ → List Row
read_rows a k room = Modules.read_rows document01 a k room

abbrev pub write_rows : State → ℕ → ℕ → ℕ → List Row
write_rows m n a k = Modules.write_rows document01 m n a k

abbrev pub refusal : State → Call → ℕ
refusal m c = Modules.refusal document01 m c

abbrev pub accepted : State → Call → Bool
accepted m c = Modules.accepted document01 m c

-- "identity 11, 12": "12 comes before 11"
abbrev pub identity_rows : List ℕ → List ℕ → ℕ → List Row
identity_rows live factory f =
    (12, not (covers 1 (length fields) f)) ∷ (11, not (sound_page live || sound_page factory)) ∷ []

abbrev pub identity_refusal : List ℕ → List ℕ → ℕ → ℕ
identity_refusal live factory f = first_of (identity_rows live factory f)

-- "monitor and limits 1, 13": "the monitor number is above 13, or the quantity above 4"
abbrev pub monitor_rows : List ℕ → ℕ → List Row
monitor_rows s n = (1, wrong_size s) ∷ (13, leb 14 n) ∷ []

abbrev pub limits_rows : List ℕ → ℕ → List Row
limits_rows s q = (1, wrong_size s) ∷ (13, leb (length quantities) q) ∷ []
