-- What the two ports of the code stand for.
-- Assumes nothing.
use Rattle.std.specs.Prelude.{◌≡◌, Result, MatchResult}
use Rattle.laws.specs.Words.{ℕ, true}
use Rattle.ports.specs.Ports.{nobody}
use Rattle.refusal.specs.declared.Refusal.{Refusal}
use Rattle.refusal.specs.declared.Refusal.TheVariants.{NoSuchPort}
use Rattle.both.specs.declared.Port.{Port}
use Rattle.both.specs.declared.Port.TheVariants.{Operator, Recorder}

-- the number that a caller says
abbrev pub port_number : Port → ℕ
port_number = elim [ Operator ↦ 1 | Recorder ↦ 2 ]

-- the port of a number, or a refusal of a number that is nobody's
abbrev pub IsPort : ℕ → Result Port Refusal → Type 0
IsPort n r = MatchResult r (λ p. port_number p ≡ n) (λ e. (e ≡ NoSuchPort) × (nobody n ≡ true))
