-- Two ports, the state that they share, and the calls on it.
-- A state is what stands at each place: the module's memory, which both ports share, and one record for each port.
-- Assumes nothing.
use Rattle.std.specs.Prelude.{◌&&◌, if◌then◌else◌}
use Rattle.laws.specs.Words.{ℕ, Bool, true, false, not, List, [], eqb}

pub data Port : Type 0 where
  operator recorder : Port

abbrev pub same : Port → Port → Bool
same operator operator = true
same operator recorder = false
same recorder operator = false
same recorder recorder = true

-- "the port is neither 1 (operator) nor 2 (recorder)"
abbrev pub nobody : ℕ → Bool
nobody n = not (eqb n 1) && not (eqb n 2)

-- the port of a number that is a port's
abbrev pub caller : ℕ → Port
caller n = if eqb n 1 then operator else recorder

-- the call of port number n is p's
abbrev pub is_by : Port → ℕ → Bool
is_by p n = not (nobody n) && same (caller n) p

-- what stands at each place of the memory, or of a record
abbrev pub Places : Type 0
Places = ℕ → ℕ

pub record State : Type 0 where
  pub mem : Places
  pub own : Port → Places

-- one port's record is replaced
abbrev pub give : (Port → Places) → Port → Places → Port → Places
give own p new q = if same p q then new else own q

-- the calls that are lent the state to change it; Image is what a reset takes
pub data CallOf (Image : Type 0) : Type 0 where
  reset : Image → CallOf Image
  sample : List ℕ → CallOf Image  -- the sample
  read : ℕ → ℕ → ℕ → List ℕ → CallOf Image  -- port, address, count, output memory
  write : ℕ → ℕ → List ℕ → CallOf Image  -- port, address, bytes

-- a call of port p, a sample or a reset
abbrev pub concerns : {Image : Type 0} → Port → CallOf Image → Bool
concerns p (reset img) = true
concerns p (sample x) = true
concerns p (read n a k out) = is_by p n
concerns p (write n a vs) = is_by p n

abbrev pub is_reset : {Image : Type 0} → CallOf Image → Bool
is_reset (reset img) = true
is_reset (sample x) = false
is_reset (read n a k out) = false
is_reset (write n a vs) = false

-- the output memory that a call is lent
abbrev pub lent : {Image : Type 0} → CallOf Image → List ℕ
lent (reset img) = []
lent (sample x) = []
lent (read n a k out) = out
lent (write n a vs) = []
