-- What the functions that C calls promise: the contracts of ports/specs, model/specs and log_model/specs, the numbers packed into one.
-- Assumes nothing.
use Rattle.std.specs.Prelude.{◌/◌, ◌%◌, ◌<◌, ◌≡◌}
use Rattle.laws.specs.Words.{ℕ, suc, List, Option, none, some}
use Rattle.ports.specs.Ports.{CallOf}
use Rattle.ports.specs.Modules.{Module}
use Rattle.ports.specs.Outcomes.{Reported, ReadDone, WriteDone}
use Rattle.model.specs.Outcomes.{Located, monitor_told}
use Rattle.log_model.specs.Outcomes.{Added, Opened, Placed}
use Rattle.question.specs.Search.{Told, refused, given, first_told}
use Rattle.bridge.specs.Packing.{byte_of, refusal_in, kind_in}

-- a number that C holds in an uint32_t
abbrev pub Word32 : ℕ → Type 0
Word32 x = x < 4294967296

-- ---- the calls that are lent the state to change it

-- of document 01's module and of the eight-channel one
module _ {Image : Type 0} (M : Module Image) where
  -- a reset or a sample: the refusal, the operator's count, the recorder's
  pub record ReportPacked (s : List ℕ) (c : CallOf Image) (answer : ℕ) (t : List ℕ) : Type 0 where
    pub report_is : Reported M s c (byte_of 0 answer) (byte_of 1 answer) (byte_of 2 answer) t
    pub rest_is : byte_of 3 answer ≡ 0

  -- a read: the refusal, the calling port's count
  pub record ReadPacked (s : List ℕ) (n a k : ℕ) (out : List ℕ) (answer : ℕ) (t shown : List ℕ) : Type 0 where
    pub read_is : ReadDone M s n a k out (byte_of 0 answer) (byte_of 1 answer) t shown
    pub rest_is : (byte_of 2 answer ≡ 0) × (byte_of 3 answer ≡ 0)

  -- a write, likewise
  pub record WritePacked (s : List ℕ) (n a : ℕ) (vs : List ℕ) (answer : ℕ) (t : List ℕ) : Type 0 where
    pub write_is : WriteDone M s n a vs (byte_of 0 answer) (byte_of 1 answer) t
    pub rest_is : (byte_of 2 answer ≡ 0) × (byte_of 3 answer ≡ 0)

-- ---- identity and monitors

-- where a field lies: the refusal, the page, where the field starts in it, its length
abbrev pub PlacePacked : List ℕ → List ℕ → ℕ → ℕ → Type 0
PlacePacked live factory f answer = Located live factory f (byte_of 0 answer) (byte_of 1 answer) (byte_of 2 answer) (byte_of 3 answer)

-- a monitor's kind: the refusal, the kind
pub record KindPacked (s : List ℕ) (n answer : ℕ) : Type 0 where
  pub refusal_is : byte_of 0 answer ≡ refusal_in (monitor_told s n)
  pub kind_is : byte_of 1 answer ≡ kind_in (monitor_told s n)
  pub rest_is : (byte_of 2 answer ≡ 0) × (byte_of 3 answer ≡ 0)

-- ---- a log of samples

-- what stands beside the refusal: bits 8 to 63
abbrev pub upper : ℕ → ℕ
upper r = r / 256

-- a sample added: the refusal, the used number after it
abbrev pub AddPacked : List ℕ → ℕ → List ℕ → ℕ → List ℕ → Type 0
AddPacked log used x answer left = Added log used x (byte_of 0 answer) (upper answer) left

-- a power-up, likewise
abbrev pub OpenPacked : List ℕ → ℕ → ℕ → List ℕ → Type 0
OpenPacked log used answer left = Opened log used (byte_of 0 answer) (upper answer) left

-- where the sample at a position begins: the refusal, the place
abbrev pub SamplePacked : List ℕ → ℕ → ℕ → ℕ → Type 0
SamplePacked log used k answer = Placed log used k (byte_of 0 answer) (upper answer)

-- the first sample with a status bit: the refusal, and 0 for none or else the position plus 1, its low 56 bits
abbrev pub value_of_first : Told (Option ℕ) → ℕ
value_of_first (refused n) = 0
value_of_first (given none) = 0
value_of_first (given (some i)) = suc i % 72057594037927936

pub record FirstPacked (log : List ℕ) (used k answer : ℕ) : Type 0 where
  pub refusal_is : byte_of 0 answer ≡ refusal_in (first_told log used k)
  pub value_is : upper answer ≡ value_of_first (first_told log used k)
