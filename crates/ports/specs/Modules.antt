-- What a document says of a module with two ports, and the refusals that follow: document 01's, with the module's own lengths.
-- Assumes nothing.
use Rattle.std.specs.Prelude.{◌+◌, ◌*◌, ◌&&◌, ◌||◌, ◌∷◌, ◌++◌}
use Rattle.laws.specs.Words.{ℕ, Bool, not, List, [], length, ltb, eqb, Row, first_of}
use Rattle.ports.specs.Ports.{Port, operator, recorder, same, nobody, caller, Places, State, CallOf, reset, sample, read, write}

-- Image is what a reset takes
pub record Module (Image : Type 0) : Type 0 where
  -- how long the memory and a record are
  pub memory_size : ℕ
  pub record_size : ℕ
  -- the refusals: 3 the record is unsound (on this memory), 5 the addresses end here, 7 the n addresses from a on are the port's own
  -- bytes (by its record), 8 the length of a sample, 9 and 10 what is wrong with an image
  pub sound : Places → Places → Bool
  pub reach : ℕ
  pub all_mine : Places → ℕ → ℕ → Bool
  pub sample_size : ℕ
  pub image_rows : Image → List Row
  -- the memory after an accepted reset
  pub fresh : Image → Places → Places
  -- the memory, and a record, after an accepted sample
  pub stored : Places → List ℕ → Places
  pub raised : Places → List ℕ → Places → Places
  -- the caller's record after an accepted read of n bytes at a
  pub cleared : Places → ℕ → ℕ → Places → Places
  -- the state after an accepted write of these bytes at a
  pub puts : State → Port → ℕ → List ℕ → State
  -- what an address reads
  pub seen : Places → Places → ℕ → ℕ
  -- the number of bits that a record's masks let through, and whether its interrupt stands
  pub count : Places → ℕ
  pub stands : Places → Bool
  -- the shared list, which "both see .., the operator alone writes": its places in the memory, and, by a record, the addresses that lead
  -- there
  pub shared : ℕ → Bool
  pub leads_shared : Places → ℕ → Bool

-- 4: "read of 0 or more than 128 bytes; write of 0 or more than 4"
abbrev pub miscounted : ℕ → ℕ → Bool
miscounted most n = eqb n 0 || ltb most n

-- 5: "address + count above 256"
abbrev pub beyond : ℕ → ℕ → ℕ → Bool
beyond reach a n = ltb reach (a + n)

-- 5: "a write that starts at 127 or below and ends at 128 or above": its last byte, at a + n - 1
abbrev pub across : ℕ → ℕ → Bool
across a n = ltb a 128 && ltb 128 (a + n)

module _ {Image : Type 0} (M : Module Image) where
  -- "A record's .. bytes" stand behind the memory, the operator's first
  abbrev pub base : Port → ℕ
  base operator = M.memory_size
  base recorder = M.memory_size + M.record_size

  abbrev pub state_size : ℕ
  state_size = M.memory_size + 2 * M.record_size

  -- 1: "the state isn't 688 bytes"
  abbrev pub wrong_size : List ℕ → Bool
  wrong_size s = not (eqb (length s) state_size)

  -- 3: "the calling port's record is unsound (sample: either record)"
  abbrev pub unsound : State → Port → Bool
  unsound m p = not (M.sound m.mem (m.own p))

  -- 7: "a recorder's write touches a byte not its own"
  abbrev pub foreign : State → ℕ → ℕ → ℕ → Bool
  foreign m n a k = same (caller n) recorder && not (M.all_mine (m.own recorder) a k)

  -- ---- the order: "Read can give 1 to 6; write 1 to 5 and 7; sample 1, 3, 8; reset 1, 9, 10"

  -- of any call by a port
  abbrev pub port_rows : State → ℕ → List Row
  port_rows m n = (2, nobody n) ∷ (3, unsound m (caller n)) ∷ []

  -- of a read of k bytes at address a into `room` bytes
  abbrev pub read_rows : ℕ → ℕ → ℕ → List Row
  read_rows a k room = (4, miscounted 128 k) ∷ (5, beyond M.reach a k) ∷ (6, ltb room k) ∷ []

  -- of a write of k bytes at address a by port n
  abbrev pub write_rows : State → ℕ → ℕ → ℕ → List Row
  write_rows m n a k = (4, miscounted 4 k) ∷ (5, beyond M.reach a k || across a k) ∷ (7, foreign m n a k) ∷ []

  -- 8: "a sample isn't 31 bytes"
  abbrev pub sample_rows : List ℕ → List Row
  sample_rows x = (8, not (eqb (length x) M.sample_size)) ∷ []

  -- refusal 1 stands beside the bytes (Bytes.antt): a state here is one of the right length
  unfoldable pub rows : State → CallOf Image → List Row
  rows m (read n a k out) = port_rows m n ++ read_rows a k (length out)
  rows m (write n a vs) = port_rows m n ++ write_rows m n a (length vs)
  rows m (sample x) = (3, unsound m operator || unsound m recorder) ∷ sample_rows x
  rows m (reset img) = M.image_rows img

  -- "The lowest number wins"; "Accepted is 0"
  unfoldable pub refusal : State → CallOf Image → ℕ
  refusal m c = first_of (rows m c)

  abbrev pub accepted : State → CallOf Image → Bool
  accepted m c = eqb (refusal m c) 0
