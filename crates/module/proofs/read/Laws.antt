-- A read replaces the first bytes of one record and nothing else, so that the bytes it leaves are those of the state with that record
-- replaced; and what an accepted read relies on.
-- Assumes nothing.
use mathlib.Core.Path.{◌≡◌}
use mathlib.Core.List.{List}
use Prim.Native.Nat.{ℕ, ◌+◌}
use native.Mathlib.Omega.{arith}
use lib.ListN.{length}
use borrow.Author.Tests.{le-ltb}
use Rattle.laws.specs.Lists.{patch}
use Rattle.ports.proofs.Taken as relied
use Rattle.ports.proofs.Left as left
use Rattle.model.specs.Ports.{caller, read}
use Rattle.model.specs.Map.{base, flags}
use Rattle.model.specs.Reading.{seen, cleared}
use Rattle.model.specs.Interrupt.{count}
use Rattle.model.specs.Module.{document01}
use Rattle.model.specs.Bytes.{memory_of, record_of, refusal_of}
use Rattle.model.specs.Outcomes.{ReadDone}
use Rattle.model.proofs.Lawful.{lawful}

-- an accepted read, with the caller's record at b
module _ (s : List ℕ) (n a k : ℕ) (out : List ℕ) (b : ℕ) (taken : refusal_of s (read n a k out) ≡ 0) (is : b ≡ base (caller n)) where
  -- what it relies on
  pub read_taken : relied.Relies document01 s b a k (length out)
  read_taken = relied.read_relies document01 s n a k out b taken is

  pub read_done : (c : ℕ) (t shown : List ℕ) → t ≡ patch b flags.many (cleared a k (record_of s b)) s → c ≡ count (record_of t b)
      → shown ≡ patch 0 k (λ j. seen (memory_of s) (record_of s b) (a + j)) out → ReadDone s n a k out 0 c t shown
  unfolding cleared
  read_done c t shown = left.read_done document01 lawful s n a k out taken b c flags.many t shown is (omega arith) (λ i l h. rw (le-ltb i flags.many l))
