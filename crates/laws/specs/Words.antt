-- All the words that the definitions of the crates above, and the statements that docs/EXAMINER.md names, are written in, and nothing
-- else: those of the toolchain's library, here in one place, and the few of our own that know of no document. Every file takes the
-- library's operators from the library itself, as rt asks; which it may take stands here.
-- Assumes nothing.
pub use Rattle.std.specs.Prelude.{ℕ, zero, suc, ◌+◌, ◌-◌, ◌*◌, ◌/◌, ◌%◌, ◌^◌, ◌<◌, ◌≤◌, ℤ, pos, nat_abs, negsuc, neg_ℤ, Bool, true, false, not, ◌&&◌, ◌||◌, eqb, ltb, leb, ◌≡◌, ◌↔◌, ◌≢◌, if◌then◌else◌, length, get_or, take, drop, set, replicate, Float, Result, Ok, Err, MatchResult, Some, None}
pub use Rattle.std.specs.Int.Bits.{bit_or, bit_and, bit_xor}
pub use Rattle.std.specs.Int.Count.{ones}
pub use Rattle.std.specs.Int.Signed.{non_neg, lt_z}
pub use Rattle.std.proofs.Math.Option.{Option, none, some}
pub use mathlib.Core.List.{List, [], ◌∷◌, Memᴰ, Nodup, ◌++◌, map}
pub use Rattle.std.specs.Float.Ieee.{div, of_int}
pub use Rattle.std.specs.Float.{binary64}
pub use Rattle.std.specs.Float.Ieee.Exact.{HasValue}
pub use Rattle.std.specs.Borrow.{Bor}
pub use Rattle.laws.specs.Bits.{bit, has, splice}
pub use Rattle.laws.specs.Lists.{at, table, patch, sum, part}
pub use Rattle.laws.specs.Tests.{Row, first_of, covers, none_of, numbers_of, InOrder, Told, refused, given, told, one, Run, ◌to◌, within}
