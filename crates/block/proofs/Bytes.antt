-- A block that is written of bytes is one of bytes.
-- Assumes nothing.
use mathlib.Core.List.{List}
use Prim.Native.Nat.{ℕ, zero, suc, ◌+◌, ◌-◌, ◌<◌}
use native.Mathlib.Omega.{arith}
use lib.Bits.{or_lt}
use lib.Dec.{ltb, eqb}
use lib.ListN.{get_or-eq_default}
use borrow.Author.Tests.{ltb-true, ltb-false}
use Rattle.laws.specs.Tests.{covers}
use Rattle.laws.specs.Lists.{at, table}
use Rattle.laws.proofs.Tests.{case, if_elim}
use Rattle.laws.proofs.Lists.{table_length, table_at}
use Rattle.block.specs.Block.{block_size, sample_size, count_at, count, most_samples, slot, room_end, any_to, summary, check_of, sealed, number_bytes, fresh, grown, Bytes, grown_at}

pub bytes_table : (n : ℕ) (f : ℕ → ℕ) → ((i : ℕ) → i < n → f i < 256) → Bytes (table n f)
bytes_table n f small i = case (ltb i n)
    (λ t. let h = ltb-true i n t in rw (table_at n f i h) (small i h))
    (λ t. let h = ltb-false i n t in rw (get_or-eq_default (table n f) 0 {n = i} (rw (table_length n f) h)) (omega arith))

pub bytes_sealed : (f : ℕ → ℕ) → ((i : ℕ) → f i < 256) → Bytes (table block_size (sealed f))
unfolding sealed check_of summary any_to
bytes_sealed f small = bytes_table block_size (sealed f)
    (λ i h. if_elim (λ n. n < 256) (ltb i 510)
    (λ t. if_elim (λ n. n < 256) (ltb i room_end) (λ u. small i)
    (λ u. if_elim (λ n. n < 256) (ltb (i - room_end) 3) (λ v. any (i - room_end) (f count_at))
    (λ v. if_elim (λ n. n < 256) (eqb (i - room_end) 3) (λ w. omega arith) (λ w. omega arith))))
    (λ t. if_elim (λ n. n < 256) (eqb i 510) (λ u. omega arith) (λ u. omega arith)))
  where
    any : (j n : ℕ) → any_to f j n < 256
    any j zero = omega arith
    any j (suc n) = or_lt 8 (any_to f j n) (f (slot n + j)) (any j n) (small (slot n + j))

pub bytes_fresh : (n : ℕ) → Bytes (fresh n)
unfolding fresh
bytes_fresh n = bytes_sealed (at (number_bytes n)) (by n)
  where
    by : (n i : ℕ) → at (number_bytes n) i < 256
    by n zero = omega arith
    by n (suc zero) = omega arith
    by n (suc (suc zero)) = omega arith
    by n (suc (suc (suc zero))) = omega arith
    by n (suc (suc (suc (suc i)))) = omega arith

pub bytes_grown : (b x : List ℕ) → Bytes b → Bytes x → count b < most_samples → Bytes (grown b x)
unfolding grown
bytes_grown b x l s h =
    bytes_sealed (grown_at b x)
    (λ i. if_elim (λ n. n < 256) (eqb i count_at) (λ t. omega arith)
    (λ t. if_elim (λ n. n < 256) (covers (slot (count b)) sample_size i) (λ u. s (i - slot (count b))) (λ u. l i)))
