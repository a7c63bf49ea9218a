-- Memory of bytes stays memory of bytes, since each block that is put is one of bytes.
-- Assumes nothing.
use Rattle.std.specs.Prelude.{if◌then◌else◌}
use mathlib.Core.Path.{◌≡◌}
use mathlib.Core.Bool.{false, ◌&&◌}
use mathlib.Core.List.{List}
use Prim.Native.Nat.{ℕ, suc, ◌-◌, ◌*◌, ◌<◌}
use native.Mathlib.Omega.{arith}
use lib.ListN.{length}
use Rattle.laws.specs.Tests.{covers}
use Rattle.laws.specs.Lists.{at, patch}
use Rattle.laws.proofs.Tests.{if_elim}
use Rattle.block.specs.Block.{block_size, grown, Bytes}
use Rattle.log_model.specs.Log.{block, needs_new, none_left, put, new_block, after_power_up, after_add, last_number, Fit}
use Rattle.block.proofs.Blocks.{fresh_count}
use Rattle.block.proofs.Bytes.{bytes_table, bytes_fresh, bytes_grown}
use Rattle.log_model.proofs.BlockByBlock.{bytes_block}
use Rattle.log_model.proofs.Adds.{add_elim}

pub bytes_put : (log : List ℕ) (i : ℕ) (b : List ℕ) → Bytes log → Bytes b → Bytes (put log i b)
unfolding put patch
bytes_put log i b l s = bytes_table (length log) (λ j. if covers (block_size * i) block_size j then at b (j - block_size * i) else at log j)
    (λ j h. if_elim (λ n. n < 256) (covers (block_size * i) block_size j) (λ t. s (j - block_size * i)) (λ t. l j))

-- after a power-up, and after an add that is not refused
pub power_up_bytes : (log : List ℕ) (used : ℕ) → Bytes log → Bytes (after_power_up log used)
power_up_bytes log used l = bytes_put log used (new_block log used) l (bytes_fresh (suc (last_number log used)))

pub add_bytes : (log : List ℕ) (used : ℕ) (x : List ℕ) → Bytes log → Bytes x → Fit log used → (needs_new log used && none_left log used) ≡ false → Bytes (after_add log used x)
add_bytes log used x l s was free =
    add_elim log used x (λ t n. Bytes t) free
    (λ t q. bytes_put log used (grown (new_block log used) x) l
    (bytes_grown (new_block log used) x (bytes_fresh (suc (last_number log used))) s (rw (fresh_count _) (omega arith))))
    (λ n e t r. let h = was.fits in
    bytes_put log n (grown (block log n) x) l (bytes_grown (block log n) x (bytes_block log n l (omega arith)) s r))
