-- Document 02, Ask 1: any one byte of a sound log's used blocks that is changed makes the log unsound, since it makes its block so.
-- Assumes nothing.
use mathlib.Core.Path.{◌≡◌, sym, ap, ◌∙◌}
use mathlib.Core.Logic.{◌≢◌}
use mathlib.Core.Bool.{true}
use mathlib.Core.List.{List}
use Prim.Native.Nat.{ℕ, ◌+◌, ◌*◌, ◌/◌, ◌%◌, ◌≤◌, ◌<◌}
use native.Mathlib.Omega.{arith}
use lib.ListN.{length, set}
use Rattle.laws.specs.Lists.{at}
use Rattle.laws.proofs.Tests.{case, not_both}
use Rattle.laws.proofs.Lists.{part_length, part_at}
use Rattle.laws.proofs.Parts.{part_set}
use Rattle.block.specs.Block.{block_size, sound_block, Bytes}
use Rattle.block.proofs.Damage.{block_damaged}
use Rattle.log_model.specs.Log.{block, unsound, Fit}
use Rattle.log_model.proofs.BlockByBlock.{sound_block_lem, bytes_block}
use Rattle.log_model.proofs.Fits.{fit}

pub damage_seen : (log : List ℕ) (used : ℕ) → Fit log used → Bytes log → (i v : ℕ) → i < block_size * used → v < 256 → v ≢ at log i → unsound (set log i v) used ≡ true
damage_seen log used was bytes i v h byte new = case (unsound (set log i v) used)
    (λ t. t)
    (λ t. let n : ℕ = i / block_size in
    let j : ℕ = i % block_size in
    let z : block_size * n + j ≡ i = omega arith in
    let few = was.fits in
    let room : block_size * n + block_size ≤ length log = omega arith in
    let old : at (block log n) j ≡ at log i = part_at (block_size * n) block_size log room j (omega arith) ∙ ap (at log) z in
    let cut : block (set log i v) n ≡ set (block log n) j v = ap (λ k. block (set log k v) n) (sym z) ∙ part_set (block_size * n) block_size j v log room (omega arith) in
    not_both (sound_block (block (set log i v) n))
    (sound_block_lem (set log i v) used n (omega arith) (fit (set log i v) used t).good)
    (ap sound_block cut ∙ block_damaged (block log n) (part_length (block_size * n) block_size log room) (bytes_block log n bytes room)
    (sound_block_lem log used n (omega arith) was.good) j v (omega arith) byte (λ y. new (y ∙ old))))
