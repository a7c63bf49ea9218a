-- The count over pairs side by side: one pair more; and in the record of any module. What a read shows of a record.
-- Assumes nothing.
use Rattle.std.specs.Prelude.{if◌then◌else◌}
use mathlib.Core.Path.{◌≡◌, refl, ap}
use mathlib.Core.List.{List, [], ◌∷◌, ◌++◌, map, map-append}
use Prim.Native.Nat.{ℕ, zero, suc, ◌+◌, ◌-◌, ◌≤◌, ◌<◌}
use native.Mathlib.Nat.{add-zero}
use native.Mathlib.Omega.{arith}
use lib.Bits.{bit_and, bit_xor}
use lib.Count.{ones}
use borrow.Author.Tests.{lt-ltb}
use Rattle.laws.specs.Tests.{Run, within}
use Rattle.laws.specs.Lists.{at, sum}
use Rattle.laws.proofs.Tests.{case, covers_true}
use Rattle.laws.proofs.Sums.{sum_last}
use Rattle.ports.specs.Ports.{Places}
use Rattle.ports.specs.Interrupt.{Pair, count_pair}
use Rattle.ports.specs.Modules.{Module}
use Rattle.ports.specs.Bytes.{record_of}
use Rattle.ports.proofs.Interrupt.{ones_through}
use Rattle.moves.specs.Copied.{copied}
use Rattle.both.specs.Beside.{beside}

-- ---- the count

-- the last of some pairs side by side
beside_last : (j f m : ℕ) → beside (j + 1) f m ≡ beside j f m ++ (record { flag_byte = f + j; mask_byte = m + j } ∷ [])
beside_last zero f m = simp add-zero
beside_last (suc j) f m =
    let e : suc j + 1 ≡ suc (j + 1) = omega arith in
    let p : suc f + j ≡ f + suc j = omega arith in
    let q : suc m + j ≡ m + suc j = omega arith in
    rw (e, ← p, ← q) (ap (λ (l : List Pair). record { flag_byte = f; mask_byte = m } ∷ l) (beside_last j (suc f) (suc m)))

-- one pair more
pub count_more : (o : Places) (j f m : ℕ) → o (f + j) < 256
    → sum (map (count_pair o) (beside (j + 1) f m)) ≡ sum (map (count_pair o) (beside j f m)) + ones (bit_xor (o (f + j)) (bit_and (o (f + j)) (o (m + j))))
count_more o j f m l = rw (beside_last j f m, map-append, sum_last, ones_through (o (f + j)) (o (m + j)) l)

-- the bytes from b on are the record there
pub count_record : {Image : Type 0} (M : Module Image) (s : List ℕ) (b n f m : ℕ) → f + n ≤ M.record_size → m + n ≤ M.record_size
    → sum (map (count_pair (λ k. at s (b + k))) (beside n f m)) ≡ sum (map (count_pair (record_of M s b)) (beside n f m))
unfolding sum
count_record M s b zero f m x y = refl
count_record M s b (suc n) f m x y =
    rw (lt-ltb f M.record_size (omega arith), lt-ltb m M.record_size (omega arith), count_record M s b n (suc f) (suc m) (omega arith) (omega arith))

-- ---- what a read shows

-- the bytes from place p on stand for the run r of addresses, and address i has byte d of the record at b
pub own_byte : {Image : Type 0} (M : Module Image) (s : List ℕ) (b : ℕ) (r : Run) (p d i : ℕ) {x y : ℕ}
    → (r.first ≤ i → i < r.first + r.many → (p + (i - r.first) ≡ b + d) × (d < M.record_size)) → x ≡ y
    → copied s p r.first r.many i x ≡ (if within r i then record_of M s b d else y)
own_byte M s b r p d i f e = case (within r i)
    (λ t. let c = covers_true r.first r.many i t in let k = f c.0 c.1 in rw (t, k.0, lt-ltb d M.record_size k.1))
    (λ t. rw t e)
