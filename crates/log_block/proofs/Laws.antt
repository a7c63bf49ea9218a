-- Blocks as the functions write them: sealing goes by the places before byte 501 alone (`resealed`), so it is enough that the steps
-- before it leave there what the definition says.
-- Assumes nothing.
use Rattle.std.proofs.Common.{◌≡◌, ℕ, zero, suc, ◌+◌, ◌<◌, ◌≤◌, eqb, ltb, List, length, set, take, drop, ◌++◌, replicate, sym, refl, ap, ◌∙◌, arith, ltb-false, ltb-true}
use native.Mathlib.Nat.{div-div-eq-div-mul}
use Rattle.std.proofs.lemmas.List.{length-replicate, drop-replicate, get_or-replicate}
use lib.ListN.{get_or-eq_default}
use Rattle.std.specs.Int.{w64, to_be_bytes}
use Rattle.laws.specs.Lists.{at, table, patch}
use Rattle.laws.proofs.Tests.{case}
use Rattle.laws.proofs.Lists.{patch_length, patch_at, at_set}
use Rattle.laws.proofs.Parts.{put_back, table_same}
use Rattle.block.specs.Block.{block_size, sample_size, count, most_samples, slot, number_bytes, count_at, room_end, sealed, fresh, grown, grown_at}
use Rattle.block.proofs.Sealed.{sealed_same}

-- a block that is sealed once its places before byte 501 hold f
resealed : (t : List ℕ) (f : ℕ → ℕ) → f count_at ≤ most_samples → ((i : ℕ) → i < room_end → at t i ≡ f i)
    → table block_size (sealed (at t)) ≡ table block_size (sealed f)
resealed t f few same =
    table_same block_size (sealed (at t)) (sealed f) (λ i h. sym (sealed_same f (at t) few (λ j l. sym (same j l)) i))

-- a number's last four bytes of eight, by two divisions and by one
digits : (n : ℕ) → drop 4 (to_be_bytes w64 n) ≡ number_bytes n
digits n = rw (div-div-eq-div-mul n 256 256, div-div-eq-div-mul n 65536 256)

zeros : (k i : ℕ) → at (replicate k 0) i ≡ 0
zeros k i = case (ltb i k)
    (λ t. get_or-replicate k i 0 0 (ltb-true i k t))
    (λ t. let h = ltb-false i k t in get_or-eq_default (replicate k 0) 0 {n = i} (rw length-replicate h))

-- a number in front of zeros
begun : (n i : ℕ) → at (number_bytes n ++ replicate 508 0) i ≡ at (number_bytes n) i
begun n zero = refl
begun n (suc zero) = refl
begun n (suc (suc zero)) = refl
begun n (suc (suc (suc zero))) = refl
begun n (suc (suc (suc (suc i)))) = zeros 508 i

pub begin_done : (n : ℕ) {t w : List ℕ} → t ≡ replicate block_size 0 → w ≡ drop 4 (to_be_bytes w64 n) → table block_size (sealed (at (w ++ drop 4 t))) ≡ fresh n
unfolding fresh
begin_done n {t} {w} e d =
    let rest : drop 4 t ≡ replicate 508 0 = ap (drop 4) e ∙ drop-replicate {X = ℕ} 4 block_size 0 in
    let z : w ++ drop 4 t ≡ number_bytes n ++ replicate 508 0 = rw (d ∙ digits n, rest) in
    rw z (resealed (number_bytes n ++ replicate 508 0) (at (number_bytes n)) (omega arith) (λ i h. begun n i))

-- a sample put in its place, and the count
pub grow_done : (b x : List ℕ) → length b ≡ block_size → length x ≡ sample_size → count b < most_samples → (start many n : ℕ)
    → start ≡ slot (count b) → many ≡ sample_size → n ≡ count b + 1
    → table block_size (sealed (at (set (take start b ++ (x ++ drop many (drop start b))) count_at n))) ≡ grown b x
unfolding grown
grow_done b x long right room start many n is_start is_many is_n =
    let p : List ℕ = take start b ++ (x ++ drop many (drop start b)) in
    let put : p ≡ patch (slot (count b)) sample_size (at x) b = rw (is_start, is_many) (put_back (slot (count b)) sample_size b x (omega arith) right) in
    let l : length p ≡ block_size = ap length put ∙ patch_length (slot (count b)) sample_size (at x) b ∙ long in
    let z : n ≡ suc (count b) = omega arith in
    resealed (set p count_at n) (grown_at b x) (omega arith)
    (λ i h. at_set p count_at n i (omega arith) ∙ case (eqb i count_at)
    (λ t. rw (t, z))
    (λ t. rw t (ap (λ s. at s i) put ∙ patch_at (slot (count b)) sample_size (at x) b i (omega arith))))
