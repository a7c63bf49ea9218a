-- How many bytes are left without trailing blanks.
-- Assumes nothing.
use Rattle.std.proofs.Common.{◌≡◌, ◌≢◌, ℕ, zero, suc, ◌+◌, ◌-◌, ◌<◌, ◌≤◌, length, refl, ne_eqb, eq-eqb, zero-add, arith}
use mathlib.Core.List.{List}
use lib.Dec.{ltb}
use borrow.Author.Tests.{ltb-true, ltb-false}
use Rattle.laws.specs.Lists.{at, part}
use Rattle.laws.proofs.Tests.{case}
use Rattle.laws.proofs.Lists.{part_length, part_at}
use Rattle.model.specs.Readout.{trimmed}

-- of the first n bytes r are left, where all behind these are blanks, and the last of them is none
pub trimmed_is : (r : ℕ) (s : List ℕ) (n : ℕ) → r ≤ n → ((k : ℕ) → r ≤ k → k < n → at s k ≡ 0x20) → (0 < r → at s (r - 1) ≢ 0x20)
    → r ≡ trimmed s 0 n
unfolding trimmed
trimmed_is r s zero h blank last = omega arith
trimmed_is r s (suc n) h blank last =
    rw zero-add
    (case (ltb n r)
    (λ t.
    let over : n < r = ltb-true n r t in
    let all : suc n - 1 ≡ n = omega arith in
    let e : r ≡ suc n = omega arith in
    let kept : at s n ≢ 0x20 = rw (e, all) at (last (omega arith)) in
    rw (ne_eqb _ _ kept) e)
    (λ t.
    let under : r ≤ n = ltb-false n r t in
    rw (eq-eqb _ _ (blank n under (omega arith))) (trimmed_is r s n under (λ k l u. blank k l (omega arith)) last)))

-- of a part as of the page that it is of
same : (s page : List ℕ) (a n : ℕ) → ((i : ℕ) → i < n → at s i ≡ at page (a + i)) → trimmed s 0 n ≡ trimmed page a n
unfolding trimmed
same s page a zero e = refl
same s page a (suc n) e = rw (zero-add, e n (omega arith), same s page a n (λ i h. e i (omega arith)))

pub trimmed_part : (page : List ℕ) (a n : ℕ) → a + n ≤ length page → trimmed (part a n page) 0 (length (part a n page)) ≡ trimmed page a n
trimmed_part page a n h = rw (part_length a n page h) (same (part a n page) page a n (part_at a n page h))
