-- Parts of lists, and tables: lists of one length that agree at each place are equal, so each law but `part_tail` works out what stands
-- at a place of both.
-- Assumes nothing.
use mathlib.Core.Path.{◌≡◌, sym, ap, ◌∙◌}
use mathlib.Core.List.{List, ◌++◌}
use Prim.Native.Nat.{ℕ, ◌+◌, ◌-◌, ◌≤◌, ◌<◌}
use native.Mathlib.Omega.{arith}
use lib.Dec.{ltb, eqb}
use lib.ListN.{length, take, drop, length-append, length-drop, set, length-set, get_or-append}
use lib.Seq.{ext_get_or, length-take-le, drop-drop, get_or-append-add, get_or-take, get_or-drop, get_or-set_same, get_or-set_other}
use borrow.Author.Tests.{ltb-true, ltb-false, eqb-true, eqb-false}
use Rattle.laws.specs.Lists.{at, part, table, patch}
use Rattle.laws.proofs.Tests.{case}
use Rattle.laws.proofs.Lists.{table_length, table_at, is_table, is_patch, at_set, part_length, part_at}

-- two tables that agree
pub table_same : (n : ℕ) (f g : ℕ → ℕ) → ((i : ℕ) → i < n → f i ≡ g i) → table n f ≡ table n g
table_same n f g same = is_table (table n f) n g (table_length n f) (λ i h. table_at n f i h ∙ same i h)

module _ (a n : ℕ) (s : List ℕ) (fits : a + n ≤ length s) where
  -- a list is a part if it has what stands there
  pub is_part : (l : List ℕ) → length l ≡ n → ((i : ℕ) → i < n → at l i ≡ at s (a + i)) → l ≡ part a n s
  is_part l e same = ext_get_or 0 l (part a n s) (e ∙ sym (part_length a n s fits)) (λ i h. same i (omega arith) ∙ sym (part_at a n s fits i (omega arith)))

  -- two lists that agree there
  pub part_same : (t : List ℕ) → a + n ≤ length t → ((i : ℕ) → i < n → at t (a + i) ≡ at s (a + i)) → part a n t ≡ part a n s
  part_same t k same = is_part (part a n t) (part_length a n t k) (λ i h. part_at a n t k i h ∙ same i h)

-- a part of what is left past m
pub part_tail : (m a n : ℕ) (s : List ℕ) → part a n (drop m s) ≡ part (m + a) n s
part_tail m a n s = ap (take n) (drop-drop a m s)

-- a part of a part
pub part_part : (m k a n : ℕ) (s : List ℕ) → m + k ≤ length s → a + n ≤ k → part a n (part m k s) ≡ part (m + a) n s
part_part m k a n s h l =
    let e = part_length m k s h in
    is_part (m + a) n s (omega arith) (part a n (part m k s)) (part_length a n (part m k s) (omega arith))
    (λ i j. let z : m + (a + i) ≡ m + a + i = omega arith in part_at a n (part m k s) (omega arith) i j ∙ part_at m k s h (a + i) (omega arith) ∙ ap (at s) z)

-- a part of a list of which one place inside it was set
pub part_set : (a n j v : ℕ) (s : List ℕ) → a + n ≤ length s → j < n → part a n (set s (a + j) v) ≡ set (part a n s) j v
part_set a n j v s h l =
    let e = part_length a n s h in
    let m : a + n ≤ length (set s (a + j) v) = rw (length-set s (a + j) v) h in
    sym (is_part a n (set s (a + j) v) m (set (part a n s) j v) (length-set (part a n s) j v ∙ e)
    (λ i k. at_set (part a n s) j v i (omega arith) ∙ case (eqb i j)
    (λ t. let z = eqb-true i j t in rw (t, z) (sym (get_or-set_same s (a + j) v 0 (omega arith))))
    (λ t. let d = eqb-false i j t in rw t (part_at a n s h i k ∙ sym (get_or-set_other s (a + j) (a + i) v 0 (λ z. d (omega arith)))))))

-- a part that was lent, and comes back as ys
pub put_back : (a n : ℕ) (s ys : List ℕ) → a + n ≤ length s → length ys ≡ n → take a s ++ (ys ++ drop n (drop a s)) ≡ patch a n (at ys) s
put_back a n s ys h e =
    let front : length (take a s) ≡ a = length-take-le a s (omega arith) in
    let rest : length (drop n (drop a s)) ≡ length s - a - n = length-drop n (drop a s) ∙ ap (λ k. k - n) (length-drop a s) in
    is_patch a n (at ys) s (take a s ++ (ys ++ drop n (drop a s)))
    (length-append (take a s) (ys ++ drop n (drop a s)) ∙ rw (length-append ys (drop n (drop a s)), front, e, rest) (omega arith))
    (λ j k l. rw front at (get_or-append-add (take a s) (ys ++ drop n (drop a s)) j 0)
    ∙ get_or-append ys (drop n (drop a s)) 0 j (omega arith))
    (λ i k out. case (ltb i a)
    (λ t. let u = ltb-true i a t in
    get_or-append (take a s) (ys ++ drop n (drop a s)) 0 i (omega arith) ∙ get_or-take a s i 0 u)
    (λ t. let u = ltb-false i a t in
    let m : ℕ = i - a - n in
    let w : a + n ≤ i = past i a n u out in
    let z : a + (n + m) ≡ i = omega arith in
    let y : a + n + m ≡ i = omega arith in
    ap (at (take a s ++ (ys ++ drop n (drop a s)))) (sym z)
    ∙ rw front at (get_or-append-add (take a s) (ys ++ drop n (drop a s)) (n + m) 0)
    ∙ rw e at (get_or-append-add ys (drop n (drop a s)) m 0)
    ∙ (ap (λ l. at l m) (drop-drop n a s) ∙ get_or-drop (a + n) s m 0) ∙ ap (at s) y))
  where
    past : (i a n : ℕ) → a ≤ i → (a ≤ i → i < a + n → ⊥) → a + n ≤ i
    past i a n u out = case (ltb i (a + n)) (λ t. absurd (out u (ltb-true i (a + n) t))) (λ t. ltb-false i (a + n) t)

-- ---- tables

-- a table of what stands in a list is its front
pub table_front : (n : ℕ) (s : List ℕ) → n ≤ length s → table n (at s) ≡ part 0 n s
table_front n s h = is_part 0 n s (omega arith) (table n (at s)) (table_length n (at s))
    (λ i l. let z : 0 + i ≡ i = omega arith in rw z (table_at n (at s) i l))

-- ---- what `&s[a..a + n]` has

module _ (a n : ℕ) (s : List ℕ) (fits : a + n ≤ length s) where
  end_is : a + n - a ≡ n
  end_is = omega arith

  pub slice_length : length (take (a + n - a) (drop a s)) ≡ n
  slice_length = rw end_is (part_length a n s fits)

  pub slice_at : (j : ℕ) → j < n → at (take (a + n - a) (drop a s)) j ≡ at s (a + j)
  slice_at j h = rw end_is (part_at a n s fits j h)
