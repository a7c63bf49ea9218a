-- What the code of a call goes by: its refusals in steps, as it finds them, and what an accepted call relies on.
-- Assumes nothing.
use Rattle.std.specs.Prelude.{if◌then◌else◌}
use mathlib.Core.Path.{◌≡◌, refl, sym, ap, ◌∙◌}
use mathlib.Core.Bool.{Bool, true, false, not, ◌||◌}
use mathlib.Core.List.{List, [], ◌∷◌, ◌++◌}
use Prim.Native.Nat.{ℕ, ◌+◌, ◌≤◌}
use native.Mathlib.Omega.{arith}
use lib.Dec.{eqb}
use lib.ListN.{length}
use borrow.Author.Tests.{eq-eqb, eqb-true, eqb-false, ltb-false, not-true, not-false}
use Rattle.laws.specs.Tests.{Row, first_of}
use Rattle.laws.proofs.Tests.{if_not, and_left, and_right, and_both, or_left, or_right}
use Rattle.laws.proofs.Rows.{first_none, first_append}
use Rattle.ports.specs.Ports.{nobody, operator, recorder, caller, sample, read, write}
use Rattle.ports.specs.Modules.{Module, miscounted, beyond, across, base, state_size, wrong_size, port_rows, rows}
use Rattle.ports.specs.Bytes.{memory_of, record_of, state_of, rows_of, refusal_of}

-- ---- refusals

-- of a write, those of its run come first, r, and then that of a byte not the port's own
pub write_first : (reach a n : ℕ) (t : Bool) {r q : ℕ} → r ≡ first_of ((4, miscounted 4 n) ∷ (5, beyond reach a n || across a n) ∷ [])
    → q ≡ (if eqb r 0 then (if t then 7 else 0) else r) → q ≡ first_of ((4, miscounted 4 n) ∷ (5, beyond reach a n || across a n) ∷ (7, t) ∷ [])
write_first reach a n t e f = rw e at f ∙ sym (first_append ((4, miscounted 4 n) ∷ (5, beyond reach a n || across a n) ∷ []) ((7, t) ∷ []) refl)

-- a write that is refused neither of its run has 1 to 4 bytes, and ends where the addresses do
pub write_run : (reach a n : ℕ) → first_of ((4, miscounted 4 n) ∷ (5, beyond reach a n || across a n) ∷ []) ≡ 0 → (1 ≤ n) × (n ≤ 4) × (a + n ≤ reach)
write_run reach a n e =
    let r = (first_none ((4, miscounted 4 n) ∷ (5, beyond reach a n || across a n) ∷ []) refl).0 e in (
      at_least (search (and_left, not-true, or_left)),
      ltb-false 4 n (search (and_left, not-true, or_right)),
      ltb-false reach (a + n) (or_left (beyond reach a n) (across a n) (search (and_left, and_right, not-true))),
    )
  where
    at_least : eqb n 0 ≡ false → 1 ≤ n
    at_least f = let d = eqb-false n 0 f in omega arith

module _ {Image : Type 0} (M : Module Image) where
  -- those of any call by a port, r, come first, and then those of its own rows
  pub port_first : (s : List ℕ) (n : ℕ) (own : List Row) {r q : ℕ} → r ≡ first_of ((1, wrong_size M s) ∷ port_rows M (state_of M s) n)
      → q ≡ (if eqb r 0 then first_of own else r) → q ≡ first_of ((1, wrong_size M s) ∷ port_rows M (state_of M s) n ++ own)
  port_first s n own e f = rw e at f ∙ sym (first_append ((1, wrong_size M s) ∷ port_rows M (state_of M s) n) own refl)

  -- where none of those applies the state has its length, and the port's record is sound
  pub port_taken : (s : List ℕ) (n : ℕ) → first_of ((1, wrong_size M s) ∷ port_rows M (state_of M s) n) ≡ 0
      → (length s ≡ state_size M) × (M.sound (memory_of M s) (record_of M s (base M (caller n))) ≡ true)
  unfolding state_of
  port_taken s n e =
      let r = (first_none ((1, wrong_size M s) ∷ port_rows M (state_of M s) n) refl).0 e in
      (search (and_left, not-true, not-false, eqb-true), search (and_left, and_right, not-true, not-false))

  -- of any call by a port on a state of the right length, with the soundness of the record that begins at b, as the code finds it
  pub port_refusal : (s : List ℕ) (n : ℕ) {b : ℕ} {a : Bool} → length s ≡ state_size M → b ≡ base M (caller n) → a ≡ M.sound (memory_of M s) (record_of M s b)
      → first_of ((1, wrong_size M s) ∷ port_rows M (state_of M s) n) ≡ (if nobody n then 2 else (if a then 0 else 3))
  unfolding state_of
  port_refusal s n {b} {a} e eb ea = rw (eq-eqb (length s) (state_size M) e, ← eb, ← ea) (ap (λ (x : ℕ). if nobody n then 2 else x) (if_not a 3 0))

  -- of a sample, with that of both records
  pub sample_refusal_lem : (s x : List ℕ) {i j : ℕ} {a b : Bool} → length s ≡ state_size M → i ≡ base M operator → j ≡ base M recorder
      → a ≡ M.sound (memory_of M s) (record_of M s i) → b ≡ M.sound (memory_of M s) (record_of M s j)
      → refusal_of M s (sample x) ≡ first_of ((3, not a || not b) ∷ (8, not (eqb (length x) M.sample_size)) ∷ [])
  unfolding refusal_of rows_of rows state_of
  sample_refusal_lem s x e ei ej ea eb = rw (eq-eqb (length s) (state_size M) e, ea, eb, ei, ej)

  -- an accepted sample has its length, and the state has its own
  pub sample_sizes : (s x : List ℕ) → refusal_of M s (sample x) ≡ 0 → (length s ≡ state_size M) × (length x ≡ M.sample_size)
  unfolding refusal_of rows_of rows
  sample_sizes s x e =
      let n = (first_none (rows_of M s (sample x)) refl).0 e in
      search (and_left, and_right, eqb-true, not-true, not-false)

  -- what an accepted read relies on, with the caller's record at b
  pub record Relies (s : List ℕ) (b a k room : ℕ) : Type 0 where
    pub long : length s ≡ state_size M
    pub whole : M.sound (memory_of M s) (record_of M s b) ≡ true
    pub some : 1 ≤ k
    pub few : k ≤ 128
    pub inside : a + k ≤ M.reach
    pub fits : k ≤ room

  pub read_relies : (s : List ℕ) (n a k : ℕ) (out : List ℕ) (b : ℕ) → refusal_of M s (read n a k out) ≡ 0 → b ≡ base M (caller n) → Relies s b a k (length out)
  unfolding refusal_of rows_of rows state_of
  read_relies s n a k out b e is =
      let r = (first_none (rows_of M s (read n a k out)) refl).0 e in
      record {
        long = eqb-true (length s) (state_size M) (search (and_left, not-true, not-false));
        whole = rw is (search (and_left, and_right, not-true, not-false));
        some = at_least (search (and_left, and_right, not-true, or_left));
        few = ltb-false 128 k (search (and_left, and_right, not-true, or_right));
        inside = ltb-false M.reach (a + k) (search (and_left, and_right, not-true));
        fits = ltb-false (length out) k (search (and_left, and_right, not-true));
      }
    where
      at_least : eqb k 0 ≡ false → 1 ≤ k
      at_least f = let d = eqb-false k 0 f in omega arith

  -- what an accepted write of n bytes relies on
  pub record WriteRelies (s : List ℕ) (a n : ℕ) : Type 0 where
    pub long : length s ≡ state_size M
    pub some : 1 ≤ n
    pub few : n ≤ 4
    pub inside : a + n ≤ M.reach

  pub write_relies : (s : List ℕ) (n a : ℕ) (vs : List ℕ) → refusal_of M s (write n a vs) ≡ 0 → WriteRelies s a (length vs)
  unfolding refusal_of rows_of rows
  write_relies s n a vs e =
      let r = (first_none (rows_of M s (write n a vs)) refl).0 e in
      let four : not (miscounted 4 (length vs)) ≡ true = search (and_left, and_right) in
      let five : not (beyond M.reach a (length vs) || across a (length vs)) ≡ true = search (and_left, and_right) in
      let run = write_run M.reach a (length vs)
      ((first_none ((4, miscounted 4 (length vs)) ∷ (5, beyond M.reach a (length vs) || across a (length vs)) ∷ []) refl).1 (and_both four (and_both five refl))) in
      record { long = eqb-true (length s) (state_size M) (search (and_left, not-true, not-false)); some = run.0; few = run.1; inside = run.2 }
