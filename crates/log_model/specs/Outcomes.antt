-- What each call on a log promises, for every input: an equation for each thing that it leaves or answers.
-- Assumes nothing.
use Rattle.std.specs.Prelude.{◌+◌, ◌≡◌, ◌∷◌, ◌++◌, if◌then◌else◌}
use Rattle.laws.specs.Words.{ℕ, suc, List, [], eqb, get_or, Row, first_of, Bor}
use Rattle.block.specs.Block.{Bytes}
use Rattle.log_model.specs.Log.{samples, last_number, place_of, after_power_up, after_add, used_after, add_rows, power_up_rows, sample_rows, Fit}

-- a call that changes the log, refused by these rows: a refusal; the used number after it, 0 where it is refused; the memory left
pub record Changed (log : List ℕ) (rows : List Row) (more : ℕ) (changed : List ℕ) (refusal after : ℕ) (left : List ℕ) : Type 0 where
  pub refusal_is : refusal ≡ first_of rows
  pub used_is : after ≡ (if eqb (first_of rows) 0 then more else 0)
  pub log_is : left ≡ (if eqb (first_of rows) 0 then changed else log)

abbrev pub add_refusal : List ℕ → ℕ → List ℕ → ℕ
add_refusal log used x = first_of (add_rows log used x)

-- the sample x added to the log
abbrev pub Added : List ℕ → ℕ → List ℕ → ℕ → ℕ → List ℕ → Type 0
Added log used x refusal after left = Changed log (add_rows log used x) (used_after log used) (after_add log used x) refusal after left

abbrev pub power_up_refusal : List ℕ → ℕ → ℕ
power_up_refusal log used = first_of (power_up_rows log used)

-- a power-up
abbrev pub Opened : List ℕ → ℕ → ℕ → ℕ → List ℕ → Type 0
Opened log used refusal after left = Changed log (power_up_rows log used) (suc used) (after_power_up log used) refusal after left

abbrev pub sample_refusal : List ℕ → ℕ → ℕ → ℕ
sample_refusal log used k = first_of (sample_rows log used k)

-- where the sample at position k begins, 0 where it is refused
pub record Placed (log : List ℕ) (used k refusal start : ℕ) : Type 0 where
  pub refusal_is : refusal ≡ sample_refusal log used k
  pub start_is : start ≡ (if eqb (sample_refusal log used k) 0 then place_of log used k else 0)

-- the sample itself, a part of the log: its bytes, none where it is refused, and where it points; where a refused one points is not said
pub record Shown (log : Bor (List ℕ)) (used k : ℕ) (r : Bor (List ℕ)) : Type 0 where
  pub bytes_are : r.now ≡ (if eqb (sample_refusal log.now used k) 0 then get_or (samples log.now used) k [] else [])
  pub place_is : sample_refusal log.now used k ≡ 0 → r.ref_ptr ≡ (log.ref_ptr.0, place_of log.now used k + log.ref_ptr.1)

-- ---- a log over any calls

-- the memory t with n blocks used is what calls leave of the memory log with `from` used, one after the other, each keeping its contract,
-- and xs are the samples of that log and then those that were accepted, in this order; whoever is refused keeps the used number
pub data Served (log : List ℕ) (from : ℕ) : List (List ℕ) → List ℕ → ℕ → Type 0 where
  begun : Served log from (samples log from) log from
  adding : {xs : List (List ℕ)} {t u : List ℕ} {n r a : ℕ} → Served log from xs t n → (x : List ℕ) → Bytes x → Added t n x r a u
      → Served log from (if eqb r 0 then xs ++ (x ∷ []) else xs) u (if eqb r 0 then a else n)
  opening : {xs : List (List ℕ)} {t u : List ℕ} {n r a : ℕ} → Served log from xs t n → Opened t n r a u → Served log from xs u (if eqb r 0 then a else n)

-- what is known then: nothing accepted is lost, changed or put elsewhere, and the numbers rise by one for each block more
pub record Known (log : List ℕ) (from : ℕ) (xs : List (List ℕ)) (t : List ℕ) (n : ℕ) : Type 0 where
  pub fit : Fit t n
  pub bytes : Bytes t
  pub samples_are : samples t n ≡ xs
  pub numbered : last_number t n + from ≡ last_number log from + n
