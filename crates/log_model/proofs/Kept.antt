-- What is kept over any series of calls on a sound log, call by call: a refused one leaves all as it was, an accepted power-up adds no
-- sample and an accepted add one at the end. So reading hands back the samples that were there and the accepted ones, in their order.
-- Assumes nothing.
use Rattle.std.specs.Prelude.{if◌then◌else◌}
use mathlib.Core.Path.{◌≡◌, refl, ap, ◌∙◌}
use mathlib.Core.List.{List, [], ◌∷◌, ◌++◌}
use Prim.Native.Nat.{ℕ, suc, ◌<◌}
use native.Mathlib.Omega.{arith}
use lib.Dec.{eqb, leb}
use lib.ListN.{length, get_or}
use denote.Ref.{Bor}
use borrow.Author.Tests.{eqb-true}
use Rattle.laws.specs.Tests.{first_of}
use Rattle.laws.specs.Lists.{part}
use Rattle.laws.proofs.Tests.{case}
use Rattle.block.specs.Block.{sample_size, Bytes}
use Rattle.log_model.specs.Log.{needs_new, after_power_up, after_add, used_after, total, Fit}
use Rattle.log_model.specs.Outcomes.{add_refusal, power_up_refusal, sample_refusal, Added, Opened, Shown, Served, begun, adding, opening, Placed, Known}
use Rattle.log_model.proofs.Fits.{fit_sound}
use Rattle.log_model.proofs.PowerUps.{power_up_taken, power_up_sound, power_up_samples, power_up_number}
use Rattle.log_model.proofs.Adds.{add_taken, add_sound, add_samples, add_number}
use Rattle.log_model.proofs.Positions.{sample_placed}
use Rattle.log_model.proofs.Bytes.{add_bytes, power_up_bytes}

-- an accepted add, an accepted power-up
module _ {log : List ℕ} {from : ℕ} {xs : List (List ℕ)} {t : List ℕ} {n : ℕ} (was : Known log from xs t n) where
  add_known : (x : List ℕ) → Bytes x → add_refusal t n x ≡ 0 → Known log from (xs ++ (x ∷ [])) (after_add t n x) (used_after t n)
  add_known x b e =
      let (long, fit, free) = add_taken t n x e in
      let old = was.numbered in
      let new = add_number t n x e was.bytes in
      record {
        fit = add_sound t n x e was.bytes;
        bytes = add_bytes t n x was.bytes b fit free;
        samples_are = add_samples t n x e was.bytes ∙ ap (λ l. l ++ (x ∷ [])) was.samples_are;
        numbered = case (needs_new t n)
            (λ q. rw (new, q) (omega arith))
            (λ q. rw (new, q) old);
      }

  power_up_known : power_up_refusal t n ≡ 0 → Known log from xs (after_power_up t n) (suc n)
  power_up_known e =
      let (fit, free) = power_up_taken t n e in
      let old = was.numbered in
      record {
        fit = power_up_sound t n was.bytes fit free;
        bytes = power_up_bytes t n was.bytes;
        samples_are = power_up_samples t n was.bytes fit free ∙ was.samples_are;
        numbered = rw (power_up_number t n was.bytes fit free) (omega arith);
      }

-- a call that keeps its contract, refused or not
module _ {log : List ℕ} {from : ℕ} {xs : List (List ℕ)} {t u : List ℕ} {n r a : ℕ} (was : Known log from xs t n) where
  after_add_lem : (x : List ℕ) → Bytes x → Added t n x r a u → Known log from (if eqb r 0 then xs ++ (x ∷ []) else xs) u (if eqb r 0 then a else n)
  after_add_lem x b d = case (eqb (add_refusal t n x) 0)
      (λ q. rw (d.refusal_is, d.log_is, d.used_is, q) (add_known was x b (eqb-true (add_refusal t n x) 0 q)))
      (λ q. rw (d.refusal_is, d.log_is, q) was)

  after_power_up_lem : Opened t n r a u → Known log from xs u (if eqb r 0 then a else n)
  after_power_up_lem d = case (eqb (power_up_refusal t n) 0)
      (λ q. rw (d.refusal_is, d.log_is, d.used_is, q) (power_up_known was (eqb-true (power_up_refusal t n) 0 q)))
      (λ q. rw (d.refusal_is, d.log_is, q) was)

-- nothing accepted is lost, changed or put elsewhere: from any sound log, and so (`unused_fit`) from whole blocks of which none is used
pub kept : (log : List ℕ) (from : ℕ) → Fit log from → Bytes log → {xs : List (List ℕ)} {t : List ℕ} {n : ℕ} → Served log from xs t n → Known log from xs t n
kept log from fit bytes begun = record { fit = fit; bytes = bytes; samples_are = refl; numbered = refl }
kept log from fit bytes (adding before x b d) = after_add_lem (kept log from fit bytes before) x b d
kept log from fit bytes (opening before d) = after_power_up_lem (kept log from fit bytes before) d

-- the sample at position k of such a log: refused 17 exactly where there is none, and else the k-th that was accepted
module _ {log : List ℕ} {from : ℕ} {xs : List (List ℕ)} {t : List ℕ} {n : ℕ} (was : Known log from xs t n) (k : ℕ) where
  pub kept_refusal : sample_refusal t n k ≡ (if leb (length xs) k then 17 else 0)
  kept_refusal = λ i. first_of ((15, fit_sound was.fit i) ∷ (17, leb (length (was.samples_are i)) k) ∷ [])

  -- the same of the place that C is told: the 31 bytes there are the k-th sample
  pub kept_place : {r s : ℕ} → Placed t n k r s → k < length xs → (r ≡ 0) × (part s sample_size t ≡ get_or xs k [])
  kept_place d h =
      let w : k < total t n = rw was.samples_are h in
      let (z, p) = sample_placed t n k was.fit w d in
      (z, p ∙ ap (λ l. get_or l k []) was.samples_are)

-- and of the sample that is handed back
pub kept_read : {log : List ℕ} {from : ℕ} {xs : List (List ℕ)} {n : ℕ} (memory : Bor (List ℕ)) → Known log from xs memory.now n → (k : ℕ) {r : Bor (List ℕ)} → Shown memory n k r
    → r.now ≡ (if leb (length xs) k then [] else get_or xs k [])
kept_read {xs = xs} {n = n} memory was k d = d.bytes_are ∙ case (leb (length xs) k)
    (λ q. rw (kept_refusal was k, q))
    (λ q. rw (kept_refusal was k, q, was.samples_are))
