-- The outcome of the question is the only one that its contract allows.
-- Assumes nothing.
use Rattle.std.specs.Prelude.{Option as Answer, Some, None, Result, Ok, Err}
use mathlib.Core.Path.{◌≡◌, refl, sym, ap, ◌∙◌}
use mathlib.Core.List.{List}
use Prim.Native.Nat.{ℕ}
use Rattle.question.specs.Search.{first_told}
use Rattle.refusal.specs.declared.Refusal.{Refusal}
use Rattle.refusal.specs.Numbers.{number, says}
use Rattle.refusal.proofs.Unique.{one_refusal}
use Rattle.log_first.specs.Meaning.{found}

said_same : (x y : Result (Answer ℕ) Refusal) → says found x ≡ says found y → x ≡ y
said_same (Ok None) (Ok None) e = refl
said_same (Ok None) (Ok (Some j)) e = cc
said_same (Ok (Some i)) (Ok None) e = cc
said_same (Ok (Some i)) (Ok (Some j)) e = cc
said_same (Ok None) (Err r) e = cc
said_same (Ok (Some i)) (Err r) e = cc
said_same (Err q) (Ok None) e = cc
said_same (Err q) (Ok (Some j)) e = cc
said_same (Err q) (Err r) e = let d : number q ≡ number r = cc in ap Err (one_refusal q r d)

pub first_unique : (log : List ℕ) (used k : ℕ) (x y : Result (Answer ℕ) Refusal) → says found x ≡ first_told log used k → says found y ≡ first_told log used k → x ≡ y
first_unique log used k x y p q = said_same x y (p ∙ sym q)
