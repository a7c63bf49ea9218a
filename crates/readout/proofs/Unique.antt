-- The outcomes of `identity_place`, `monitor` and `limits` are the only ones that their contracts allow.
-- Assumes nothing.
use Rattle.std.specs.Prelude.{Result, Ok, Err, IfOk, IfErr}
use mathlib.Core.Path.{◌≡◌, refl, sym, ap, ◌∙◌}
use mathlib.Core.List.{List}
use Prim.Native.Nat.{ℕ}
use native.Mathlib.Omega.{arith}
use lib.ListN.{get_or}
use lib.Ieee.{Float, nan}
use Rattle.model.specs.Samples.{degrees, volts, milliwatts, milliamperes}
use Rattle.model.specs.Readout.{Measured, measured, nothing}
use Rattle.model.specs.Outcomes.{Located, monitor_told, limits_told}
use Rattle.model.proofs.Identity.{located_unique}
use Rattle.refusal.specs.declared.Refusal.{Refusal}
use Rattle.refusal.specs.Numbers.{number, says}
use Rattle.refusal.proofs.Unique.{one_refusal, none_is_0}
use Rattle.readout.specs.Meaning.{page_number, monitor_says, four}
use Rattle.readout.specs.declared.Page.{Page}
use Rattle.readout.specs.declared.Page.TheVariants.{Live, Factory}
use Rattle.readout.specs.declared.Found.{Found}
use Rattle.readout.specs.declared.Monitored.{Monitored}
use Rattle.readout.specs.declared.Monitored.TheVariants.{Degrees, Volts, Milliwatts, Milliamperes, Nothing, Refused}
use Rattle.readout.specs.declared.FourLimits.{FourLimits}

-- two answers that say the same are the same, where what is said of an accepted one tells what it is
said_once : {A B : Type 0} (f : A → B) (g : B → A) → ((a : A) → g (f a) ≡ a) → (x y : Result A Refusal) → says f x ≡ says f y → x ≡ y
said_once f g back (Ok a) (Ok b) e = let same : f a ≡ f b = cc in ap Ok (sym (back a) ∙ ap g same ∙ back b)
said_once f g back (Ok a) (Err r) e = cc
said_once f g back (Err q) (Ok b) e = cc
said_once f g back (Err q) (Err r) e = let same : number q ≡ number r = cc in ap Err (one_refusal q r same)

-- ---- identity

one_page : (p q : Page) → page_number p ≡ page_number q → p ≡ q
one_page Live Live e = refl
one_page Live Factory e = absurd (omega arith)
one_page Factory Live e = absurd (omega arith)
one_page Factory Factory e = refl

module _ (live factory : List ℕ) (f : ℕ) where
  -- any two answers that the contract allows are equal
  pub place_unique : (x y : Result Found Refusal)
      → IfOk x (λ a. Located live factory f 0 (page_number a.page) a.start a.length)
      → IfErr x (λ r. Located live factory f (number r) 0 0 0)
      → IfOk y (λ a. Located live factory f 0 (page_number a.page) a.start a.length)
      → IfErr y (λ r. Located live factory f (number r) 0 0 0) → x ≡ y
  place_unique (Ok a) (Ok b) u _ v _ =
      let (none, page, start, long) = located_unique u v in
      let same : a.page ≡ b.page = one_page a.page b.page page in
      let made : Page → ℕ → ℕ → Found = λ p m k. record { page = p; start = m; length = k } in
      let whole : made a.page a.start a.length ≡ made b.page b.start b.length = rw (same, start, long) refl in
      ap Ok whole
  place_unique (Ok a) (Err r) u _ _ v = absurd (none_is_0 r (sym (located_unique u v).0))
  place_unique (Err q) (Ok b) _ u v _ = absurd (none_is_0 q (located_unique u v).0)
  place_unique (Err q) (Err r) _ u _ v = ap Err (one_refusal q r (located_unique u v).0)

-- ---- monitors

-- an outcome as an answer, and back
abbrev answer : Monitored → Result Measured Refusal
answer (Degrees x) = Ok (measured degrees x)
answer (Volts x) = Ok (measured volts x)
answer (Milliwatts x) = Ok (measured milliwatts x)
answer (Milliamperes x) = Ok (measured milliamperes x)
answer Nothing = Ok nothing
answer (Refused r) = Err r

abbrev outcome : Result Measured Refusal → Monitored
outcome (Ok (measured degrees x)) = Degrees x
outcome (Ok (measured volts x)) = Volts x
outcome (Ok (measured milliwatts x)) = Milliwatts x
outcome (Ok (measured milliamperes x)) = Milliamperes x
outcome (Ok nothing) = Nothing
outcome (Err r) = Refused r

monitor_back : (x : Monitored) → outcome (answer x) ≡ x
monitor_back = elim [ Degrees x ↦ refl | Volts x ↦ refl | Milliwatts x ↦ refl | Milliamperes x ↦ refl | Nothing ↦ refl | Refused r ↦ refl ]

said : (x : Monitored) → monitor_says x ≡ says (λ m. m) (answer x)
said = elim [ Degrees x ↦ refl | Volts x ↦ refl | Milliwatts x ↦ refl | Milliamperes x ↦ refl | Nothing ↦ refl | Refused r ↦ refl ]

-- any two outcomes of a monitor call that the contract allows are equal
pub monitor_unique : (s : List ℕ) (n : ℕ) (x y : Monitored) → monitor_says x ≡ monitor_told s n → monitor_says y ≡ monitor_told s n → x ≡ y
monitor_unique s n x y p q =
    sym (monitor_back x) ∙ ap outcome (said_once (λ m. m) (λ m. m) (λ m. refl) (answer x) (answer y) (sym (said x) ∙ p ∙ sym q ∙ said y)) ∙ monitor_back y

-- ---- limits

abbrev limits_in : List Float → FourLimits
limits_in l = record { high_alarm = get_or l 0 nan; low_alarm = get_or l 1 nan; high_warning = get_or l 2 nan; low_warning = get_or l 3 nan }

-- and any two of a limits call
pub limits_unique : (s : List ℕ) (q : ℕ) (x y : Result FourLimits Refusal) → says four x ≡ limits_told s q → says four y ≡ limits_told s q → x ≡ y
limits_unique s q x y p r = said_once four limits_in (λ a. refl) x y (p ∙ sym r)
