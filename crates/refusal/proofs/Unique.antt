-- A number names one refusal, and 0 none: so a contract that speaks of the number determines the answer.
-- Assumes nothing.
use Rattle.std.specs.Prelude.{ℕ, ◌≡◌, ◌≢◌, ◌-◌, List, [], ◌∷◌, get_or}
use Rattle.std.proofs.Common.{refl, sym, ap, ◌∙◌}
use Rattle.refusal.specs.declared.Refusal.{Refusal}
use Rattle.refusal.specs.declared.Refusal.TheVariants.{StateSize, NoSuchPort, UnsoundRecord, TransferSize, Range, OutputShort, NotItsOwn, SampleSize, ImageSize, CheckCode, NoSoundPage, NoSuchField, NoSuchMonitor, LogFull, UnsoundLog, NoSuchSample}
use Rattle.refusal.specs.Numbers.{number}

abbrev names : List Refusal
names = StateSize ∷ NoSuchPort ∷ UnsoundRecord ∷ TransferSize ∷ Range ∷ OutputShort ∷ NotItsOwn ∷ SampleSize ∷ ImageSize ∷ CheckCode ∷ NoSoundPage ∷ NoSuchField ∷ NoSuchMonitor ∷ LogFull ∷ UnsoundLog ∷ []

abbrev named : ℕ → Refusal
named n = get_or names (n - 1) NoSuchSample

back : (r : Refusal) → named (number r) ≡ r
back = elim [
  | StateSize ↦ refl
  | NoSuchPort ↦ refl
  | UnsoundRecord ↦ refl
  | TransferSize ↦ refl
  | Range ↦ refl
  | OutputShort ↦ refl
  | NotItsOwn ↦ refl
  | SampleSize ↦ refl
  | ImageSize ↦ refl
  | CheckCode ↦ refl
  | NoSoundPage ↦ refl
  | NoSuchField ↦ refl
  | NoSuchMonitor ↦ refl
  | LogFull ↦ refl
  | UnsoundLog ↦ refl
  | NoSuchSample ↦ refl
]

pub one_refusal : (q r : Refusal) → number q ≡ number r → q ≡ r
one_refusal q r e = sym (back q) ∙ (ap named e ∙ back r)

pub none_is_0 : (r : Refusal) → number r ≢ 0
none_is_0 = elim [
  | StateSize ↦ λ e. cc
  | NoSuchPort ↦ λ e. cc
  | UnsoundRecord ↦ λ e. cc
  | TransferSize ↦ λ e. cc
  | Range ↦ λ e. cc
  | OutputShort ↦ λ e. cc
  | NotItsOwn ↦ λ e. cc
  | SampleSize ↦ λ e. cc
  | ImageSize ↦ λ e. cc
  | CheckCode ↦ λ e. cc
  | NoSoundPage ↦ λ e. cc
  | NoSuchField ↦ λ e. cc
  | NoSuchMonitor ↦ λ e. cc
  | LogFull ↦ λ e. cc
  | UnsoundLog ↦ λ e. cc
  | NoSuchSample ↦ λ e. cc
]
