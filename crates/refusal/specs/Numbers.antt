-- What answers are in the papers' numbers.
-- Assumes nothing.
use Rattle.std.specs.Prelude.{Result, Ok, Err}
use Rattle.laws.specs.Words.{ℕ, Told, refused, given}
use Rattle.refusal.specs.declared.Refusal.{Refusal}
use Rattle.refusal.specs.declared.Refusal.TheVariants.{StateSize, NoSuchPort, UnsoundRecord, TransferSize, Range, OutputShort, NotItsOwn, SampleSize, ImageSize, CheckCode, NoSoundPage, NoSuchField, NoSuchMonitor, LogFull, UnsoundLog, NoSuchSample}

-- those from 9 on
abbrev pub later : Refusal → ℕ
later = elim [ ImageSize ↦ 9 | CheckCode ↦ 10 | NoSoundPage ↦ 11 | NoSuchField ↦ 12 | NoSuchMonitor ↦ 13 | LogFull ↦ 14 | UnsoundLog ↦ 15 | NoSuchSample ↦ 17 | r ↦ 0 ]

-- of a refusal
abbrev pub number : Refusal → ℕ
number = elim [ StateSize ↦ 1 | NoSuchPort ↦ 2 | UnsoundRecord ↦ 3 | TransferSize ↦ 4 | Range ↦ 5 | OutputShort ↦ 6 | NotItsOwn ↦ 7 | SampleSize ↦ 8 | r ↦ later r ]

-- of an answer its refusal's number, 0 where it is not refused
abbrev pub number_of : {A : Type 0} → Result A Refusal → ℕ
number_of = elim [ Ok a ↦ 0 | Err r ↦ number r ]

-- what an answer says: the refusal's number, or what was asked for
abbrev pub says : {A B : Type 0} → (A → B) → Result A Refusal → Told B
says f = elim [ Ok a ↦ given (f a) | Err r ↦ refused (number r) ]
