-- The flags: byte i of a record is raised by the conditions of samples and cleared by reads of address 3 + i, and no write reaches it. So
-- ports' flag rule holds of it.
-- Assumes nothing.
use mathlib.Core.Path.{◌≡◌, refl}
use mathlib.Core.Logic.{◌↔◌}
use mathlib.Core.Bool.{true, false}
use mathlib.Core.List.{List}
use Prim.Native.Nat.{ℕ, ◌+◌, ◌-◌, ◌<◌}
use native.Mathlib.Omega.{arith}
use borrow.Author.Tests.{lt-ltb}
use Rattle.laws.specs.Tests.{covers}
use Rattle.laws.specs.Bits.{bit}
use Rattle.laws.specs.Lists.{at}
use Rattle.laws.proofs.Tests.{covers_in, covers_below}
use Rattle.ports.specs.Ports.{Port, caller, Places, State, reset, read}
use Rattle.ports.specs.Bytes.{state_of, refusal_of, answer_of}
use Rattle.ports.proofs.Ports.{give_elim}
use Rattle.ports.proofs.Flags.{Latched, stored_rule}
use Rattle.ports.proofs.Answers
use Rattle.eight.specs.Tables.{flags, masks, mask_of, pending_of}
use Rattle.eight.specs.Module.{Calls, conditions, raised, seen, cleared, written, eight}
use Rattle.eight.specs.Demands.{since, present, PresentSince}
use Rattle.eight.proofs.Lawful.{lawful}

-- no write reaches a byte that is no mask
pub written_else : (m : State) (p q : Port) (a : ℕ) (vs : List ℕ) (k : ℕ) → covers (mask_of 0) masks.many k ≡ false → (eight.puts m q a vs).own p k ≡ m.own p k
unfolding written
written_else m p q a vs k e = give_elim (λ r o. o k ≡ m.own r k) m.own q (written a vs (m.own q)) (rw e) (λ r. refl) p

flag_latched : (i : ℕ) → i < flags.many → Latched eight (flags.first + i) i (λ f x. conditions x i)
unfolding raised cleared
flag_latched i l = record {
  raised_is = λ f x o. rw (lt-ltb i flags.many l);
  cleared_is = λ f a n o. rw (lt-ltb i flags.many l, covers_below (pending_of 0) flags.many i (omega arith));
  puts_is = λ m p q a vs. written_else m p q a vs i (covers_below (mask_of 0) masks.many i (omega arith));
}

-- a flag byte reads as it stands in the port's record
pub flag_seen : (i : ℕ) → i < flags.many → (o : Places) → seen o (flags.first + i) ≡ o i
unfolding seen
flag_seen i l o =
    let z : flags.first + i - flags.first ≡ i = omega arith in
    rw (covers_in flags.first flags.many (flags.first + i) (omega arith) (omega arith), z)

-- "a flag reads 1 exactly if its condition stood in an accepted sample since the later of that port's last accepted read of that byte
-- and the last accepted reset": bit j of flag byte 3 + i, read as the next call after any history h
pub flag_rule : (s : List ℕ) → refusal_of eight s (reset tt) ≡ 0 → (h : Calls) (n a k : ℕ) (out : List ℕ) → refusal_of eight (since s h) (read n a k out) ≡ 0
    → (i j : ℕ) → i < flags.many → covers a k (flags.first + i) ≡ true
    → (bit j (at (answer_of eight (since s h) (caller n) (read n a k out)).output (flags.first + i - a)) ≡ 1) ↔ PresentSince (caller n) i j h
flag_rule s begun h n a k out e i j l c =
    Answers.flag_rule eight lawful (flags.first + i) i j (λ f x. conditions x i) (flag_latched i l) (λ f o. flag_seen i l o) s tt begun (present i j) (λ h x. refl) h n a k out e c

-- so is the bit that is stored
pub flag_stored : (s : List ℕ) → refusal_of eight s (reset tt) ≡ 0 → (h : Calls) (p : Port) (i j : ℕ) → i < flags.many
    → (bit j ((state_of eight (since s h)).own p i) ≡ 1) ↔ PresentSince p i j h
flag_stored s begun h p i j l =
    stored_rule eight lawful (flags.first + i) i j (λ f x. conditions x i) (flag_latched i l) s tt begun p (present i j) (λ h x. refl) h
