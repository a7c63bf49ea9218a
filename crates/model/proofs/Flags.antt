-- Demand 2, flags: a flag byte is raised by samples, cleared by reads of its address, and no write reaches it.
-- Assumes nothing.
use mathlib.Core.Path.{◌≡◌, refl, ap, ◌∙◌}
use mathlib.Core.List.{List, [], ◌∷◌}
use mathlib.Core.Logic.{inl}
use Prim.Native.Nat.{ℕ, suc, ◌+◌, ◌-◌, ◌<◌}
use native.Mathlib.Omega.{arith}
use borrow.Author.Tests.{lt-ltb}
use Rattle.laws.proofs.Tests.{covers_in}
use Rattle.ports.proofs.Ports.{give_elim}
use Rattle.ports.proofs.Flags.{Latched}
use Rattle.model.specs.Ports.{Port, Places, State}
use Rattle.model.specs.Map.{flags, page_at, Seat, flag, mine, common, status, blank, seat}
use Rattle.model.specs.Samples.{conds, raised}
use Rattle.model.specs.Reading.{look, seen, cleared}
use Rattle.model.specs.Writing.{store, puts}
use Rattle.model.specs.Module.{document01}
use Rattle.model.proofs.Ports.{entered_none}

-- nothing writes a flag
flag_store : (k : ℕ) → k < flags.many → (m : State) (p q : Port) (v : ℕ) (s : Seat) → (store m q v s).own p k ≡ m.own p k
unfolding store
flag_store k l m p q v (flag i) = refl
flag_store k l m p q v (mine i) = give_elim (λ r o. o k ≡ m.own r k) m.own q _ (entered_none m.mem i v (m.own q) k (inl l)) (λ r. refl) p
flag_store k l m p q v (common i) = refl
flag_store k l m p q v status = refl
flag_store k l m p q v blank = refl

flag_puts : (k : ℕ) → k < flags.many → (m : State) (p q : Port) (g a : ℕ) (vs : List ℕ) → (puts m q g a vs).own p k ≡ m.own p k
unfolding puts
flag_puts k l m p q g a [] = refl
flag_puts k l m p q g a (v ∷ vs) = flag_puts k l (store m q v (seat g a)) p q g (suc a) vs ∙ flag_store k l m p q v (seat g a)

pub flag_latched : (k : ℕ) → k < flags.many → Latched document01 (3 + k) k (λ mem x. conds mem x (3 + k))
unfolding raised cleared
flag_latched k l = record {
  raised_is = λ f x o. rw (lt-ltb k flags.many l);
  cleared_is = λ f a n o. rw (lt-ltb k flags.many l);
  puts_is = λ m p q a vs. flag_puts k l m p q (m.own q page_at) a vs;
}

-- where the address of a flag byte leads
seat_flag : (g k : ℕ) → k < flags.many → seat g (3 + k) ≡ flag k
unfolding seat
seat_flag g k l =
    let e : 3 + k - 3 ≡ k = omega arith in
    rw (covers_in 3 12 (3 + k) (omega arith) (omega arith), e)

-- a flag byte reads as it stands in the port's record
pub flag_seen : (mem o : Places) (k : ℕ) → k < flags.many → seen mem o (3 + k) ≡ o k
unfolding seen look
flag_seen mem o k l = ap (look mem o) (seat_flag (o page_at) k l)
