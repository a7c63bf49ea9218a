-- What a port sees of a state: supported pages, conditions, what a sample stores and byte 2 come out the same with the shared list
-- blanked (computed). What the other port's writes change is that port's record, or (the operator's) the shared list: out of sight.
-- Assumes nothing.
use mathlib.Core.Path.{◌≡◌, refl, ap, fun_ext}
use mathlib.Core.Bool.{false, true≢false}
use mathlib.Core.List.{List, [], ◌∷◌}
use Prim.Native.Nat.{ℕ, suc}
use lib.Dec.{eqb}
use Rattle.laws.proofs.Tests.{if_both}
use Rattle.model.specs.Ports.{Port, operator, recorder, same, Places, State}
use Rattle.model.specs.Map.{page_at, supported, Seat, flag, mine, common, status, blank, seat}
use Rattle.model.specs.Samples.{conditions, conds, stored, raised}
use Rattle.model.specs.Reading.{status_byte, shared}
use Rattle.model.specs.Writing.{written, store, puts}
use Rattle.ports.proofs.Fence
use Rattle.ports.proofs.Fence.{blanked, same_refl, same_trans}
use Rattle.model.specs.Module.{document01}
use Rattle.model.proofs.Lasting.{off_list}

-- the memory, with what the other port may write blanked
abbrev pub fence : Port → Places → Places
fence p mem = Fence.fence document01 p mem

-- two states that port p can't tell apart
abbrev pub Same : Port → State → State → Type 0
Same p m n = Fence.Same document01 p m n

-- the page is the port's own
pub page_same : {p : Port} {m n : State} → Same p m n → m.own p page_at ≡ n.own p page_at
page_same h = ap (λ (o : Places). o page_at) h.own_same

-- ---- nothing that a port's calls depend on is shared

pub supported_fence : (p : Port) (mem : Places) → supported mem ≡ supported (fence p mem)
unfolding supported Fence.fence shared
supported_fence operator mem = refl
supported_fence recorder mem = refl

pub raised_fence : (p : Port) (x : List ℕ) (mem : Places) → raised mem x ≡ raised (fence p mem) x
unfolding raised conds conditions Fence.fence shared
raised_fence operator x mem = refl
raised_fence recorder x mem = refl

pub stored_fence : (p : Port) (x : List ℕ) (mem : Places) → stored mem x ≡ stored (fence p mem) x
unfolding stored Fence.fence shared
stored_fence operator x mem = refl
stored_fence recorder x mem = refl

pub status_fence : (p : Port) (o mem : Places) → status_byte mem o ≡ status_byte (fence p mem) o
unfolding Fence.fence shared
status_fence operator o mem = refl
status_fence recorder o mem = refl

-- ---- the other port's writes are out of sight

store_out : (p q : Port) → same q p ≡ false → (m : State) (v : ℕ) (s : Seat) → Same p (store m q v s) m
unfolding store
store_out p q e m v (flag k) = same_refl document01 p m
store_out operator operator e m v (mine k) = absurd (true≢false e)
store_out operator recorder e m v (mine k) = record { own_same = refl; mem_same = refl }
store_out recorder operator e m v (mine k) = record { own_same = refl; mem_same = refl }
store_out recorder recorder e m v (mine k) = absurd (true≢false e)
store_out operator operator e m v (common i) = absurd (true≢false e)
store_out operator recorder e m v (common i) = record { own_same = refl; mem_same = unfold Fence.fence written in fun_ext (λ j. if_both (eqb j i) refl refl) }
store_out recorder operator e m v (common i) = record {
  own_same = refl;
  mem_same = unfold Fence.fence in fun_ext (λ j. blanked (shared j) (off_list operator m.mem j i v));
}
store_out recorder recorder e m v (common i) = absurd (true≢false e)
store_out p q e m v status = same_refl document01 p m
store_out p q e m v blank = same_refl document01 p m

pub puts_out : (p q : Port) → same q p ≡ false → (m : State) (g a : ℕ) (vs : List ℕ) → Same p (puts m q g a vs) m
unfolding puts
puts_out p q e m g a [] = same_refl document01 p m
puts_out p q e m g a (v ∷ vs) = same_trans document01 (puts_out p q e (store m q v (seat g a)) g (suc a) vs) (store_out p q e m v (seat g a))
