-- A reset leaves 98 zeros, which is what the definitions say.
-- Assumes nothing.
use mathlib.Core.Path.{◌≡◌, refl, ap, ◌∙◌}
use mathlib.Core.List.{List}
use Prim.Native.Nat.{ℕ, ◌+◌, ◌<◌}
use native.Mathlib.Omega.{arith}
use lib.ListN.{length, replicate, length-replicate, get_or-replicate}
use Rattle.laws.specs.Lists.{at, sum}
use Rattle.ports.specs.Ports.{reset}
use Rattle.ports.specs.Interrupt.{count_of}
use Rattle.ports.specs.Modules.{base, state_size}
use Rattle.ports.specs.Effects.{done}
use Rattle.ports.specs.Bytes.{state_of, bytes_of}
use Rattle.ports.specs.Outcomes.{Reported}
use Rattle.ports.proofs.Bytes.{base_fits, bytes_by_part}
use Rattle.ports.proofs.Left
use Rattle.eight.specs.Module.{eight}
use Rattle.eight.proofs.Lawful.{lawful}
use Rattle.eight.proofs.Demand1.{reset_accepted}

pub reset_done : (s t : List ℕ) → length s ≡ state_size eight → t ≡ replicate (state_size eight) 0 → Reported eight s (reset tt) 0 0 0 t
reset_done s t e d = Left.reset_done eight lawful s tt ((reset_accepted s).1 e) zero t left
  where
    zero : eight.count (λ k. 0) ≡ 0
    zero = unfold count_of sum in refl

    here : (i : ℕ) → i < state_size eight → at t i ≡ 0
    here i h = rw d (get_or-replicate (state_size eight) i 0 0 h)

    left : t ≡ bytes_of eight (done eight (state_of eight s) (reset tt))
    left = unfold done in
        bytes_by_part eight (record { mem = λ i. 0; own = λ p k. 0 }) t (ap length d ∙ length-replicate {A = ℕ} (state_size eight) 0)
        (λ i h. here i (omega arith)) (λ p k h. here (base eight p + k) (base_fits eight p k h).1)
