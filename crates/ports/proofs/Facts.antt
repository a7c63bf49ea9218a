-- What each call leaves and refuses, for any module and any state: computed, so that an edit of the definitions shows.
-- Assumes nothing.
use mathlib.Core.Path.{◌≡◌, refl}
use mathlib.Core.Bool.{true, false, not}
use mathlib.Core.List.{List}
use Prim.Native.Nat.{ℕ, ◌-◌}
use Rattle.ports.specs.Ports.{Port, operator, recorder, nobody, caller, State, reset, read, write}
use Rattle.ports.specs.Interrupt.{through}
use Rattle.ports.specs.Modules.{Module, foreign}
use Rattle.ports.specs.Effects.{done}

-- "1 (operator)", "2 (recorder)"
pub numbered : (nobody 0 ≡ true) × (nobody 1 ≡ false) × (nobody 2 ≡ false) × (nobody 3 ≡ true) × (caller 1 ≡ operator) × (caller 2 ≡ recorder)
numbered = (refl, refl, refl, refl, refl, refl)

-- "A mask bit of 1 holds its flag back"
pub held_back : (through (λ k. 1) (record { flag_byte = 0; mask_byte = 1 }) 0 ≡ false) × (through (λ k. 1) (record { flag_byte = 0; mask_byte = 1 }) 1 ≡ false)
    × (through (λ k. 1 - k) (record { flag_byte = 0; mask_byte = 1 }) 0 ≡ true)
held_back = (refl, refl, refl)

module _ {Image : Type 0} (M : Module Image) (m : State) where
  -- "Both records are all 0"
  pub reset_empties : (img : Image) (p : Port) (k : ℕ) → (done M m (reset img)).own p k ≡ 0
  unfolding done
  reset_empties img p k = refl

  -- a read clears for its caller alone
  pub read_clears_one : (a k : ℕ) (out : List ℕ)
      → ((done M m (read 1 a k out)).own operator ≡ M.cleared m.mem a k (m.own operator)) × ((done M m (read 1 a k out)).own recorder ≡ m.own recorder)
      × ((done M m (read 2 a k out)).own operator ≡ m.own operator) × ((done M m (read 2 a k out)).own recorder ≡ M.cleared m.mem a k (m.own recorder))
  unfolding done
  read_clears_one a k out = (refl, refl, refl, refl)

  -- a write lands as the document says
  pub write_lands : (a : ℕ) (vs : List ℕ) → (done M m (write 1 a vs) ≡ M.puts m operator a vs) × (done M m (write 2 a vs) ≡ M.puts m recorder a vs)
  unfolding done
  write_lands a vs = (refl, refl)

  -- "a recorder's write touches a byte not its own"
  pub recorder_bound : (a k : ℕ) → (foreign M m 1 a k ≡ false) × (foreign M m 2 a k ≡ not (M.all_mine (m.own recorder) a k))
  recorder_bound a k = (refl, refl)
