-- What a read shows, layer by layer, and what it clears: two runs of one record.
-- Assumes nothing.
use Rattle.std.specs.Prelude.{if◌then◌else◌}
use mathlib.Core.Path.{◌≡◌}
use mathlib.Core.List.{List}
use Prim.Native.Nat.{ℕ, ◌+◌, ◌-◌, ◌≤◌}
use native.Mathlib.Omega.{arith}
use lib.ListN.{length}
use borrow.Author.Tests.{lt-ltb, le-ltb}
use Rattle.laws.specs.Tests.{covers}
use Rattle.laws.specs.Lists.{at, patch}
use Rattle.laws.proofs.Tests.{covers_in, covers_below}
use Rattle.laws.proofs.Fronts.{front_over}
use Rattle.ports.specs.Bytes.{record_of}
use Rattle.moves.specs.Copied.{copied}
use Rattle.both.proofs.Laws.{own_byte}
use Rattle.eight.specs.Tables.{flags, masks, mask_of, record_size}
use Rattle.eight.specs.Module.{seen, cleared, eight}
use Rattle.eight_module.proofs.Laws.{two_runs, second_run}

-- zeros, over them the masks, over them the flags
pub look_shown : (s : List ℕ) (b : ℕ) (out : List ℕ) (a n : ℕ) → n ≤ length out → {o₁ o₂ t : List ℕ}
    → o₁ ≡ patch 0 n (λ j. 0) out
    → o₂ ≡ patch 0 n (λ j. copied s (b + 14) 102 14 (a + j) (at o₁ j)) o₁
    → t ≡ patch 0 n (λ j. copied s (b + 0) 3 14 (a + j) (at o₂ j)) o₂
    → t ≡ patch 0 n (λ j. seen (record_of eight s b) (a + j)) out
unfolding seen
look_shown s b out a n room {o₁} e₁ e₂ e₃ =
    let k₂ = front_over n out room e₁ e₂ (λ j l x.
    own_byte eight s b masks (b + 14) (mask_of (a + j - masks.first)) (a + j) (λ u v. (omega arith, omega arith)) x) in
    front_over n out room k₂ e₃ (λ j l x.
    own_byte eight s b flags (b + 0) (a + j - flags.first) (a + j) (λ u v. (omega arith, omega arith)) x)

-- the flags, and then the pending bits
pub clear_both : (s t u : List ℕ) (b a n : ℕ) → b + record_size ≤ length s
    → t ≡ patch (b + 0) 14 (λ k. if covers a n (3 + k) then 0 else at s (b + 0 + k)) s
    → u ≡ patch (b + 28) 14 (λ k. if covers a n (3 + k) then 0 else at t (b + 28 + k)) t
    → u ≡ patch b record_size (cleared a n (record_of eight s b)) s
unfolding cleared
clear_both s t u b a n room e d =
    let z : b + 0 ≡ b = omega arith in
    let e₁ = rw z at e in
    two_runs s t b (λ k. if covers a n (3 + k) then 0 else at s (b + k)) room e₁ u (λ k. if covers a n (3 + k) then 0 else at t (b + 28 + k)) d (cleared a n (record_of eight s b))
    (λ k l. rw (lt-ltb k 14 l, covers_below 28 14 k (omega arith), lt-ltb k 42 (omega arith)))
    (λ k l. let y : 28 + k - 28 ≡ k = omega arith in let w : b + 28 + k ≡ b + (28 + k) = omega arith in
    rw (le-ltb (28 + k) 14 (omega arith), covers_in 28 14 (28 + k) (omega arith) (omega arith), y, second_run s t b (λ k. if covers a n (3 + k) then 0 else at s (b + k)) room e₁ k l, w, lt-ltb (28 + k) 42 (omega arith)))
    (λ k l h. rw (le-ltb k 14 l, covers_below 28 14 k h, lt-ltb k 42 (omega arith)))
