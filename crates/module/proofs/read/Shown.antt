-- What a read shows is put together in layers, each a run over the ones before; address by address the last layer that has it decides,
-- and that is the order of the tests by which the model says where the address leads.
-- Assumes nothing.
use Rattle.std.specs.Prelude.{if◌then◌else◌}
use mathlib.Core.Path.{◌≡◌, refl, ◌∙◌}
use mathlib.Core.Logic.{◌≢◌}
use mathlib.Core.Bool.{◌&&◌, and-false}
use mathlib.Core.List.{List}
use Prim.Native.Nat.{ℕ, ◌+◌, ◌-◌, ◌≤◌, ◌<◌, max, min}
use native.Mathlib.Omega.{arith}
use lib.Dec.{ltb, eqb}
use lib.ListN.{length, set}
use borrow.Author.Tests.{lt-ltb, ltb-true, ltb-false, eq-eqb, ne_eqb, eqb-true, eqb-false}
use Rattle.laws.specs.Tests.{◌to◌, within}
use Rattle.laws.specs.Lists.{at, patch}
use Rattle.laws.proofs.Tests.{case, covers_in, covers_below, covers_one}
use Rattle.laws.proofs.Lists.{patch_same}
use Rattle.laws.proofs.Fronts.{front_over, front_four, front_self, front_set}
use Rattle.model.specs.Map.{page_size, paged, memory_size, status_at, flags, low_masks, high_masks, flag_of, low_mask_of, high_mask_of, page_at, seat}
use Rattle.model.specs.Reading.{status_byte, look, seen}
use Rattle.model.specs.Module.{document01}
use Rattle.model.specs.Bytes.{memory_of, record_of}
use Rattle.address.specs.Meaning.{stored_at}
use Rattle.moves.specs.Copied.{copied}
use Rattle.both.proofs.Laws.{own_byte}
use Rattle.module.specs.Own.{own_seen}

-- ---- one after the other: the n addresses from a on, at the front of out

module _ (out : List ℕ) (a n : ℕ) (room : n ≤ length out) where
  -- byte 2, of which the run has one address or none
  pub status_shown : (v skip many : ℕ) → skip ≡ max a status_at - a → many ≡ min (a + n) (status_at + 1) - max a status_at → many ≢ 0
      → set out skip v ≡ patch 0 n (λ j. if eqb (a + j) status_at then v else at out j) out
  status_shown v skip many e k some =
      let l : status_at - a < n = inside k some in
      let z : skip ≡ status_at - a = e ∙ there k some in
      rw z (front_set n out room (status_at - a) v l ∙ patch_same 0 n _ _ out (λ j h. case (eqb (a + j) status_at)
      (λ t. let q = eqb-true (a + j) status_at t in rw (t, eq-eqb j (status_at - a) (omega arith)))
      (λ t. let d = eqb-false (a + j) status_at t in rw (t, ne_eqb j (status_at - a) (λ y. d (below k some y))))))
    where
      inside : many ≡ min (a + n) (status_at + 1) - max a status_at → many ≢ 0 → status_at - a < n
      inside k some = omega arith

      there : many ≡ min (a + n) (status_at + 1) - max a status_at → many ≢ 0 → max a status_at - a ≡ status_at - a
      there k some = omega arith

      below : {j : ℕ} → many ≡ min (a + n) (status_at + 1) - max a status_at → many ≢ 0 → j ≡ status_at - a → a + j ≡ status_at
      below k some y = omega arith

  pub status_kept : (v many : ℕ) → many ≡ min (a + n) (status_at + 1) - max a status_at → many ≡ 0 → out ≡ patch 0 n (λ j. if eqb (a + j) status_at then v else at out j) out
  status_kept v many k none = front_self n out room ∙ patch_same 0 n _ _ out (λ j l. rw (ne_eqb (a + j) status_at (λ z. omega arith)))

  module _ (s : List ℕ) where
    -- lower memory, and then the page
    pub memory_shown : (page : ℕ) → a + n ≤ 256 → {o t : List ℕ}
        → o ≡ patch 0 n (λ j. copied s 0 0 page_size (a + j) (at out j)) out
        → t ≡ patch 0 n (λ j. copied s (paged page page_size) page_size page_size (a + j) (at o j)) o
        → t ≡ patch 0 n (λ j. at s (stored_at page (a + j))) out
    memory_shown page inside e d =
        front_over n out room e d (λ j k x. case (ltb (a + j) page_size)
        (λ u. let v = ltb-true (a + j) page_size u in let q : 0 + (a + j - 0) ≡ a + j = omega arith in
        rw (x, covers_below 128 128 (a + j) v, covers_in 0 128 (a + j) (omega arith) (omega arith), u, q))
        (λ u. let v = ltb-false (a + j) page_size u in let q : paged page 128 + (a + j - 128) ≡ paged page (a + j) = omega arith in
        rw (covers_in 128 128 (a + j) v (omega arith), u, q)))

    module _ (b : ℕ) where
      -- what is the port's own in lower memory
      pub own_shown : {o₁ o₂ o₃ t : List ℕ}
          → o₁ ≡ patch 0 n (λ j. if within (119 to 126) (a + j) then 0 else at out j) out
          → o₂ ≡ patch 0 n (λ j. copied s (b + page_at) 127 1 (a + j) (at o₁ j)) o₁
          → o₃ ≡ patch 0 n (λ j. copied s (b + low_mask_of low_masks.first) low_masks.first low_masks.many (a + j) (at o₂ j)) o₂
          → t ≡ patch 0 n (λ j. copied s b flags.first flags.many (a + j) (at o₃ j)) o₃
          → t ≡ patch 0 n (λ j. own_seen (record_of s b) (a + j) (at out j)) out
      own_shown e₁ e₂ e₃ e₄ = front_four n out room e₁ e₂ e₃ e₄ (λ j l x₁ x₂ x₃.
          let i : ℕ = a + j in
          rw (x₃, x₂, x₁, ← covers_one 127 i)
          (own_byte document01 s b flags b (flag_of i) i (λ u v. (omega arith, omega arith))
          (own_byte document01 s b low_masks (b + low_mask_of low_masks.first) (low_mask_of i) i (λ u v. (omega arith, omega arith))
          (own_byte document01 s b (127 to 127) (b + page_at) page_at i (λ u v. (omega arith, omega arith)) refl))))

-- ---- all together

module _ (s : List ℕ) (b page : ℕ) where
  -- what is put at address i, from the last to the first
  abbrev layers : ℕ → ℕ
  layers i = own_seen (record_of s b) i (if eqb i status_at then status_byte (memory_of s) (record_of s b)
      else (if eqb page 3 && within high_masks i then record_of s b (high_mask_of i) else at s (stored_at page i)))

  layers_seen : page ≡ record_of s b page_at → page < 4 → (i : ℕ) → i < 256 → layers i ≡ seen (memory_of s) (record_of s b) i
  unfolding seen look seat
  layers_seen e l i h = rw (← e) (case (within flags i) (λ t. rw t) (λ f₁. case (within low_masks i) (λ t. rw (f₁, t)) (λ f₂.
      case (eqb i 127) (λ t. rw (f₁, f₂, t) e) (λ f₃. case (within (119 to 126) i) (λ t. rw (f₁, f₂, f₃, t)) (λ f₄.
      case (eqb i status_at) (λ t. rw (f₁, f₂, f₃, f₄, t)) (λ f₅. case (ltb i page_size)
      (λ t. let u = ltb-true i page_size t in
      rw (f₁, f₂, f₃, f₄, f₅, covers_below high_masks.first high_masks.many i (omega arith), and-false (eqb page 3), t, lt-ltb i memory_size (omega arith)))
      (λ t. rw (f₁, f₂, f₃, f₄, f₅, t) (case (eqb page 3 && within high_masks i)
      (λ y. rw y) (λ y. rw (y, lt-ltb (paged page i) memory_size (omega arith)))))))))))

  pub look_shown : (out : List ℕ) (a n : ℕ) → page ≡ record_of s b page_at → page < 4 → a + n ≤ 256 → n ≤ length out → {o₁ o₂ o₃ t : List ℕ}
      → o₁ ≡ patch 0 n (λ j. at s (stored_at page (a + j))) out
      → o₂ ≡ patch 0 n (λ j. if eqb page 3 && within high_masks (a + j) then record_of s b (high_mask_of (a + j)) else at o₁ j) o₁
      → o₃ ≡ patch 0 n (λ j. if eqb (a + j) status_at then status_byte (memory_of s) (record_of s b) else at o₂ j) o₂
      → t ≡ patch 0 n (λ j. own_seen (record_of s b) (a + j) (at o₃ j)) o₃
      → t ≡ patch 0 n (λ j. seen (memory_of s) (record_of s b) (a + j)) out
  look_shown out a n e l inside room e₁ e₂ e₃ e₄ =
      front_four n out room e₁ e₂ e₃ e₄ (λ j h x₁ x₂ x₃. rw (x₃, x₂, x₁) (layers_seen e l (a + j) (omega arith)))
