-- Where a field lies, in a sound page that is used, and that it fits there.
-- Assumes nothing.
use Rattle.std.specs.Prelude.{if◌then◌else◌}
use mathlib.Core.Path.{◌≡◌, refl, sym}
use mathlib.Core.Bool.{Bool, true, false, ◌||◌}
use mathlib.Core.List.{List}
use Prim.Native.Nat.{ℕ, ◌+◌, ◌-◌, ◌≤◌}
use native.Mathlib.Omega.{arith}
use lib.ListN.{length}
use denote.Ref.{Bor}
use Rattle.laws.specs.Lists.{part}
use Rattle.laws.proofs.Tests.{covers_in}
use Rattle.model.specs.Readout.{sound_page, field_start, field_length, page_used}
use Rattle.model.specs.Refusals.{identity_refusal}
use Rattle.model.specs.Outcomes.{Located, Viewed, past}
use Rattle.model.proofs.Identity.{refused_view, field_fits, sound_long, view_length, place_taken}

module _ (live factory : List ℕ) (f : ℕ) (l : 1 ≤ f) (h : f ≤ 6) where
  -- a sound page is used
  found : (sound_page live || sound_page factory) ≡ true
      → Located live factory f 0 (if sound_page live then 1 else 2) (field_start f) (field_length (page_used live factory) f)
  found s =
      let z : identity_refusal live factory f ≡ 0 = rw (covers_in 1 6 f l (omega arith), s) in
      record { refusal_is = sym z; page_is = rw z; start_is = rw z; length_is = sym (view_length live factory f z) }

  pub live_place : sound_page live ≡ true → Located live factory f 0 1 (field_start f) (field_length live f)
  live_place s = rw s at (found (rw s))

  pub factory_place : sound_page live ≡ false → sound_page factory ≡ true → Located live factory f 0 2 (field_start f) (field_length factory f)
  factory_place s t = rw s at (found (rw (s, t)))

-- a page number tells whether the live page is sound
page_told : (b s : Bool) → let p : ℕ = if b then 1 else 2 in p ≡ (if s then 1 else 2) → s ≡ b
page_told true true e = refl
page_told true false e = absurd (omega arith)
page_told false true e = absurd (omega arith)
page_told false false e = refl

-- a place in the live page, where b is true, or in the factory page
module _ (b : Bool) {live factory : List ℕ} {f a l : ℕ} (here : Located live factory f 0 (if b then 1 else 2) a l) where
  taken : (identity_refusal live factory f ≡ 0) × (sound_page live ≡ b)
  taken =
      let z = sym here.refusal_is in
      (z, page_told b (sound_page live) (rw z at here.page_is))

  told : (a ≡ field_start f) × (l ≡ field_length (if b then live else factory) f)
  told = rw taken.1 at (place_taken here taken.0)

  -- it lies inside that page
  pub place_fits : a + l ≤ length (if b then live else factory)
  place_fits =
      let (k, h, s) = rw taken.1 at ((refused_view live factory f).1 taken.0) in
      let page = if b then live else factory in
      omega (arith, sound_long page s, field_fits page f h, told.0, told.1)

-- and the part of that page from there on is the field; m and k are where it starts and how long it is, as the code has them
pub view_found : (live factory : Bor (List ℕ)) (b : Bool) {r : Bor (List ℕ)} {f a l m k : ℕ}
    → Located live.now factory.now f 0 (if b then 1 else 2) a l → m ≡ a → k ≡ l
    → r.now ≡ part m (m + k - m) (if b then live.now else factory.now) → r.ref_ptr ≡ past (if b then live else factory) m → Viewed live factory f r
view_found live factory b {m = m} {k = k} here start long bytes place =
    let (z, s) = taken b here in
    let (field, whole) = told b here in
    let n : m + k - m ≡ k = omega arith in
    record {
      bytes_are = rw (z, s, ← whole, ← field, ← long, ← start) (rw n at bytes);
      place_is = λ q. rw (s, ← field, ← start) place;
    }
