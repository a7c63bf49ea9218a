-- Document 01, "Identity": trimming goes byte by byte from a field's end, so it leaves out the trailing 20h bytes, all of them and
-- nothing else; where the six fields lie is computed; and the view and its place as numbers go by the same start and length.
-- Assumes nothing.
use Rattle.std.specs.Prelude.{if◌then◌else◌}
use mathlib.Core.Path.{◌≡◌, refl, sym, ◌∙◌}
use mathlib.Core.Logic.{◌≢◌}
use mathlib.Core.Bool.{Bool, true, false, ◌||◌}
use mathlib.Core.List.{List, [], ◌∷◌}
use Prim.Native.Nat.{ℕ, zero, suc, ◌+◌, ◌-◌, ◌≤◌, ◌<◌}
use native.Mathlib.Omega.{arith}
use lib.Dec.{eqb, leb}
use lib.ListN.{length}
use denote.Ref.{Bor}
use borrow.Author.Tests.{eqb-true, eqb-false, leb-true, eq-eqb, ne_eqb, not-true, not-false}
use Rattle.laws.specs.Tests.{covers, first_of}
use Rattle.laws.specs.Lists.{at, part, table, sum}
use Rattle.laws.proofs.Tests.{case, if_elim, and_left, and_right, covers_true}
use Rattle.laws.proofs.Rows.{first_none}
use Rattle.laws.proofs.Finite.{always_at}
use Rattle.laws.proofs.Lists.{part_length}
use Rattle.model.specs.Map.{page_size}
use Rattle.model.specs.Reset.{codes_right}
use Rattle.model.specs.Readout.{sound_page, fields, field_run, field_start, field_length, page_used, trimmed}
use Rattle.model.specs.Refusals.{identity_rows, identity_refusal}
use Rattle.model.specs.Calls.{view_of}
use Rattle.model.specs.Outcomes.{Located, Viewed, past}
use Rattle.model.specs.Stories.{page_with}

-- "A refusal ..: its view is empty"; where there is none, the field number is 1 to 6 and the page that is used is sound
pub refused_view : (live factory : List ℕ) (f : ℕ)
    → (first_of (identity_rows live factory f) ≢ 0 → view_of live factory f ≡ [])
    × (first_of (identity_rows live factory f) ≡ 0 → (1 ≤ f) × (f ≤ 6) × (sound_page (page_used live factory) ≡ true))
refused_view live factory f = (λ d. rw (ne_eqb (first_of (identity_rows live factory f)) 0 d), passed)
  where
    used : (sound_page live || sound_page factory) ≡ true → sound_page (page_used live factory) ≡ true
    used s = case (sound_page live) (λ t. rw t t) (λ t. rw t (rw t at s))

    passed : first_of (identity_rows live factory f) ≡ 0 → (1 ≤ f) × (f ≤ 6) × (sound_page (page_used live factory) ≡ true)
    passed e =
        let t = (first_none (identity_rows live factory f) refl).0 e in
        let n : covers 1 (length fields) f ≡ true = search (and_left, not-true, not-false) in
        let s : (sound_page live || sound_page factory) ≡ true = search (and_left, and_right, not-true, not-false) in
        let c = covers_true 1 (length fields) f n in
        (c.0, omega arith, used s)

-- ---- trailing 20h bytes

-- "without trailing 20h bytes": of the n bytes from a on, at most all are left
pub trimmed_le : (page : List ℕ) (a n : ℕ) → trimmed page a n ≤ n
unfolding trimmed
trimmed_le page a zero = omega arith
trimmed_le page a (suc n) =
    if_elim (λ k. k ≤ suc n) (eqb (at page (a + n)) 0x20) (λ e. let h = trimmed_le page a n in omega arith) (λ e. omega arith)

-- the last of those that are left, if any, is not 20h
pub trimmed_end : (page : List ℕ) (a n : ℕ) → trimmed page a n ≢ 0 → at page (a + (trimmed page a n - 1)) ≢ 0x20
unfolding trimmed
trimmed_end page a zero h = absurd (h refl)
trimmed_end page a (suc n) h = case (eqb (at page (a + n)) 0x20)
    (λ e. rw e (trimmed_end page a n (rw e at h)))
    (λ e. let q : a + (suc n - 1) ≡ a + n = omega arith in rw (e, q) (eqb-false (at page (a + n)) 0x20 e))

-- all bytes after them are 20h
pub trimmed_rest : (page : List ℕ) (a n i : ℕ) → trimmed page a n ≤ i → i < n → at page (a + i) ≡ 0x20
unfolding trimmed
trimmed_rest page a zero i h k = absurd (omega arith)
trimmed_rest page a (suc n) i h k = case (eqb (at page (a + n)) 0x20)
    (λ e. case (eqb i n)
    (λ t. let q = eqb-true i n t in rw q (eqb-true (at page (a + n)) 0x20 e))
    (λ t. let d = eqb-false i n t in trimmed_rest page a n i (rw e at h) (omega arith)))
    (λ e. let l = rw e at h in absurd (omega arith))

-- ---- where a field lies

-- the whole run of a field lies in its page
pub run_fits : (f : ℕ) → f ≤ 6 → field_start f + (field_run f).many ≤ page_size
run_fits f h =
    leb-true (field_start f + (field_run f).many) page_size (always_at (λ g. leb (field_start g + (field_run g).many) page_size) 7 refl f (omega arith))

-- and so does what is left of it
pub field_fits : (page : List ℕ) (f : ℕ) → f ≤ 6 → field_start f + field_length page f ≤ page_size
field_fits page f h =
    let n : field_length page f ≤ (field_run f).many =
    if_elim (λ k. k ≤ (field_run f).many) (eqb f 2) (λ e. omega arith) (λ e. trimmed_le page (field_start f) (field_run f).many) in
    let m = run_fits f h in
    omega arith

-- a sound page has 128 bytes
pub sound_long : (page : List ℕ) → sound_page page ≡ true → length page ≡ page_size
unfolding sound_page
sound_long page e = eqb-true (length page) page_size (and_left _ _ e)

-- the field that a call shows is as long as the definition says
pub view_length : (live factory : List ℕ) (f : ℕ) → identity_refusal live factory f ≡ 0 → length (view_of live factory f) ≡ field_length (page_used live factory) f
view_length live factory f e =
    let page = page_used live factory in
    let (l, h, s) = (refused_view live factory f).1 e in
    let long = sound_long page s in
    let fits = field_fits page f h in
    rw (eq-eqb (identity_refusal live factory f) 0 e) (part_length (field_start f) (field_length page f) page (omega arith))

-- ---- any two outcomes that a contract allows are equal; of two refused views nothing is said of where they point

pub identity_refusal_unique : (live factory : List ℕ) (f : ℕ) {r₁ r₂ : ℕ} → r₁ ≡ identity_refusal live factory f → r₂ ≡ identity_refusal live factory f → r₁ ≡ r₂
identity_refusal_unique live factory f p q = p ∙ sym q

pub located_unique : {live factory : List ℕ} {f r₁ r₂ p₁ p₂ a₁ a₂ n₁ n₂ : ℕ} → Located live factory f r₁ p₁ a₁ n₁ → Located live factory f r₂ p₂ a₂ n₂
    → (r₁ ≡ r₂) × (p₁ ≡ p₂) × (a₁ ≡ a₂) × (n₁ ≡ n₂)
located_unique p q =
    (p.refusal_is ∙ sym q.refusal_is, p.page_is ∙ sym q.page_is, p.start_is ∙ sym q.start_is, p.length_is ∙ sym q.length_is)

pub viewed_unique : {live factory x y : Bor (List ℕ)} {f : ℕ} → Viewed live factory f x → Viewed live factory f y
    → (x.now ≡ y.now) × (identity_refusal live.now factory.now f ≡ 0 → x.ref_ptr ≡ y.ref_ptr)
viewed_unique p q = (p.bytes_are ∙ sym q.bytes_are, λ e. p.place_is e ∙ sym (q.place_is e))

-- ---- the view and its place as numbers say the same

-- the numbers of an accepted field
pub place_taken : {live factory : List ℕ} {f no page start long : ℕ} → Located live factory f no page start long → identity_refusal live factory f ≡ 0
    → (start ≡ field_start f) × (long ≡ field_length (page_used live factory) f)
place_taken {live} {factory} {f} l z = (l.start_is ∙ rw z, l.length_is ∙ view_length live factory f z)

module _ {live factory r : Bor (List ℕ)} {f no page start long : ℕ} (l : Located live.now factory.now f no page start long) (v : Viewed live factory f r) where
  -- of an accepted field, in the live page where b is true and else in the factory page
  in_page_lem : identity_refusal live.now factory.now f ≡ 0 → (b : Bool) → sound_page live.now ≡ b
      → (page ≡ (if b then 1 else 2)) × (r.now ≡ part start long (if b then live.now else factory.now)) × (r.ref_ptr ≡ past (if b then live else factory) start)
  in_page_lem z b u =
      let (a, n) = rw u at (place_taken l z) in
      rw (a, n) (l.page_is ∙ rw (z, u), v.bytes_are ∙ rw (z, u), v.place_is z ∙ rw u)

  pub view_located : (r.now ≡ (if eqb page 0 then [] else part start long (if eqb page 1 then live.now else factory.now)))
      × (page ≢ 0 → r.ref_ptr ≡ past (if eqb page 1 then live else factory) start)
  view_located = case (eqb (identity_refusal live.now factory.now f) 0)
      (λ t.
      let z = eqb-true (identity_refusal live.now factory.now f) 0 t in
      case (sound_page live.now)
      (λ u. let (e, x, y) = in_page_lem z true u in rw e (x, λ d. y))
      (λ u. let (e, x, y) = in_page_lem z false u in rw e (x, λ d. y)))
      (λ t. let e : page ≡ 0 = l.page_is ∙ rw t in rw e (v.bytes_are ∙ rw t, λ d. absurd (d refl)))

-- ---- computed

-- "A sound live page is used, else the factory one"
live_first : (view_of (page_with 1) (page_with 2) 2 ≡ 1 ∷ 0 ∷ 0 ∷ []) × (view_of [] (page_with 2) 2 ≡ 2 ∷ 0 ∷ 0 ∷ [])
unfolding page_with sound_page codes_right table sum
live_first = (refl, refl)
