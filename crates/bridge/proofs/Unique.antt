-- The C face: a number of 32 bits is its four bytes, so two answers that a contract allows are equal, as the outcomes inside are; and the
-- bytes above a refusal are 0, so a refused call answers its refusal's number alone.
-- Assumes nothing.
use mathlib.Core.Path.{◌≡◌, sym, ◌∙◌}
use mathlib.Core.Logic.{◌≢◌}
use mathlib.Core.List.{List}
use Prim.Native.Nat.{ℕ, ◌+◌, ◌*◌}
use native.Mathlib.Omega.{arith}
use Rattle.ports.specs.Ports.{CallOf, read, write}
use Rattle.ports.specs.Modules.{Module}
use Rattle.ports.specs.Bytes.{refusal_of}
use Rattle.ports.proofs.Outcomes.{reported_refused, read_refused, write_refused, reported_unique, read_unique, write_unique}
use Rattle.bridge.specs.Packing.{byte_of}
use Rattle.bridge.specs.Face.{Word32, ReportPacked, ReadPacked, WritePacked, PlacePacked, KindPacked}

-- a number of 32 bits is its four bytes
bytes_are : (x : ℕ) → Word32 x → x ≡ byte_of 0 x + 256 * byte_of 1 x + 65536 * byte_of 2 x + 16777216 * byte_of 3 x
bytes_are x h = omega arith

bytes_unique : (x y : ℕ) → Word32 x → Word32 y → byte_of 0 x ≡ byte_of 0 y → byte_of 1 x ≡ byte_of 1 y → byte_of 2 x ≡ byte_of 2 y → byte_of 3 x ≡ byte_of 3 y → x ≡ y
bytes_unique x y h k a b c d = bytes_are x h ∙ rw (a, b, c, d) (sym (bytes_are y k))

bytes_alone : (x : ℕ) → Word32 x → byte_of 1 x ≡ 0 → byte_of 2 x ≡ 0 → byte_of 3 x ≡ 0 → x ≡ byte_of 0 x
bytes_alone x h b c d = bytes_are x h ∙ rw (b, c, d) (omega arith)

-- ---- any two outcomes are equal

-- of any module: document 01's, and the eight-channel one
module _ {Image : Type 0} (M : Module Image) where
  pub report_packed_unique : {s : List ℕ} {c : CallOf Image} {x y : ℕ} {t u : List ℕ} → Word32 x → Word32 y → ReportPacked M s c x t → ReportPacked M s c y u → (x ≡ y) × (t ≡ u)
  report_packed_unique {x = x} {y = y} h k p q =
      let e = reported_unique M p.report_is q.report_is in
      (bytes_unique x y h k e.0 e.1 e.2 (p.rest_is ∙ sym q.rest_is), e.3)

  pub read_packed_unique : {s : List ℕ} {n a k : ℕ} {out : List ℕ} {x y : ℕ} {t u o r : List ℕ} → Word32 x → Word32 y
      → ReadPacked M s n a k out x t o → ReadPacked M s n a k out y u r → (x ≡ y) × (t ≡ u) × (o ≡ r)
  read_packed_unique {x = x} {y = y} h k p q =
      let e = read_unique M p.read_is q.read_is in
      (bytes_unique x y h k e.0 e.1 (p.rest_is.0 ∙ sym q.rest_is.0) (p.rest_is.1 ∙ sym q.rest_is.1), e.2, e.3)

  pub write_packed_unique : {s : List ℕ} {n a : ℕ} {vs : List ℕ} {x y : ℕ} {t u : List ℕ} → Word32 x → Word32 y
      → WritePacked M s n a vs x t → WritePacked M s n a vs y u → (x ≡ y) × (t ≡ u)
  write_packed_unique {x = x} {y = y} h k p q =
      let e = write_unique M p.write_is q.write_is in
      (bytes_unique x y h k e.0 e.1 (p.rest_is.0 ∙ sym q.rest_is.0) (p.rest_is.1 ∙ sym q.rest_is.1), e.2)

  -- a refused call changes nothing and answers its refusal's number, with nothing packed beside it

  pub report_packed_refused : {s : List ℕ} {c : CallOf Image} {x : ℕ} {t : List ℕ} → Word32 x → ReportPacked M s c x t → byte_of 0 x ≢ 0 → (x ≡ refusal_of M s c) × (t ≡ s)
  report_packed_refused {s} {c} {x} h p r =
      let n = p.report_is.refusal_is in
      let e = reported_unique M p.report_is (reported_refused M s c (byte_of 0 x) n r) in
      (bytes_alone x h e.1 e.2 p.rest_is ∙ n, e.3)

  pub read_packed_refused : {s : List ℕ} {n a k : ℕ} {out : List ℕ} {x : ℕ} {t o : List ℕ} → Word32 x → ReadPacked M s n a k out x t o → byte_of 0 x ≢ 0
      → (x ≡ refusal_of M s (read n a k out)) × (t ≡ s) × (o ≡ out)
  read_packed_refused {s} {n} {a} {k} {out} {x} h p r =
      let m = p.read_is.refusal_is in
      let e = read_unique M p.read_is (read_refused M s n a k out (byte_of 0 x) m r) in
      (bytes_alone x h e.1 p.rest_is.0 p.rest_is.1 ∙ m, e.2, e.3)

  pub write_packed_refused : {s : List ℕ} {n a : ℕ} {vs : List ℕ} {x : ℕ} {t : List ℕ} → Word32 x → WritePacked M s n a vs x t → byte_of 0 x ≢ 0
      → (x ≡ refusal_of M s (write n a vs)) × (t ≡ s)
  write_packed_refused {s} {n} {a} {vs} {x} h p r =
      let m = p.write_is.refusal_is in
      let e = write_unique M p.write_is (write_refused M s n a vs (byte_of 0 x) m r) in
      (bytes_alone x h e.1 p.rest_is.0 p.rest_is.1 ∙ m, e.2)

-- ---- identity and monitors

pub place_packed_unique : {live factory : List ℕ} {f x y : ℕ} → Word32 x → Word32 y → PlacePacked live factory f x → PlacePacked live factory f y → x ≡ y
place_packed_unique {x = x} {y = y} h k p q =
    bytes_unique x y h k (p.refusal_is ∙ sym q.refusal_is) (p.page_is ∙ sym q.page_is) (p.start_is ∙ sym q.start_is) (p.length_is ∙ sym q.length_is)

pub kind_packed_unique : {s : List ℕ} {n x y : ℕ} → Word32 x → Word32 y → KindPacked s n x → KindPacked s n y → x ≡ y
kind_packed_unique {x = x} {y = y} h k p q =
    bytes_unique x y h k (p.refusal_is ∙ sym q.refusal_is) (p.kind_is ∙ sym q.kind_is) (p.rest_is.0 ∙ sym q.rest_is.0) (p.rest_is.1 ∙ sym q.rest_is.1)
