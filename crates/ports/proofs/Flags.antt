-- Demand 2, the flag rule, for any lawful module: each call makes a flag byte 0 or ORs into it the conditions that it brings
-- (`byte_law`). So each of its bits is up exactly if its condition was brought and not wiped since (`latch_since` of Histories.antt).
-- Assumes nothing.
use Rattle.std.specs.Prelude.{if◌then◌else◌}
use mathlib.Core.Path.{◌≡◌, refl, sym, ap, ◌∙◌}
use mathlib.Core.Logic.{◌↔◌}
use mathlib.Core.Bool.{Bool, true, false, not, ◌&&◌, ◌||◌, false≢true, and-false}
use mathlib.Core.List.{List}
use Prim.Native.Nat.{ℕ}
use lib.Bits.{bit_or, or_zero_r}
use lib.ListN.{length}
use Rattle.laws.specs.Tests.{covers, none_of}
use Rattle.laws.specs.Bits.{bit, has}
use Rattle.laws.proofs.Tests.{case}
use Rattle.laws.proofs.Bits.{bit_none, has_or, has_bit, bit_has, bit_lacks}
use Rattle.ports.specs.Ports.{Port, operator, recorder, same, nobody, caller, Places, State, give, CallOf, reset, sample, read, write}
use Rattle.ports.specs.Histories.{History, run_of}
use Rattle.ports.specs.Modules.{Module, read_rows, sample_rows, accepted}
use Rattle.ports.specs.Effects.{done, step}
use Rattle.ports.specs.Bytes.{state_of, refusal_of, after, runs}
use Rattle.ports.specs.Demands.{wipes, brings, StoodSince}
use Rattle.ports.proofs.Histories.{Latch, latch_since}
use Rattle.ports.proofs.Lawful.{Good, Lawful}
use Rattle.ports.proofs.Steps.{reset_taken, sample_taken, read_taken, good_run, good_after, taken_state, begun_state, since_state}

-- byte k of a record is raised by a sample's conditions and cleared by a read of address b, and no write reaches it
pub record Latched {Image : Type 0} (M : Module Image) (b k : ℕ) (conds : Places → List ℕ → ℕ) : Type 0 where
  pub raised_is : (f : Places) (x : List ℕ) (o : Places) → M.raised f x o k ≡ bit_or (o k) (conds f x)
  pub cleared_is : (f : Places) (a n : ℕ) (o : Places) → M.cleared f a n o k ≡ (if covers a n b then 0 else o k)
  pub puts_is : (m : State) (p q : Port) (a : ℕ) (vs : List ℕ) → (M.puts m q a vs).own p k ≡ m.own p k

module _ {Image : Type 0} (M : Module Image) (L : Lawful M) (b k j : ℕ) (conds : Places → List ℕ → ℕ) (l : Latched M b k conds) where
  -- a read clears it for its caller alone
  read_clears : (m : State) (q p : Port) (a n : ℕ) → give m.own q (M.cleared m.mem a n (m.own q)) p k ≡ (if same q p && covers a n b then 0 else m.own p k)
  read_clears m operator operator a n = l.cleared_is m.mem a n (m.own operator)
  read_clears m operator recorder a n = refl
  read_clears m recorder operator a n = refl
  read_clears m recorder recorder a n = l.cleared_is m.mem a n (m.own recorder)

  -- the conditions that a call brings
  unfoldable pub brought : Places → CallOf Image → ℕ
  brought f (reset img) = 0
  brought f (sample x) = if none_of (sample_rows M x) then conds f x else 0
  brought f (read n a i out) = 0
  brought f (write n a vs) = 0

  or_none : (t : Bool) (x : ℕ) → (if t then 0 else x) ≡ (if t then 0 else bit_or x 0)
  or_none true x = refl
  or_none false x = sym (or_zero_r x)

  -- what each call does to the byte, in one equation
  pub byte_law : (m : State) → Good M m → (p : Port) (c : CallOf Image) → (step M m c).own p k ≡ (if wipes M p b c then 0 else bit_or (m.own p k) (brought m.mem c))
  unfolding step wipes brought done
  byte_law m g p (reset img) = rw (reset_taken M L m img) (case (none_of (M.image_rows img)) (λ t. rw t) (λ t. rw t (or_none false (m.own p k))))
  byte_law m g p (sample x) = rw (sample_taken M L m x g) (case (none_of (sample_rows M x)) (λ t. rw t (l.raised_is m.mem x (m.own p))) (λ t. rw t (or_none false (m.own p k))))
  byte_law m g p (read n a i out) =
      rw (read_taken M L m n a i out g)
      (case (nobody n)
      (λ t. rw (t, and-false (none_of (read_rows M a i (length out)))) (or_none false (m.own p k)))
      (λ t. case (none_of (read_rows M a i (length out)))
      (λ u. rw (t, u) (read_clears m (caller n) p a i ∙ or_none (same (caller n) p && covers a i b) (m.own p k)))
      (λ u. rw (t, u) (or_none false (m.own p k)))))
  byte_law m g p (write n a vs) =
      case (accepted M m (write n a vs))
      (λ t. rw t (l.puts_is m p (caller n) a vs ∙ or_none false (m.own p k)))
      (λ t. rw t (or_none false (m.own p k)))

  -- and to a bit of it
  has_brought : (stood : History (CallOf Image) → List ℕ → Bool) (h : History (CallOf Image)) (f : Places) → ((x : List ℕ) → stood h x ≡ has j (conds f x))
      → (c : CallOf Image) → has j (brought f c) ≡ brings M stood h c
  unfolding brought brings
  has_brought stood h f e (reset img) = bit_lacks j 0 (bit_none j)
  has_brought stood h f e (sample x) = case (none_of (sample_rows M x)) (λ t. rw (t, e x)) (λ t. rw t (bit_lacks j 0 (bit_none j)))
  has_brought stood h f e (read n a i out) = bit_lacks j 0 (bit_none j)
  has_brought stood h f e (write n a vs) = bit_lacks j 0 (bit_none j)

  bit_law : (stood : History (CallOf Image) → List ℕ → Bool) (h : History (CallOf Image)) (m : State) → Good M m → ((x : List ℕ) → stood h x ≡ has j (conds m.mem x)) → (p : Port) (c : CallOf Image)
      → has j ((step M m c).own p k) ≡ (not (wipes M p b c) && (has j (m.own p k) || brings M stood h c))
  bit_law stood h m g e p c = ap (has j) (byte_law m g p c) ∙ case (wipes M p b c)
      (λ t. rw t (bit_lacks j 0 (bit_none j)))
      (λ t. rw (t, ← has_brought stood h m.mem e c) (has_or j (m.own p k) (brought m.mem c)))

  -- ---- whole histories

  -- what brings it doesn't wipe it
  brings_still : (stood : History (CallOf Image) → List ℕ → Bool) (p : Port) (h : History (CallOf Image)) (c : CallOf Image) → brings M stood h c ≡ true → wipes M p b c ≡ false
  unfolding brings wipes
  brings_still stood p h (reset img) e = absurd (false≢true e)
  brings_still stood p h (sample x) e = refl
  brings_still stood p h (read n a i out) e = absurd (false≢true e)
  brings_still stood p h (write n a vs) e = absurd (false≢true e)

  -- from a sound state where it is 0: a bit is up exactly if its condition stood since
  pub bit_since : (s : State) → Good M s → (p : Port) → s.own p k ≡ 0 → (stood : History (CallOf Image) → List ℕ → Bool)
      → ((h : History (CallOf Image)) (x : List ℕ) → stood h x ≡ has j (conds (run_of (step M) s h).mem x))
      → (h : History (CallOf Image)) → (has j ((run_of (step M) s h).own p k) ≡ true) ↔ StoodSince M stood p b h
  bit_since s g p z stood e h = latch_since (brings M stood) (wipes M p b) (λ h. has j ((run_of (step M) s h).own p k)) latch (brings_still stood p) h
    where
      latch : Latch (brings M stood) (wipes M p b) (λ h. has j ((run_of (step M) s h).own p k))
      latch = unfold run_of in record {
        first = ap (has j) z ∙ bit_lacks j 0 (bit_none j);
        next = λ h c. bit_law stood h (run_of (step M) s h) (good_run M L s h g) (e h) p c;
      }

  -- ---- on the bytes, from an accepted reset on

  module _ (s : List ℕ) (img : Image) (begun : refusal_of M s (reset img) ≡ 0) (p : Port) (stood : History (CallOf Image) → List ℕ → Bool)
      (e : (h : History (CallOf Image)) (x : List ℕ) → stood h x ≡ has j (conds (state_of M (runs M (after M s (reset img)) h)).mem x)) where
    -- the bit as it is stored
    pub stored_rule : (h : History (CallOf Image)) → (bit j ((state_of M (runs M (after M s (reset img)) h)).own p k) ≡ 1) ↔ StoodSince M stood p b h
    stored_rule h = rw (since_state M L s img begun h, begun_state M L s img begun)
        (λ y. r.0 (bit_has j ((run_of (step M) t h).own p k) y), λ y. has_bit j ((run_of (step M) t h).own p k) (r.1 y))
      where
        t : State
        t = step M (state_of M s) (reset img)

        empty : t.own p k ≡ 0
        empty = unfold step done in rw (taken_state M L s (reset img) begun)

        r : (has j ((run_of (step M) t h).own p k) ≡ true) ↔ StoodSince M stood p b h
        r = bit_since t (good_after M L (state_of M s) img (taken_state M L s (reset img) begun)) p empty stood
            (λ h x. e h x ∙ rw (since_state M L s img begun h, begun_state M L s img begun)) h
