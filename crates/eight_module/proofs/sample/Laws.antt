-- What `from_fn` makes. What a sample leaves, place by place: below 14 its conditions, above that both records with its conditions raised
-- and its onsets marked; so the bytes are those of the definitions.
-- Assumes nothing.
use Rattle.std.specs.Prelude.{if◌then◌else◌}
use mathlib.Core.Path.{◌≡◌, sym, ap, ◌∙◌}
use mathlib.Core.List.{List}
use Prim.Native.Nat.{ℕ, zero, suc, ◌+◌, ◌-◌, ◌≤◌, ◌<◌}
use native.Mathlib.Omega.{arith}
use lib.Bits.{bit_or, bit_and, bit_xor, or_zero_r}
use lib.Dec.{eqb, ltb}
use lib.ListN.{length, take, drop}
use Rattle.std.proofs.lemmas.List.{length-drop, take_all}
use lib.Seq.{get_or-drop}
use borrow.Author.Tests.{eqb-true, eqb-false, ltb-true, ltb-false, lt-ltb, le-ltb}
use denote.Param.Members.{Mut}
use Rattle.std.specs.Array.{IsFromFnResultFrom, IsFromFnResult}
use Rattle.std.specs.Iterator.{ActsAs}
use Rattle.laws.specs.Tests.{covers}
use Rattle.laws.specs.Lists.{at, table, patch}
use Rattle.laws.proofs.Tests.{case, covers_in, covers_below, covers_true}
use Rattle.laws.proofs.Lists.{table_at, is_table, patch_length, patch_at, patch_in, patch_above, patch_else, is_patch}
use Rattle.laws.proofs.Parts.{table_same}
use Rattle.laws.proofs.Fronts.{front_in}
use Rattle.ports.specs.Ports.{Port, operator, recorder, Places, sample}
use Rattle.ports.specs.Modules.{base, state_size}
use Rattle.ports.specs.Effects.{done}
use Rattle.ports.specs.Bytes.{record_of, state_of, refusal_of}
use Rattle.ports.specs.Outcomes.{Reported}
use Rattle.ports.proofs.Bytes.{base_fits, memory_at, record_at, bytes_by_part}
use Rattle.ports.proofs.Outcomes.{taken_reported}
use Rattle.ports.proofs.Taken.{sample_sizes}
use Rattle.eight.specs.Tables.{record_size}
use Rattle.eight.specs.Module.{conditions, onset, raised, eight}
use Rattle.eight.proofs.Lawful.{lawful}
use Rattle.eight_module.specs.Joined.{joined}
use Rattle.eight_module.proofs.Laws.{two_runs, second_run}

-- ---- the elements that a function gives which changes nothing

each_made : {F : Type 0} (g : Mut F (ℕ × Unit {0}) ℕ) (f : F) (h : ℕ → ℕ) (ys : List ℕ) (n i : ℕ) → ActsAs g f h → IsFromFnResultFrom g f ys i n
    → (j : ℕ) → j < n → at ys (i + j) ≡ h (i + j)
each_made g f h ys zero i acts e j l = absurd (omega arith)
each_made g f h ys (suc n) i acts e j l =
    let a = acts i e.1 e.0 e.3 in
    case (eqb j 0)
    (λ t. let z : i + j ≡ i = omega (arith, eqb-true j 0 t) in rw (z, e.2.1 0) a.1)
    (λ t. let d = eqb-false j 0 t in
    let z : i + 1 + (j - 1) ≡ i + j = omega arith in
    rw z at (each_made g f h ys n (i + 1) acts (rw a.0 at e.4) (j - 1) (omega arith)))

pub all_made : {F : Type 0} {g : Mut F (ℕ × Unit {0}) ℕ} {f : F} {ys : List ℕ} {n : ℕ} (h : ℕ → ℕ) → ActsAs g f h → IsFromFnResult g f ys n → ys ≡ table n h
all_made {F} {g} {f} {ys} {n} h acts r = is_table ys n h r.long (λ i l. let z : 0 + i ≡ i = omega arith in rw z at (each_made g f h ys n 0 acts r.each i l))

-- ---- fourteen bytes behind two zeros, of which each is made by a function of its place among the sixteen

pub led_made : {F : Type 0} {g : Mut F (ℕ × Unit {0}) ℕ} {c : F} {ys : List ℕ} (h f : ℕ → ℕ) → ActsAs g c h → IsFromFnResult g c ys 16
    → ((k : ℕ) → k < 14 → h (k + 2) ≡ f k) → drop 2 ys ≡ table 14 f
unfolding table
led_made h f acts r same =
    rw (all_made h acts r) (table_same 14 (λ k. h (suc (suc k))) f (λ k l. let z : suc (suc k) ≡ k + 2 = omega arith in rw z (same k l)))

-- what stands behind the lead
pub led_at : (bs : List ℕ) (j : ℕ) → at (drop 2 bs) j ≡ at bs (j + 2)
led_at bs j = let z : j + 2 ≡ 2 + j = omega arith in rw z (get_or-drop 2 bs j 0)

-- copied to the front
pub led_copied : (s bs : List ℕ) → length bs ≡ 16
    → patch 0 (length (take (length bs - 2) (drop 2 bs))) (at (take (length bs - 2) (drop 2 bs))) s ≡ patch 0 14 (at (drop 2 bs)) s
led_copied s bs many =
    let n : length (drop 2 bs) ≡ 14 = omega (arith, length-drop 2 bs) in
    rw (many, take_all 14 (drop 2 bs) (omega arith), n)

-- ---- joined from two places before: these stay as they are

pub join_led : (s bs : List ℕ) (b : ℕ) → 2 ≤ b → b + 14 ≤ length s → length bs ≡ 16 → at bs 0 ≡ 0 → at bs 1 ≡ 0
    → patch (b - 2) (length bs) (λ j. bit_or (at s (b - 2 + j)) (at bs j)) s ≡ patch b 14 (λ j. bit_or (at s (b + j)) (at (drop 2 bs) j)) s
join_led s bs b low room many none₀ none₁ =
    rw many
    (is_patch b 14 (λ j. bit_or (at s (b + j)) (at (drop 2 bs) j)) s (patch (b - 2) 16 f s) (patch_length (b - 2) 16 f s)
    (λ j l h. let z : b - 2 + (2 + j) ≡ b + j = omega arith in rw (get_or-drop 2 bs j 0) (rw z at (patch_in (b - 2) 16 f s (2 + j) (omega arith) (rw z h))))
    (λ i h no. patch_at (b - 2) 16 f s i h ∙ case (covers (b - 2) 16 i)
    (λ t. let r = covers_true (b - 2) 16 i t in let u = r.0 in let v = r.1 in
    let z : b - 2 + (i - (b - 2)) ≡ i = omega arith in
    rw (t, z, lead (i - (b - 2)) (before i no u v)) (or_zero_r (at s i)))
    (λ t. rw t)))
  where
    f : ℕ → ℕ
    f j = bit_or (at s (b - 2 + j)) (at bs j)

    before : (i : ℕ) → (b ≤ i → i < b + 14 → ⊥) → b - 2 ≤ i → i < b - 2 + 16 → i - (b - 2) < 2
    before i out u v = case (ltb i b) (λ t. let l = ltb-true i b t in omega arith) (λ t. absurd (out (ltb-false i b t) (omega arith)))

    lead : (k : ℕ) → k < 2 → at bs k ≡ 0
    lead k l = case (eqb k 0) (λ t. rw (eqb-true k 0 t) none₀) (λ t. let d = eqb-false k 0 t in let z : k ≡ 1 = omega arith in rw z none₁)

-- ---- one record raised

-- the flags of the record at b are joined, and then its pending bits
pub raise_both : (s t u cs os : List ℕ) (b : ℕ) → b + record_size ≤ length s
    → t ≡ patch (b + 0) 14 (λ j. bit_or (at s (b + 0 + j)) (at cs j)) s → u ≡ patch (b + 28) 14 (λ j. bit_or (at t (b + 28 + j)) (at os j)) t
    → u ≡ patch b record_size (λ k. joined cs os k (at s (b + k))) s
raise_both s t u cs os b room e d =
    let z : b + 0 ≡ b = omega arith in
    let e₁ = rw z at e in
    two_runs s t b (λ j. bit_or (at s (b + j)) (at cs j)) room e₁ u (λ j. bit_or (at t (b + 28 + j)) (at os j)) d (λ k. joined cs os k (at s (b + k)))
    (λ k l. rw (lt-ltb k 14 l))
    (λ k l. let y : 28 + k - 28 ≡ k = omega arith in let w : b + 28 + k ≡ b + (28 + k) = omega arith in
    rw (le-ltb (28 + k) 14 (omega arith), covers_in 28 14 (28 + k) (omega arith) (omega arith), y, second_run s t b (λ j. bit_or (at s (b + j)) (at cs j)) room e₁ k l, w))
    (λ k l h. rw (le-ltb k 14 l, covers_below 28 14 k h))

-- ---- the whole

-- the conditions cs and the onsets os of the sample x; t₁ is the state with the conditions kept, t₂ and t₃ with one record raised, and with both
module _ (s x : List ℕ) (taken : refusal_of eight s (sample x) ≡ 0) (cs os t₁ t₂ t₃ : List ℕ) (ec : cs ≡ table 14 (conditions x))
    (eo : os ≡ table 14 (λ i. bit_xor (at cs i) (bit_and (at cs i) (at s i)))) (e₁ : t₁ ≡ patch 0 14 (at cs) s)
    (e₂ : t₂ ≡ patch (base eight operator) record_size (λ k. joined cs os k (at t₁ (base eight operator + k))) t₁)
    (e₃ : t₃ ≡ patch (base eight recorder) record_size (λ k. joined cs os k (at t₂ (base eight recorder + k))) t₂) where
  l₀ : length s ≡ state_size eight
  l₀ = (sample_sizes eight s x taken).0

  l₁ : length t₁ ≡ state_size eight
  l₁ = ap length e₁ ∙ patch_length 0 14 (at cs) s ∙ l₀

  l₂ : length t₂ ≡ state_size eight
  l₂ = ap length e₂ ∙ patch_length (base eight operator) record_size (λ k. joined cs os k (at t₁ (base eight operator + k))) t₁ ∙ l₁

  l₃ : length t₃ ≡ state_size eight
  l₃ = ap length e₃ ∙ patch_length (base eight recorder) record_size (λ k. joined cs os k (at t₂ (base eight recorder + k))) t₂ ∙ l₂

  condition_at : (i : ℕ) → i < 14 → at cs i ≡ conditions x i
  condition_at i l = rw ec (table_at 14 (conditions x) i l)

  onset_at : (i : ℕ) → i < 14 → at os i ≡ onset (state_of eight s).mem x i
  onset_at i l = rw eo (table_at 14 (λ i. bit_xor (at cs i) (bit_and (at cs i) (at s i))) i l ∙ rw (condition_at i l, memory_at eight s i l))

  -- what the sample makes of a byte of a record
  joined_is : (o : Places) (k : ℕ) → joined cs os k (o k) ≡ raised (state_of eight s).mem x o k
  unfolding raised
  joined_is o k = case (ltb k 14)
      (λ t. rw (t, condition_at k (ltb-true k 14 t)))
      (λ t. case (covers 28 14 k)
      (λ u. let r = covers_true 28 14 k u in let low = r.0 in let high = r.1 in rw (t, u, onset_at (k - 28) (omega arith)))
      (λ u. rw (t, u)))

  -- what the other record's raising leaves alone
  kept₂ : (i : ℕ) → i < state_size eight → (base eight operator ≤ i → i < base eight operator + record_size → ⊥) → at t₂ i ≡ at t₁ i
  kept₂ i h out = let l = l₁ in rw e₂ (patch_else (base eight operator) record_size (λ k. joined cs os k (at t₁ (base eight operator + k))) t₁ i (omega arith) out)

  kept₃ : (i : ℕ) → i < state_size eight → (base eight recorder ≤ i → i < base eight recorder + record_size → ⊥) → at t₃ i ≡ at t₂ i
  kept₃ i h out = let l = l₂ in rw e₃ (patch_else (base eight recorder) record_size (λ k. joined cs os k (at t₂ (base eight recorder + k))) t₂ i (omega arith) out)

  first_at : (p : Port) (k : ℕ) → k < record_size → at t₁ (base eight p + k) ≡ (state_of eight s).own p k
  first_at p k h =
      let b = base_fits eight p k h in
      let l = l₀ in
      let z : at t₁ (base eight p + k) ≡ at s (base eight p + k) = rw e₁ (patch_above 0 14 (at cs) s (base eight p + k) (omega arith) (omega arith)) in
      z ∙ sym (record_at eight s p k h)

  memory_is : (i : ℕ) → i < 14 → at t₃ i ≡ (if ltb i 14 then conditions x i else (state_of eight s).mem i)
  memory_is i h =
      let l = l₀ in
      let y : at t₁ i ≡ at cs i = rw e₁ (front_in 14 (at cs) s i h (omega arith)) in
      kept₃ i (omega arith) (λ u v. omega arith) ∙ kept₂ i (omega arith) (λ u v. omega arith) ∙ y ∙ rw (lt-ltb i 14 h) (condition_at i h)

  record_is : (p : Port) (k : ℕ) → k < record_size → at t₃ (base eight p + k) ≡ raised (state_of eight s).mem x ((state_of eight s).own p) k
  record_is operator k h =
      let l = l₁ in
      let y : at t₂ (base eight operator + k) ≡ joined cs os k (at t₁ (base eight operator + k)) =
      rw e₂ (patch_in (base eight operator) record_size (λ k. joined cs os k (at t₁ (base eight operator + k))) t₁ k h (omega arith)) in
      kept₃ (base eight operator + k) (omega arith) (λ u v. omega arith) ∙ y ∙ rw (first_at operator k h) (joined_is ((state_of eight s).own operator) k)
  record_is recorder k h =
      let l = l₂ in
      let y : at t₃ (base eight recorder + k) ≡ joined cs os k (at t₂ (base eight recorder + k)) =
      rw e₃ (patch_in (base eight recorder) record_size (λ k. joined cs os k (at t₂ (base eight recorder + k))) t₂ k h (omega arith)) in
      y ∙ rw (kept₂ (base eight recorder + k) (omega arith) (λ u v. omega arith), first_at recorder k h) (joined_is ((state_of eight s).own recorder) k)

  pub sample_done : (c d : ℕ) → c ≡ eight.count (record_of eight t₃ (base eight operator)) → d ≡ eight.count (record_of eight t₃ (base eight recorder))
      → Reported eight s (sample x) 0 c d t₃
  unfolding done
  sample_done = taken_reported eight lawful s (sample x) taken t₃ (bytes_by_part eight (done eight (state_of eight s) (sample x)) t₃ l₃ memory_is record_is)
