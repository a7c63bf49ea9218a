-- How many flags and masks there are, and short histories after a reset: what each call is answered, computed. They are the vectors of
-- docs/EIGHT.md.
-- Assumes nothing.
use mathlib.Core.Path.{◌≡◌, refl}
use mathlib.Core.List.{List, [], ◌∷◌, ◌++◌, map}
use Prim.Native.Nat.{ℕ, ◌<◌}
use lib.Bits.{bit_and}
use lib.Count.{ones}
use lib.Dec.{eqb}
use lib.ListN.{replicate}
use borrow.Author.Tests.{eqb-true}
use Rattle.laws.specs.Lists.{at, sum, table, patch}
use Rattle.laws.proofs.Finite.{always_at}
use Rattle.ports.specs.Ports.{operator, recorder, State, reset, sample, read, write}
use Rattle.ports.specs.Histories.{start, ◌▷◌, run_of}
use Rattle.ports.specs.Interrupt.{count_of}
use Rattle.ports.specs.Modules.{refusal, rows}
use Rattle.ports.specs.Effects.{done, step, answer}
use Rattle.ports.specs.Bytes.{state_of, refusal_of}
use Rattle.ports.proofs.Steps.{since_state, begun_state}
use Rattle.eight.specs.Tables.{flags, flag_bits, mask_bits, mask_of, pairs}
use Rattle.eight.specs.Module.{Call, Calls, raised, seen, cleared, written, sound, eight}
use Rattle.eight.specs.Demands.{since}
use Rattle.eight.proofs.Lawful.{lawful}

-- ---- the tables

-- 106 flags, 105 of them with a mask
pub flags_and_masks : (sum (map ones flag_bits) ≡ 106) × (sum (map ones mask_bits) ≡ 105)
unfolding sum ones
flags_and_masks = (refl, refl)

-- a mask bit serves the flag bit of its place
pub masks_are_flags : (i : ℕ) → i < flags.many → bit_and (at mask_bits i) (at flag_bits i) ≡ at mask_bits i
masks_are_flags i l = eqb-true (bit_and (at mask_bits i) (at flag_bits i)) (at mask_bits i)
    (always_at (λ i. eqb (bit_and (at mask_bits i) (at flag_bits i)) (at mask_bits i)) flags.many refl i l)

-- ---- the histories

-- the state after a reset, and after the calls h
unfoldable pub leaves : Calls → State
leaves h = run_of (step eight) (record { mem = λ i. 0; own = λ p k. 0 }) h

-- it is that of the bytes, from an accepted reset on
pub leaves_since : (s : List ℕ) → refusal_of eight s (reset tt) ≡ 0 → (h : Calls) → state_of eight (since s h) ≡ leaves h
unfolding leaves
leaves_since s begun h = rw (since_state eight lawful s tt begun h, begun_state eight lawful s tt begun) (unfold step done refusal rows in refl)

-- of calls one after the other: the refusal, and the operator's and the recorder's count as they stand after it
unfoldable pub tells : State → List Call → List (ℕ × ℕ × ℕ)
tells m [] = []
tells m (c ∷ cs) = (refusal eight m c, count_of pairs ((step eight m c).own operator), count_of pairs ((step eight m c).own recorder)) ∷ tells (step eight m c) cs

-- a sample with these conditions for flag byte 9, or 8, and no others
abbrev nine : ℕ → Call
nine n = sample (replicate 6 0 ++ n ∷ replicate 7 0)

abbrev eighth : ℕ → Call
eighth n = sample (replicate 5 0 ++ n ∷ replicate 8 0)

-- a port reads byte 9, or the whole lower page; it writes one byte
abbrev looks : ℕ → Call
looks n = read n 9 1 (0 ∷ [])

abbrev whole : Call
whole = read 1 0 128 (replicate 128 0)

abbrev puts : ℕ → ℕ → ℕ → Call
puts n a v = write n a (v ∷ [])

-- the port masks all that it can
abbrev masks_all : ℕ → List Call
masks_all n = write n 102 (replicate 4 255) ∷ write n 106 (replicate 4 255) ∷ write n 110 (replicate 4 255) ∷ write n 114 (replicate 2 255) ∷ []

-- nothing but a name for the definitions that these compute through
unfoldable computed : ℕ
unfolding leaves tells run_of step done answer refusal rows count_of sum raised cleared written seen sound patch table
computed = 0

-- six flags of byte 9 have their onset; the operator masks all but State Changed; its read clears them, for itself alone; while the
-- conditions last the flags come back and no onset does; when they are over and State Changed comes again it has its onset
pub onsets_told : tells (leaves start) (nine 255 ∷ puts 1 108 255 ∷ looks 1 ∷ nine 255 ∷ looks 1 ∷ nine 0 ∷ nine 1 ∷ [])
    ≡ (0, 6, 6) ∷ (0, 1, 6) ∷ (0, 0, 6) ∷ (0, 0, 6) ∷ (0, 0, 6) ∷ (0, 0, 6) ∷ (0, 1, 6) ∷ []
unfolding computed
onsets_told = refl

abbrev early : Calls
early = start ▷ nine 255 ▷ puts 1 108 255 ▷ looks 1 ▷ nine 255 ▷ looks 1 ▷ nine 0 ▷ nine 1

-- a flag reads 1 with its onset and without; a mask byte reads its mask bits
pub onsets_shown : ((answer eight (leaves (start ▷ nine 255 ▷ puts 1 108 255)) operator (looks 1)).output ≡ 207 ∷ [])
    × ((answer eight (leaves (start ▷ nine 255 ▷ puts 1 108 255 ▷ looks 1 ▷ nine 255)) operator (looks 1)).output ≡ 207 ∷ [])
    × (seen ((leaves (start ▷ nine 255 ▷ puts 1 108 255)).own operator) 108 ≡ 206)
unfolding computed
onsets_shown = (refl, refl, refl)

-- then: the recorder may write paired mask bytes alone (7); an onset while masked comes through when the mask goes; a read of all clears all;
-- flags take no write; 127 is no mask byte; "128 for 256 in 5"
pub masks_told : tells (leaves early) (puts 2 116 1 ∷ puts 2 107 255 ∷ eighth 255 ∷ puts 2 107 0 ∷ whole ∷ write 1 3 (replicate 4 255) ∷ puts 1 127 1 ∷ puts 2 127 1
    ∷ write 1 127 (replicate 2 0) ∷ [])
    ≡ (7, 1, 6) ∷ (0, 1, 6) ∷ (0, 5, 6) ∷ (0, 5, 10) ∷ (0, 0, 10) ∷ (0, 0, 10) ∷ (0, 0, 10) ∷ (7, 0, 10) ∷ (5, 0, 10) ∷ []
unfolding computed
masks_told = refl

-- of a written mask byte the record has the mask bits; of the whole lower page all but flags and masks reads 0
pub masks_shown : ((leaves (early ▷ puts 2 107 255)).own recorder (mask_of 5) ≡ 240)
    × ((answer eight (leaves (early ▷ puts 2 116 1 ▷ puts 2 107 255 ▷ eighth 255 ▷ puts 2 107 0)) operator whole).output
    ≡ replicate 8 0 ++ 240 ∷ 1 ∷ replicate 98 0 ++ 206 ∷ replicate 19 0)
unfolding computed
masks_shown = (refl, refl)

-- all flags at once, and all masks: State Changed is left
pub all_told : tells (leaves start) (sample (replicate 14 255) ∷ masks_all 1 ++ masks_all 2)
    ≡ (0, 106, 106) ∷ (0, 74, 106) ∷ (0, 49, 106) ∷ (0, 17, 106) ∷ (0, 1, 106) ∷ (0, 1, 74) ∷ (0, 1, 49) ∷ (0, 1, 17) ∷ (0, 1, 1) ∷ []
unfolding computed
all_told = refl

-- "before the first sample after reset all are absent"
pub reset_forgets : tells (leaves (start ▷ nine 255)) (reset tt ∷ nine 255 ∷ []) ≡ (0, 0, 0) ∷ (0, 6, 6) ∷ []
unfolding computed
reset_forgets = refl
