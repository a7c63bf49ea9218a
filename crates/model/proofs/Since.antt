-- Demand 2, the flag rule: what conditions go by is what the image of the last accepted reset says, after any history.
-- Assumes nothing.
use mathlib.Core.Path.{◌≡◌, sym, ◌∙◌}
use mathlib.Core.Bool.{true, and-false}
use mathlib.Core.List.{List}
use Prim.Native.Nat.{ℕ}
use Rattle.laws.specs.Tests.{none_of}
use Rattle.laws.specs.Lists.{at}
use Rattle.laws.proofs.Tests.{case}
use Rattle.ports.specs.Effects
use Rattle.ports.specs.Histories.{run_of}
use Rattle.ports.proofs.Steps
use Rattle.model.specs.Ports.{State, reset, sample, read, write}
use Rattle.model.specs.Samples.{conds}
use Rattle.model.specs.Refusals.{reset_rows, accepted}
use Rattle.model.specs.Module.{document01}
use Rattle.model.specs.Calls.{step, Calls, start, ◌▷◌, run}
use Rattle.model.specs.Demands.{image_of}
use Rattle.model.proofs.Lasting.{lasting, fresh_lasting, step_lasts, conds_same}
use Rattle.model.proofs.Lawful.{lawful}

pub reset_taken : (m : State) (img : List ℕ) → accepted m (reset img) ≡ none_of (reset_rows img)
reset_taken = Steps.reset_taken document01 lawful

-- after an accepted reset all that lasts is the image's
fresh_after : (m : State) (img : List ℕ) → none_of (reset_rows img) ≡ true → (i : ℕ) → lasting i ≡ true → (step m (reset img)).mem i ≡ at img i
unfolding Effects.step Effects.done
fresh_after m img t i q = rw (reset_taken m img, t) (fresh_lasting img i (m.mem i) q)

-- the limits, and all else that conditions go by, are those of the last image
limits_run : (s : State) (img : List ℕ) → ((i : ℕ) → lasting i ≡ true → s.mem i ≡ at img i)
    → (h : Calls) (i : ℕ) → lasting i ≡ true → (run s h).mem i ≡ at (image_of img h) i
unfolding run_of image_of
limits_run s img e start i q = e i q
limits_run s img e (h ▷ reset new) i q = case (none_of (reset_rows new))
    (λ t. rw t (fresh_after (run s h) new t i q))
    (λ t. rw t ((step_lasts (run s h) (reset new) (rw (reset_taken (run s h) new, t))).places i q ∙ limits_run s img e h i q))
limits_run s img e (h ▷ sample x) i q = (step_lasts (run s h) (sample x) (and-false (accepted (run s h) (sample x)))).places i q ∙ limits_run s img e h i q
limits_run s img e (h ▷ read n a k out) i q = (step_lasts (run s h) (read n a k out) (and-false (accepted (run s h) (read n a k out)))).places i q ∙ limits_run s img e h i q
limits_run s img e (h ▷ write n a vs) i q = (step_lasts (run s h) (write n a vs) (and-false (accepted (run s h) (write n a vs)))).places i q ∙ limits_run s img e h i q

-- so conditions are as in the last image
pub conds_run : (m : State) (img : List ℕ) → accepted m (reset img) ≡ true → (h : Calls) (x : List ℕ) (b : ℕ)
    → conds (run (step m (reset img)) h).mem x b ≡ conds (at (image_of img h)) x b
conds_run m img t h x b = conds_same (limits_run (step m (reset img)) img (fresh_after m img (sym (reset_taken m img) ∙ t)) h) x b
