-- Histories of calls, the newest call last: what they leave, and what was brought and not wiped since.
-- Assumes nothing.
use Rattle.std.specs.Prelude.{◌≡◌, ◌&&◌, ◌∷◌, if◌then◌else◌}
use Rattle.laws.specs.Words.{Bool, true, not, List, []}

infixl 20 ◌▷◌
pub data History (C : Type 0) : Type 0 where
  start : History C
  ◌▷◌ : History C → C → History C

-- a history goes on
infixl 20 ◌▷▷◌
unfoldable pub ◌▷▷◌ : {C : Type 0} → History C → List C → History C
h ▷▷ [] = h
h ▷▷ (c ∷ cs) = (h ▷ c) ▷▷ cs

-- what the calls leave of s, each by `step`
unfoldable pub run_of : {S C : Type 0} → (S → C → S) → S → History C → S
run_of step s start = s
run_of step s (h ▷ c) = step (run_of step s h) c

-- the history with all calls left out but those that pass
unfoldable pub only_of : {C : Type 0} → (C → Bool) → History C → History C
only_of mine start = start
only_of mine (h ▷ c) = if mine c then only_of mine h ▷ c else only_of mine h

-- none of the calls passes
abbrev pub none_is : {C : Type 0} → (C → Bool) → List C → Bool
none_is wipes [] = true
none_is wipes (c ∷ cs) = not (wipes c) && none_is wipes cs

-- A call brought it, after older calls, and none of the newer calls wipes it: "since the later of .. and ..".
pub record SinceOf {C : Type 0} (brings : History C → C → Bool) (wipes : C → Bool) (h : History C) : Type 0 where
  pub older : History C
  pub call : C
  pub newer : List C
  pub whole : h ≡ (older ▷ call) ▷▷ newer
  pub brought : brings older call ≡ true
  pub kept : none_is wipes newer ≡ true
