-- Histories of calls, of any kind, by their newest call: what each call keeps lasts; a mark that each call wipes, or else leaves up or
-- brings, is up exactly if it was brought and not wiped since; and whoever can't see the others' calls sees what it would without them.
-- Assumes nothing.
use mathlib.Core.Path.{◌≡◌, refl, sym, ap, ◌∙◌, subst}
use mathlib.Core.Logic.{◌↔◌}
use mathlib.Core.Bool.{Bool, true, false, not, false≢true, ◌&&◌, ◌||◌}
use mathlib.Core.List.{List, [], ◌∷◌, ◌++◌}
use borrow.Author.Tests.{not-true}
use Rattle.laws.proofs.Tests.{case, and_left, and_right, and_both}
use Rattle.ports.specs.Histories.{History, start, ◌▷◌, ◌▷▷◌, run_of, only_of, none_is, SinceOf}

-- ---- what lasts

-- what holds at first, and after each call if before it, holds after any history
pub run_keeps : {S C : Type 0} (step : S → C → S) (P : S → Type 0) → ((s : S) (c : C) → P s → P (step s c)) → (s : S) → P s → (h : History C) → P (run_of step s h)
unfolding run_of
run_keeps step P keep s p start = p
run_keeps step P keep s p (h ▷ c) = keep (run_of step s h) c (run_keeps step P keep s p h)

-- a run is another run seen through f
pub run_through : {S T C : Type 0} (step : S → C → S) (next : T → C → T) (f : S → T) (P : S → Type 0) → ((s : S) (c : C) → P s → P (step s c))
    → ((s : S) (c : C) → P s → f (step s c) ≡ next (f s) c) → (s : S) → P s → (h : History C) → f (run_of step s h) ≡ run_of next (f s) h
unfolding run_of
run_through step next f P keep same s p start = refl
run_through step next f P keep same s p (h ▷ c) =
    same (run_of step s h) c (run_keeps step P keep s p h) ∙ ap (λ t. next t c) (run_through step next f P keep same s p h)

-- ---- brought and not wiped since

module _ {C : Type 0} (brings : History C → C → Bool) (wipes : C → Bool) where
  -- a mark that each call wipes, or else leaves up if it was up or brings
  pub record Latch (up : History C → Bool) : Type 0 where
    pub first : up start ≡ false
    pub next : (h : History C) (c : C) → up (h ▷ c) ≡ (not (wipes c) && (up h || brings h c))

  on_snoc : (h : History C) (cs : List C) (c : C) → h ▷▷ (cs ++ c ∷ []) ≡ (h ▷▷ cs) ▷ c
  unfolding ◌▷▷◌
  on_snoc h [] c = refl
  on_snoc h (d ∷ cs) c = on_snoc (h ▷ d) cs c

  none_snoc : (cs : List C) (c : C) → none_is wipes cs ≡ true → wipes c ≡ false → none_is wipes (cs ++ c ∷ []) ≡ true
  none_snoc [] c e q = rw q
  none_snoc (d ∷ cs) c e q = and_both (and_left (not (wipes d)) (none_is wipes cs) e) (none_snoc cs c (and_right (not (wipes d)) (none_is wipes cs) e) q)

  -- one call more, which doesn't wipe
  since_next : (h : History C) (c : C) → SinceOf brings wipes h → wipes c ≡ false → SinceOf brings wipes (h ▷ c)
  since_next h c s q = record {
    older = s.older;
    call = s.call;
    newer = s.newer ++ c ∷ [];
    whole = ap (λ (z : History C). z ▷ c) s.whole ∙ sym (on_snoc (s.older ▷ s.call) s.newer c);
    brought = s.brought;
    kept = none_snoc s.newer c s.kept q;
  }

  since_now : (h : History C) (c : C) → brings h c ≡ true → SinceOf brings wipes (h ▷ c)
  unfolding ◌▷▷◌
  since_now h c b = record { older = h; call = c; newer = []; whole = refl; brought = b; kept = refl }

  module _ (up : History C → Bool) (l : Latch up) (still : (h : History C) (c : C) → brings h c ≡ true → wipes c ≡ false) where
    to_since : (h : History C) → up h ≡ true → SinceOf brings wipes h
    to_since start e = absurd (false≢true (sym l.first ∙ e))
    to_since (h ▷ c) e =
        let n = sym (l.next h c) ∙ e in
        let w = not-true (wipes c) (and_left (not (wipes c)) (up h || brings h c) n) in
        case (up h)
        (λ u. since_next h c (to_since h u) w)
        (λ u. since_now h c (rw u at (and_right (not (wipes c)) (up h || brings h c) n)))

    stays : (h : History C) (cs : List C) → up h ≡ true → none_is wipes cs ≡ true → up (h ▷▷ cs) ≡ true
    unfolding ◌▷▷◌
    stays h [] u e = u
    stays h (c ∷ cs) u e =
        stays (h ▷ c) cs (l.next h c ∙ rw (and_left (not (wipes c)) (none_is wipes cs) e, u)) (and_right (not (wipes c)) (none_is wipes cs) e)

    -- it is up exactly if a call brought it and none wiped it since
    pub latch_since : (h : History C) → (up h ≡ true) ↔ SinceOf brings wipes h
    latch_since h = (to_since h, λ s. subst (λ (z : History C). up z ≡ true) (sym s.whole) (stays (s.older ▷ s.call) s.newer (brought_up s) s.kept))
      where
        brought_up : (s : SinceOf brings wipes h) → up (s.older ▷ s.call) ≡ true
        brought_up s = l.next s.older s.call ∙ case (up s.older)
            (λ u. rw (still s.older s.call s.brought, u))
            (λ u. rw (still s.older s.call s.brought, u, s.brought))

-- what brings one brings the other
pub since_more : {C : Type 0} (brings also : History C → C → Bool) (wipes : C → Bool) → ((h : History C) (c : C) → brings h c ≡ true → also h c ≡ true)
    → (h : History C) → SinceOf brings wipes h → SinceOf also wipes h
since_more brings also wipes more h s = record {
  older = s.older;
  call = s.call;
  newer = s.newer;
  whole = s.whole;
  brought = more s.older s.call s.brought;
  kept = s.kept;
}

-- ---- two histories that one side can't tell apart

module _ {S C : Type 0} (step : S → C → S) (mine : C → Bool) where
  -- what one side sees of a state, and what its own calls go by
  pub record Sight : Type 1 where
    pub Good : S → Type 0
    pub Same : S → S → Type 0
    pub good : (s : S) (c : C) → Good s → Good (step s c)
    pub alike : (s : S) → Same s s
    pub back : {s t : S} → Same s t → Same t s
    pub on : {s t u : S} → Same s t → Same t u → Same s u
    -- another's call is out of sight
    pub out : (s : S) (c : C) → mine c ≡ false → Same (step s c) s
    -- its own goes by what it sees
    pub within : (s t : S) (c : C) → mine c ≡ true → Good s → Good t → Same s t → Same (step s c) (step t c)

  module _ (v : Sight) (s : S) (g : v.Good s) where
    -- it sees what it would if no other call had been made
    alone : (h : History C) → v.Same (run_of step s h) (run_of step s (only_of mine h))
    unfolding run_of only_of
    alone start = v.alike s
    alone (h ▷ c) = case (mine c)
        (λ e. rw e (v.within (run_of step s h) (run_of step s (only_of mine h)) c e
        (run_keeps step v.Good v.good s g h) (run_keeps step v.Good v.good s g (only_of mine h)) (alone h)))
        (λ e. rw e (v.on (v.out (run_of step s h) c e) (alone h)))

    -- two histories that agree on its own calls: it can't tell the states apart
    pub undisturbed : (h k : History C) → only_of mine h ≡ only_of mine k → v.Same (run_of step s h) (run_of step s k)
    undisturbed h k q = v.on (subst (λ (x : History C). v.Same (run_of step s h) (run_of step s x)) q (alone h)) (v.back (alone k))

-- two histories that go on alike
pub only_next : {C : Type 0} (mine : C → Bool) (h k : History C) (c : C) → only_of mine h ≡ only_of mine k → only_of mine (h ▷ c) ≡ only_of mine (k ▷ c)
unfolding only_of
only_next mine h k c q = rw q

pub only_on : {C : Type 0} (mine : C → Bool) (h k : History C) → only_of mine h ≡ only_of mine k → (cs : List C) → only_of mine (h ▷▷ cs) ≡ only_of mine (k ▷▷ cs)
unfolding ◌▷▷◌
only_on mine h k q [] = q
only_on mine h k q (c ∷ cs) = only_on mine (h ▷ c) (k ▷ c) (only_next mine h k c q) cs

-- calls that don't pass may be added or dropped anywhere
pub dropped_anywhere : {C : Type 0} (mine : C → Bool) (h : History C) (c : C) (cs : List C) → mine c ≡ false → only_of mine ((h ▷ c) ▷▷ cs) ≡ only_of mine (h ▷▷ cs)
unfolding only_of
dropped_anywhere mine h c cs e = only_on mine (h ▷ c) h (rw e) cs

-- and two neighbours of which one doesn't pass may change places
pub swapped : {C : Type 0} (mine : C → Bool) (h : History C) (c d : C) (cs : List C) → (mine c && mine d) ≡ false → only_of mine ((h ▷ c ▷ d) ▷▷ cs) ≡ only_of mine ((h ▷ d ▷ c) ▷▷ cs)
unfolding only_of
swapped mine h c d cs e = only_on mine (h ▷ c ▷ d) (h ▷ d ▷ c) (case (mine c) (λ t. let u : mine d ≡ false = rw t at e in rw (t, u)) (λ t. rw t)) cs
