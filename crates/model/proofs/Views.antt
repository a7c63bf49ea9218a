-- A port's own writes go by what the port sees, and so does what the recorder reads, save on the shared list.
-- Assumes nothing.
use Rattle.std.specs.Prelude.{if◌then◌else◌}
use mathlib.Core.Path.{◌≡◌, refl, ap, ◌∙◌, fun_ext}
use mathlib.Core.Bool.{Bool, false}
use mathlib.Core.List.{List, [], ◌∷◌}
use Prim.Native.Nat.{ℕ, suc}
use lib.Dec.{eqb}
use Rattle.ports.proofs.Fence.{inside_fence, fence_map, via, give_in}
use Rattle.model.specs.Module.{document01}
use Rattle.model.specs.Ports.{Port, recorder, Places, State}
use Rattle.model.specs.Map.{page_at, supported, Seat, flag, mine, common, status, blank, seat}
use Rattle.model.specs.Reading.{status_byte, look, seen, is_shared}
use Rattle.model.specs.Writing.{Class, own_class, class_of, written, entered, store, puts}
use Rattle.model.proofs.Ports.{written_same}
use Rattle.model.proofs.Fence.{fence, Same, page_same, supported_fence, status_fence}

-- ---- a port's own writes go by what the port sees

module _ (p : Port) (f g : Places) (e : fence p f ≡ fence p g) where
  -- a byte written where x stands, at place i
  entered_in : (class : ℕ → Class) (k v i x : ℕ) → (if eqb i k then written f (class i) x v else x) ≡ (if eqb i k then written g (class i) x v else x)
  entered_in class k v i x = ap (λ (w : ℕ). if eqb i k then w else x) (written_same f g (λ y. ap (λ (s : ℕ → Bool). s y) (via document01 p supported (supported_fence p) f g e)) (class i) x v)

store_in : (p : Port) (m n : State) (v : ℕ) (s : Seat) → Same p m n → Same p (store m p v s) (store n p v s)
unfolding store
store_in p m n v (flag k) h = h
store_in p m n v (mine k) h = give_in document01 p (fun_ext (λ i. entered_in p m.mem n.mem h.mem_same own_class k v i (m.own p i)) ∙ ap (entered n.mem own_class k v) h.own_same) h
store_in p m n v (common i) h = record {
  own_same = h.own_same;
  mem_same = fence_map document01 p m.mem n.mem (λ j x. if eqb j i then written m.mem (class_of p (common j)) x v else x) (λ j x. if eqb j i then written n.mem (class_of p (common j)) x v else x)
      (fun_ext (λ j. fun_ext (entered_in p m.mem n.mem h.mem_same (λ k. class_of p (common k)) i v j))) h.mem_same;
}
store_in p m n v status h = h
store_in p m n v blank h = h

pub puts_in : (p : Port) (m n : State) (g a : ℕ) (vs : List ℕ) → Same p m n → Same p (puts m p g a vs) (puts n p g a vs)
unfolding puts
puts_in p m n g a [] h = h
puts_in p m n g a (v ∷ vs) h = puts_in p (store m p v (seat g a)) (store n p v (seat g a)) g (suc a) vs (store_in p m n v (seat g a) h)

-- ---- so does what the recorder reads, save on the shared list

pub seen_in : (m n : State) → Same recorder m n → (a : ℕ) → is_shared (seat (m.own recorder page_at) a) ≡ false
    → seen m.mem (m.own recorder) a ≡ seen n.mem (n.own recorder) a
unfolding seen look
seen_in m n h a bare = rw (page_same h) (shown (seat (n.own recorder page_at) a) (rw (page_same h) at bare))
  where
    shown : (s : Seat) → is_shared s ≡ false → look m.mem (m.own recorder) s ≡ look n.mem (n.own recorder) s
    shown (flag k) e = ap (λ (o : Places). o k) h.own_same
    shown (mine k) e = ap (λ (o : Places). o k) h.own_same
    shown (common i) e = inside_fence document01 recorder m.mem n.mem i h.mem_same e
    shown status e = via document01 recorder (λ f. status_byte f (m.own recorder)) (status_fence recorder (m.own recorder)) m.mem n.mem h.mem_same ∙ ap (status_byte n.mem) h.own_same
    shown blank e = refl
