-- What a port sees of a state: its own record, and the memory with all that the other port may write blanked. So what looks at no blanked
-- place, and what changes each byte by its place and its own value, does the same on two states that look the same to the port.
-- Assumes nothing.
use Rattle.std.specs.Prelude.{if◌then◌else◌}
use mathlib.Core.Path.{◌≡◌, refl, sym, ap, ap₂, ◌∙◌, fun_ext}
use mathlib.Core.Bool.{Bool, true, false, true≢false, false≢true}
use Prim.Native.Nat.{ℕ}
use Rattle.ports.specs.Ports.{Port, operator, recorder, same, Places, State, give}
use Rattle.ports.specs.Modules.{Module}

pub blanked : (b : Bool) {x y : ℕ} → (b ≡ false → x ≡ y) → (if b then 0 else x) ≡ (if b then 0 else y)
blanked true e = refl
blanked false e = e refl

module _ {Image : Type 0} (M : Module Image) where
  -- memory that the other port may write
  abbrev pub foreign_to : Port → ℕ → Bool
  foreign_to operator i = false
  foreign_to recorder i = M.shared i

  -- the memory, with what the other port may write blanked
  unfoldable pub fence : Port → Places → Places
  fence p mem i = if foreign_to p i then 0 else mem i

  -- two states that port p can't tell apart
  pub record Same (p : Port) (m n : State) : Type 0 where
    pub own_same : m.own p ≡ n.own p
    pub mem_same : fence p m.mem ≡ fence p n.mem

  -- nothing is blanked for the operator
  pub operator_memory : {m n : State} → Same operator m n → m.mem ≡ n.mem
  unfolding fence
  operator_memory h = h.mem_same

  pub same_refl : (p : Port) (m : State) → Same p m m
  same_refl p m = record { own_same = refl; mem_same = refl }

  pub same_sym : {p : Port} {m n : State} → Same p m n → Same p n m
  same_sym h = record { own_same = sym h.own_same; mem_same = sym h.mem_same }

  pub same_trans : {p : Port} {m n l : State} → Same p m n → Same p n l → Same p m l
  same_trans h k = record { own_same = h.own_same ∙ k.own_same; mem_same = h.mem_same ∙ k.mem_same }

  pub same_ifs : {p : Port} (b c : Bool) {m n m' n' : State} → b ≡ c → Same p m m' → Same p n n' → Same p (if b then m else n) (if c then m' else n')
  same_ifs true true e h k = h
  same_ifs true false e h k = absurd (true≢false e)
  same_ifs false true e h k = absurd (false≢true e)
  same_ifs false false e h k = k

  -- at a place that the other port can't write, equal fences give equal bytes
  pub inside_fence : (p : Port) (f g : Places) (i : ℕ) → fence p f ≡ fence p g → foreign_to p i ≡ false → f i ≡ g i
  unfolding fence
  inside_fence p f g i e h = rw h at (ap (λ (z : Places). z i) e)

  -- a change of each byte by its place and its own value keeps fences equal
  pub fence_map : (p : Port) (f g : Places) (F G : ℕ → ℕ → ℕ) → F ≡ G → fence p f ≡ fence p g → fence p (λ i. F i (f i)) ≡ fence p (λ i. G i (g i))
  unfolding fence
  fence_map p f g F G q e = fun_ext (λ i. blanked (foreign_to p i) (λ h. ap₂ (λ (z : ℕ → ℕ → ℕ) (x : ℕ). z i x) q (inside_fence p f g i e h)))

  -- what reads memory only where the other port can't write
  pub via {ℓ} : (p : Port) {A : Type ℓ} (G : Places → A) → ((f : Places) → G f ≡ G (fence p f)) → (f g : Places) → fence p f ≡ fence p g → G f ≡ G g
  via p G h f g e = h f ∙ ap G e ∙ sym (h g)

  -- one record replaced: by its own port, by the other
  pub give_in : (p : Port) {m n : State} {f g : Places} → f ≡ g → Same p m n
      → Same p (record { mem = m.mem; own = give m.own p f }) (record { mem = n.mem; own = give n.own p g })
  give_in operator q h = record { own_same = q; mem_same = h.mem_same }
  give_in recorder q h = record { own_same = q; mem_same = h.mem_same }

  pub give_out : (p q : Port) → same q p ≡ false → (m : State) (f : Places) → Same p (record { mem = m.mem; own = give m.own q f }) m
  give_out operator operator e m f = absurd (true≢false e)
  give_out operator recorder e m f = record { own_same = refl; mem_same = refl }
  give_out recorder operator e m f = record { own_same = refl; mem_same = refl }
  give_out recorder recorder e m f = absurd (true≢false e)

  -- two states that neither port can tell apart are the same
  pub same_both : {m n : State} → ((p : Port) → Same p m n) → m ≡ n
  same_both {m} {n} s = λ z. record { mem = operator_memory (s operator) z; own = fun_ext (λ p. (s p).own_same) z }
