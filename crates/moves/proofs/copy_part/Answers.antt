-- `moves::copy_part` meets its contract.
use Rattle.std.proofs.Common.{List, take, drop, ◌≡◌, ap, sym, ◌∙◌, ℕ, ◌+◌, ◌-◌, ◌≤◌, max, arith, length}
use Rattle.laws.specs.Lists.{at, patch}
use Rattle.laws.proofs.Fronts.{front_overlap, front_apart}
use Rattle.laws.proofs.Parts.{slice_length, slice_at}
use Rattle.moves.proofs.copy_part.Goals as goal

-- the first number that both have, and j more, stands as far behind `from` as it is behind b
shared_place : (from a b skip j : ℕ) → skip ≡ max a b - a → from + (a + skip - b) + j ≡ from + (max a b + j - b)
shared_place from a b skip j e = omega arith

pub returns-then-many-ne0 : goal.returns-then-many-ne0
returns-then-many-ne0 c =
    let x = c.args in
    let e = c.part-skip.ensures in
    let start : ℕ = x.from + (x.shown.first + c.part-skip.result.skip - x.held.first) in
    let many : ℕ = c.part-skip.result.many in
    let fits : start + many ≤ length x.src.now = omega arith in
    let taken : List ℕ = take (start + many - start) (drop start x.src.now) in
    let copied : c.copy.new.dst ≡ patch c.part-skip.result.skip many (at taken) x.out.now = c.copy.ensures
    ∙ ap (λ (n : ℕ). patch c.part-skip.result.skip n (at taken) x.out.now) (slice_length start many x.src.now fits) in
    rw copied
    (front_overlap x.shown.first x.shown.many x.held.first x.held.many (λ k. at x.src.now (x.from + (k - x.held.first))) x.out.now _ _ _ e.0 e.1
    (λ j h. slice_at start _ x.src.now fits j h ∙ ap (at x.src.now) (shared_place x.from x.shown.first x.held.first _ j e.0)))

pub returns-else-many-ne0 : goal.returns-else-many-ne0
returns-else-many-ne0 c =
    let x = c.args in
    front_apart x.shown.first x.shown.many x.held.first x.held.many (λ k. at x.src.now (x.from + (k - x.held.first))) x.out.now
    (sym c.part-skip.ensures.1 ∙ c.if-many-ne0.false)
