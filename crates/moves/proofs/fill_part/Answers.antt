-- `moves::fill_part` meets its contract.
use Rattle.std.proofs.Common.{refl, sym, ◌∙◌, arith}
use Rattle.laws.proofs.Lists.{patch_overlap, patch_apart}
use Rattle.moves.proofs.fill_part.Goals as goal

pub returns-then-many-ne0 : goal.returns-then-many-ne0
returns-then-many-ne0 c =
    let x = c.args in
    let e = c.part-skip.ensures in
    rw (c.fill.ensures, e.0)
    (patch_overlap x.to x.held.first x.held.many x.run.first x.run.many _ _ (λ j. x.v) (λ k. x.v) x.dst.now refl e.1 (λ j h. refl))

pub returns-else-many-ne0 : goal.returns-else-many-ne0
returns-else-many-ne0 c =
    let x = c.args in
    let none = sym c.part-skip.ensures.1 ∙ c.if-many-ne0.false in
    patch_apart x.to x.held.first x.held.many x.run.first x.run.many (λ k. x.v) x.dst.now (omega arith)
