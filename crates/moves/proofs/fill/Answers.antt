-- `moves::fill` meets its contract: after k turns the first k places of the part have the value.
use Rattle.std.proofs.Common.{◌≡◌, ◌+◌, ◌-◌, ◌∙◌, arith, length, take, drop}
use Rattle.laws.specs.Lists.{at}
use Rattle.laws.proofs.Lists.{patch_none, patch_more, patch_same}
use Rattle.laws.proofs.Fronts.{front_in}
use Rattle.laws.proofs.Parts.{put_back, slice_length}
use Rattle.moves.proofs.fill.Goals as goal

pub loop-place-init : goal.loop-place-init
loop-place-init c = patch_none _ _ _

pub loop-place-preserved : goal.loop-place-preserved
loop-place-preserved c =
    let x = c.args in
    let k = c.loop-place.place-index in
    let z : 0 + k ≡ k = omega arith in
    rw c.loop-place.invariant (rw z at (patch_more 0 (λ j. x.v) (take (x.to + x.n - x.to) (drop x.to x.dst.now)) k (rw z (omega arith))))

pub returns : goal.returns
returns c =
    let x = c.args in
    let s = x.dst.now in
    let z : x.to + x.n - x.to ≡ x.n = omega arith in
    let part = take (x.to + x.n - x.to) (drop x.to s) in
    let many : length part ≡ x.n = slice_length x.to x.n s c.requires in
    rw z
    (put_back x.to x.n s c.loop-place.place-items c.requires (omega arith)
    ∙ patch_same x.to x.n (at c.loop-place.place-items) (λ j. x.v) s
    (λ j h. rw c.loop-place.invariant (front_in c.loop-place.place-index (λ j. x.v) part j (omega arith) (omega arith))))
