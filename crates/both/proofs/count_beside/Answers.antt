-- `both::count_beside` meets its contract: the count so far is that of the pairs already gone through, and is at most 8 for each, so
-- that a u8 holds it.
use Rattle.std.proofs.Common.{◌+◌, ◌-◌, ◌≡◌, ◌≤◌, ◌<◌, ◌∙◌, ap, ℕ, List, [], ◌∷◌, refl, arith, rules, length, take, drop, length-append}
use Rattle.std.proofs.lemmas.Slice.Zip.{zip_turn}
use Rattle.std.specs.Int.Bits.{bit_and, bit_xor}
use Rattle.std.specs.Int.Count.{ones}
use Rattle.laws.specs.Lists.{at, sum}
use Rattle.laws.proofs.Parts.{slice_length, slice_at}
use Rattle.both.proofs.Laws.{count_more}
use Rattle.both.proofs.count_beside.Goals as goal

-- the n bytes from place a on
part : ℕ → ℕ → List ℕ → List ℕ
part a n s = take (a + n - a) (drop a s)

-- the pair that comes after those already gone through
turn : (c : goal.After-let_by-count) → let j = length c.loop-flag.yielded in let s = c.args.state.now in let p = c.args.pairs in
    (j < p.many) × (c.in-Some.flag.now ≡ at s (c.args.base + (p.flags + j))) × (c.in-Some.mask.now ≡ at s (c.args.base + (p.masks + j)))
unfolding part
turn c =
    let s = c.args.state.now in
    let p = c.args.pairs in
    let j = length c.loop-flag.yielded in
    let f = c.args.base + p.flags in
    let m = c.args.base + p.masks in
    let fits_f : f + p.many ≤ length s = omega arith in
    let fits_m : m + p.many ≤ length s = omega arith in
    let t = zip_turn (part f p.many s) (part m p.many s) c.loop-flag.yielded c.into_iter-flag-iterator.result c.loop-flag.flag-iterator c.next.new.self _ (search rules) (search rules)
    c.loop-flag.yielded_by _ c.in-Some.is c.next.ensures.steps in
    let l : j < p.many = omega (arith, slice_length f p.many s fits_f, t.0) in
    let e : f + j ≡ c.args.base + (p.flags + j) = omega arith in
    let d : m + j ≡ c.args.base + (p.masks + j) = omega arith in
    (l, t.2 0 ∙ slice_at f p.many s fits_f j l ∙ ap (at s) e, t.3 0 ∙ slice_at m p.many s fits_m j l ∙ ap (at s) d)

pub loop-flag-init : goal.loop-flag-init
unfolding sum
loop-flag-init c = (refl, search rules)

pub loop-flag-preserved : goal.loop-flag-preserved
loop-flag-preserved c =
    let s = c.args.state.now in
    let b : ℕ = c.args.base in
    let p = c.args.pairs in
    let j : ℕ = length c.loop-flag.yielded in
    let t = turn c in
    let n = length-append c.loop-flag.yielded ((c.in-Some.flag, c.in-Some.mask) ∷ []) in
    let one : c.let_by-count.result ≡ ones (bit_xor (at s (b + (p.flags + j))) (bit_and (at s (b + (p.flags + j))) (at s (b + (p.masks + j))))) = rw (t.1, t.2) at c.let_by-count.ensures.0 in
    let more = count_more (λ k. at s (b + k)) j p.flags p.masks (omega (arith, c.type_inv.state (b + (p.flags + j)))) in
    rw n (omega arith, omega arith)
