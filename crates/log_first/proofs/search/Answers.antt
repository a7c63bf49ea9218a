-- `log_first::search` meets its contract: a turn ends at a crowded block or at a sample that is found, or there is one block more in which
-- there is none.
use Rattle.std.proofs.Common.{refl, ◌∙◌, arith, rules}
use Rattle.log_model.specs.Log.{samples}
use Rattle.question.specs.Search.{first_with, crowded}
use Rattle.log_first.proofs.Laws.{crowded_here, count_fits, gone_on, position_fits, found_here}
use Rattle.log_first.proofs.search.Goals as goal

pub loop-rest-init : goal.loop-rest-init
unfolding samples first_with crowded
loop-rest-init c = record { number = 0; inside = omega arith; rest_is = refl; before_is = refl; none_yet = refl; quiet = refl }

pub returns-then-count-gt-MOST_SAMPLES : goal.returns-then-count-gt-MOST_SAMPLES
returns-then-count-gt-MOST_SAMPLES c =
    rw (crowded_here c.args.blocks.now c.loop-rest.invariant c.told-blocks c.in-len1-up.len_at_least c.count_of-count.ensures c.if-count-gt-MOST_SAMPLES.true)

pub overflow_add-position : goal.overflow_add-position
overflow_add-position c =
    let h = position_fits c.args.blocks.now c.loop-rest.invariant c.told-blocks c.in-len1-up.len_at_least c.count_of-count.ensures
    c.if-count-gt-MOST_SAMPLES.false c.in-Some.ensures in
    search (rules, h)

pub returns-in-Some : goal.returns-in-Some
returns-in-Some c =
    c.found_at.ensures
    ∙ found_here c.args.blocks.now c.loop-rest.invariant c.told-blocks c.in-len1-up.len_at_least c.count_of-count.ensures
    c.if-count-gt-MOST_SAMPLES.false c.in-Some.ensures

pub overflow_add-before : goal.overflow_add-before
overflow_add-before c =
    let h = count_fits c.args.blocks.now c.loop-rest.invariant c.told-blocks c.in-len1-up.len_at_least c.count_of-count.ensures
    c.if-count-gt-MOST_SAMPLES.false in
    search (rules, rw (← c.from-before.ensures) at h)

pub loop-rest-preserved : goal.loop-rest-preserved
loop-rest-preserved c =
    rw c.from-before.ensures
    (gone_on c.args.blocks.now c.loop-rest.invariant c.told-blocks c.in-len1-up.len_at_least c.count_of-count.ensures
    c.if-count-gt-MOST_SAMPLES.false c.in_default-in_block.ensures)
