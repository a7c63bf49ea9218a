-- `readout::identity_view` meets its contract: a place that was found lies inside its page, so the view is that part of it.
use Rattle.std.proofs.Common.{refl, true, false, arith}
use Rattle.readout.proofs.Identity.{place_fits, view_found}
use Rattle.readout.proofs.identity_view.Goals as goal

pub slice_bounds-result-end-in-Live : goal.slice_bounds-result-end-in-Live
slice_bounds-result-end-in-Live c = omega (arith, place_fits true (rw c.in-Live.is at c.in-Ok.ensures.accepted))

pub returns-in-Live : goal.returns-in-Live
returns-in-Live c =
    let x = c.args in
    view_found x.live x.factory true (rw c.in-Live.is at c.in-Ok.ensures.accepted) c.from-start.ensures c.from.ensures refl refl

pub slice_bounds-result-end-in-Factory : goal.slice_bounds-result-end-in-Factory
slice_bounds-result-end-in-Factory c = omega (arith, place_fits false (rw c.in-Factory.is at c.in-Ok.ensures.accepted))

pub returns-in-Factory : goal.returns-in-Factory
returns-in-Factory c =
    let x = c.args in
    view_found x.live x.factory false (rw c.in-Factory.is at c.in-Ok.ensures.accepted) c.from-start.ensures c.from.ensures refl refl
