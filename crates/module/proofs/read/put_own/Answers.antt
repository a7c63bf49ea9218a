-- `module::read::put_own` meets its contract: four layers, one over the other: blanks, the page, the masks, the flags; together they are
-- what lower memory shows of a record.
use Rattle.std.proofs.Common.{◌≡◌, ◌∙◌, add-zero}
use Rattle.module.proofs.read.Shown.{own_shown}
use Rattle.module.proofs.read.put_own.Goals as goal

pub returns : goal.returns
returns c =
    let x = c.args in
    let b = x.base.place.0 in
    let p = c.own_lane.ensures in
    let m = c.own_lane-2.ensures in
    let f = c.own_lane-3.ensures in
    let flags_from : c.own_lane-3.result.from.0 ≡ b = f.2 ∙ add-zero b in
    own_shown x.out.now x.run.first.0 x.run.many c.requires x.state.now b c.put_blanks.ensures
    (rw (p.0, p.1, p.2) at c.put_lane.ensures) (rw (m.0, m.1, m.2) at c.put_lane-2.ensures) (rw (f.0, f.1, flags_from) at c.put_lane-3.ensures)
