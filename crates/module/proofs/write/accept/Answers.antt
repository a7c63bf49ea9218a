-- `module::write::accept` meets its contract: that it is not refused gives the page and the range that the callees ask for; their bytes
-- are then the model's.
use Rattle.std.proofs.Common.{arith}
use Rattle.module.proofs.write.Laws.{write_taken, write_done}
use Rattle.module.proofs.write.accept.Goals as goal

pub overflow_cast-address : goal.overflow_cast-address
overflow_cast-address c = let t = write_taken _ _ _ _ c.requires in omega arith

pub run_from-run-requires : goal.run_from-run-requires
run_from-run-requires c = (write_taken _ _ _ _ c.requires).inside

pub selected-page-requires : goal.selected-page-requires
selected-page-requires c = rw (c.record_of-base.ensures.0, c.from.ensures) (write_taken _ _ _ _ c.requires).whole

pub returns : goal.returns
returns c =
    write_done _ _ _ _ c.requires c.write_bytes.new.state c.count_of.result
    (rw (c.run_from-run.ensures.0, c.selected-page.ensures, c.record_of-base.ensures.0, c.from.ensures) at c.write_bytes.ensures) (rw (c.record_of-base.ensures.0, c.from.ensures) at c.count_of.ensures)
