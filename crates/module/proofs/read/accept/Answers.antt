-- `module::read::accept` meets its contract: that it is not refused gives what the callees ask for; the bytes are shown from the state
-- as it was, and only then are its flags cleared.
use Rattle.std.proofs.Common.{◌≡◌, ℕ, ◌+◌, refl, arith}
use Rattle.laws.specs.Lists.{patch}
use Rattle.model.specs.Reading.{seen}
use Rattle.model.specs.Bytes.{memory_of, record_of}
use Rattle.module.proofs.read.Laws.{read_taken, read_done}
use Rattle.module.proofs.read.accept.Goals as goal

pub overflow_cast-address : goal.overflow_cast-address
overflow_cast-address c = let t = read_taken _ _ _ _ _ _ c.requires refl in omega arith

pub run_from-run-requires : goal.run_from-run-requires
run_from-run-requires c = (read_taken _ _ _ _ _ _ c.requires refl).inside

pub look-requires-clause-room : goal.look-requires-clause-room
look-requires-clause-room c = rw c.run_from-run.ensures.1 (read_taken _ _ _ _ _ _ c.requires refl).fits

pub look-requires-clause-record_sound : goal.look-requires-clause-record_sound
look-requires-clause-record_sound c = (read_taken _ _ _ _ _ _ c.requires (rw c.from.ensures at c.record_of-base.ensures.0)).whole

pub returns : goal.returns
returns c =
    let x = c.args in
    let s = x.state.now in
    let b : ℕ = c.record_of-base.result.place.0 in
    let r = c.run_from-run.ensures in
    let shown : c.look.new.out ≡ patch 0 x.count (λ j. seen (memory_of s) (record_of s b) (x.address + j)) x.out.now = rw (r.0, r.1) at c.look.ensures in
    read_done s _ _ _ _ b c.requires (rw c.from.ensures at c.record_of-base.ensures.0) _ _ _ (rw (r.0, r.1) at c.clear.ensures) c.count_of.ensures shown
