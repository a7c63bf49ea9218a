-- `module::write::write_byte` meets its contract: slot by slot, the one byte that is entered is the model's store there; a flag byte,
-- byte 2 and a blank take none.
use Rattle.std.proofs.Common.{◌≡◌, ℕ, ◌<◌, refl, arith}
use Rattle.address.proofs.Laws.{slot_within}
use Rattle.address.specs.Meaning.{seat_of}
use Rattle.address.specs.declared.Slot.{Slot}
use Rattle.address.specs.declared.Slot.TheVariants.{Mine, Common}
use Rattle.model.specs.Ports.{caller}
use Rattle.model.specs.Map.{mine, common, seat}
use Rattle.model.proofs.Writes.{Within}
use Rattle.both.specs.Ports.{port_number}
use Rattle.module.proofs.write.Laws.{stored, slot_kept}
use Rattle.module.proofs.write.write_byte.Goals as goal

-- the slot t of an address lies inside its part of the state
lies : (t : Slot) {r : Slot} {g a : ℕ} → r ≡ t → seat_of r ≡ seat g a → g < 4 → a < 256 → Within (seat_of t)
lies t {r} {g} {a} is e l h = rw is at (slot_within r g a l h e)

pub in_record-requires : goal.in_record-requires
in_record-requires c = lies (Mine c.in-Mine.k) c.in-Mine.is c.translate.ensures (omega arith) (omega arith)

pub enter-requires : goal.enter-requires
enter-requires c =
    let l = lies (Mine c.in-Mine.k) c.in-Mine.is c.translate.ensures (omega arith) (omega arith) in
    omega arith

pub enter-requires-in-Common : goal.enter-requires-in-Common
enter-requires-in-Common c =
    let l = lies (Common c.in-Common.p) c.in-Common.is c.translate.ensures (omega arith) (omega arith) in
    omega arith

pub returns-in-Mine : goal.returns-in-Mine
returns-in-Mine c =
    let k = c.in-Mine.k in
    let l = lies (Mine k) c.in-Mine.is c.translate.ensures (omega arith) (omega arith) in
    rw (c.enter.ensures, c.own_class.ensures, ← c.translate.ensures, c.in-Mine.is)
    (stored c.args.state.now (caller (port_number c.args.port)) c.args.v c.told-state (mine k) c.in_record.result.0 l (cc) (omega arith))

pub returns-in-Common : goal.returns-in-Common
returns-in-Common c =
    let p = c.in-Common.p in
    let l = lies (Common p) c.in-Common.is c.translate.ensures (omega arith) (omega arith) in
    rw (c.enter-in-Common.ensures, c.common_class.ensures, c.from-port.ensures, ← c.translate.ensures, c.in-Common.is)
    (stored c.args.state.now (caller (port_number c.args.port)) c.args.v c.told-state (common p.0) p.0 l refl (omega arith))

pub returns-in-Flag : goal.returns-in-Flag
returns-in-Flag c =
    rw (← c.translate.ensures) (slot_kept c.args.state.now (caller (port_number c.args.port)) c.args.v c.told-state c.translate.result c.in-Flag.is)
