-- `bridge::packing::value` meets its contract: where there is no value, 0.0 as the code writes it is the definition's (Nothing.antt).
use Rattle.bridge.proofs.packing.Nothing.{none_is}
use Rattle.bridge.proofs.packing.value.Goals as goal

pub returns-in-Nothing : goal.returns-in-Nothing
returns-in-Nothing c = rw c.in-Nothing.is none_is

pub returns-in-Refused : goal.returns-in-Refused
returns-in-Refused c = rw c.in-Refused.is none_is
