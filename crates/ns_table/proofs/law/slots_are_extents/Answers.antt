use Rattle.ns_table.proofs.Slots.{slots_extents}
use Rattle.ns_table.proofs.law.slots_are_extents.Goals as goal

pub returns : goal.returns
returns c = slots_extents
