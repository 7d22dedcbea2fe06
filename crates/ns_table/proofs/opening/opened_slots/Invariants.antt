use Rattle.std.proofs.Common.{◌≡◌, take}
use Rattle.ns_table.specs.Slots.{slots_of}
use Rattle.ns_table.proofs.opening.opened_slots.Given as goal

abbrev pub invariant-loop-disk : goal.invariant-loop-disk
invariant-loop-disk l = l.slots.items ≡ slots_of (take l.disk-index l.disks)
