use Rattle.std.proofs.Common.{◌≡◌, ◌++◌, map}
use Rattle.std.specs.List.{range_with_len}
use Rattle.disk_extents.specs.Extents.{extent}
use Rattle.disk_extents.proofs.extents.append_extents.Given as goal

abbrev pub invariant-loop-number : goal.invariant-loop-number
invariant-loop-number l = l.to.items ≡ l.fn.to.items ++ map (extent l.disk) (range_with_len 0 l.number)
