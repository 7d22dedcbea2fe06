use Rattle.std.proofs.Common.{◌≡◌, map, take}
use Rattle.configfs_tree.specs.Start.{free_disk}
use Rattle.configfs_tree.proofs.configuration.make_disks.Given as goal

abbrev pub invariant-loop-line : goal.invariant-loop-line
invariant-loop-line l = l.rows.items ≡ map free_disk (take l.line-index l.lines)
