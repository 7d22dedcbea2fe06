use Rattle.std.proofs.Common.{◌≡◌, map, take}
use Rattle.tree_target.specs.Loads.{blank_of}
use Rattle.tree_target.proofs.start.blank_disks.Given as goal

abbrev pub invariant-loop-line : goal.invariant-loop-line
invariant-loop-line l = l.disks.items ≡ map blank_of (take l.line-index l.lines)
